pub mod LinkRecord
pub mod Decoded
