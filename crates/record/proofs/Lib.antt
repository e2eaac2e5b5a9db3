pub mod LinkRecord
pub mod Rewritten
pub mod OneAnswer
