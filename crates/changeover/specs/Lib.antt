pub mod Figure3
pub mod Calls
pub mod Checked
pub mod Laws
