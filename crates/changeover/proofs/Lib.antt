pub mod Figure3
pub mod Calls
pub mod OneAnswer
pub mod Laws
