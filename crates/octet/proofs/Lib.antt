pub mod Branches
pub mod Octets
pub mod OneAnswer
pub mod Over
