pub mod OneAnswer
pub mod Places
pub mod Taken
pub mod Number
pub mod Untouched
pub mod Faults
