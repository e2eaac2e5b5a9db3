pub mod Unit
pub mod Proving
pub mod OneAnswer
pub mod Checks
