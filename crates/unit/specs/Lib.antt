pub mod Unit
pub mod Proving
pub mod Named
pub mod OneAnswer
pub mod Answered
pub mod Checks
