pub mod Checks
pub mod Step
pub mod Plan
pub mod Untouched
pub mod Faults
