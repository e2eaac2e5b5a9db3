pub mod Fresh
pub mod Untouched
pub mod Burst
pub mod BurstLaws
pub mod Version
