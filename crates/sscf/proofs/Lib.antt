pub mod AllFresh
pub mod BurstCall
pub mod BurstLaws
pub mod Copies
pub mod OneAnswer
pub mod Singles
