pub mod OneAnswer
pub mod Runs
pub mod SignalRecord
