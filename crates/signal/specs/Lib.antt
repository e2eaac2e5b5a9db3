pub mod SignalRecord
pub mod Source
pub mod Writing
