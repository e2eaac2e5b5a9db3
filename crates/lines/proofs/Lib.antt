pub mod FirstRecord
pub mod OneAnswer
pub mod Texts
