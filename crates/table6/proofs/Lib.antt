pub mod Alternatives
pub mod Every
pub mod Lists
pub mod Masks
pub mod OneAnswer
pub mod Stored
pub mod Unfolded
