pub mod Deadlines
pub mod Due
pub mod Calls
pub mod Laws
pub mod Rounds
pub mod Searched
