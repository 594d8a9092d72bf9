pub mod Core
pub mod Lists
pub mod Moves
pub mod Needs
pub mod Station
pub mod World
pub mod RowFacts
