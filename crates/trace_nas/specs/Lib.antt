pub mod Nas
pub mod Heard
pub mod InTurn
