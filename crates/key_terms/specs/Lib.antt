pub mod Ladder
pub mod Words
