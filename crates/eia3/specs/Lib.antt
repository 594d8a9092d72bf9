pub mod Eia3
pub mod Words
