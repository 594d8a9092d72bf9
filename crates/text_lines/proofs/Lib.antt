pub mod Numerals
pub mod Cutting
pub mod Ended
mod Collected
