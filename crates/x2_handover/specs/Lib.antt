pub mod InRange
pub mod Attempt
