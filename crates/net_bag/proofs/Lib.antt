pub mod Chained
pub mod Searching
