pub mod Raising
pub mod Following
