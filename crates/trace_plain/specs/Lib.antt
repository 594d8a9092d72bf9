pub mod Sights
pub mod Once
pub mod Kept
pub mod Way
pub mod Explained
