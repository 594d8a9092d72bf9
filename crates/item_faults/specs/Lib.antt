pub mod Entries
pub mod Changes
pub mod Faults
pub mod AtOnce
pub mod Steps
pub mod Laws
pub mod Once
pub mod Walk
