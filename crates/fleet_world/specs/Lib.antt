pub mod Phones
pub mod Meeting
pub mod Answers
pub mod Apart
pub mod Isolation
pub mod Fleets
pub mod Worlds
pub mod Steps
