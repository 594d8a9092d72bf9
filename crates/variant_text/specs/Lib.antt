pub mod Joined
pub mod Messages
pub mod Faults
pub mod Outcomes
pub mod Healing
pub mod Sent
pub mod Lines
