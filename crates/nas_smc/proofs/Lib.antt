pub mod CoreJoining
pub mod Counting
pub mod Joining
pub mod Sealing
