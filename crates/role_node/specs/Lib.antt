pub mod Actor
pub mod Session
