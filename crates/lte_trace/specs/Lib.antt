pub mod Moves
pub mod Answer
pub mod Status
pub mod Run
