pub mod Details
pub mod Line
pub mod Ladder
pub mod Coincidence
pub mod Summary
pub mod End
