pub mod Once
pub mod Dark
pub mod Steps
pub mod Counting
pub mod Backward
pub mod Leading
pub mod Marking
pub mod Pruning
