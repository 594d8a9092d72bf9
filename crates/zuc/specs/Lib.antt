pub mod Boxes
pub mod State
