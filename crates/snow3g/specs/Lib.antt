pub mod Octets
pub mod Boxes
pub mod Alpha
pub mod State
