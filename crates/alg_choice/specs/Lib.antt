pub mod Bits
pub mod Algs
pub mod Caps
pub mod Priority
pub mod Choice
