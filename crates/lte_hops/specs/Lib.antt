pub mod Hops
pub mod Kasmes
