pub mod AsKeys
pub mod Counts
pub mod CountActs
pub mod Srb
pub mod Drb
