pub mod Kept
pub mod Probing
pub mod Outcomes
pub mod Exact
