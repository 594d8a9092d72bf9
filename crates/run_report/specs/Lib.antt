pub mod Report
pub mod Written
pub mod Events
pub mod Takes
pub mod Summary
pub mod Counted
