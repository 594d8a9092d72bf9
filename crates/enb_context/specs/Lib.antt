pub mod Admission
pub mod Attempt
pub mod Orders
pub mod Preps
pub mod Renewal
pub mod Step
pub mod Drawn
