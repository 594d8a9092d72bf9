pub mod Rows
pub mod Joins
pub mod Proofs
pub mod Records
pub mod Additions
