pub mod Polynomial
pub mod Eia1
pub mod Rows
