pub mod Carry
pub mod Histories
