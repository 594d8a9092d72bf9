pub mod Refused
pub mod RefusalsTellNumbers
pub mod Whole
