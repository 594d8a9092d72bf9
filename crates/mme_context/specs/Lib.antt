pub mod Numbers
pub mod Step
