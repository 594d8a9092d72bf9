pub mod Known
pub mod Changed
pub mod Running
pub mod Trying
pub mod Ending
pub mod Numbers
pub mod Moving
pub mod Served
