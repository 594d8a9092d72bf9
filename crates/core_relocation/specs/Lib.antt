pub mod Holder
pub mod Logged
pub mod Acted
pub mod Run
pub mod Report
pub mod Whole
pub mod Once
pub mod Promises
