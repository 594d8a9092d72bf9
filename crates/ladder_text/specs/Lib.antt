pub mod Text
pub mod Key
pub mod Report
pub mod Rows
