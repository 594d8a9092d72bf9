pub mod Reading
pub mod Same
pub mod Rows
pub mod Placing
pub mod Printing
mod Ends
pub mod Answering
