pub mod Answering
pub mod Running
mod Ends
