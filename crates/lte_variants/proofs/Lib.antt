pub mod Turns
pub mod Ends
pub mod Few
pub mod Telling
pub mod Running
pub mod Exact
pub mod EachOnce
