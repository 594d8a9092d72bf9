pub mod Keeps
pub mod Answered
pub mod Fewer
pub mod InOneWalk
pub mod EachOnce
