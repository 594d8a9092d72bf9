pub mod Joining
pub mod Finding
pub mod Happens
pub mod InPlace
pub mod Chained
