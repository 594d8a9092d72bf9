pub mod Coming
pub mod Course
pub mod Reach
pub mod CoreStation
