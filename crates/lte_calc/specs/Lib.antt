pub mod Status
pub mod Output
pub mod Run
pub mod Lines
