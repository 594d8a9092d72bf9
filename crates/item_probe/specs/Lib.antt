pub mod Places
pub mod Acts
pub mod Parts
