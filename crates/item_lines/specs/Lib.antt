pub mod Lines
pub mod Same
