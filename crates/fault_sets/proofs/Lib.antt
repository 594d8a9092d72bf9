pub mod Few
pub mod Rest
pub mod Complete
pub mod Sound
pub mod Once
pub mod All
