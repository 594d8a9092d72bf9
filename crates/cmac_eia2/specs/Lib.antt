pub mod Cmac
pub mod Eia2
pub mod State
