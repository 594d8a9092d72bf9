pub mod Probed
pub mod Told
