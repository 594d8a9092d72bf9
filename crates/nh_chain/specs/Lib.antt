pub mod Chain
pub mod Climb
pub mod Reach
pub mod Station
pub mod Terms
pub mod SyncInput
