pub mod Rules
pub mod History
pub mod Search
pub mod Closed
pub mod Told
