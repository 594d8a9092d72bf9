pub mod Running
pub mod Reports
pub mod Writing
pub mod Driving
pub mod Audited
pub mod Ends
pub mod Refusing
