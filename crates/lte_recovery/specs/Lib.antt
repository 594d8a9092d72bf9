pub mod InRuns
pub mod Octets
pub mod Reconnection
pub mod Recovery
pub mod Renewal
