pub mod Places
pub mod Drawing
pub mod Addresses
pub mod Exact
pub mod AtItems
pub mod ChainSteps
pub mod NoChange
pub mod FewKeep
