pub mod Plan
pub mod Acts
pub mod Outside
pub mod Went
pub mod Driven
pub mod Exchanges
pub mod Peerwise
