mod Event
mod Planned
mod Texts
mod Comes
pub mod Composing
pub mod Gone
pub mod Peerwise
pub mod Running
mod Exchanging
mod Places
mod Receiving
