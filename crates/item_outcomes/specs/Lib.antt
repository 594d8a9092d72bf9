pub mod Probe
pub mod Standing
pub mod Packets
pub mod Keys
pub mod Heals
pub mod Handovers
pub mod Same
pub mod Outcomes
