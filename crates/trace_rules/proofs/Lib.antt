pub mod Members
pub mod Coverage
pub mod Search
pub mod Widening
pub mod Telling
