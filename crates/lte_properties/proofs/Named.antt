-- Every record goes to a station of the setup, if it goes to a station.
pub mod Core
pub mod Facts
pub mod Station
pub mod World
pub mod Reaches
