pub mod AirSteps
pub mod Refusing
pub mod StartSteps
