pub mod PrepFacts
pub mod Serving
pub mod AirSteps
pub mod OrderSteps
pub mod Refused
