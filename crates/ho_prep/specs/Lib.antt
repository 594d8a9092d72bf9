pub mod Prep
pub mod Origin
