pub mod OneNet
pub mod Placing
pub mod Outlooks
