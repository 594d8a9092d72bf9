pub mod OneEvent
pub mod OneMore
pub mod AtOnce
pub mod Marking
