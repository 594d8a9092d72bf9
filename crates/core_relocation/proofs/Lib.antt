pub mod HeldByReplies
pub mod Keeping
pub mod Starting
pub mod Applied
pub mod SoFar
pub mod CoreText
pub mod Once
pub mod Journal
pub mod Promised
mod Ends
