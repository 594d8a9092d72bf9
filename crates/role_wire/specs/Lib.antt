pub mod Codes
pub mod Ranges
pub mod Field
pub mod Body
pub mod Spelling
pub mod Frame
pub mod Reading
pub mod Reply
