pub mod Net
pub mod Moved
pub mod Places
pub mod Same
pub mod Marks
pub mod Outlook
