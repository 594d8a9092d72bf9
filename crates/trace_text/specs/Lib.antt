pub mod Question
pub mod Entry
pub mod Text
