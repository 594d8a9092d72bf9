pub mod FlatTexts
pub mod SiteFacts
pub mod Paired
pub mod InRange
