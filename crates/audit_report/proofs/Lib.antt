pub mod Reported
pub mod Growing
pub mod Together
mod Ends
pub mod Rooted
pub mod HeldRows
pub mod RowKeys
pub mod OfRun
