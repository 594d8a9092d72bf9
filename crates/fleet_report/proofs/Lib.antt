pub mod ReportByPiece
pub mod Holding
pub mod CoincidenceHasText
pub mod Looping
pub mod Ending
mod Ends
