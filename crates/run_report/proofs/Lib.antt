pub mod Partly
pub mod CoincidenceHasString
pub mod ReportByEvent
pub mod HappenedSoFar
pub mod EndText
pub mod Ends
pub mod Counting
pub mod Figures
