pub mod AuditReport
pub mod Alone
pub mod Audited
pub mod OfRun
