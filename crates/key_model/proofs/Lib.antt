pub mod LeastFacts
pub mod TermFacts
pub mod DerivableFacts
pub mod ReadingFacts
pub mod HandoverFacts
mod Examples
mod Ladder
