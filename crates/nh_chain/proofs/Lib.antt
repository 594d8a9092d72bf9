pub mod ClimbFacts
pub mod TermFacts
pub mod ReachFacts
pub mod CarryFacts
