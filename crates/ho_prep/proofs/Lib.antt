pub mod PlaceFacts
pub mod CarryFacts
