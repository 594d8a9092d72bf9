pub mod KeyFacts
pub mod CountFacts
pub mod SentFacts
pub mod SrbFacts
pub mod DrbFacts
