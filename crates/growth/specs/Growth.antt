-- What a growth that std refused leaves: that a list was to have so many items, or that some list or text was to grow.
use Rattle.std.specs.Prelude.{ℕ}
pub use Rattle.refusal.specs.Refusal.{Refused}

abbrev pub WasRefused : Type 0
WasRefused = (items : ℕ) × Refused items
