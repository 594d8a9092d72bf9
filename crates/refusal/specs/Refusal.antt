-- Std refused a list room for so many items. Nobody can make this who was not given it by a crate that lists this one.
use Rattle.std.specs.Prelude.{ℕ}

pub Refused : ℕ → Type 0
Refused items = Unit {0}

pub was_refused : (items : ℕ) → Refused items
unfolding Refused
was_refused items = tt
