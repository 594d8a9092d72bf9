-- What a station drew last.
use Rattle.std.specs.Prelude.{ℕ, zero, suc, Option, Some, None}

-- the number of a station and the number that it drew last, by its next one
abbrev pub last_drawn : ℕ → ℕ → Option (ℕ × ℕ)
last_drawn id zero = None
last_drawn id (suc n) = Some (id, n)
