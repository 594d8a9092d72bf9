-- The COUNT that a receiver takes (TS 24.301 4.4.3.1).
use Rattle.std.specs.Prelude.{ℕ, ◌^◌, nat_lt, if◌then◌else◌, Result, Ok, Err}
use Rattle.key_model.specs.Least.{least}
use Rattle.nas_count.specs.declared.sending.CountSpent.{CountSpent}

-- every NAS COUNT is below this: 16 bits of overflow counter and 8 of sequence number
abbrev pub nas_count_limit : ℕ
nas_count_limit = 2 ^ 24

-- the least COUNT at or above the next one with this sequence number, if it has 24 bits
unfoldable pub estimate_of : ℕ → ℕ → Result ℕ CountSpent
estimate_of next sn = let count = least next sn 256 in if nat_lt count nas_count_limit then Ok count else Err (record {})
