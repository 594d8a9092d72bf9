-- The bits of an octet of capabilities (TS 24.301 9.9.3.36).
use Rattle.std.specs.Prelude.{ℕ, Bool, ◌-◌, ◌/◌, ◌%◌, ◌^◌, ◌==◌}

-- whether the bit of an algorithm identity is set, that of identity 0 being the highest of eight
unfoldable pub has_bit : ℕ → ℕ → Bool
has_bit octet identity = octet / 2 ^ (7 - identity) % 2 == 1
