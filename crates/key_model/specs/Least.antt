-- The number that a receiver takes where it got the lowest part alone.
use Rattle.std.specs.Prelude.{◌≡◌, ℕ, zero, suc, ◌+◌, ◌-◌, ◌%◌, ◌≤◌, ◌==◌, if◌then◌else◌}

-- the least number at or above `low` with remainder x modulo w: a chain number by its NCC (TS 33.401 7.2.8.4.4), a
-- COUNT by its sequence number (TS 36.323 5.1.2; for NAS, TS 24.301 4.4.3.1, the least is this model's own choice)
unfoldable pub least : ℕ → ℕ → ℕ → ℕ
least low x w = low + (x + (w - low % w)) % w

-- n is that number
pub record IsLeast (low x w n : ℕ) : Type 0 where
  pub at_or_above : low ≤ n
  pub remainder : n % w ≡ x
  pub no_lesser : (m : ℕ) → low ≤ m → m % w ≡ x → n ≤ m

-- where at most so many steps of one lead from n, ending at the first number with remainder x modulo w, as a phone
-- increases its NCC until it matches (TS 33.401 7.2.8.4.4)
abbrev pub after_steps : ℕ → ℕ → ℕ → ℕ → ℕ
after_steps zero n x w = n
after_steps (suc steps) n x w = if n % w == x then n else after_steps steps (n + 1) x w
