-- Which calls of a form over memory fail.
use Rattle.std.specs.Prelude.{ℕ, ◌+◌, ◌-◌, ◌^◌, ◌≤◌, ◌<◌, min, Option, List, length, Contains, IfSome}

pub record Script : Type 0 where
  pub failing : List ℕ  -- the numbers of the calls that fail
  pub next : ℕ  -- the number of the next call

-- no call was made yet
abbrev pub script_of : List ℕ → Script
script_of failing = record { failing = failing; next = 0 }

-- the next call is one of those that fail
abbrev pub FailsNext : Script → Type 0
FailsNext script = Contains script.failing script.next

-- A call was made. The number is one of 64 bits, and stops at the greatest.
abbrev pub after_call : Script → Script
after_call script = record script { next = min (script.next + 1) (2 ^ 64 - 1) }

-- a sink that was given these octets has no room for a piece
abbrev pub IsFull : ℕ → Option (List ℕ) → List ℕ → Type 0
IsFull room written piece = (0 < length piece) × IfSome written (λ octets. room ≤ length octets)
