-- The COUNTs of a radio bearer (TS 36.323 6.3.5 and 7.1).
use Rattle.std.specs.Prelude.{ℕ, ◌+◌, ◌^◌, min, nat_lt, if◌then◌else◌, Result, Ok, Err}
use Rattle.rec_base.specs.declared.bearers.Bearer.{Bearer}
use Rattle.pdcp_guard.specs.{declared.pdus.PdcpFault.PdcpFault, declared.pdus.PdcpFault.TheVariants.CountSpent}

-- every PDCP COUNT is below this: it has 32 bits (6.3.5)
abbrev pub count_limit : ℕ
count_limit = 2 ^ 32

-- the next COUNT to send with, and the next one that a receiver expects; 2^32 where none is left
pub record Counts : Type 0 where
  pub send : ℕ
  pub receive : ℕ

-- a radio bearer and its COUNTs
pub record BearerState : Type 0 where
  pub bearer : Bearer
  pub counts : Counts

-- both COUNTs start at 0 (7.1)
abbrev pub new_bearer : Bearer → BearerState
new_bearer bearer = record { bearer = bearer; counts = record { send = 0; receive = 0 } }

-- the bearer with this next COUNT to send with
abbrev pub sends_next : BearerState → ℕ → BearerState
sends_next b count = record { bearer = b.bearer; counts = record { send = count; receive = b.counts.receive } }

-- the bearer with this next expected COUNT
abbrev pub expects_next : BearerState → ℕ → BearerState
expects_next b count = record { bearer = b.bearer; counts = record { send = b.counts.send; receive = count } }

-- the next COUNT to send with after so many were left out
abbrev pub skipped : ℕ → ℕ → ℕ
skipped count n = min (count + n) count_limit

-- a COUNT that has 32 bits
unfoldable pub in_32_bits : ℕ → Result ℕ PdcpFault
in_32_bits count = if nat_lt count count_limit then Ok count else Err CountSpent

-- the COUNT of the next PDU to send
abbrev pub send_count : BearerState → Result ℕ PdcpFault
send_count b = in_32_bits b.counts.send

-- the bearer after a sending that took this COUNT, or was refused
abbrev pub after_send : BearerState → Result ℕ PdcpFault → BearerState
after_send b (Ok count) = sends_next b (count + 1)
after_send b (Err fault) = b

-- the bearer after a PDU with this COUNT was taken, or one was refused
abbrev pub after_receive : BearerState → Result ℕ PdcpFault → BearerState
after_receive b (Ok count) = expects_next b (count + 1)
after_receive b (Err fault) = b
