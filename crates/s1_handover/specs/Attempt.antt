-- An attempt at an S1 handover, state by state (TS 33.401 7.2.8.4.3).
use Rattle.std.specs.Prelude.{ℕ}
use Rattle.annex_a_keys.specs.Cell.{Place}
use Rattle.alg_choice.specs.declared.algs.Algs.{Algs}
use Rattle.x2_handover.specs.{declared.orders.Order.Order, Attempt.Commanded}

-- an open attempt: its number, the target station and cell. No key is in it: the core gives the target its pair
pub record S1Start : Type 0 where
  pub number : ℕ
  pub station : ℕ
  pub cell : Place

-- the core's answer to it: the NCC of the target's pair, the algorithms that the target chose, and the air address that
-- it drew
pub record S1Acked : Type 0 where
  pub start : S1Start
  pub ncc : ℕ
  pub algs : Algs
  pub air : ℕ

-- what the phone is ordered (TS 36.331 5.3.5.4)
abbrev pub s1_order : S1Acked → Order
s1_order a =
    record { cell = a.start.cell; ncc = a.ncc; algs = a.algs; station = a.start.station; air = a.air }

-- the attempt after its command
abbrev pub s1_sent : S1Acked → Commanded
s1_sent a =
    record { number = a.start.number; station = a.start.station; cell = a.start.cell; order = s1_order a }
