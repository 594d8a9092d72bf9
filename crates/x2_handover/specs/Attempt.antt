-- An attempt at an X2 or intra-station handover, state by state (TS 33.401 7.2.8.4.1 and 7.2.8.4.2).
use Rattle.std.specs.Prelude.{ℕ, Option}
use Rattle.annex_a_keys.specs.Cell.{Place}
use Rattle.alg_choice.specs.declared.algs.Algs.{Algs}
use Rattle.key_model.specs.HandoverTable.{NumberedKey}
use Rattle.x2_handover.specs.declared.orders.Order.{Order}

-- an open attempt: its number, the target station and cell, KeNB* with its number for the target, and the pair of NH and
-- NCC that was used for it, if one was
pub record X2Start (K C : Type 0) : Type 0 where
  pub number : ℕ
  pub station : ℕ
  pub cell : Place
  pub star : NumberedKey K C
  pub spent : Option (NumberedKey K C)

-- the target's answer to it: the algorithms that it chose, and the air address that it drew
pub record X2Acked (K C : Type 0) : Type 0 where
  pub start : X2Start K C
  pub algs : Algs
  pub air : ℕ

-- an attempt whose command was sent, over X2, within the station or over S1: no key and no pair is left
pub record Commanded : Type 0 where
  pub number : ℕ
  pub station : ℕ
  pub cell : Place
  pub order : Order

-- what the phone is ordered, where this gives a number's NCC (TS 36.331 5.3.5.4)
abbrev pub x2_order : {K C : Type 0} → (C → ℕ) → X2Acked K C → Order
x2_order ncc a = record {
  cell = a.start.cell;
  ncc = ncc a.start.star.number;
  algs = a.algs;
  station = a.start.station;
  air = a.air;
}

-- the attempt after its command
abbrev pub x2_sent : {K C : Type 0} → (C → ℕ) → X2Acked K C → Commanded
x2_sent ncc a =
    record { number = a.start.number; station = a.start.station; cell = a.start.cell; order = x2_order ncc a }
