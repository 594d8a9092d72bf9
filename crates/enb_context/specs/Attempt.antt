-- The states of an attempt as the written machine has them.
use Rattle.std.specs.Prelude.{ℕ, List, Some, None}
use Rattle.key_model.specs.Reading.{octet_reading}
use Rattle.x2_handover.specs.Attempt.{X2Start, Commanded, x2_order}
use Rattle.s1_handover.specs.Attempt.{S1Start, s1_order}
use Rattle.enb_context.specs.{declared.attempt.X2State.X2State, declared.attempt.S1State.S1State, declared.attempt.Attempt.Attempt}
use Rattle.enb_context.specs.declared.attempt.X2State as x2_states
use Rattle.enb_context.specs.declared.attempt.S1State as s1_states
use Rattle.enb_context.specs.declared.attempt.Attempt as attempts
use Rattle.lte_machine.specs.StationRecords.{renewing}
use Rattle.lte_machine.specs.StationState as machine

-- an attempt over X2, or within the station, whose target has not answered or has
abbrev pub x2_opened : machine.Via → X2Start (List ℕ) ℕ → machine.Progress → machine.Attempt (List ℕ) ℕ
x2_opened via start progress = record {
  number = start.number;
  station = start.station;
  cell = start.cell;
  via = via;
  keys = Some (record { star = start.star; spent = start.spent });
  progress = progress;
}

-- one over S1
abbrev pub s1_opened : S1Start → machine.Progress → machine.Attempt (List ℕ) ℕ
s1_opened start progress = record {
  number = start.number;
  station = start.station;
  cell = start.cell;
  via = machine.OverS1;
  keys = None;
  progress = progress;
}

-- one whose order was sent
abbrev pub ordered_via : machine.Via → Commanded → machine.Attempt (List ℕ) ℕ
ordered_via via sent = record {
  number = sent.number;
  station = sent.station;
  cell = sent.cell;
  via = via;
  keys = None;
  progress = machine.Commanded sent.order;
}

abbrev pub x2_attempt : machine.Via → X2State → machine.Attempt (List ℕ) ℕ
x2_attempt via (x2_states.TheVariants.Open start) = x2_opened via start machine.Open
x2_attempt via (x2_states.TheVariants.Ready acked) = x2_opened via acked.start (machine.Ready (x2_order octet_reading.ncc acked))
x2_attempt via (x2_states.TheVariants.Commanded sent) = ordered_via via sent

abbrev pub s1_attempt : S1State → machine.Attempt (List ℕ) ℕ
s1_attempt (s1_states.TheVariants.Open start) = s1_opened start machine.Open
s1_attempt (s1_states.TheVariants.Ready acked) = s1_opened acked.start (machine.Ready (s1_order acked))
s1_attempt (s1_states.TheVariants.Commanded sent) = ordered_via machine.OverS1 sent

abbrev pub attempt_of : Attempt → machine.Attempt (List ℕ) ℕ
attempt_of (attempts.TheVariants.OverX2 state) = x2_attempt machine.OverX2 state
attempt_of (attempts.TheVariants.OverS1 state) = s1_attempt state
attempt_of (attempts.TheVariants.Within state) = x2_attempt machine.Within state
attempt_of (attempts.TheVariants.Renewing renewal) = renewing renewal.number renewal.order
