-- What a station does with an input, row by row (TS 33.401 7.2.8.4, TS 36.331 5.3, TS 36.423 8.2, TS 36.413 8.3 and
-- 8.4). A row has what its choice found out that is no key.
use Rattle.std.specs.Prelude.{ℕ, List, Option}
use Rattle.alg_choice.specs.{declared.algs.Algs.Algs, declared.caps.Caps.Caps}
use Rattle.annex_a_keys.specs.Cell.{Place}
use Rattle.lte_events.specs.declared.answers.Answer.{Answer}
use Rattle.x2_handover.specs.declared.orders.Order.{Order}
use Rattle.lte_machine.specs.Bearers.{Srb, Drb, Which}
use Rattle.lte_machine.specs.{Reply.Origin, StationState.Via}

-- a handover request that is taken (TS 36.413 8.4.2, TS 36.423 8.2.1): connection, source and attempt, cell,
-- capabilities, the algorithms chosen (TS 33.401 7.2.4.2.2 and 7.2.4.2.3) and the air address drawn
pub record Admitted : Type 0 where
  pub conn : ℕ
  pub from : Origin
  pub cell : Place
  pub caps : Caps
  pub algs : Algs
  pub air : ℕ

-- by a record on S1 or X2
pub data RecordRow : Type 0 where
  RecordRefused : Answer → RecordRow
  -- Initial Context Setup Request (TS 36.413 8.3.1): connection, cell, capabilities, algorithms chosen, air address drawn
  ContextGiven : ℕ → Place → Caps → Algs → ℕ → RecordRow
  -- UE Context Release Command (TS 36.413 8.3.3)
  ContextReleased : RecordRow
  -- Path Switch Request Acknowledge (TS 36.413 8.4.4, TS 33.401 7.2.8.4.2): connection, and the X2 source to be released
  PairTaken : ℕ → Option Origin → RecordRow
  -- Handover Request on S1 (TS 36.413 8.4.2, TS 33.401 7.2.8.4.3)
  PreparedByS1 : Admitted → RecordRow
  -- Handover Request on X2 (TS 36.423 8.2.1, TS 33.401 7.2.8.4.2)
  PreparedByX2 : Admitted → RecordRow
  -- Handover Command (TS 36.413 8.4.1), or Handover Request Acknowledge on X2 (TS 36.423 8.2.1): the order for the phone
  AttemptAnswered : Order → RecordRow
  -- Handover Cancel (TS 36.413 8.4.5, TS 36.423 8.2.4)
  PreparationCancelled : Origin → RecordRow
  -- UE Context Release on X2 (TS 36.423 8.2.3)
  SourceReleased : RecordRow
  -- UE Context Modification Request (TS 36.413 8.3.4, TS 33.401 7.2.9.2): the next connection, the attempt drawn, the air
  -- address drawn, and the COUNT on SRB1 of the order
  KeyRenewed : ℕ → ℕ → ℕ → ℕ → RecordRow

-- by a PDU of a radio bearer
pub data AirRow : Type 0 where
  AirRefused : Answer → AirRow
  -- Security Mode Complete (TS 36.331 5.3.4.3): its COUNT on SRB1
  SecurityStarted : ℕ → AirRow
  -- an RRC text: bearer and COUNT; the data in it, or none of a Reconfiguration Complete that came again
  RrcOpened : Srb → ℕ → Option (List ℕ) → AirRow
  -- a user packet (TS 36.323 5.1.2.1.3): bearer, COUNT, text
  PacketOpened : Drb → ℕ → List ℕ → AirRow
  -- Reconfiguration Complete at the air address of a preparation (TS 36.331 5.3.5.4): the address, its COUNT on SRB1
  CompletedByS1 : ℕ → ℕ → AirRow
  -- and the X2 handover by which the phone had come to the station
  CompletedWithin : ℕ → ℕ → Option Origin → AirRow
  -- and the number drawn for the Path Switch Request
  CompletedByX2 : ℕ → ℕ → ℕ → AirRow

-- by an act of its own
pub data ActRow : Type 0 where
  ActRefused : Answer → ActRow
  -- a handover begins (TS 33.401 7.2.8.4.1 to 7.2.8.4.3): the attempt drawn, target station, target cell
  StartedByX2 : ℕ → ℕ → Place → ActRow
  StartedByS1 : ℕ → ℕ → Place → ActRow
  -- within the station: the attempt drawn, the air address drawn, target cell
  StartedWithin : ℕ → ℕ → Place → ActRow
  -- Reconfiguration on SRB1 (TS 36.331 5.3.5.4): by which kind of attempt, what it orders, its COUNT
  OrderSent : Via → Order → ℕ → ActRow
  -- an attempt is given up (TS 36.423 8.2.4, TS 36.413 8.4.5): connection, attempt, and the target station on X2 or the
  -- target cell on S1
  CancelledByX2 : ℕ → ℕ → ℕ → ActRow
  CancelledByS1 : ℕ → ℕ → Place → ActRow
  CancelledWithin : ℕ → ActRow
  -- Path Switch Request again (TS 36.413 8.4.4): the number drawn
  PathSwitchAsked : ℕ → ActRow
  -- a user packet (TS 36.323 5.1.1): bearer, COUNT, text
  PacketSent : Drb → ℕ → List ℕ → ActRow
  -- an RRC text: bearer, COUNT, data
  RrcSent : Srb → ℕ → List ℕ → ActRow
  -- so many sending COUNTs of a bearer are left out
  BearerSkipped : Which → ℕ → ActRow

pub data StationRow : Type 0 where
  OfRecord : RecordRow → StationRow
  OfAir : AirRow → StationRow
  OfAct : ActRow → StationRow
