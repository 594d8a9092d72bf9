-- The rows of the phone's table: all that a step may do, in groups by what brings them. A COUNT in a row is that of
-- the record that was taken; a sending takes the next COUNT of the phone's own.
use Rattle.std.specs.Prelude.{ℕ, List}
use Rattle.alg_choice.specs.declared.algs.Algs.{Algs}
use Rattle.annex_a_keys.specs.Cell.{Place}
use Rattle.lte_events.specs.declared.answers.Answer.{Answer}
use Rattle.lte_machine.specs.Bearers.{Srb, Drb, Which}

-- an authentication left a KSI and a KASME (TS 33.401 6.1.1)
pub data AuthRow : Type 0 where
  Authenticated : ℕ → AuthRow

-- on a NAS message
pub data NasRow : Type 0 where
  -- refused, and nothing is sent
  NasRefused : Answer → NasRow
  -- refused, and a SECURITY MODE REJECT with this cause is sent as it is (TS 24.301 5.4.3.5)
  RejectedPlain : Answer → ℕ → NasRow
  -- refused, and one is sent under the context in use
  RejectedUnder : Answer → ℕ → NasRow
  -- a SECURITY MODE COMMAND: its algorithms and COUNT; the phone then waits for its connection (5.4.3.3)
  ContextTaken : Algs → ℕ → NasRow
  -- one on a connection, which stays
  ContextTakenConnected : Algs → ℕ → NasRow
  -- a NAS text: COUNT and text
  NasOpened : ℕ → List ℕ → NasRow

-- on a PDU of a radio bearer
pub data AirRow : Type 0 where
  AirRefused : Answer → AirRow
  -- an RRC SecurityModeCommand: station, air address, algorithms and COUNT (TS 36.331 5.3.4.3)
  LinkSecured : ℕ → ℕ → Algs → ℕ → AirRow
  -- a handover command: the target cell, the NH steps to its NCC, algorithms, station, air address (5.3.5.4)
  HandedOver : Place → ℕ → Algs → ℕ → ℕ → AirRow
  -- a key change: the cell, algorithms, station, air address (TS 33.401 7.2.9.2)
  KeyChanged : Place → Algs → ℕ → ℕ → AirRow
  -- an RRC text: bearer, COUNT and text
  RrcOpened : Srb → ℕ → List ℕ → AirRow
  -- a user packet: bearer, COUNT and text
  PacketOpened : Drb → ℕ → List ℕ → AirRow

-- on an act of the phone's own
pub data ActRow : Type 0 where
  ActRefused : Answer → ActRow
  -- a SERVICE REQUEST asks for a connection (TS 24.301 5.6.1.2)
  ServiceRequested : ActRow
  -- the completion of the last handover once more
  CompleteResent : ActRow
  WentIdle : ActRow
  -- a user packet, an RRC text, a NAS text
  PacketSent : Drb → List ℕ → ActRow
  RrcSent : Srb → List ℕ → ActRow
  NasSent : List ℕ → ActRow
  -- so many COUNTs are left out, at NAS or on a bearer
  NasSkipped : ℕ → ActRow
  BearerSkipped : Which → ℕ → ActRow

pub data PhoneRow : Type 0 where
  OfAuth : AuthRow → PhoneRow
  OfNas : NasRow → PhoneRow
  OfAir : AirRow → PhoneRow
  OfAct : ActRow → PhoneRow
