-- One step of the station in octets, by the input as it reads.
use Rattle.std.specs.Prelude.{ℕ, List, Option, None, Some, Ok}
use Rattle.lte_events.specs.declared.replies.ActorOut.{ActorOut}
use Rattle.key_model.specs.{Reading.octet_reading, HandoverTable.NumberedKey}
use Rattle.s1x2_rec.specs.Fields.{Fields}
use Rattle.lte_machine.specs.{Ciphers.annex_b, Opening.open_octets, Reply.finished, Wire.KeyUse, Wire.srb_use, StationRows.AirRow, StationKeys.air_does, StationChoice.PlainStation, Calls.actor_out}
use Rattle.pdcp_guard.specs.AsKeys.{AsKeys}
use Rattle.rec_base.specs.{declared.bearers.Bearer.Bearer, declared.uses.Dir.TheVariants.Up}
use Rattle.radio_bearers.specs.Bearers.{srb_of}
use Rattle.lte_machine.specs.StationState.{Station, Context, OnS1, OnX2, StationInput, StationRecord}
use Rattle.lte_machine.specs.StationStep.{station_step, station_opens, station_pdu_in, plain_station}

-- the station afterwards and its reply; a call is this of the input as it reads
abbrev pub answered : Station (List ℕ) ℕ → StationInput (List ℕ) ℕ → Station (List ℕ) ℕ × ActorOut
answered s input =
    let outcome = open_octets annex_b (station_opens octet_reading s input) (station_pdu_in input) in
    let done = station_step octet_reading s input outcome in
    (done.0, actor_out done.1)

-- the step at a record on S1, and at one on X2
abbrev pub on_s1 : Station (List ℕ) ℕ → Fields → Option (NumberedKey (List ℕ) ℕ) → Station (List ℕ) ℕ × ActorOut
on_s1 s fields key = answered s (StationRecord OnS1 (Ok (record { fields = fields; key = key })))

abbrev pub on_x2 : Station (List ℕ) ℕ → Fields → Option (NumberedKey (List ℕ) ℕ) → Station (List ℕ) ℕ × ActorOut
on_x2 s fields key = answered s (StationRecord OnX2 (Ok (record { fields = fields; key = key })))

-- the station with this context
abbrev pub serving : Station (List ℕ) ℕ → Context (List ℕ) ℕ → Station (List ℕ) ℕ
serving s context = record s { context = Some context }

-- the station as the choice of a row sees it
abbrev pub seen_plain : Station (List ℕ) ℕ → PlainStation
seen_plain s = plain_station octet_reading s

abbrev pub by_air : Station (List ℕ) ℕ → Option (KeyUse (List ℕ)) → AirRow → Station (List ℕ) ℕ × ActorOut
by_air s accepted row = let d = air_does octet_reading row s in (d.0, actor_out (finished None accepted d.1))

-- the use of RRC integrity of a PDU from the phone
abbrev pub from_phone : AsKeys (List ℕ) → Bearer → ℕ → KeyUse (List ℕ)
from_phone keys bearer count = srb_use Up keys.rrc_int (srb_of bearer) count

-- a station of this number with this context
abbrev pub serving_at : Station (List ℕ) ℕ → ℕ → Context (List ℕ) ℕ → Station (List ℕ) ℕ
serving_at s id context = record s { id = id; context = Some context }
