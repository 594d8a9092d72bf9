-- One step of the phone in octets, by its parts.
use Rattle.std.specs.Prelude.{ℕ, List, Result, Ok, Err, Option, Some, None}
use Rattle.rec_base.specs.{declared.bearers.Bearer.Bearer, declared.uses.Dir.TheVariants.Down}
use Rattle.lte_events.specs.{declared.answers.Answer.Answer, declared.replies.ActorOut.ActorOut}
use Rattle.key_model.specs.Reading.{octet_reading}
use Rattle.pdcp_guard.specs.{AsKeys.AsKeys, declared.pdus.PdcpFault.PdcpFault}
use Rattle.lte_machine.specs.{Calls.actor_out, PhoneKeys.air_does, PhoneRows.AirRow, PhoneRows.AirRefused, Refusals.of_pdcp, Reply.finished, Wire.KeyUse, Wire.srb_use}
use Rattle.lte_machine.specs.PhoneChoice.{AirFront, AirSettled, AtStart}
use Rattle.lte_machine.specs.PhoneState.{Phone, Radio, Connected}
use Rattle.radio_bearers.specs.Bearers.{srb_of}
use Rattle.ue_context.specs.declared.starting.Start.{Start}

-- the step of a row by a PDU that was accepted under this use
abbrev pub by_air : Phone (List ℕ) ℕ → Option (KeyUse (List ℕ)) → AirRow → Phone (List ℕ) ℕ × ActorOut
by_air s accepted row = let d = air_does octet_reading row s in (d.0, actor_out (finished None accepted d.1))

-- the use of RRC integrity of a PDU to the phone
abbrev pub to_phone : AsKeys (List ℕ) → Bearer → ℕ → KeyUse (List ℕ)
to_phone keys bearer count = srb_use Down keys.rrc_int (srb_of bearer) count

-- the COUNT of a PDU, or the answer where it has none
abbrev pub counted : Result ℕ PdcpFault → Result ℕ Answer
counted (Ok count) = Ok count
counted (Err fault) = Err (of_pdcp fault)

-- what is known of the record that starts security before it is opened
abbrev pub start_front : ℕ → ℕ → Result Start Answer → AirFront
start_front station air (Ok start) = AtStart start.count start.algs start.named station air
start_front station air (Err answer) = AirSettled (AirRefused answer)

-- the key of the connection: KeNB, or KeNB* since a handover
abbrev pub kenb_of : Radio (List ℕ) ℕ → Option (List ℕ)
kenb_of (Connected l) = Some l.kenb
kenb_of other = None

-- the station and air address of the connection
abbrev pub air_of : {K C : Type 0} → Radio K C → Option (ℕ × ℕ)
air_of (Connected l) = Some (l.station, l.air)
air_of other = None
