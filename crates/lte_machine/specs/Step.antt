-- One event, where a coincidence ends the run.
use Rattle.std.specs.Prelude.{ℕ, Bool, List, [], Option, Some, None}
use Rattle.lte_events.specs.{declared.addresses.Address.Address, declared.events.Event.Event, Class.class_of}
use Rattle.std.specs.List.{position_from}
use Rattle.lte_machine.specs.Opening.{Opening, OpensNothing, Outcome, accepted_of}
use Rattle.lte_machine.specs.Tuples.{Coincidence, Rows, tuple_coincidence}
use Rattle.lte_machine.specs.{Ladder.Clash, Ladder.ladder_of, PhoneStep.phone_opens, PhoneStep.phone_pdu_in, StationStep.station_opens, StationStep.station_pdu_in, CoreStep.core_opens, CoreStep.core_pdu_in}
use Rattle.lte_machine.specs.PhoneState.{PhoneInput, PhoneActs, PhoneNasPdu, PhoneAirPdu}
use Rattle.lte_machine.specs.StationState.{Station, StationInput, StationActs, AirPdu, StationRecord, OnS1, OnX2}
use Rattle.lte_machine.specs.CoreState.{CoreInput, CoreActs, CoreNasPdu, CoreRecord}
use Rattle.lte_machine.specs.World.{Machine, World, Line, station_of_id, content_in, record_at, is_sent, happens}

-- what an event opens: what the receiver expects, the octets, and what came
pub record Attempted (K S : Type 0) : Type 0 where
  pub opening : Opening K
  pub octets : List ℕ
  pub came : Option S

abbrev pub opens_none : {K S : Type 0} → Attempted K S
opens_none = record { opening = OpensNothing; octets = []; came = None }

abbrev pub phone_attempts : {K C S : Type 0} → Machine K C S → World K C S → PhoneInput K → Option S → Attempted K S
phone_attempts m w input came =
    record { opening = phone_opens m.reading w.phone input; octets = phone_pdu_in input; came = came }

abbrev pub core_attempts : {K C S : Type 0} → Machine K C S → World K C S → CoreInput K C → Option S → Attempted K S
core_attempts m w input came =
    record { opening = core_opens m.reading w.core input; octets = core_pdu_in input; came = came }

abbrev pub attempts_at : {K C S : Type 0} → Machine K C S → StationInput K C → Option S → Option (Station K C) → Attempted K S
attempts_at m input came None = opens_none
attempts_at m input came (Some s) =
    record { opening = station_opens m.reading s input; octets = station_pdu_in input; came = came }

abbrev pub station_attempts : {K C S : Type 0} → Machine K C S → World K C S → ℕ → StationInput K C → Option S → Attempted K S
station_attempts m w id input came = attempts_at m input came (station_of_id id w.stations)

abbrev pub arrival_attempts : {K C S : Type 0} → Machine K C S → World K C S → Address → List ℕ → Option S → Attempted K S
arrival_attempts m w Address.PhoneNas pdu came = phone_attempts m w (PhoneNasPdu pdu) came
arrival_attempts m w (Address.Phone station air bearer) pdu came = phone_attempts m w (PhoneAirPdu station air bearer pdu) came
arrival_attempts m w Address.CoreNas pdu came = core_attempts m w (CoreNasPdu pdu) came
arrival_attempts m w Address.CoreS1 pdu came = core_attempts m w (CoreRecord (content_in m came)) came
arrival_attempts m w (Address.StationAir station air bearer) pdu came = station_attempts m w station (AirPdu air bearer pdu) came
arrival_attempts m w (Address.StationS1 station) pdu came = station_attempts m w station (StationRecord OnS1 (content_in m came)) came
arrival_attempts m w (Address.StationX2 station) pdu came = station_attempts m w station (StationRecord OnX2 (content_in m came)) came

abbrev pub delivery_attempts : {K C S : Type 0} → Machine K C S → World K C S → Option S → Attempted K S
delivery_attempts m w None = opens_none
delivery_attempts m w (Some x) = arrival_attempts m w (m.address x) (m.octets x) (Some x)

abbrev pub injection_attempts : {K C S : Type 0} → Machine K C S → World K C S → Address → List ℕ → Option ℕ → Attempted K S
injection_attempts m w to octets None = arrival_attempts m w to octets None
injection_attempts m w to octets (Some number) = opens_none

-- what an event opens
abbrev pub attempted : {K C S : Type 0} → Machine K C S → World K C S → Event → Attempted K S
attempted m w (Event.Auth ksi octets caps) = opens_none
attempted m w (Event.Phone act) = phone_attempts m w (PhoneActs act) None
attempted m w (Event.Station id act) = station_attempts m w id (StationActs act) None
attempted m w (Event.Core act) = core_attempts m w (CoreActs act) None
attempted m w (Event.Deliver i) = delivery_attempts m w (record_at i w.sent)
attempted m w (Event.Inject to octets) = injection_attempts m w to octets (position_from (is_sent m (class_of to) octets) 0 w.sent)

-- whether the octets are accepted, by this opener of octets, and not as their sender sealed them
abbrev pub opening_coincidence : {K C S : Type 0} → (Opening K → List ℕ → Outcome) → Machine K C S → Attempted K S → Option (Coincidence K)
opening_coincidence by_octets m a =
    tuple_coincidence m.reading.same (m.sender a.came) (accepted_of a.opening (by_octets a.opening a.octets))

-- what comes of an event: the world goes on with a line, or the run ends
pub data StepResult (K C S : Type 0) : Type 0 where
  Continues : World K C S → Line K → StepResult K C S
  Stops : Coincidence K → StepResult K C S

abbrev pub by_ladder : {K C S : Type 0} → Option (Clash K) → World K C S × Line K → StepResult K C S
by_ladder None h = Continues h.0 h.1
by_ladder (Some clash) h = Stops (Rows clash)

abbrev pub by_coincidence : {K C S : Type 0} → (K → K → Bool) → Option (Coincidence K) → World K C S × Line K → StepResult K C S
by_coincidence same (Some coincidence) h = Stops coincidence
by_coincidence same None h = by_ladder (ladder_of same h.0.history).clash h

-- one event, where a coincidence of the record accepted comes before one of the derivations
abbrev pub next : {K C S : Type 0} → (Opening K → List ℕ → Outcome) → Machine K C S → World K C S → Event → StepResult K C S
next by_octets m w e =
    by_coincidence m.reading.same (opening_coincidence by_octets m (attempted m w e)) (happens m w e)
