-- One step of a station: the choice of its row, and what the row does.
use Rattle.std.specs.Prelude.{ℕ, List, [], Option, None, option_map, Result, Ok, Err}
use Rattle.rec_base.specs.declared.faults.RecFault.{RecFault}
use Rattle.key_model.specs.{Reading.Reading, HandoverTable.NumberedKey}
use Rattle.s1x2_rec.specs.Content.{Content}
use Rattle.lte_machine.specs.Opening.{Opening, Outcome, accepted_of}
use Rattle.lte_machine.specs.Reply.{Reply, finished, unseen}
use Rattle.lte_machine.specs.StationState.{Station, StationInput, StationActs, AirPdu, StationRecord, map_station, map_station_input}
use Rattle.lte_machine.specs.{StationRows.StationRow, StationKeys.station_expects, StationKeys.station_does}
use Rattle.lte_machine.specs.StationChoice.{PlainStation, StationFront, station_front, station_row}

-- the key of a record with its number, if it reads and holds one
abbrev pub key_read : {K C : Type 0} → Result (Content K C) RecFault → Option (NumberedKey K C)
key_read (Ok content) = content.key
key_read (Err fault) = None

abbrev pub station_key : {K C : Type 0} → StationInput K C → Option (NumberedKey K C)
station_key (StationActs act) = None
station_key (AirPdu air bearer pdu) = None
station_key (StationRecord interface read) = key_read read

-- the octets of the PDU that is to be opened
abbrev pub station_pdu_in : {K C : Type 0} → StationInput K C → List ℕ
station_pdu_in (StationActs act) = []
station_pdu_in (AirPdu air bearer pdu) = pdu
station_pdu_in (StationRecord interface read) = []

-- what the choice sees: no key, and of a chain number its NCC
abbrev pub plain_station : {K C : Type 0} → Reading K C → Station K C → PlainStation
plain_station r s = map_station unseen r.ncc s

abbrev pub station_front_of : {K C : Type 0} → Reading K C → Station K C → StationInput K C → StationFront
station_front_of r s i = station_front (plain_station r s) (map_station_input unseen r.ncc i)

-- what the input would open
abbrev pub station_opens : {K C : Type 0} → Reading K C → Station K C → StationInput K C → Opening K
station_opens r s i = station_expects (station_front_of r s i) s

-- the row of an input whose opening came out so
abbrev pub station_row_of : {K C : Type 0} → Reading K C → Station K C → StationInput K C → Outcome → StationRow
station_row_of r s i outcome = station_row (plain_station r s) (station_front_of r s i) outcome

-- the station afterwards, and what it gives out; the key of a record that was read, and the use under which a PDU was
-- accepted, are told also where the row refuses
abbrev pub station_step : {K C : Type 0} →
    Reading K C → Station K C → StationInput K C → Outcome → Station K C × Reply K C
station_step r s i outcome =
    let does = station_does r (station_row_of r s i outcome) (station_key i) s in
    (does.0, finished (option_map (λ x. x.key) (station_key i)) (accepted_of (station_opens r s i) outcome) does.1)
