-- A world, a run and what is told of it, in another reading of keys, chain numbers and records that were sent.
use Rattle.std.specs.Prelude.{ℕ, List, [], ◌∷◌, map, option_map}
use Rattle.key_model.specs.{Chain.ncc_of, Term.Term, Use.map_use, Value.value_of}
use Rattle.lte_machine.specs.{Wire.Outgoing, Ciphers.Ciphers, Ladder.Clash, Ladder.map_row, PhoneState.map_phone, StationState.Station, StationState.map_station, CoreState.map_core, Machines.Kept, Machines.kept_in_values}
use Rattle.lte_machine.specs.Reply.{map_note, map_made, map_tried, map_took}
use Rattle.lte_machine.specs.Tuples.{Coincidence, Tuples, Rows}
use Rattle.lte_machine.specs.World.{World, Line, Holding}
use Rattle.lte_machine.specs.Run.{RunState, Running, Stopped, EventReport, Reported, Coincided}

abbrev pub map_holding : {K L : Type 0} → (K → L) → Holding K → Holding L
map_holding f h = record { holder = h.holder; key = f h.key }

abbrev pub map_stations : {K C L D : Type 0} → (K → L) → (C → D) → List (Station K C) → List (Station L D)
map_stations f g [] = []
map_stations f g (s ∷ ss) = map_station f g s ∷ map_stations f g ss

-- a world in another reading
abbrev pub map_world : {K C S L D T : Type 0} → (K → L) → (C → D) → (S → T) → World K C S → World L D T
map_world f g z w = record {
  events = w.events;
  phone = map_phone f g w.phone;
  core = map_core f g w.core;
  stations = map_stations f g w.stations;
  sent = map z w.sent;
  uses = map (map_use f) w.uses;
  history = map (map_row f) w.history;
  held = map (map_holding f) w.held;
  made = map (map_made f g) w.made;
  tried = map (map_tried f g) w.tried;
  took = map (map_took f g) w.took;
}

abbrev pub map_line : {K L : Type 0} → (K → L) → Line K → Line L
map_line f l = record {
  step = l.step;
  who = l.who;
  answer = l.answer;
  sent = l.sent;
  opened = l.opened;
  note = option_map (map_note f) l.note;
  alarm = l.alarm;
}

abbrev pub map_clash : {K L : Type 0} → (K → L) → Clash K → Clash L
map_clash f c = record { row = c.row; origin = map_row f c.origin }

abbrev pub map_coincidence : {K L : Type 0} → (K → L) → Coincidence K → Coincidence L
map_coincidence f (Tuples sender receiver) = Tuples (option_map (map_use f) sender) (map_use f receiver)
map_coincidence f (Rows clash) = Rows (map_clash f clash)

abbrev pub map_run_state : {K C S L D T : Type 0} → (K → L) → (C → D) → (S → T) → RunState K C S → RunState L D T
map_run_state f g z (Running w) = Running (map_world f g z w)
map_run_state f g z (Stopped coincidence) = Stopped (map_coincidence f coincidence)

abbrev pub map_report : {K L : Type 0} → (K → L) → EventReport K → EventReport L
map_report f (Reported line) = Reported (map_line f line)
map_report f (Coincided coincidence) = Coincided (map_coincidence f coincidence)

-- the value of a run over terms: keys by their octets, chain numbers by their NCCs, records by their octets, COUNTs kept
abbrev pub run_value : Ciphers (List ℕ) → RunState Term ℕ (Outgoing Term ℕ) → RunState (List ℕ) ℕ Kept
run_value c r = map_run_state value_of ncc_of (kept_in_values c) r

abbrev pub report_value : EventReport Term → EventReport (List ℕ)
report_value s = map_report value_of s
