-- What a step opens, leaves and gives out, its keys and chain numbers read in another way.
use Rattle.std.proofs.Common.{◌≡◌, Bool, true, false, refl}
use Rattle.std.specs.Prelude.{map, Option, Some, None, option_map, Result, Ok, Err}
use Rattle.key_model.specs.{Derivation.map_derivation, HandoverLines.map_numbered, HandoverTable.NumberedKey, Reading.Reading, Reading.Carries, Use.map_use}
use Rattle.rec_base.specs.declared.faults.RecFault.{RecFault}
use Rattle.s1x2_rec.specs.Content.{Content}
use Rattle.lte_machine.specs.{Wire.Ciphering, Wire.map_ciphering, Wire.map_outgoing, Wire.ciphering_if, PhoneState.map_phone, PhoneKeys.PhoneDone, CoreState.map_core, CoreKeys.CoreDone, StationState.Station, StationState.map_station, StationState.map_read}
use Rattle.lte_machine.specs.Opening.{Opening, OpensNothing, OpensNas, OpensSrb, OpensDrb, Outcome, Opened, Differs, accepted_of}
use Rattle.lte_machine.specs.Reply.{Reply, unseen, map_note, map_made, map_tried, map_took}

-- the opening, its keys read in another way
abbrev pub map_opening : {K L : Type 0} → (K → L) → Opening K → Opening L
map_opening f OpensNothing = OpensNothing
map_opening f (OpensNas u e) = OpensNas (map_use f u) (option_map (map_ciphering f) e)
map_opening f (OpensSrb u e) = OpensSrb (map_use f u) (option_map (map_ciphering f) e)
map_opening f (OpensDrb e) = OpensDrb (map_ciphering f e)

-- a reply, its keys and chain numbers read in another way
abbrev pub map_reply : {K C L D : Type 0} → (K → L) → (C → D) → Reply K C → Reply L D
map_reply f g r = record {
  answer = r.answer;
  sent = option_map (map_outgoing f g) r.sent;
  opened = r.opened;
  derived = map (map_derivation f) r.derived;
  received = option_map f r.received;
  accepted = option_map (map_use f) r.accepted;
  note = option_map (map_note f) r.note;
  alarm = r.alarm;
  made = option_map (map_made f g) r.made;
  tried = option_map (map_tried f g) r.tried;
  took = option_map (map_took f g) r.took;
}

-- the phone with what it gives out, keys and chain numbers read in another way
abbrev pub map_phone_step : {K C L D : Type 0} → (K → L) → (C → D) → PhoneDone K C → PhoneDone L D
map_phone_step f g done = (map_phone f g done.0, map_reply f g done.1)

-- the core with what it gives out, keys and chain numbers read in another way
abbrev pub map_core_done : {K C L D : Type 0} → (K → L) → (C → D) → CoreDone K C → CoreDone L D
map_core_done f g done = (map_core f g done.0, map_reply f g done.1)

-- a station with what it gives out, keys and chain numbers read in another way
abbrev pub map_station_done : {K C L D : Type 0} → (K → L) → (C → D) → Station K C × Reply K C → Station L D × Reply L D
map_station_done f g done = (map_station f g done.0, map_reply f g done.1)

-- the use under which a record was accepted
pub accepted-map : {K L : Type 0} (f : K → L) (o : Opening K) (outcome : Outcome)
    → option_map (map_use f) (accepted_of o outcome) ≡ accepted_of (map_opening f o) outcome
accepted-map f OpensNothing outcome = refl
accepted-map f (OpensDrb e) outcome = refl
accepted-map f other (Opened text) = refl
accepted-map f other (Differs wanted got) = refl

pub ciphering_if-map : {K L : Type 0} (f : K → L) (b : Bool) (e : Ciphering K)
    → option_map (map_ciphering f) (ciphering_if b e) ≡ ciphering_if b (map_ciphering f e)
ciphering_if-map f true e = refl
ciphering_if-map f false e = refl

-- the key that came in a record
pub received-map : {K C L D : Type 0} (f : K → L) (g : C → D) (o : Option (NumberedKey K C))
    → option_map f (option_map (λ x. x.key) o) ≡ option_map (λ x. x.key) (option_map (map_numbered f g) o)
received-map f g None = refl
received-map f g (Some key) = refl

module _ {K C L D : Type 0} {r : Reading K C} {q : Reading L D} {f : K → L} {g : C → D} (c : Carries r q f g) where
  key_plain : (o : Option (NumberedKey K C))
      → option_map (map_numbered unseen q.ncc) (option_map (map_numbered f g) o) ≡ option_map (map_numbered unseen r.ncc) o
  key_plain None = refl
  key_plain (Some key) = rw (c.ncc key.number) refl

  -- what the plain part sees of a record that was read
  pub read_plain : (read : Result (Content K C) RecFault) → map_read unseen q.ncc (map_read f g read) ≡ map_read unseen r.ncc read
  read_plain (Ok content) = λ j. Ok (record { fields = content.fields; key = key_plain content.key j })
  read_plain (Err fault) = refl
