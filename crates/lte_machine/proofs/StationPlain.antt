-- A station and its inputs look the same to the choice of a row in every reading.
use Rattle.std.specs.Prelude.{◌≡◌, List, [], ◌∷◌, Option, Some, None, option_map}
use Rattle.std.proofs.Common.{refl, ap}
use Rattle.key_model.specs.{Reading.Reading, Reading.Carries, HandoverTable.NumberedKey}
use Rattle.nh_chain.specs.Station.{StationKey, map_pair, map_station_key}
use Rattle.ho_prep.specs.Prep.{Prep, map_prep}
use Rattle.lte_machine.specs.{Reply.unseen, StationStep.plain_station}
use Rattle.lte_machine.proofs.MapSteps.{read_plain}
use Rattle.lte_machine.specs.StationState.{Context, Attempt, SourceKeys, Station, StationInput, StationActs, AirPdu, StationRecord, map_source_keys, map_attempt, map_context, map_preps, map_station, map_station_input}

module _ {K C L D : Type 0} {r : Reading K C} {q : Reading L D} {f : K → L} {g : C → D} (c : Carries r q f g) where
  pair_plain : (pair : Option (NumberedKey K C)) → map_pair unseen q.ncc (map_pair f g pair) ≡ map_pair unseen r.ncc pair
  pair_plain None = refl
  pair_plain (Some pair) = rw (c.ncc pair.number) refl

  key_plain : (key : StationKey K C) →
      map_station_key unseen q.ncc (map_station_key f g key) ≡ map_station_key unseen r.ncc key
  key_plain key = rw (c.ncc key.number, pair_plain key.pair) refl

  source_keys_plain : (keys : Option (SourceKeys K C)) →
      option_map (map_source_keys unseen q.ncc) (option_map (map_source_keys f g) keys) ≡ option_map (map_source_keys unseen r.ncc) keys
  source_keys_plain None = refl
  source_keys_plain (Some keys) = rw (c.ncc keys.star.number, pair_plain keys.spent) refl

  attempt_plain : (attempt : Option (Attempt K C)) →
      option_map (map_attempt unseen q.ncc) (option_map (map_attempt f g) attempt)
      ≡ option_map (map_attempt unseen r.ncc) attempt
  attempt_plain None = refl
  attempt_plain (Some a) = rw (source_keys_plain a.keys) refl

  context_plain : (x : Context K C) → map_context unseen q.ncc (map_context f g x) ≡ map_context unseen r.ncc x
  context_plain x = rw (key_plain x.key, attempt_plain x.attempt) refl

  context_option_plain : (o : Option (Context K C)) →
      option_map (map_context unseen q.ncc) (option_map (map_context f g) o) ≡ option_map (map_context unseen r.ncc) o
  context_option_plain None = refl
  context_option_plain (Some x) = ap Some (context_plain x)

  prep_plain : (p : Prep K C) → map_prep unseen q.ncc (map_prep f g p) ≡ map_prep unseen r.ncc p
  prep_plain p = rw (key_plain p.key) refl

  preps_plain : (ps : List (Prep K C)) → map_preps unseen q.ncc (map_preps f g ps) ≡ map_preps unseen r.ncc ps
  preps_plain [] = refl
  preps_plain (p ∷ ps) = λ j. prep_plain p j ∷ preps_plain ps j

  pub station_plain : (s : Station K C) → plain_station q (map_station f g s) ≡ plain_station r s
  station_plain s = rw (context_option_plain s.context, preps_plain s.preps) refl

  pub input_plain : (i : StationInput K C) →
      map_station_input unseen q.ncc (map_station_input f g i) ≡ map_station_input unseen r.ncc i
  input_plain (StationActs act) = refl
  input_plain (AirPdu air bearer pdu) = refl
  input_plain (StationRecord interface read) = ap (StationRecord interface) (read_plain c read)
