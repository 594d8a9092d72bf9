-- What the rows of a run's ladder stand for, and which keys have one.
use Rattle.std.specs.Prelude.{◌≡◌, ℕ, List, map, None}
use Rattle.std.specs.Str.{bytes_eq}
use Rattle.lte_events.specs.{declared.events.Event.Event, declared.setups.Setup.Setup}
use Rattle.key_model.specs.{Term.Term, Value.value_of, Value.same_value}
use Rattle.lte_machine.specs.{Wire.Outgoing, Ciphers.Ciphers, Ciphers.under_keys, Opening.open_octets, World.World, Machines.written_machine}
use Rattle.lte_machine.specs.Ladder.{RowOrigin, map_row, row_key, ladder_of}
use Rattle.lte_machine.specs.Distinct.{keys_of, Member, distinct_terms, OneValueOneTerm}
use Rattle.lte_machine.specs.Run.{Running, replay, first_world}

-- the keys of the rows of a history's ladder
abbrev pub row_keys : List (RowOrigin Term) → List Term
row_keys history = keys_of (ladder_of same_value history).rows

-- the rows of the ladder stand for the distinct terms: it has no clash, the keys of its rows are the distinct terms in the
-- order of their first derivation, each with a value of its own; every key derived, and every root, has a row, so that two
-- of them with one value are one term
pub record RowsStandForTerms (history : List (RowOrigin Term)) : Type 0 where
  pub calm : (ladder_of same_value history).clash ≡ None
  pub rows : row_keys history ≡ distinct_terms history
  pub own : OneValueOneTerm (row_keys history)
  pub stand : (t : Term) → Member t (keys_of history) → Member t (row_keys history)
  pub one : OneValueOneTerm (keys_of history)

-- and in octets: the keys of the rows are the values of the distinct terms, in the same order
abbrev pub OctetRowsStand : List (RowOrigin Term) → Type 0
OctetRowsStand history =
    map row_key (ladder_of bytes_eq (map (map_row value_of) history)).rows ≡ map value_of (distinct_terms history)

-- the run of these events in terms has met no coincidence, and is in this world
abbrev pub RunsTo : Ciphers (List ℕ) → Setup → List Event → World Term ℕ (Outgoing Term ℕ) → Type 0
RunsTo c setup events w =
    replay (open_octets (under_keys value_of c)) (written_machine c) (Running (first_world setup)) events ≡ Running w
