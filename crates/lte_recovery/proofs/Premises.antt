-- The premises hold in a worked world where the keys of phone and station differ.
use Rattle.std.proofs.Common.{◌≡◌, refl, ℕ, ◌+◌, Bool, true, false, Option, Some, None, Result, Ok, Err}
use Rattle.std.specs.Prelude.{◌&&◌, nat_le, nat_lt}
use Rattle.alg_choice.specs.{Choice.choice_of, declared.algs.Algs.Algs, declared.choices.NoAlgorithm.NoAlgorithm}
use Rattle.annex_a_keys.specs.Cell.{Place}
use Rattle.key_model.specs.Term.{Term, same_term}
use Rattle.lte_events.specs.Site.{station_of}
use Rattle.lte_machine.specs.{CoreState.CoreContext, PhoneState.NasContext, StationState.Station, Wire.Outgoing, World.station_of_id}
use Rattle.lte_machine.specs.Run.{RunState, Running, Stopped}
use Rattle.lte_machine.proofs.{LateAnswers.eight_ahead, KeyChanges.changed_twice, Scenario.computing, Scenario.place}
use Rattle.lte_recovery.specs.Reconnection.{TheWorld}
use Rattle.lte_recovery.proofs.Examples.{to}

-- THE PREMISES AS A TEST, which a program can make

abbrev nas_fits : Option (NasContext Term) → Option (CoreContext Term) → Bool
nas_fits (Some p) (Some k) =
    same_term k.nas.root p.root && (nat_le k.nas.receive p.send && (nat_lt p.send (k.nas.receive + 256) && nat_lt p.send 16777216))
nas_fits other context = false

abbrev is_chosen : Result Algs NoAlgorithm → Bool
is_chosen (Ok algs) = true
is_chosen (Err none) = false

abbrev chooses : Station Term ℕ → Option (CoreContext Term) → Bool
chooses s None = false
chooses s (Some k) = is_chosen (choice_of s.priority k.caps)

abbrev station_fits : TheWorld → Option (Station Term ℕ) → Bool
station_fits w None = false
station_fits w (Some s) = nat_lt s.next 4294967296 && (nat_lt s.last w.core.next && chooses s w.core.context)

abbrev cell_fits : TheWorld → Option ℕ → Bool
cell_fits w None = false
cell_fits w (Some id) = station_fits w (station_of_id id w.stations)

abbrev heals : Place → RunState Term ℕ (Outgoing Term ℕ) → Bool
heals cell (Running w) =
    nas_fits w.phone.context w.core.context && (nat_lt w.core.next 4294967296 && cell_fits w (station_of cell w.core.cells))
heals cell (Stopped coincidence) = false

can : heals (place 0) (to eight_ahead) ≡ true
unfolding computing
can = refl

cannot : heals (place 0) (to changed_twice) ≡ false
unfolding computing
cannot = refl
