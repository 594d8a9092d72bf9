-- The ordinary scenario with a cell of an EARFCN-DL above 65535 (TS 36.331 6.3.4, earfcn-v9e0).
use Rattle.std.specs.Prelude.{◌≡◌, ℕ, List, [], ◌∷◌, ◌++◌, drop, take}
use Rattle.std.proofs.Common.{refl}
use Rattle.annex_a_keys.specs.Cell.{Place}
use Rattle.lte_events.specs.{declared.events.Event.Event, declared.setups.Setup.Setup}
use Rattle.key_model.specs.Term.{Term}
use Rattle.lte_machine.specs.{Opening.open_octets, Wire.Outgoing}
use Rattle.lte_machine.specs.Run.{RunState, Running, report, first_world}
use Rattle.lte_machine.proofs.Ordinary.{ordinary, ordinary_report}
use Rattle.lte_machine.proofs.Scenario.{briefs, computing, machine, place, setup, toy, x2_at}

abbrev wide_cell : Place
wide_cell = record { pci = 11; earfcn = 65536 }

abbrev wide_setup : Setup
wide_setup = record setup { cells = record { station = 0; cell = place 0 } ∷ record { station = 1; cell = wide_cell } ∷ [] }

abbrev wide : List Event
wide = take 10 ordinary ++ x2_at 0 wide_cell ∷ drop 11 ordinary

abbrev wide_start : RunState Term ℕ (Outgoing Term ℕ)
wide_start = Running (first_world wide_setup)

wide_scenario : briefs (report (open_octets toy) machine wide_start wide) ≡ ordinary_report
unfolding computing
wide_scenario = refl
