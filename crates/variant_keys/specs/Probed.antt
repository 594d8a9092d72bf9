-- The run of a scenario and of a variant, with the probe behind it: a standing has the lines of that run.
use Rattle.std.specs.Prelude.{ℕ, List, length}
use Rattle.lte_events.specs.{declared.events.Event.Event, declared.setups.Setup.Setup}
use Rattle.item_faults.specs.declared.entries.Entry.{Entry}
use Rattle.item_probe.specs.Acts.{acts_of}
use Rattle.item_runs.specs.{Coming.Coming, Course.Seen}
use Rattle.item_standing.specs.Standing.{after_first, after_probe, serving_of}
use Rattle.variant_runs.specs.{Judged.run_with, Original.Original, Original.first_station, Original.own_run}

abbrev pub probed_by : List Event → ℕ → ℕ → Seen → Coming → Seen
probed_by acts steps usual s c = record { setup = s.setup; coming = after_probe acts steps (serving_of s.setup usual c.told) s.setup c }

-- the probe goes on behind a run, with these acts, behind a scenario of so many steps
abbrev pub probed : List Event → ℕ → ℕ → Seen → Seen
probed acts steps usual s = probed_by acts steps usual s (after_first acts steps s)

-- THE SCENARIO ITSELF
abbrev pub own_probed : Setup → List Event → Seen
own_probed setup events = probed (acts_of setup events) (length events) (first_station setup.stations) (own_run setup events)

-- A VARIANT, by its items
abbrev pub variant_probed : Original → List Entry → Seen
variant_probed o list = probed o.acts (length o.steps) o.usual.serving (run_with o list)
