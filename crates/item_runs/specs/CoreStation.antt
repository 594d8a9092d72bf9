-- At which station the core has the phone.
use Rattle.std.specs.Prelude.{ℕ, List, Option, Some, None}
use Rattle.key_terms.specs.declared.proof.Proof.{Proof}
use Rattle.lte_machine.specs.{BothRuns.octet_run, Machines.Kept}
use Rattle.lte_machine.specs.Run.{RunState, Running, Stopped}
use Rattle.lte_world.specs.Whole.{core_station_in}
use Rattle.item_runs.specs.Course.{Seen}

abbrev pub station_in : RunState (List ℕ) ℕ Kept → Option ℕ
station_in (Running w) = core_station_in w
station_in (Stopped coincidence) = None

abbrev pub station_unless : Option Proof → RunState (List ℕ) ℕ Kept → Option ℕ
station_unless None run = station_in run
station_unless (Some proof) run = None

-- the station at which the core has the phone, unless a coincidence ended it
abbrev pub core_station_of : Seen → Option ℕ
core_station_of s = station_unless s.coming.over (octet_run s.setup s.coming.events)
