-- The phones of a fleet, each by its own events: what its run is, which keys its ladder has, and what is told of an event more.
use Rattle.std.specs.Prelude.{ℕ, List, [], map, slice_set}
use Rattle.lte_events.specs.{declared.events.Event.Event, declared.setups.Setup.Setup}
use Rattle.key_terms.specs.declared.row.LadderRow.{LadderRow}
use Rattle.lte_machine.specs.{BothRuns.annex_b_terms, BothRuns.written_run, Carried.run_value, Carried.report_value, Ciphers.annex_b, Machines.Kept, Machines.written_machine, Opening.open_octets}
use Rattle.lte_machine.specs.Run.{RunState, Running, Stopped, EventReport, event_report}
use Rattle.store_laws.specs.Rows.{world_rows}

-- the written machine's run of a phone's own events, in values
unfoldable pub phone_run : Setup → List Event → RunState (List ℕ) ℕ Kept
phone_run setup own = run_value annex_b (written_run setup own)

-- what it tells of one event more
unfoldable pub phone_told : Setup → List Event → Event → EventReport (List ℕ)
phone_told setup own e = report_value (event_report (open_octets annex_b_terms) (written_machine annex_b) (written_run setup own) e)

-- the rows of the ladder of a run
abbrev pub rows_in : RunState (List ℕ) ℕ Kept → List LadderRow
rows_in (Running w) = world_rows w
rows_in (Stopped coincidence) = []

abbrev pub phone_rows : Setup → List Event → List LadderRow
phone_rows setup own = rows_in (phone_run setup own)

-- the ladders of the other phones, each at its phone's number, where a phone itself has no rows
abbrev pub without : ℕ → List (List LadderRow) → List (List LadderRow)
without p ladders = slice_set ladders p []

-- of phones with these own events
abbrev pub others : Setup → ℕ → List (List Event) → List (List LadderRow)
others setup p owns = without p (map (phone_rows setup) owns)
