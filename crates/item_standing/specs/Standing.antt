-- What the probe finds behind a run of items.
use Rattle.std.specs.Prelude.{ℕ, if◌then◌else◌, List, Option, Some, None, is_some}
use Rattle.lte_events.specs.{Ranges.has_station, declared.events.Event.Event, declared.lines.Who.Who, declared.setups.Setup.Setup}
use Rattle.lte_events.specs.declared.lines.Who.TheVariants as who
use Rattle.item_lines.specs.{Lines.line_of, declared.lines.Told.Told}
use Rattle.item_outcomes.specs.{Heals.serves_again, Probe.up_arrives, Standing.Standing}
use Rattle.item_probe.specs.Parts.{first_part, second_part, third_part}
use Rattle.item_runs.specs.{Coming.Coming, CoreStation.core_station_of, Course.Seen, Course.going_on, Reach.reach_of}

-- WHICH STATION SERVES: the one that the phone's packet comes to. Where it comes to none of the setup, the one that serves in the scenario
abbrev pub serving_by : Setup → ℕ → Who → ℕ
serving_by setup usual (who.Station id) = if has_station setup.stations id then id else usual
serving_by setup usual other = usual

abbrev pub serving_in : Setup → ℕ → Option Told → ℕ
serving_in setup usual None = usual
serving_in setup usual (Some t) = serving_by setup usual t.line.who

abbrev pub serving_of : Setup → ℕ → List Told → ℕ
serving_of setup usual told = serving_in setup usual (line_of up_arrives told)

-- THE PROBE GOES ON behind a run, with these acts, behind a scenario of so many steps
abbrev pub after_first : List Event → ℕ → Seen → Coming
after_first acts steps s = going_on s.setup acts (first_part s.setup steps) s.coming

abbrev pub after_second : List Event → ℕ → ℕ → Setup → Coming → Coming
after_second acts steps serving setup c = going_on setup acts (second_part setup steps serving) c

-- where the packet behind the Service Request does not arrive, the third part goes on
abbrev pub after_third : List Event → ℕ → ℕ → Setup → Coming → Coming
after_third acts steps serving setup c = if serves_again c.told then c else going_on setup acts (third_part steps serving) c

abbrev pub after_probe : List Event → ℕ → ℕ → Setup → Coming → Coming
after_probe acts steps serving setup c = after_third acts steps serving setup (after_second acts steps serving setup c)

-- WHAT BECAME of phone, stations and core: key and core before the probe, the lines with it
abbrev pub standing_at : Seen → ℕ → Coming → Standing
standing_at before serving c = record {
  told = c.told;
  serving = serving;
  core = core_station_of before;
  reach = reach_of before;
  over = is_some c.over;
}

abbrev pub standing_from : List Event → ℕ → Seen → ℕ → Coming → Standing
standing_from acts steps s serving c = standing_at s serving (after_probe acts steps serving s.setup c)

abbrev pub standing_by : List Event → ℕ → ℕ → Seen → Coming → Standing
standing_by acts steps usual s c = standing_from acts steps s (serving_of s.setup usual c.told) c

abbrev pub standing_of : List Event → ℕ → ℕ → Seen → Standing
standing_of acts steps usual s = standing_by acts steps usual s (after_first acts steps s)
