-- What holds of a run with the probe behind it.
use Rattle.std.proofs.Common.{◌≡◌, refl, sym, arith, ℕ, ◌+◌, ◌*◌, ◌≤◌, Bool, true, false, if◌then◌else◌, List, length, All, Option, Some, None}
use Rattle.lte_events.specs.{Ranges.IsSetup, Ranges.has_station, Scenario.CanHappen, Scenario.most_events}
use Rattle.lte_events.specs.{declared.events.Event.Event, declared.lines.Who.Who, declared.setups.Setup.Setup}
use Rattle.items.specs.Items.{most_at_once}
use Rattle.item_lines.specs.{Lines.line_of, declared.lines.Told.Told}
use Rattle.item_outcomes.specs.Probe.{up_arrives}
use Rattle.item_outcomes.specs.Heals.{serves_again}
use Rattle.item_probe.specs.{Parts.first_part, Parts.second_part, Parts.third_part, Places.more_acts}
use Rattle.item_probe.proofs.Chained.{first_is, length-first, length-second, length-third, second_is, third_is}
use Rattle.item_runs.specs.{Coming.Coming, Course.Seen, Course.Stands, Course.going_on}
use Rattle.item_standing.specs.Standing.{after_first, after_second, after_third, serving_by, serving_in, serving_of}
use Rattle.item_standing.proofs.Served.{station_low}
use Rattle.variant_keys.specs.Probed.{probed}
use Rattle.variant_keys.proofs.Kept.{going_goes}

-- THE STATION THAT SERVES is one of eight
by_low : (setup : Setup) (usual : ℕ) (who : Who) → IsSetup setup → usual ≤ 7 → serving_by setup usual who ≤ 7
by_low setup usual (Who.Station id) is low = by (has_station setup.stations id) refl
  where
    by : (b : Bool) → has_station setup.stations id ≡ b → (if b then id else usual) ≤ 7
    by true there = station_low setup.stations id is.stations there
    by false none = low
by_low setup usual Who.Phone is low = low
by_low setup usual Who.Core is low = low
by_low setup usual Who.Both is low = low
by_low setup usual Who.World is low = low

pub serving_low : (setup : Setup) (usual : ℕ) (told : List Told) → IsSetup setup → usual ≤ 7 → serving_of setup usual told ≤ 7
serving_low setup usual told is low = by (line_of up_arrives told)
  where
    by : (o : Option Told) → serving_in setup usual o ≤ 7
    by None = low
    by (Some t) = by_low setup usual t.line.who is low

-- THE THIRD PART, where it goes on
third_stands : (setup : Setup) (acts : List Event) (steps serving : ℕ) (c : Coming)
    → All (CanHappen setup) acts
    → steps + more_acts ≤ length acts
    → serving ≤ 7
    → length c.events + 117 ≤ most_events
    → Stands setup c.events c.told
    → Stands setup (after_third acts steps serving setup c).events (after_third acts steps serving setup c).told
third_stands setup acts steps serving c can room low few h = by (serves_again c.told)
  where
    by : (b : Bool)
        → Stands setup (if b then c else going_on setup acts (third_part steps serving) c).events
        (if b then c else going_on setup acts (third_part steps serving) c).told
    by true = h
    by false =
        let many = length-third steps serving in
        (going_goes setup acts (third_part steps serving) c can (third_is (length acts) steps serving room low) (omega (arith, many, few)) h).0

-- THE PROBE BEHIND A RUN
pub probed_stands : (acts : List Event) (steps usual : ℕ) (s : Seen)
    → IsSetup s.setup
    → length s.setup.stations ≤ 8
    → All (CanHappen s.setup) acts
    → steps + more_acts ≤ length acts
    → usual ≤ 7
    → length s.coming.events + 504 ≤ most_events
    → Stands s.setup s.coming.events s.coming.told
    → Stands s.setup (probed acts steps usual s).coming.events (probed acts steps usual s).coming.told
probed_stands acts steps usual s is eight can room low few h =
    let first = first_part s.setup steps in
    let many = length-first s.setup steps in
    let one = going_goes s.setup acts first s.coming can (first_is (length acts) s.setup steps room is) (omega (arith, many, eight, few)) h in
    let up = one.1 in
    let serving = serving_of s.setup usual (after_first acts steps s).told in
    let low_one = serving_low s.setup usual (after_first acts steps s).told is low in
    let more = length-second s.setup steps serving in
    let two =
    going_goes s.setup acts (second_part s.setup steps serving) (after_first acts steps s) can
    (second_is (length acts) s.setup steps serving room low_one) (omega (arith, many, eight, more, up, few)) one.0 in
    let up_two = two.1 in
    third_stands s.setup acts steps serving (after_second acts steps serving s.setup (after_first acts steps s)) can room low_one
    (omega (arith, many, eight, more, up, up_two, few)) two.0
