use Rattle.std.proofs.Common.{◌≡◌, [], drop}
use Rattle.item_runs.specs.Reach.{who_from}
use Rattle.item_runs.proofs.reach.who_of.Given as goal

abbrev pub invariant-loop-station : goal.invariant-loop-station
invariant-loop-station l =
    who_from l.ladder.rows l.row.0 l.stations [] ≡ who_from l.ladder.rows l.row.0 (drop l.station-index l.stations) l.found.items
