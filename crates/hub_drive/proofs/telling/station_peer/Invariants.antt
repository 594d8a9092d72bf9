use Rattle.std.proofs.Common.{◌≡◌, ◌+◌, drop}
use Rattle.hub_drive.specs.Exchanges.{station_peer}
use Rattle.hub_drive.proofs.telling.station_peer.Given as goal

abbrev pub invariant-loop-station : goal.invariant-loop-station
invariant-loop-station l =
    (l.peer ≡ 2 + l.station-index)
    × (station_peer l.peer l.id (drop l.station-index l.stations) ≡ station_peer 2 l.id l.stations)
