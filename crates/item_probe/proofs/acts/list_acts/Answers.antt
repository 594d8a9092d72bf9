use Rattle.std.specs.List.{flat_map}
use Rattle.item_probe.specs.Acts.{all_stations, phone_repeats, renewal, station_repeats, station_tries, tries}
use Rattle.item_probe.proofs.Joining.{joined}
use Rattle.item_probe.proofs.acts.list_acts.Goals as goal

pub returns-clause-acts : goal.returns-clause-acts
returns-clause-acts c =
    joined c.args.events.items phone_repeats (flat_map (station_repeats c.args.setup.now) all_stations) tries
    (flat_map (station_tries c.args.setup.now) all_stations) (renewal c.args.setup.now) _ _ _ _ _ c.in_ok-push_phone_repeats.ensures.acts
    c.in_ok-push_station_repeats.ensures.acts c.in_ok-push_tries.ensures.acts c.in_ok-push_station_tries.ensures.acts c.in_ok-push_renewal.ensures.acts
