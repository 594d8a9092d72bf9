use Rattle.std.proofs.Common.{◌≡◌, [], rules}
use Rattle.std.specs.Prelude.{flat_map}
use Rattle.key_model.specs.Reading.{octet_reading}
use Rattle.trace_keys.specs.{Moved.moved, Same.same_net}
use Rattle.trace_keys.proofs.OneNet.{one_net}
use Rattle.trace_rules.specs.Search.{shown_from, widened}
use Rattle.trace_plain.specs.{Once.once_from, Sights.fits, Sights.is_covered}
use Rattle.trace_plain.proofs.Steps.{shown_on}
use Rattle.trace_plain.proofs.search.advance.Goals as goal

pub returns-clause-agree : goal.returns-clause-agree
returns-clause-agree c =
    let moves = moved octet_reading c.args.kasmes.now in
    let covers = is_covered c.args.covered.now in
    let family = c.args.family.now in
    let sight = c.args.sight.now in
    let all = c.led_to.new.all in
    let next = c.in_ok-next.next.items in
    let ends = c.add_all.new.self in
    let show = shown_from moves fits covers family sight in
    let is : next ≡ flat_map show all = search rules in
    let each : ends ≡ once_from same_net [] next = search rules in
    shown_on moves fits covers family same_net one_net (flat_map show all) next ends (flat_map show (widened moves covers family c.args.bound c.args.nets.now))
    c.in_ok-full.ensures.agree is each
