use Rattle.std.proofs.Common.{◌≡◌, ◌<◌, ◌-◌, length, take, drop, length-drop, sym, ap, ◌∙◌, arith}
use Rattle.std.proofs.Math.Seq.{take-length}
use Rattle.key_model.specs.Reading.{octet_reading}
use Rattle.trace_keys.specs.{Moved.moved, Same.same_net}
use Rattle.trace_keys.proofs.OneNet.{one_net}
use Rattle.trace_plain.specs.Sights.{fits, is_covered}
use Rattle.trace_plain.specs.Way as by
use Rattle.trace_plain.proofs.Leading.{way_next}
use Rattle.trace_plain.proofs.way.way_on.Goals as goal

pub loop-place-preserved : goal.loop-place-preserved
loop-place-preserved c =
    let moves = moved octet_reading c.args.kasmes.now in
    let covers = is_covered c.args.covered.now in
    let lt : c.loop-place.place < length c.args.capture.now = omega (arith, c.loop-place-test.true) in
    let place = c.loop-place.place in
    let capture = c.args.capture.now in
    let rest = take (length capture - place) (drop place capture) in
    let whole : rest ≡ drop place capture = ap (λ n. take n (drop place capture)) (sym (length-drop place capture)) ∙ take-length (drop place capture) in
    let to = by.seen_on moves fits covers c.args.family.now c.args.bound same_net in
    let by_dark = by.unseen_on moves fits covers c.args.family.now c.args.bound same_net c.args.bound in
    let put = c.in_ok-seen_on.ensures.put ∙ ap (λ w. to rest w) c.in_ok-unseen_on.ensures.put ∙ ap (λ r. to r (by_dark r c.loop-place.way)) whole in
    way_next moves fits covers c.args.family.now c.args.bound same_net one_net capture place c.loop-place.way c.seen_on.new.way lt put
    ∙ c.loop-place.invariant
