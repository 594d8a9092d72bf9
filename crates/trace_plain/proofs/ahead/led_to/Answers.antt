use Rattle.std.proofs.Common.{◌≡◌, suc, ◌-◌, drop, flat_map, subst, arith, rules}
use Rattle.key_model.specs.Reading.{octet_reading}
use Rattle.trace_keys.specs.{Moved.moved, Same.same_net}
use Rattle.trace_keys.proofs.OneNet.{one_net}
use Rattle.trace_rules.specs.{Closed.IsFull, Search.shown_from, Search.widened}
use Rattle.trace_rules.proofs.Members.{Agree}
use Rattle.trace_plain.specs.{Kept.leading_from, Once.once_from, Sights.fits, Sights.is_covered, Sights.leads}
use Rattle.trace_plain.proofs.Pruning.{led_agree, led_full, may_indeed}
use Rattle.trace_plain.proofs.ahead.led_to.Goals as goal

pub returns-clause-agree : goal.returns-clause-agree
returns-clause-agree c =
    let moves = moved octet_reading c.args.kasmes.now in
    let covers = is_covered c.args.covered.now in
    let family = c.args.family.now in
    let sight = c.args.sight.now in
    let more = c.widened.new.all in
    let begun = c.in_ok-begun.begun in
    let one : suc (c.args.bound - 1) ≡ c.args.bound = omega (arith, c.if-bound-eq0.false) in
    let is : c.led.new.all ≡ once_from same_net more (flat_map (leading_from moves covers family (leads sight)) (drop begun more)) = search rules in
    subst (λ n. Agree (flat_map (shown_from moves fits covers family sight) c.led.new.all) (flat_map (shown_from moves fits covers family sight) (widened moves covers family n c.args.all.now))) one
    (led_agree moves fits covers family (leads sight) same_net one_net sight (c.args.bound - 1) c.args.all.now more begun c.led.new.all
    (may_indeed c.args.kasmes.now c.args.covered.now family sight) c.in_ok-begun.ensures.known is)

pub returns-clause-full : goal.returns-clause-full
returns-clause-full c = λ e.
    let moves = moved octet_reading c.args.kasmes.now in
    let covers = is_covered c.args.covered.now in
    let family = c.args.family.now in
    let one : suc (c.args.bound - 1) ≡ c.args.bound = omega (arith, c.if-bound-eq0.false) in
    subst (λ n. IsFull moves covers family (widened moves covers family n c.args.all.now)) one
    (led_full moves fits covers family (leads c.args.sight.now) (c.args.bound - 1) c.args.all.now c.widened.new.all c.in_ok-begun.begun
    c.in_ok-begun.ensures.known (c.in_ok-full.ensures.full e))
