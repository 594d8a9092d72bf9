use Rattle.std.proofs.Common.{◌≡◌, ◌<◌, ◌+◌, ◌-◌, suc, length, drop, subst, sym, ap, ◌∙◌, arith, rules}
use Rattle.std.specs.Prelude.{flat_map}
use Rattle.key_model.specs.Reading.{octet_reading}
use Rattle.trace_keys.specs.{Moved.moved, Same.same_net}
use Rattle.trace_keys.proofs.OneNet.{one_net}
use Rattle.trace_rules.specs.Search.{hidden_from}
use Rattle.trace_rules.proofs.Widening.{Known, known_first}
use Rattle.trace_plain.specs.{Once.once_from, Kept.most_nets, Kept.led_after, Sights.fits, Sights.is_covered}
use Rattle.trace_plain.proofs.{Counting.led_longer, Once.once_longer}
use Rattle.trace_plain.proofs.Steps.{known_on}
use Rattle.trace_plain.proofs.widening.widened.Goals as goal

pub loop-turn-init : goal.loop-turn-init
loop-turn-init c =
    let all : c.args.turns - 0 ≡ c.args.turns = omega arith in
    record {
      known = known_first (moved octet_reading c.args.kasmes.now) fits (is_covered c.args.covered.now) c.args.family.now c.args.all.now;
      within = omega arith;
      on = λ may.
          ap (λ n. led_after (moved octet_reading c.args.kasmes.now) (is_covered c.args.covered.now) c.args.family.now same_net may n 0 c.args.all.now)
          all;
    }

pub loop-turn-preserved : goal.loop-turn-preserved
loop-turn-preserved c =
    let moves = moved octet_reading c.args.kasmes.now in
    let covers = is_covered c.args.covered.now in
    let all = c.loop-turn.all in
    let begun = c.loop-turn.begun in
    let is : c.widen.new.all ≡ once_from same_net all (flat_map (hidden_from moves covers c.args.family.now) (drop begun all)) = search rules in
    let count : c.len-count.result ≡ length all = search rules in
    let next = known_on moves fits covers c.args.family.now same_net one_net c.loop-turn._turn c.args.all.now all begun c.widen.new.all c.loop-turn.invariant.known is in
    let led = led_after moves covers c.args.family.now same_net in
    let left : c.args.turns - c.loop-turn._turn ≡ suc (c.args.turns - (c.loop-turn._turn + 1)) = omega (arith, c.loop-turn-test.true) in
    let one : suc c.loop-turn._turn ≡ c.loop-turn._turn + 1 = omega arith in
    let behind = subst (λ n. Known moves fits covers c.args.family.now (suc c.loop-turn._turn) c.args.all.now c.widen.new.all n) (sym count) next in
    record {
      known = subst (λ k. Known moves fits covers c.args.family.now k c.args.all.now c.widen.new.all c.len-count.result) one behind;
      within = omega (arith, count, once_longer same_net all (flat_map (hidden_from moves covers c.args.family.now) (drop begun all)), ap length is);
      on = λ may.
          ap (λ n. led may (c.args.turns - (c.loop-turn._turn + 1)) n c.widen.new.all) count
          ∙ ap (led may (c.args.turns - (c.loop-turn._turn + 1)) (length all)) is
          ∙ sym (ap (λ n. led may n begun all) left)
          ∙ c.loop-turn.invariant.on may;
    }

pub returns-clause-known : goal.returns-clause-known
returns-clause-known c =
    let turns : c.loop-turn._turn ≡ c.args.turns = search rules in
    subst (λ n. Known (moved octet_reading c.args.kasmes.now) fits (is_covered c.args.covered.now) c.args.family.now n c.args.all.now c.loop-turn.all c.loop-turn.begun)
    turns c.loop-turn.invariant.known

pub returns-clause-items : goal.returns-clause-items
returns-clause-items c = λ may.
    let led = led_after (moved octet_reading c.args.kasmes.now) (is_covered c.args.covered.now) c.args.family.now same_net may in
    let none : c.args.turns - c.loop-turn._turn ≡ 0 = omega (arith, c.loop-turn-test.false) in
    sym (ap (λ n. led n c.loop-turn.begun c.loop-turn.all) none) ∙ c.loop-turn.invariant.on may

pub returns-in_err-widen-clause-many : goal.returns-in_err-widen-clause-many
returns-in_err-widen-clause-many c = λ e may.
    let moves = moved octet_reading c.args.kasmes.now in
    let covers = is_covered c.args.covered.now in
    let family = c.args.family.now in
    let all = c.loop-turn.all in
    let led = led_after moves covers family same_net may in
    let next = once_from same_net all (flat_map (hidden_from moves covers family) (drop c.loop-turn.begun all)) in
    let many : most_nets < length next = search rules in
    let left : c.args.turns - c.loop-turn._turn ≡ suc (c.args.turns - (c.loop-turn._turn + 1)) = omega (arith, c.loop-turn-test.true) in
    let on = sym (ap (λ n. led n c.loop-turn.begun all) left) ∙ c.loop-turn.invariant.on may in
    omega (arith, many, led_longer moves covers family same_net may (c.args.turns - (c.loop-turn._turn + 1)) (length all) next, ap length on)
