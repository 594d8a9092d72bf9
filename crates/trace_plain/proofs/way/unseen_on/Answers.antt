use Rattle.std.proofs.Common.{◌≡◌, suc, ◌+◌, ◌-◌, sym, ap, ◌∙◌, arith, rules}
use Rattle.std.specs.Prelude.{false}
use Rattle.key_model.specs.Reading.{octet_reading}
use Rattle.trace_keys.specs.{Moved.moved, Same.same_net}
use Rattle.trace_plain.specs.Sights.{fits, is_covered}
use Rattle.trace_plain.specs.Way as by
use Rattle.trace_plain.proofs.way.unseen_on.Goals as goal

pub loop-turn-preserved : goal.loop-turn-preserved
loop-turn-preserved c =
    let moves = moved octet_reading c.args.kasmes.now in
    let covers = is_covered c.args.covered.now in
    let rest = c.args.rest.now in
    let go = by.unseen_on moves fits covers c.args.family.now c.args.bound same_net in
    let left : c.args.bound - c.loop-turn._turn ≡ suc (c.args.bound - (c.loop-turn._turn + 1)) = omega (arith, c.loop-turn-test.true) in
    let on : c.unseen_once.new.way ≡ by.from_each moves fits covers c.args.family.now c.args.bound same_net false rest c.loop-turn.way.steps c.loop-turn.way =
    search rules in
    ap (λ w. go (c.args.bound - (c.loop-turn._turn + 1)) rest w) on
    ∙ sym (ap (λ n. go n rest c.loop-turn.way) left)
    ∙ c.loop-turn.invariant

pub returns-clause-put : goal.returns-clause-put
returns-clause-put c =
    let go = by.unseen_on (moved octet_reading c.args.kasmes.now) fits (is_covered c.args.covered.now) c.args.family.now c.args.bound same_net in
    let none : c.args.bound - c.loop-turn._turn ≡ 0 = omega (arith, c.loop-turn-test.false) in
    sym (ap (λ n. go n c.args.rest.now c.loop-turn.way) none) ∙ c.loop-turn.invariant
