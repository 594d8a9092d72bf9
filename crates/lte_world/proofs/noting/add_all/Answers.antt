use Rattle.std.proofs.{Common.arith, lemmas.Result.err_from_is_err_and}
use Rattle.lte_world.proofs.Deriving.{awaits_at, goes_at, stops_at, all_added}
use Rattle.lte_world.proofs.noting.add_all.Goals as goal

pub add_one-requires-clause-awaits : goal.add_one-requires-clause-awaits
add_one-requires-clause-awaits c =
    awaits_at c.args.ladder.now.rows c.loop-made.ladder.rows c.args.derived.now c.loop-made.made-index _
    c.loop-made-test.true c.loop-made.invariant.2 c.requires.awaits

pub returns-in_err-add_one-clause-added : goal.returns-in_err-add_one-clause-added
returns-in_err-add_one-clause-added c =
    let p = err_from_is_err_and c.from_residual.result c.from_residual.ensures.1 in
    rw (p.1, p.2)
    (stops_at c.args.ladder.now.rows c.loop-made.ladder.rows c.args.derived.now c.loop-made.made-index _
    c.loop-made-test.true c.loop-made.invariant.2 c.add_one.new.ladder.rows _ c.in_err-add_one.ensures.added)

pub loop-made-preserved : goal.loop-made-preserved
loop-made-preserved c = (
  omega (arith, c.loop-made-test.true),
  omega (arith, c.loop-made.invariant.1, c.in_ok-add_one.ensures.spare),
  goes_at c.args.ladder.now.rows c.loop-made.ladder.rows c.args.derived.now c.loop-made.made-index _
      c.loop-made-test.true c.loop-made.invariant.2 c.add_one.new.ladder.rows c.in_ok-add_one.ensures.added,
  omega (arith, c.loop-made.invariant.3, c.in_ok-add_one.ensures.one),
)

pub returns-clause-added : goal.returns-clause-added
returns-clause-added c =
    all_added c.args.ladder.now.rows c.loop-made.ladder.rows c.args.derived.now c.loop-made.made-index
    (omega (arith, c.loop-made-test.false)) c.loop-made.invariant.2
