use Rattle.std.proofs.Common.{refl, arith, ◌∙◌}
use Rattle.lte_world.proofs.Holders.{holds_none, key_here, held_here, keys_here, held_all, nothing_derived}
use Rattle.lte_world.proofs.noting.hold_all.Goals as goal

pub loop-made-init : goal.loop-made-init
loop-made-init c = (omega arith, refl, holds_none c.args.who c.args.ladder.now.rows, c.requires.stand, refl)

pub hold_one-requires-clause-stands : goal.hold_one-requires-clause-stands
hold_one-requires-clause-stands c =
    key_here c.args.who c.args.ladder.now.rows c.loop-made.ladder.rows c.args.derived.now c.loop-made.made-index _
    c.loop-made-test.true c.loop-made.invariant.3

pub loop-made-preserved : goal.loop-made-preserved
loop-made-preserved c = (
  omega (arith, c.loop-made-test.true),
  c.hold_one.ensures.spare ∙ c.loop-made.invariant.1,
  held_here c.args.who c.args.ladder.now.rows c.loop-made.ladder.rows c.args.derived.now c.loop-made.made-index _
      c.loop-made-test.true c.hold_one.new.ladder.rows c.loop-made.invariant.2 c.hold_one.ensures.held,
  keys_here c.args.who c.args.ladder.now.rows c.loop-made.ladder.rows c.args.derived.now c.loop-made.made-index
      nothing_derived c.loop-made-test.true c.hold_one.new.ladder.rows c.hold_one.ensures.rows c.loop-made.invariant.3,
  c.hold_one.ensures.len ∙ c.loop-made.invariant.4,
)

pub returns-clause-held : goal.returns-clause-held
returns-clause-held c =
    held_all c.args.who c.args.ladder.now.rows c.loop-made.ladder.rows c.args.derived.now c.loop-made.made-index
    (omega (arith, c.loop-made-test.false)) c.loop-made.invariant.2
