use Rattle.std.proofs.Common.{arith}
use Rattle.key_terms.proofs.Holding.{ladder_holding, index_holding}
use Rattle.key_terms.proofs.ladder.Ladder.hold.Goals as goal

pub invariant_of-self : goal.invariant_of-self
invariant_of-self c = (
  ladder_holding c.args.who c.args.row.0 c.self.inside.rows.items _ c.hold_at.ensures.items c.self.invariant.0,
  omega (arith, c.hold_at.ensures.len),
  index_holding c.self.inside.index c.args.who c.args.row.0 c.self.inside.rows.items _ c.hold_at.ensures.items c.self.invariant.2,
)

pub returns-clause-ladder : goal.returns-clause-ladder
returns-clause-ladder c =
    ladder_holding c.args.who c.args.row.0 c.self.inside.rows.items _ c.hold_at.ensures.items c.self.invariant.0
