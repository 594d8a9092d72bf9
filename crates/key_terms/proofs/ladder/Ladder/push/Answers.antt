use Rattle.std.proofs.Common.{ap, arith}
use Rattle.key_terms.proofs.{LadderLemmas.ladder_put, Lookups.index_push}
use Rattle.key_terms.proofs.ladder.Ladder.push.Goals as goal

pub invariant_of-self : goal.invariant_of-self
invariant_of-self c =
    let spare = ap (λ v. v.spare) c.self.view_is in (
      ladder_put c.args.self.now.rows c.self.inside.rows.items _ c.unheld.result c.args.origin c.args.octets
          (ap (λ v. v.rows) c.self.view_is) c.unheld.ensures c.put.ensures.items c.self.invariant.0
          c.requires.new c.requires.made,
      omega (arith, c.put.ensures.len),
      index_push c.self.inside.index c.self.inside.rows.items _ c.unheld.result c.put.ensures.items c.self.invariant.2,
    )

pub returns-clause-ladder : goal.returns-clause-ladder
returns-clause-ladder c =
    ladder_put c.args.self.now.rows c.self.inside.rows.items _ c.unheld.result c.args.origin
    c.args.octets (ap (λ v. v.rows) c.self.view_is) c.unheld.ensures c.put.ensures.items
    c.self.invariant.0 c.requires.new c.requires.made
