use Rattle.ladder_text.proofs.Same.{answer_is}
use Rattle.ladder_text.proofs.derivations.Derivations.has.Goals as goal

pub returns : goal.returns
returns c =
    answer_is c.self.inside.lines.entries c.args.self.now c.args.line.now c.key.result _ c.self.invariant c.self.view_is
    c.key.ensures c.contains_key.ensures
