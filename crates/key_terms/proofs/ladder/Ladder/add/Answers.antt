use Rattle.std.proofs.Common.{sym, ap, subst, ◌∙◌}
use Rattle.std.specs.Option.{option_map, IfSome}
use Rattle.key_terms.specs.Ladder.{HasRoot}
use Rattle.key_terms.proofs.LadderLemmas.{made_by}
use Rattle.key_terms.proofs.ladder.Ladder.add.Goals as goal

pub push-requires-clause-made : goal.push-requires-clause-made
push-requires-clause-made c =
    let found = sym c.find.ensures.row ∙ ap (option_map (λ r. r.0)) c.unwrap-key.ensures in
    let root = subst (λ o. IfSome o (λ key. HasRoot c.args.self.now.rows key c.args.made.now.input)) found c.requires.root in
    made_by c.args.self.now.rows c.args.made.now.key c.args.made.now.input c.args.made.now.out c.unwrap-key.result found c.requires.out root c.requires.sync
