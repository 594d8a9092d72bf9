use Rattle.std.proofs.Common.{◌≡◌, true, cond, ◌++◌, ◌∷◌, [], sym, ap, ◌∙◌, rules}
use Rattle.ladder_text.proofs.Same.{answer_is, rows_after_answer, one_more}
use Rattle.ladder_text.proofs.derivations.Derivations.add.Goals as goal

pub returns-else-not-contains_key-clause-rows : goal.returns-else-not-contains_key-clause-rows
returns-else-not-contains_key-clause-rows c =
    let there : c.contains_key.result ≡ true = search rules in
    let answer = answer_is c.self.inside.lines.entries c.args.self.now c.args.line.now c.key-key.result
    c.contains_key.result c.self.invariant c.self.view_is c.key-key.ensures c.contains_key.ensures in
    ap (λ t. cond t c.args.self.now (c.args.self.now ++ c.args.line.now ∷ [])) (sym there)
    ∙ sym (rows_after_answer c.args.self.now c.args.line.now c.contains_key.result answer)

pub returns-in_ok-insert-clause-rows : goal.returns-in_ok-insert-clause-rows
returns-in_ok-insert-clause-rows c =
    let absent = c.if-not-contains_key.true in
    let rows = c.args.self.now in
    let line = c.args.line.now in
    let answer = answer_is c.self.inside.lines.entries rows line c.key-key.result c.contains_key.result c.self.invariant
    c.self.view_is c.key-key.ensures c.contains_key.ensures in
    let more = one_more c.self.inside.lines c.insert.new.map.entries line c.key-key.result c.self.invariant
    c.key-key.ensures (sym c.contains_key.ensures ∙ absent) (search rules) in
    more.1
    ∙ ap (λ rs. rs ++ line ∷ []) c.self.view_is
    ∙ ap (λ t. cond t rows (rows ++ line ∷ [])) (sym absent)
    ∙ sym (rows_after_answer rows line c.contains_key.result answer)

pub invariant_of-self : goal.invariant_of-self
invariant_of-self c =
    let absent = c.if-not-contains_key.true in
    (one_more c.self.inside.lines c.insert.new.map.entries c.args.line.now c.key-key.result c.self.invariant
    c.key-key.ensures (sym c.contains_key.ensures ∙ absent) (search rules)).0
