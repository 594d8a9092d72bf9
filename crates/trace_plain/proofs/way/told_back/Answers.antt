use Rattle.std.proofs.Common.{◌≡◌, ◌<◌, ◌-◌, ◌++◌, ◌∷◌, [], append_assoc, append-nil, reverse, sym, ap, subst, ◌∙◌, arith, rules}
use Rattle.std.proofs.lemmas.Option.{get_or_from_slice_get}
use Rattle.trace_plain.specs.Way.{Back}
use Rattle.trace_plain.proofs.Backward.{back_next, back_none}
use Rattle.trace_plain.proofs.way.told_back.Goals as goal

pub loop-at-preserved : goal.loop-at-preserved
loop-at-preserved c = λ all h.
    let inv = c.loop-at.invariant all h in
    let told = c.loop-at.told.items in
    let some : 0 < c.loop-at.at = omega (arith, c.loop-at-test.true) in
    let next = back_next c.args.came.now c.loop-at.at inv.0 inv.1 some in
    let same = c.index-came-at.is ∙ get_or_from_slice_get c.args.came.now (c.loop-at.at - 1) next.one c.index-came-at.result next.is in
    let pushed : c.push.new.items.items ≡ told ++ c.told.result ∷ [] = search rules in
    let is = pushed ∙ ap (λ t. told ++ t ∷ []) (c.told.ensures ∙ ap (λ o. o.told) same) in (
      next.rest,
      subst (λ f. Back c.args.came.now f next.rest) (sym (c.from-at.ensures ∙ ap (λ o. o.from) same)) next.back,
      ap (λ xs. xs ++ next.rest) is ∙ append_assoc told (next.one.told ∷ []) next.rest ∙ ap (λ xs. told ++ xs) (sym next.split) ∙ inv.2,
    )

pub returns-clause-told : goal.returns-clause-told
returns-clause-told c = λ back h.
    let inv = c.loop-at.invariant back h in
    let told = c.loop-at.told.items in
    let none = back_none c.args.came.now c.loop-at.at inv.0 inv.1 (omega (arith, c.loop-at-test.false)) in
    let turned : c.reverse.new.self.items ≡ reverse told = search rules in
    turned ∙ ap reverse (sym (append-nil told) ∙ ap (λ xs. told ++ xs) (sym none) ∙ inv.2)
