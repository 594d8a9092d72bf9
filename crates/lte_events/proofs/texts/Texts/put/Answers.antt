use Rattle.std.proofs.Common.{map, ap, refl, rules, length, ◌≡◌, ◌∙◌, ◌++◌, ◌∷◌, []}
use Rattle.lte_events.specs.Texts.{item_of}
use Rattle.lte_events.proofs.FlatTexts.{items_put}
use Rattle.lte_events.proofs.texts.Texts.put.Goals as goal

pub returns-clause-items : goal.returns-clause-items
returns-clause-items g c =
    let start : c.len.result ≡ length c.self.inside.flat.items = search rules in
    let put = items_put c.self.inside.flat.items c.args.octets.now c.self.inside.pieces.items _ c.self.invariant.0 start refl in
    (λ i. map (item_of (c.append.ensures.items i)) (c.push_reserved.ensures.items i))
    ∙ put
    ∙ ap (λ v. v.items ++ record { tag = c.args.tag; octets = c.args.octets.now } ∷ []) c.self.view_is
