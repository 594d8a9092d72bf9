use Rattle.std.proofs.Common.{[], ◌∷◌, length, map, sym, ap, ◌∙◌}
use Rattle.alg_choice.specs.Algs.{identity_of}
use Rattle.role_wire.proofs.WritingLaws.{two_is}
use Rattle.role_wire.proofs.writing.order_body.Goals as goal

pub returns-in-Some-clause-octets : goal.returns-in-Some-clause-octets
returns-in-Some-clause-octets c =
    let is = two_is c.args.order.now c.first.result c.in-Some.second c.first.ensures c.in-Some.ensures.value c.second.ensures.no_third in
    c.list_of-in-Some.ensures
    ∙ (λ j. c.args.kind ∷ 2 ∷ c.identity-first.ensures j ∷ c.identity.ensures j ∷ [])
    ∙ ap (λ order. c.args.kind ∷ length order ∷ map identity_of order) (sym is)
