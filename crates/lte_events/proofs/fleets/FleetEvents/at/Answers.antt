use Rattle.std.proofs.Common.{◌<◌, ◌∙◌, ap, sym, subst, refl, length, slice_get, arith}
use Rattle.std.proofs.lemmas.Option.{slice_get_read}
use Rattle.lte_events.specs.FleetListed.{FleetListed}
use Rattle.lte_events.proofs.Paired.{paired_places, paired_get}
use Rattle.lte_events.proofs.fleets.FleetEvents.at.Goals as goal

pub index-requires : goal.index-requires
index-requires c =
    let places = paired_places _ _ c.args.number c.self.invariant
    (subst (λ (list : FleetListed). c.args.number < length list.items) (sym c.self.view_is) c.requires) in
    omega (arith, places.0)

pub at-requires : goal.at-requires
at-requires c =
    (paired_places _ _ c.args.number c.self.invariant
    (subst (λ (list : FleetListed). c.args.number < length list.items) (sym c.self.view_is) c.requires)).1

pub returns : goal.returns
returns c =
    let places = paired_places _ _ c.args.number c.self.invariant
    (subst (λ (list : FleetListed). c.args.number < length list.items) (sym c.self.view_is) c.requires) in
    let phone = slice_get_read c.self.inside.phones.items _ c.args.number c.index.result.now refl places.0 c.index.ensures in
    ap (λ (list : FleetListed). slice_get list.items c.args.number) (sym c.self.view_is) ∙ paired_get _ _ c.args.number _ _ phone c.at.ensures
