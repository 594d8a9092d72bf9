use Rattle.std.proofs.Common.{◌∙◌, ap, ◌++◌, ◌∷◌, []}
use Rattle.std.specs.List.{zip}
use Rattle.lte_events.specs.FleetListed.{FleetListed}
use Rattle.lte_events.proofs.Paired.{paired_more}
use Rattle.lte_events.proofs.fleets.FleetEvents.put.Goals as goal

pub returns : goal.returns
returns c =
    (λ j. zip (c.push_reserved.ensures.items j) (c.put.ensures.items j))
    ∙ paired_more c.self.inside.phones.items c.self.inside.events.items c.args.phone
    c.args.event.now c.self.invariant
    ∙ ap (λ (list : FleetListed). list.items ++ (c.args.phone, c.args.event.now) ∷ []) c.self.view_is
