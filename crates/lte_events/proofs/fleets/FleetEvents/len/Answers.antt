use Rattle.std.proofs.Common.{◌∙◌, ap, sym, length}
use Rattle.lte_events.specs.FleetListed.{FleetListed}
use Rattle.lte_events.proofs.Paired.{paired_length}
use Rattle.lte_events.proofs.fleets.FleetEvents.len.Goals as goal

pub returns : goal.returns
returns c =
    c.len.ensures
    ∙ sym (paired_length c.self.inside.phones.items c.self.inside.events.items c.self.invariant)
    ∙ ap (λ (list : FleetListed). length list.items) c.self.view_is
