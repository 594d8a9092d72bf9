-- Events that can happen to a system are in their ranges.
use Rattle.std.proofs.{Common.List, Common.All, lemmas.List.Elements.recursion_from_All}
use Rattle.std.specs.List.{AllByRecursion as AllOf}
use Rattle.lte_events.specs.{Ranges.IsEvent, Scenario.CanHappen, declared.events.Event.Event, declared.setups.Setup.Setup}

pub in_range : (setup : Setup) (events : List Event) → All (CanHappen setup) events → AllOf IsEvent events
in_range setup events can = recursion_from_All IsEvent events (λ k d low. (can k d low).0)
