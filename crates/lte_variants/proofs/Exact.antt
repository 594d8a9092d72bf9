-- What is told of keys that differ, of a text that is a scenario.
use Rattle.std.proofs.Common.{◌≡◌, sym, subst, ℕ, List, Result, Ok, IfOk}
use Rattle.lte_events.specs.{declared.events.Event.Event, declared.setups.Setup.Setup}
use Rattle.scenario_file.specs.declared.faults.ScenarioFault.{ScenarioFault}
use Rattle.variant_keys.specs.Told.{KeysAreTold}

pub of_text : (reading : Result (Setup × List Event) ScenarioFault) (setup : Setup) (events : List Event) → reading ≡ Ok (setup, events)
    → KeysAreTold setup events
    → IfOk reading (λ s. KeysAreTold s.0 s.1)
of_text reading setup events is told = subst (λ r. IfOk r (λ s. KeysAreTold s.0 s.1)) (sym is) told
