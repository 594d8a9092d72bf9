-- Recovery holds of every setup and events in range.
use Rattle.std.proofs.Common.{ℕ, List, take}
use Rattle.std.specs.List.{AllByRecursion as AllOf}
use Rattle.lte_events.specs.{Ranges.IsEvent, Ranges.IsSetup, declared.events.Event.Event, declared.setups.Setup.Setup}
use Rattle.lte_machine.proofs.EventByEvent.{each_of_first}
use Rattle.lte_recovery.specs.Recovery.{Recovery}
use Rattle.lte_recovery.proofs.{InOctets.recovers_in_octets, InOctets.recovers_anew_in_octets, Laws.recovers_in, Laws.recovers_anew_in}

pub recovery : (setup : Setup) (events : List Event) → IsSetup setup → AllOf IsEvent events → Recovery setup events
recovery setup events set are =
    let first : (n : ℕ) → AllOf IsEvent (take n events) = λ n. each_of_first n events are in
    record {
      reconnects = λ n w u cell runs heals can. recovers_in setup (take n events) set (first n) w runs u cell heals can;
      octets = λ n. recovers_in_octets setup (take n events) set (first n);
      restarts = λ n w u cell ksi octets runs heals can. recovers_anew_in setup (take n events) set (first n) w runs u cell ksi octets heals can;
      octets_anew = λ n. recovers_anew_in_octets setup (take n events) set (first n);
    }
