-- What holds of a scenario that was read: the headline, recovery, and forward and backward security.
use Rattle.std.proofs.Common.{◌≡◌, ℕ, List, Option, Some, None, Ok}
use Rattle.std.specs.Prelude.{IfSome}
use Rattle.edge_io.specs.Told.{Told}
use Rattle.lte_events.specs.{Scenario.IsScenario, declared.events.Event.Event, declared.setups.Setup.Setup}
use Rattle.lte_events.proofs.InRange.{in_range}
use Rattle.lte_properties.specs.Headline.{Headline}
use Rattle.lte_properties.proofs.HeadlineHolds.{headline}
use Rattle.lte_hops.proofs.HopsHold.{hops}
use Rattle.lte_recovery.proofs.RecoveryHolds.{recovery}
use Rattle.scenario_file.specs.Reading.{reading_of}
use Rattle.lte_sec_app.specs.declared.status.Status.{Status}
use Rattle.lte_sec_app.specs.declared.status.Status.TheVariants.{Done, Coincidence}
use Rattle.lte_sec_app.specs.Run.{WhereRun}
use Rattle.lte_sec_app.specs.Scenario.{HasHeadline, HasRecovery, HasHops, HoldsWhereRun}

pub headline_of : (setup : Setup) (events : List Event) → IsScenario setup events → Headline setup events
headline_of setup events is = headline setup events is.can_start (in_range setup events is.can_happen)

pub has_headline : (octets : List ℕ) (setup : Setup) (events : List Event)
    → reading_of octets ≡ Ok (setup, events)
    → IsScenario setup events
    → HasHeadline octets
has_headline octets setup events reads is = record { setup = setup; events = events; reads = reads; ranges = is; holds = headline_of setup events is }

-- what follows at each status
where_follows : (P Q : List ℕ → Type 0) → ((octets : List ℕ) → P octets → Q octets) → (status : Status) (input : Told) → HoldsWhereRun P status input
    → HoldsWhereRun Q status input
where_follows P Q follows status input h = by input.left h
  where
    at : (octets : List ℕ) (status : Status) → WhereRun (P octets) status → WhereRun (Q octets) status
    at octets Done k = follows octets k
    at octets Coincidence k = follows octets k
    at octets status k = tt

    by : (left : Option (List ℕ)) → IfSome left (λ octets. WhereRun (P octets) status) → IfSome left (λ octets. WhereRun (Q octets) status)
    by None k = k
    by (Some octets) k = at octets status k

-- RECOVERY, and forward and backward security, of the same setup and events
pub has_recovery : (status : Status) (input : Told) → HoldsWhereRun HasHeadline status input → HoldsWhereRun HasRecovery status input
has_recovery =
    where_follows HasHeadline HasRecovery
    (λ octets h. record {
      setup = h.setup;
      events = h.events;
      reads = h.reads;
      holds = recovery h.setup h.events h.ranges.can_start (in_range h.setup h.events h.ranges.can_happen);
    })

pub has_hops : (status : Status) (input : Told) → HoldsWhereRun HasHeadline status input → HoldsWhereRun HasHops status input
has_hops =
    where_follows HasHeadline HasHops
    (λ octets h. record { setup = h.setup; events = h.events; reads = h.reads; holds = hops h.setup h.events h.holds })
