-- The headline holds of every setup and events in range.
use Rattle.std.proofs.Common.{◌≡◌, refl, sym, subst, ℕ, List, take}
use Rattle.std.specs.List.{AllByRecursion as AllOf}
use Rattle.lte_events.specs.{Ranges.IsEvent, Ranges.IsSetup, declared.events.Event.Event, declared.setups.Setup.Setup}
use Rattle.key_model.specs.{Term.Root, Value.same_value}
use Rattle.lte_machine.specs.BothRuns.{annex_b_terms, written_run, octet_run}
use Rattle.lte_machine.specs.{ByEvent.IsValueOfRun, Ciphers.annex_b, Ciphers.octets_of, Opening.open_octets, Opening.open_by_uses, World.World}
use Rattle.lte_machine.specs.Machines.{Kept, machine_in_octets, sender_of, written_machine, written_in_values}
use Rattle.lte_machine.specs.Run.{Running, run, first_world}
use Rattle.lte_machine.proofs.{AnnexB.annex_b_ciphers, StillRun.still_is_run, WholeRun.tale_is_value, Worlds.TheWorld}
use Rattle.lte_machine.proofs.EventByEvent.{written_still, ends_at, each_of_first, step_of_value}
use Rattle.lte_properties.specs.{Accounts.UsesAreThoseSent, Agreement.NoneThere, Agreement.Agrees, Headline.Headline, Separation.Separates}
use Rattle.lte_properties.proofs.{AccountsHold.uses_are_sent, KeySeparation.Ever.separation_holds}
use Rattle.lte_properties.proofs.EveryRun.{agrees, none_ever, shared}
use Rattle.lte_properties.proofs.OctetLaws.{uses_octets, joined_octets, no_kasme_octets, packet_told}
use Rattle.lte_properties.proofs.StepByStep.{follows, step_tells, step_completed}

module _ (setup : Setup) (events : List Event) (set : IsSetup setup) (are : AllOf IsEvent events) where
  first : (n : ℕ) → AllOf IsEvent (take n events)
  first n = each_of_first n events are

  value : (n : ℕ) (u : World (List ℕ) ℕ Kept) → octet_run setup (take n events) ≡ Running u → IsValueOfRun setup (take n events) u
  value n u runs = written_still setup (take n events) set (first n) u runs

  agree : (n : ℕ) (w : TheWorld) → written_run setup (take n events) ≡ Running w → Agrees w
  agree n w runs = agrees annex_b annex_b_ciphers setup (take n events) w runs set (first n)

  here : (n : ℕ) (w : TheWorld) → written_run setup (take n events) ≡ Running w → w ≡ run (written_machine annex_b) (first_world setup) (take n events)
  here n w runs = still_is_run (open_octets annex_b_terms) (written_machine annex_b) (first_world setup) (take n events) w runs

  never_there : (m : ℕ) (v : TheWorld)
      → written_run setup (take m events) ≡ Running v
      → (n : ℕ) (w : TheWorld)
      → written_run setup (take n (take m events)) ≡ Running w
      → NoneThere w v
  never_there m v runs n w way =
      let none = none_ever annex_b annex_b_ciphers setup (take m events) v runs set (first m) n in
      subst (λ (a : TheWorld). NoneThere w a) (sym (here m v runs))
      (subst (λ (a : TheWorld). NoneThere a (run (written_machine annex_b) (first_world setup) (take m events)))
      (sym (still_is_run (open_octets annex_b_terms) (written_machine annex_b) (first_world setup) (take n (take m events)) w way)) none)

  pub headline : Headline setup events
  headline = record {
    report = tale_is_value annex_b annex_b_ciphers setup set events are;
    values = value;
    steps = λ k v e u line h. step_of_value setup events set are k v e u line h;
    ends = λ coincidence over. ends_at (open_octets annex_b) (machine_in_octets annex_b) (first_world setup) events coincidence over;
    lines = λ k w e u line is. step_tells setup events k w e u line is;
    agreement = follows setup events set are;
    agrees = agree;
    never = never_there;
    told = λ k w e u line is. step_completed setup events set are k w e u line is;
    joined = λ n u runs. joined_octets setup (take n events) u (value n u runs) set (first n);
    opening = λ k sent h. packet_told setup events set are k sent h;
    freshness = λ n u runs. uses_octets setup (take n events) u (value n u runs);
    all_uses = λ n w runs. subst (λ (v : TheWorld). UsesAreThoseSent v) (sym (here n w runs))
        (uses_are_sent same_value Root (octets_of annex_b_terms written_in_values) sender_of
        (open_by_uses same_value annex_b_terms) (first_world setup) (take n events) refl);
    shared = λ n w runs. shared annex_b annex_b_ciphers setup (take n events) w runs set (first n);
    separation = λ n w runs. subst (λ (v : TheWorld). Separates setup.cells v) (sym (here n w runs))
        (separation_holds same_value annex_b_terms written_in_values setup (take n events));
    no_kasme = λ n u runs. no_kasme_octets setup (take n events) u (value n u runs);
  }
