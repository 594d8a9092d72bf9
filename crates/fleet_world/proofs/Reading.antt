-- What is read of a fleet that goes on.
use Rattle.std.proofs.Common.{◌≡◌, sym, ap, subst, ◌∙◌, ℕ, ◌<◌, List, [], length, None, Option}
use Rattle.std.proofs.lemmas.List.{length-replicate}
use Rattle.std.specs.List.{AllByRecursion as AllOf}
use Rattle.lte_events.specs.{Ranges.IsSetup, declared.events.Event.Event, declared.setups.Setup.Setup}
use Rattle.lte_properties.specs.Headline.{Headline}
use Rattle.lte_properties.proofs.HeadlineHolds.{headline}
use Rattle.lte_world.specs.Whole.{Whole}
use Rattle.fleet_world.specs.{declared.faults.FleetFault.FleetFault, Isolation.LinesAreOwn}
use Rattle.fleet_world.specs.Answers.{own_at, owns_of, no_events}
use Rattle.fleet_world.specs.Apart.{IsEventOf, AllAnswered, NoUseTwice, PhonesSeparate}
use Rattle.fleet_world.specs.Fleets.{Fleeted, IsOwn, Stands, StandsUnless, owns_in}
use Rattle.fleet_world.proofs.{Isolating.lines_are_own, Standing.own_stands, BeginsAndGoesOn.stands_of, Together.no_use_twice, Together.phones_separate}
use Rattle.fleet_world.proofs.Separating.{Apart, none_apart, all_apart}

-- no two phones have a key in common after events that were answered by lines
pub phones_apart : (setup : Setup) (phones : ℕ) (events : List (ℕ × Event))
    → AllOf (IsEventOf phones) events
    → AllAnswered setup (no_events phones) events
    → Apart setup (owns_of setup phones events)
phones_apart setup phones events are answered =
    all_apart setup (no_events phones) events (none_apart setup phones)
    (subst (λ n. AllOf (IsEventOf n) events) (sym (length-replicate phones [])) are) answered

module _ (over : Option FleetFault) (setup : Setup) (worlds : List Whole) (journal : List (ℕ × Event)) (now : Fleeted)
    (view : record { setup = setup; worlds = worlds; journal = journal; over = over } ≡ now)
    (inv : StandsUnless over setup worlds journal) (none : now.over ≡ None) where
  h : Stands setup worlds journal
  h = stands_of over setup worlds journal (ap (λ (v : Fleeted). v.over) view ∙ none) inv

  apart : Apart setup (owns_of setup (length worlds) journal)
  apart = phones_apart setup (length worlds) journal h.events h.answered

  pub begins : IsSetup now.setup
  begins = subst (λ (v : Fleeted). IsSetup v.setup) view h.begins

  pub own_is : (p : ℕ) → p < length now.worlds → IsOwn now.setup (length now.journal) (own_at (owns_in now) p)
  own_is p low =
      subst (λ (v : Fleeted). IsOwn v.setup (length v.journal) (own_at (owns_in v) p)) view
      (own_stands setup worlds journal h p (subst (λ (v : Fleeted). p < length v.worlds) (sym view) low))

  pub answered : AllAnswered now.setup (no_events (length now.worlds)) now.journal
  answered = subst (λ (v : Fleeted). AllAnswered v.setup (no_events (length v.worlds)) v.journal) view h.answered

  pub isolation : LinesAreOwn now.setup (length now.worlds) now.journal
  isolation = lines_are_own now.setup (length now.worlds) now.journal answered

  pub freshness : NoUseTwice now.setup (owns_in now)
  freshness = subst (λ (v : Fleeted). NoUseTwice v.setup (owns_in v)) view (no_use_twice setup (owns_of setup (length worlds) journal) h.begins apart)

  pub separation : PhonesSeparate now.setup (owns_in now)
  separation = subst (λ (v : Fleeted). PhonesSeparate v.setup (owns_in v)) view (phones_separate setup (owns_of setup (length worlds) journal) h.begins apart)

  pub each_headline : (p : ℕ) → p < length now.worlds → Headline now.setup (own_at (owns_in now) p)
  each_headline p low = headline now.setup (own_at (owns_in now) p) begins (own_is p low).in_range
