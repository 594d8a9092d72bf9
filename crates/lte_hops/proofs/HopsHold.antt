-- Forward and backward security follow from what is known of shared keys and of what sets of stations can derive.
use Rattle.std.proofs.Common.{◌≡◌, refl, sym, ◌∙◌, subst, ℕ, Bool, true, false, List, [], ◌∷◌, inl, inr}
use Rattle.std.specs.Prelude.{◌≢◌, ◌==◌, IsTrue}
use Rattle.std.specs.List.{AllByRecursion as AllOf}
use Rattle.std.proofs.lemmas.Bool.{eqb-true}
use Rattle.lte_events.specs.{Site.Site, declared.events.Event.Event, declared.setups.Setup.Setup}
use Rattle.key_model.specs.{Term.Term, Term.Root, Chain.nh}
use Rattle.lte_machine.specs.Reply.{Origin, From, BySetup, ByAttempt, ByChange, Before, Took, Tried, Handover, BySource, ByTarget}
use Rattle.lte_properties.specs.Separation.{AnyOf, Those, GivenAt, Separates}
use Rattle.lte_properties.specs.SharedKeys.{OutsideCannot, SharedBy, SharedBetween, SharedAt, SharedApart}
use Rattle.lte_properties.specs.Headline.{Headline}
use Rattle.lte_hops.specs.Hops.{TheWorld, CannotCompute, HandedOver, OverS1, OneHop, TwoHops, Backward, Hops}

is_that : (a b : ℕ) → IsTrue (a == b) → a ≡ b
is_that a b h = by (a == b) refl h
  where
    by : (c : Bool) → (a == b) ≡ c → IsTrue c → a ≡ b
    by true e h = eqb-true a b e
    by false e h = absurd cc

module _ (sites : List Site) (w : TheWorld) where
  -- of one handover
  shared : (x : Took Term ℕ) (before : Before Term ℕ) (h : HandedOver w x before) → SharedAt sites w x
      → SharedBy w (nh (Root h.r h.octets) h.n h.i) x.key before.station x.station h.made.from
  shared x before h s =
      subst (SharedBetween w (nh (Root h.r h.octets) h.n h.i) x h.made) h.came (s h.made h.there h.near h.r h.octets h.n h.i h.cell h.key).1

  -- where some attempt is such that those outside cannot, and the station is outside
  module _ (id : ℕ) (key : Term) (o : Origin) (target : ℕ) (chain_key : Term) (target_is : id ≢ target) where
    abbrev Such : Tried Term ℕ → Type 0
    Such e = (e.station ≡ o.source) × (e.attempt ≡ o.attempt) × GivenAt w.sent chain_key o.source target e.kind × OutsideCannot w key o.source target e.kind

    not_those : (id ≢ target) → Those (λ a. a == id) target → ⊥
    not_those other h = other (sym (is_that target id h))

    one : (kind : Handover Term ℕ) → (kind ≡ ByTarget → Unit {0}) → ((star : _) → kind ≡ BySource star → id ≢ o.source)
        → OutsideCannot w key o.source target kind → CannotCompute w id key
    one (BySource star) k source cannot =
        cannot (λ a. a == id) ((λ h. source star refl (sym (is_that o.source id h))), not_those target_is)
    one ByTarget k source cannot = cannot (λ a. a == id) (not_those target_is)

    any : (es : List (Tried Term ℕ)) → AllOf (λ e. (e.station ≡ o.source) → (e.attempt ≡ o.attempt) → (star : _) → e.kind ≡ BySource star → id ≢ o.source) es
        → AnyOf Such es → CannotCompute w id key
    any [] k h = absurd h
    any (e ∷ es) k (inl h) = one e.kind (λ f. tt) (k.0 h.0 h.1) h.3
    any (e ∷ es) k (inr h) = any es k.1 h

  each : {A : Type 0} {P Q : A → Type 0} → ((x : A) → P x → Q x) → (xs : List A) → AllOf P xs → AllOf Q xs
  each f [] h = tt
  each f (x ∷ xs) h = (f x h.0, each f xs h.1)

  always : {A : Type 0} {Q : A → Type 0} → ((x : A) → Q x) → (xs : List A) → AllOf Q xs
  always f [] = tt
  always f (x ∷ xs) = (f x, always f xs)

  two_at : (x : Took Term ℕ) → SharedAt sites w x → (before : Before Term ℕ) → HandedOver w x before
      → (id : ℕ) → id ≢ before.station → id ≢ x.station → CannotCompute w id x.key
  two_at x s before h id source target = by h.made.from (shared x before h s)
    where
      by : (from : From Term) → SharedBy w (nh (Root h.r h.octets) h.n h.i) x.key before.station x.station from → CannotCompute w id x.key
      by (ByAttempt o) k =
          any id x.key o x.station (nh (Root h.r h.octets) h.n h.i) target w.tried
          (always (λ e a b star f. λ same. source (same ∙ k.0)) w.tried) k.1
      by BySetup k = absurd k
      by (ByChange kenb) k = absurd k

  two_hops : SharedApart sites w → TwoHops w
  two_hops s = each two_at w.took s

  one_at : (x : Took Term ℕ) → SharedAt sites w x → (before : Before Term ℕ) → (h : HandedOver w x before) → OverS1 w h.made
      → (id : ℕ) → id ≢ x.station → CannotCompute w id x.key
  one_at x s before h over id target = by h.made.from refl (shared x before h s)
    where
      by : (from : From Term) → h.made.from ≡ from → SharedBy w (nh (Root h.r h.octets) h.n h.i) x.key before.station x.station from → CannotCompute w id x.key
      by (ByAttempt o) is k =
          any id x.key o x.station (nh (Root h.r h.octets) h.n h.i) target w.tried
          (each (λ e f a b star g. absurd (not_both e.kind star (f (is ∙ (λ j. ByAttempt (record { source = sym a j; attempt = sym b j })))) g)) w.tried over) k.1
        where
          not_both : (kind : Handover Term ℕ) (star : _) → kind ≡ ByTarget → kind ≡ BySource star → ⊥
          not_both kind star e f = let bad : ByTarget ≡ BySource star = sym e ∙ f in absurd cc
      by BySetup is k = absurd k
      by (ByChange kenb) is k = absurd k

  one_hop : SharedApart sites w → OneHop w
  one_hop s = each one_at w.took s

  backward : Separates sites w → Backward w
  backward s = λ id t held none d. none ((s.holding (λ a. a == id) t held).0 d)

-- IN EVERY RUN, from what the headline says of shared keys and of who can derive what
pub hops : (setup : Setup) (events : List Event) → Headline setup events → Hops setup events
hops setup events h = record {
  one_hop = λ n w runs. one_hop setup.cells w (h.shared n w runs);
  two_hops = λ n w runs. two_hops setup.cells w (h.shared n w runs);
  backward = λ n w runs. backward setup.cells w (h.separation n w runs);
}
