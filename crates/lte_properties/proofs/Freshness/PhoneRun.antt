-- The keys that the phone takes are in order in every world of every run.
use Rattle.std.proofs.Common.{◌≡◌, refl, ap, ◌∙◌, subst, ℕ, ◌+◌, List, [], ◌∷◌, ◌++◌, Bool, Option, Some, None}
use Rattle.std.specs.Prelude.{IfSome}
use Rattle.alg_choice.specs.declared.caps.Caps.{Caps}
use Rattle.lte_events.specs.{declared.events.Event.Event, declared.setups.Setup.Setup}
use Rattle.key_model.specs.{Term.Term, Term.Root, Reading.term_reading_by}
use Rattle.lte_machine.specs.{Wire.KeyUse, Wire.Outgoing, Opening.Opening, Opening.Outcome, Reply.Took, StationState.Station, StationState.StationInput, CoreState.CoreInput, Run.first_world}
use Rattle.lte_machine.specs.PhoneState.{Radio, Idle, Connecting, Connected, PhoneInput}
use Rattle.lte_machine.specs.PhoneStep.{phone_step, phone_opens, phone_pdu_in}
use Rattle.lte_machine.specs.StationStep.{station_step, station_opens, station_pdu_in}
use Rattle.lte_machine.specs.CoreStep.{core_step, core_opens, core_pdu_in}
use Rattle.lte_machine.specs.World.{Machine, World, with_one, phone_turn, core_turn, turn_of, authenticated, next_root, happens}
use Rattle.lte_machine.proofs.{Routing.IsTurn, Routing.happens_each, Tests.none_some}
use Rattle.lte_properties.specs.{ChainBelow.AllOf, ChainHolds.machine_by, ChainHolds.run}
use Rattle.lte_properties.proofs.{Freshness.Sequence.IsBefore, Freshness.Sequence.IsNotAfter, Freshness.Order.not_before_itself, Freshness.Run.turn_keeps, Freshness.Run.phone_more, SameKeys.IsReflexive}
use Rattle.lte_properties.proofs.Freshness.Uses.{Home, home_at, Homes}
use Rattle.lte_properties.proofs.Freshness.Stands.{partial_root, phone_mark, RadioStands}
use Rattle.lte_properties.proofs.Freshness.PhoneUses.{TookInOrder, NeverTook, RadioInOrder, PhoneInOrder, PhoneFresh}
use Rattle.lte_properties.proofs.ChainNumbers.Lists.{all_append, all_one, all_map, roots_kept, one_root_more}

-- one more key, that comes after all
order_append : (xs : List (Took Term ℕ)) (x : Took Term ℕ) → TookInOrder xs → AllOf (λ y. IsBefore y.key x.key) xs → TookInOrder (xs ++ x ∷ [])
order_append [] x h k = (tt, tt)
order_append (y ∷ xs) x h k = (all_append (λ z. IsBefore y.key z.key) xs (x ∷ []) h.0 (k.0, tt), order_append xs x h.1 k.1)

-- one more key, if there is one
order_one : (o : Option (Took Term ℕ)) (xs : List (Took Term ℕ))
    → TookInOrder xs
    → IfSome o (λ x. AllOf (λ y. IsBefore y.key x.key) xs)
    → TookInOrder (with_one o xs)
order_one None xs h k = h
order_one (Some x) xs h k = order_append xs x h k

-- all that was taken is where it was taken
all_taken : (taken : Homes) (P : Term → Type 0) (xs : List (Took Term ℕ)) → AllOf (λ x. taken x.key ≡ Some (home_at x.station x.air)) xs →
    ((t : Term) (h : Home) → taken t ≡ Some h → P t) → AllOf (λ x. P x.key) xs
all_taken taken P xs h f =
    all_map (λ (x : Took Term ℕ). taken x.key ≡ Some (home_at x.station x.air)) (λ x. P x.key) (λ x e. f x.key (home_at x.station x.air) e) xs h

-- a key that is taken now comes after all that were taken
after_all : (taken : Homes) (xs : List (Took Term ℕ)) → AllOf (λ x. taken x.key ≡ Some (home_at x.station x.air)) xs → (o : Option (Took Term ℕ)) →
    IfSome o (λ x. (k : Term) (h : Home) → taken k ≡ Some h → IsBefore k x.key) → IfSome o (λ x. AllOf (λ y. IsBefore y.key x.key) xs)
after_all taken xs h None f = tt
after_all taken xs h (Some x) f = all_taken taken (λ t. IsBefore t x.key) xs h f

-- what was taken before a KeNB is not that KeNB
never_took : (kenb : Term) (xs : List (Took Term ℕ)) → AllOf (λ x. IsBefore x.key kenb) xs → NeverTook kenb xs
never_took kenb xs h =
    all_map (λ (x : Took Term ℕ). IsBefore x.key kenb) (λ x. x.key ≡ kenb → ⊥) (λ x b e. not_before_itself kenb (subst (λ t. IsBefore t kenb) e b)) xs h

-- what stands of the radio puts it in order
radio_in_order : (w : World Term ℕ (Outgoing Term ℕ)) (h : PhoneFresh w) (radio : Radio Term ℕ) →
    RadioStands h.roots (partial_root w.phone.partial) (phone_mark w.phone.context) h.taken radio → RadioInOrder w.took radio
radio_in_order w h Idle k = tt
radio_in_order w h (Connecting x) k =
    let before = all_taken h.taken (λ t. IsBefore t x.kenb) w.took h.took k.1 in (before, never_took x.kenb w.took before)
radio_in_order w h (Connected l) k = all_taken h.taken (λ t. IsNotAfter t l.kenb) w.took h.took k.latest

-- what keeps the order gives it
pub in_order : (w : World Term ℕ (Outgoing Term ℕ)) → PhoneFresh w → PhoneInOrder w
in_order w h = (h.order, radio_in_order w h w.phone.radio h.phone.radio)

module _ (same : Term → Term → Bool) (itself : IsReflexive same) (octets : Outgoing Term ℕ → List ℕ) (sender : Option (Outgoing Term ℕ) → Option (KeyUse Term))
    (opener : Opening Term → List ℕ → Option (Outgoing Term ℕ) → Outcome) where
  -- the machine
  abbrev m : Machine Term ℕ (Outgoing Term ℕ)
  m = machine_by same Root octets sender opener

  module _ (w : World Term ℕ (Outgoing Term ℕ)) (h : PhoneFresh w) where
    -- a step of the phone
    phone_turn_order : (input : PhoneInput Term) (came : Option (Outgoing Term ℕ)) → IsTurn input → PhoneFresh (phone_turn m w input came).0
    phone_turn_order input came t =
        let d = phone_step (term_reading_by same) w.phone input (opener (phone_opens (term_reading_by same) w.phone input) (phone_pdu_in input) came) in
        let k = turn_keeps same itself h.roots h.taken w.phone input
        (opener (phone_opens (term_reading_by same) w.phone input) (phone_pdu_in input) came) t h.phone in
        record {
          roots = h.roots;
          taken = k.new;
          counted = roots_kept w.history d.1.derived ∙ h.counted;
          phone = k.stands;
          took = all_one (λ x. k.new x.key ≡ Some (home_at x.station x.air)) d.1.took w.took
              (all_map (λ (x : Took Term ℕ). h.taken x.key ≡ Some (home_at x.station x.air)) (λ x. k.new x.key ≡ Some (home_at x.station x.air))
              (λ x e. k.grows x.key (home_at x.station x.air) e) w.took h.took)
              k.takes;
          order = order_one d.1.took w.took h.order (after_all h.taken w.took h.took d.1.took k.rises);
        }

    -- a step of the core takes no key
    core_turn_order : (input : CoreInput Term ℕ) (came : Option (Outgoing Term ℕ)) → PhoneFresh (core_turn m w input came).0
    core_turn_order input came =
        let d = core_step (term_reading_by same) w.core input (opener (core_opens (term_reading_by same) w.core input) (core_pdu_in input) came) in
        record { roots = h.roots; taken = h.taken; counted = roots_kept w.history d.1.derived ∙ h.counted; phone = h.phone; took = h.took; order = h.order }

    -- nor does one of a station
    station_turn_order : (id : ℕ) (input : StationInput Term ℕ) (came : Option (Outgoing Term ℕ)) (s : Station Term ℕ)
        → PhoneFresh (turn_of m w id input came (Some s)).0
    station_turn_order id input came s =
        let d = station_step (term_reading_by same) s input (opener (station_opens (term_reading_by same) s input) (station_pdu_in input) came) in
        record { roots = h.roots; taken = h.taken; counted = roots_kept w.history d.1.derived ∙ h.counted; phone = h.phone; took = h.took; order = h.order }

    -- an authentication
    auth_order : (ksi : ℕ) (octets' : List ℕ) (caps : Caps) → PhoneFresh (authenticated m w ksi (Root (next_root w) octets') caps).0
    auth_order ksi octets' caps =
        let root = Root (next_root w) octets' in record {
          roots = h.roots + 1;
          taken = h.taken;
          counted = one_root_more w.history root ∙ ap (λ n. n + 1) h.counted;
          phone = phone_more h.roots root h.counted h.taken ksi w.phone h.phone;
          took = h.took;
          order = h.order;
        }

    -- an event
    pub happens_order : (e : Event) → PhoneFresh (happens m w e).0
    happens_order =
        happens_each m w (λ done a. PhoneFresh done.0) auth_order phone_turn_order core_turn_order
        (λ id input came s there own. station_turn_order id input came s)
        (λ answer. record { roots = h.roots; taken = h.taken; counted = h.counted; phone = h.phone; took = h.took; order = h.order })

  -- a run
  pub run_order : (w : World Term ℕ (Outgoing Term ℕ)) (es : List Event) → PhoneFresh w → PhoneFresh (run m w es)
  run_order w [] h = h
  run_order w (e ∷ es) h = run_order (happens m w e).0 es (happens_order w h e)

  -- before the first event
  pub first_order : (setup : Setup) → PhoneFresh (first_world setup)
  first_order setup = record {
    roots = 0;
    taken = λ t. None;
    counted = refl;
    phone = record { kasmes = (tt, tt); keys = tt; past = λ t k e. absurd (none_some e); radio = tt; older = tt; sent = tt };
    took = tt;
    order = tt;
  }

  -- in every run, whatever anybody accepts: the keys that the phone takes are in order, and the KeNB with which it waits was
  -- never taken
  pub phone_always_in_order : (setup : Setup) (es : List Event) → PhoneInOrder (run m (first_world setup) es)
  phone_always_in_order setup es = in_order (run m (first_world setup) es) (run_order (first_world setup) es (first_order setup))
