-- Every key of a run was held by somebody, and each station held the keys that it has.
use Rattle.std.proofs.Common.{◌≡◌, refl, sym, ◌∙◌, subst, ℕ, Bool, List, [], ◌∷◌, ◌++◌, map, Option, Some, None, inl, inr}
use Rattle.std.specs.Prelude.{◌⊎◌, option_map}
use Rattle.std.proofs.lemmas.List.{map-append}
use Rattle.alg_choice.specs.declared.caps.Caps.{Caps}
use Rattle.lte_events.specs.{declared.events.Event.Event, declared.setups.Setup.Setup, declared.setups.StationSetup.StationSetup, Site.Site}
use Rattle.key_model.specs.{Derivation.Derivation, HandoverTable.NumberedKey, Reading.term_reading_by, Term.Term}
use Rattle.lte_machine.specs.{Wire.KeyUse, Wire.Outgoing, Opening.Opening, Opening.Outcome, Reply.Reply, Distinct.keys_of, Distinct.Member, Known.PairKnown, Known.StationKnown, StationState.Station, StationState.StationInput, PhoneState.PhoneInput, CoreState.CoreInput, Run.first_world, Run.stations_of}
use Rattle.lte_machine.specs.Ladder.{RowOrigin, OfRoot, Of, row_key}
use Rattle.lte_machine.specs.StationStep.{station_key, station_opens, station_pdu_in, station_row_of, station_step}
use Rattle.lte_machine.specs.PhoneStep.{phone_step, phone_opens, phone_pdu_in}
use Rattle.lte_machine.specs.CoreStep.{core_step, core_opens, core_pdu_in}
use Rattle.lte_machine.specs.World.{Machine, World, Holder, AtPhone, AtCore, AtStation, Holding, holds, station_after, turn_of, phone_turn, core_turn, by_world, authenticated, next_root, happens}
use Rattle.lte_machine.proofs.{Rows.member_either, KnownLists.AllOut, KnownLists.station_more, KnownLadder.outs_more, KnownStation.station_does_keeps, Routing.found_in, Routing.happens_each, Worlds.TheWorld}
use Rattle.lte_properties.specs.{ChainBelow.AllOf, ChainHolds.machine_by, ChainHolds.run}
use Rattle.lte_properties.specs.Separation.{IsStationOf, HeldBy, WasHeld, AllHeld, OwnHeld}
use Rattle.lte_properties.proofs.{ChainNumbers.Lists.all_map, ChainNumbers.Lists.all_put, KeySeparation.Attempts.Numbered, KeySeparation.Attempts.step_numbered, KeySeparation.Keys.any_before, KeySeparation.Keys.any_behind}

-- WHAT A STEP GIVES ITS ACTOR

abbrev Heres : Holder → List (Derivation Term) → List (Holding Term)
Heres holder ds = map (λ d. record { holder = holder; key = d.out }) ds

here_held : (holder : Holder) (ds : List (Derivation Term)) (t : Term) → Member t (keys_of (map Of ds)) → WasHeld (Heres holder ds) t
here_held holder [] t h = absurd h
here_held holder (d ∷ ds) t (inl e) = inl (sym e)
here_held holder (d ∷ ds) t (inr h) = inr (here_held holder ds t h)

-- each key derived is held then
derived_held : (holder : Holder) (received : Option Term) (ds : List (Derivation Term)) (t : Term)
    → Member t (keys_of (map Of ds))
    → WasHeld (holds holder received ds) t
derived_held holder None ds t h = here_held holder ds t h
derived_held holder (Some key) ds t h = inr (here_held holder ds t h)

-- by the station that derived it
abbrev Own : ℕ → List (Holding Term) → Term → Type 0
Own id held t = HeldBy (λ i. i ≡ id) held t

own_derived : (id : ℕ) (ds : List (Derivation Term)) → AllOut (Own id (Heres (AtStation id) ds)) ds
own_derived id [] = tt
own_derived id (d ∷ ds) = (
  inl (refl, refl),
  outs_more (Own id (Heres (AtStation id) ds)) (Own id (Heres (AtStation id) (d ∷ ds))) (λ t h. inr h) ds
      (own_derived id ds),
)

own_outs : (id : ℕ) (received : Option Term) (ds : List (Derivation Term)) → AllOut (Own id (holds (AtStation id) received ds)) ds
own_outs id None ds = own_derived id ds
own_outs id (Some key) ds = outs_more (Own id (Heres (AtStation id) ds)) (Own id (holds (AtStation id) (Some key) ds)) (λ t h. inr h) ds (own_derived id ds)

-- and so is the key that it received
own_received : (id : ℕ) (ds : List (Derivation Term)) (o : Option (NumberedKey Term ℕ))
    → PairKnown (Own id (holds (AtStation id) (option_map (λ x. x.key) o) ds)) o
own_received id ds None = tt
own_received id ds (Some pair) = inl (refl, refl)

pair_more : (P Q : Term → Type 0) → ((t : Term) → P t → Q t) → (o : Option (NumberedKey Term ℕ)) → PairKnown P o → PairKnown Q o
pair_more P Q f None h = tt
pair_more P Q f (Some pair) h = f pair.key h

module _ (held more : List (Holding Term)) where
  own_before : (id : ℕ) (t : Term) → Own id held t → Own id (held ++ more) t
  own_before id t h = any_before (λ e. IsStationOf (λ i. i ≡ id) e.holder × (e.key ≡ t)) held more h

  own_behind : (id : ℕ) (t : Term) → Own id more t → Own id (held ++ more) t
  own_behind id t h = any_behind (λ e. IsStationOf (λ i. i ≡ id) e.holder × (e.key ≡ t)) held more h

  -- what a station held it has held later too
  own_later : (s : Station Term ℕ) → StationKnown (Own s.id held) s → StationKnown (Own s.id (held ++ more)) s
  own_later s h = station_more (Own s.id held) (Own s.id (held ++ more)) (own_before s.id) s h

  own_all : (ss : List (Station Term ℕ)) → AllOf (λ s. StationKnown (Own s.id held) s) ss → AllOf (λ s. StationKnown (Own s.id (held ++ more)) s) ss
  own_all ss h = all_map (λ s. StationKnown (Own s.id held) s) (λ s. StationKnown (Own s.id (held ++ more)) s) own_later ss h

-- THE INVARIANT

pub record HeldAll (w : World Term ℕ (Outgoing Term ℕ)) : Type 0 where
  pub all : AllHeld w
  pub own : OwnHeld w

-- the keys of a longer history
all_longer : (w : World Term ℕ (Outgoing Term ℕ)) (ms : List (RowOrigin Term)) (more : List (Holding Term))
    → AllHeld w
    → ((t : Term) → Member t (keys_of ms) → WasHeld more t)
    → (t : Term) → Member t (keys_of (w.history ++ ms)) → WasHeld (w.held ++ more) t
all_longer w ms more h f t k = by (member_either t (keys_of w.history) (keys_of ms) (subst (Member t) (map-append row_key w.history ms) k))
  where
    by : Member t (keys_of w.history) ⊎ Member t (keys_of ms) → WasHeld (w.held ++ more) t
    by (inl m) = any_before (λ e. e.key ≡ t) w.held more (h t m)
    by (inr m) = any_behind (λ e. e.key ≡ t) w.held more (f t m)

module _ (same : Term → Term → Bool) (root : ℕ → List ℕ → Term) (octets : Outgoing Term ℕ → List ℕ)
    (sender : Option (Outgoing Term ℕ) → Option (KeyUse Term))
    (opener : Opening Term → List ℕ → Option (Outgoing Term ℕ) → Outcome) where
  abbrev m : Machine Term ℕ (Outgoing Term ℕ)
  m = machine_by same root octets sender opener

  -- after a step of phone or core: what was held, and what it gave out
  beside : (w u : TheWorld) (holder : Holder) (reply : Reply Term ℕ)
      → u.history ≡ w.history ++ map Of reply.derived
      → u.held ≡ w.held ++ holds holder reply.received reply.derived
      → u.stations ≡ w.stations
      → HeldAll w → HeldAll u
  beside w u holder reply e f g h = record {
    all = λ t k.
        subst (λ x. WasHeld x t) (sym f)
        (all_longer w (map Of reply.derived) (holds holder reply.received reply.derived) h.all
        (derived_held holder reply.received reply.derived) t
        (subst (λ x. Member t (keys_of x)) e k));
    own = subst (λ x. AllOf (λ s. StationKnown (Own s.id x) s) u.stations) (sym f)
        (subst (λ x. AllOf (λ s. StationKnown (Own s.id (w.held ++ holds holder reply.received reply.derived)) s) x) (sym g)
        (own_all w.held (holds holder reply.received reply.derived) w.stations h.own));
  }

  phone_held : (w : TheWorld) (input : PhoneInput Term) (came : Option (Outgoing Term ℕ)) → HeldAll w → HeldAll (phone_turn m w input came).0
  phone_held w input came h =
      let d = phone_step (term_reading_by same) w.phone input (opener (phone_opens (term_reading_by same) w.phone input) (phone_pdu_in input) came) in
      beside w (phone_turn m w input came).0 AtPhone d.1 refl refl refl h

  core_held : (w : TheWorld) (input : CoreInput Term ℕ) (came : Option (Outgoing Term ℕ)) → HeldAll w → HeldAll (core_turn m w input came).0
  core_held w input came h =
      let d = core_step (term_reading_by same) w.core input (opener (core_opens (term_reading_by same) w.core input) (core_pdu_in input) came) in
      beside w (core_turn m w input came).0 AtCore d.1 refl refl refl h

  unchanged : (w u : TheWorld) → u.history ≡ w.history → u.held ≡ w.held → u.stations ≡ w.stations → HeldAll w → HeldAll u
  unchanged w u e f g h = record {
    all = λ t k. subst (λ x. WasHeld x t) (sym f) (h.all t (subst (λ x. Member t (keys_of x)) e k));
    own = subst (λ x. AllOf (λ s. StationKnown (Own s.id x) s) u.stations) (sym f)
        (subst (λ x. AllOf (λ s. StationKnown (Own s.id w.held) s) x) (sym g) h.own);
  }

  -- A STATION'S STEP

  stepped : (w : TheWorld) (id : ℕ) (input : StationInput Term ℕ) (s : Station Term ℕ) (outcome : Outcome)
      → s.id ≡ id
      → Numbered s (station_step (term_reading_by same) s input outcome)
      → StationKnown (Own s.id w.held) s → HeldAll w → HeldAll (station_after m w id (station_step (term_reading_by same) s input outcome)).0
  stepped w id input s outcome e n k h =
      let d = station_step (term_reading_by same) s input outcome in
      let more = holds (AtStation id) d.1.received d.1.derived in
      let P : Term → Type 0 = Own id (w.held ++ more) in
      let known : StationKnown P s = station_more (Own s.id w.held) P (λ t o. own_before w.held more id t (subst (λ i. Own i w.held t) e o)) s k in
      let received : PairKnown P (station_key input) =
      pair_more (Own id more) P (own_behind w.held more id) (station_key input) (own_received id d.1.derived (station_key input)) in
      let outs : AllOut P d.1.derived = outs_more (Own id more) P (own_behind w.held more id) d.1.derived (own_outs id d.1.received d.1.derived) in
      let keeps = station_does_keeps same P P (λ t o. o) (station_row_of (term_reading_by same) s input outcome) (station_key input) s received known in
      let here : StationKnown P d.0 = (keeps.1 outs).0 in
      record {
        all = λ t j. all_longer w (map Of d.1.derived) more h.all (derived_held (AtStation id) d.1.received d.1.derived) t j;
        own = all_put (λ u. StationKnown (Own u.id w.held) u) (λ u. StationKnown (Own u.id (w.held ++ more)) u) id d.0 w.stations
            (subst (λ i. StationKnown (Own i (w.held ++ more)) d.0) (sym (n.same ∙ e)) here)
            (λ u no o. own_later w.held more u o) h.own;
      }

  station_held : (w : TheWorld) (id : ℕ) (input : StationInput Term ℕ) (came : Option (Outgoing Term ℕ))
      (s : Station Term ℕ) → s.id ≡ id → StationKnown (Own s.id w.held) s → HeldAll w →
      HeldAll (turn_of m w id input came (Some s)).0
  station_held w id input came s own k h =
      let outcome = opener (station_opens (term_reading_by same) s input) (station_pdu_in input) came in
      stepped w id input s outcome own (step_numbered same s input outcome) k h

  -- AN EVENT

  auth_held : (w : TheWorld) (ksi : ℕ) (key : Term) (caps : Caps) → HeldAll w → HeldAll (authenticated m w ksi key caps).0
  auth_held w ksi key caps h =
      let both : List (Holding Term) = record { holder = AtPhone; key = key } ∷ record { holder = AtCore; key = key } ∷ [] in
      record { all = λ t k. all_longer w (OfRoot key ∷ []) both h.all (root_held key both refl) t k; own = own_all w.held both w.stations h.own }
    where
      root_held : (key : Term) (both : List (Holding Term))
          → both ≡ record { holder = AtPhone; key = key } ∷ record { holder = AtCore; key = key } ∷ []
          → (t : Term)
          → Member t (key ∷ [])
          → WasHeld both t
      root_held key both e t (inl f) = subst (λ x. WasHeld x t) (sym e) (inl (sym f))
      root_held key both e t (inr f) = absurd f

  happens_held : (w : TheWorld) (e : Event) → HeldAll w → HeldAll (happens m w e).0
  happens_held w e h =
      happens_each m w (λ done a. HeldAll done.0)
      (λ ksi key caps. auth_held w ksi (root (next_root w) key) caps h)
      (λ input came turn. phone_held w input came h)
      (λ input came. core_held w input came h)
      (λ id input came s there own. station_held w id input came s own (found_in (λ t. StationKnown (Own t.id w.held) t) id w.stations s h.own there) h)
      (λ answer. unchanged w (by_world m w answer).0 refl refl refl h) e

  pub run_held : (w : TheWorld) (es : List Event) → HeldAll w → HeldAll (run m w es)
  run_held w [] h = h
  run_held w (e ∷ es) h = run_held (happens m w e).0 es (happens_held w e h)

first_own : (sites : List Site) (ss : List StationSetup) → AllOf (λ s. StationKnown (Own s.id []) s) (stations_of sites ss)
first_own sites [] = tt
first_own sites (s ∷ ss) = ((tt, tt), first_own sites ss)

-- before the first event there is no key
pub first_held : (setup : Setup) → HeldAll (first_world setup)
first_held setup = record { all = λ t h. absurd h; own = first_own setup.cells setup.stations }
