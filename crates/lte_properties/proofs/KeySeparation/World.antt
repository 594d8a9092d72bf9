-- Which keys are held and given, in every world of every run.
use Rattle.std.proofs.Common.{◌≡◌, refl, sym, ap, ◌∙◌, subst, ℕ, Bool, List, [], ◌∷◌, Option, Some, None, Result, Err}
use Rattle.std.specs.Prelude.{⊤}
use Rattle.alg_choice.specs.declared.caps.Caps.{Caps}
use Rattle.rec_base.specs.declared.faults.RecFault.{RecFault}
use Rattle.lte_events.specs.{declared.acts.CoreAct.CoreAct, declared.addresses.Address.Address, declared.addresses.Address.TheVariants.CoreS1, declared.answers.Answer.Answer, declared.events.Event.Event, declared.setups.Setup.Setup, declared.setups.StationSetup.StationSetup, Site.Site}
use Rattle.key_model.specs.Term.{Term, Root, IsRoot, IsWellFormed}
use Rattle.key_model.specs.Reading.{term_reading_by}
use Rattle.s1x2_rec.specs.Content.{Content}
use Rattle.lte_machine.specs.Wire.{KeyUse, Outgoing, SealedNas, PlainNas, SealedRrc, UserPacket, Between, address_of}
use Rattle.lte_machine.specs.Opening.{Opening, Outcome, Opened}
use Rattle.lte_machine.specs.{Reply.Tried, Reply.Reply, PhoneState.Phone as PhoneState, PhoneState.PhoneInput, PhoneChoice.phone_row, PhoneRows.Authenticated, PhoneRows.OfAuth, Machines.content_of, Run.stations_of, Run.first_world}
use Rattle.lte_machine.specs.PhoneStep.{plain_phone, front_of, phone_root, phone_opens, phone_pdu_in, phone_step}
use Rattle.lte_machine.specs.StationState.{Station, StationInput, StationActs, AirPdu, StationRecord, Interface}
use Rattle.lte_machine.specs.StationStep.{station_opens, station_pdu_in, station_step}
use Rattle.lte_machine.specs.CoreState.{Core, CoreInput, CoreAuth, CoreActs, CoreNasPdu, CoreRecord}
use Rattle.lte_machine.specs.CoreStep.{core_opens, core_pdu_in, core_received, core_step}
use Rattle.lte_machine.specs.World.{Machine, AtPhone, AtCore, AtStation, with_one, phone_after, core_after, station_after, by_world, phone_turn, core_turn, turn_of, authenticated, next_root, content_in, happens}
use Rattle.lte_properties.specs.{ChainBelow.AllOf, ChainHolds.machine_by, ChainHolds.run, Separation.AnyOf, Separation.GivenTo}
use Rattle.lte_properties.proofs.ChainNumbers.Lists.{OfSome, all_append, all_one, all_old, all_new, all_put, all_map, roots_kept, one_root_more}
use Rattle.lte_properties.proofs.KeySeparation.Keys.{Gifts, GivesIn, given_old, given_new, May, MayHold, StationHas, StationOk, TriedOk, KeyGoes, FlyOk, MadeOk, HoldOk, OutsAre, step_held, OwnPlace}
use Rattle.lte_machine.proofs.Routing.{address_on, IsTurn, no_root, Found, Turns, happens_by, happens_each}
use Rattle.lte_machine.proofs.{PhoneGives.NotBetween, PhoneGives.phone_gives, Worlds.TheWorld}
use Rattle.lte_properties.proofs.KeySeparation.Phone.{PhoneKept, keyless_flies, phone_kept}
use Rattle.lte_properties.proofs.KeySeparation.Core as core
use Rattle.lte_properties.proofs.{KeySeparation.CoreKeeps.CoreOk, KeySeparation.CoreKeeps.CoreKept, KeySeparation.Core.auth_kept}
use Rattle.lte_properties.proofs.KeySeparation.Holders.{HoldersIn, Within, Holders, now, keyless_gives, once_one, core_stays, StationStepped, act_stepped, air_stepped, unread_stepped, record_stepped}

-- what an event leaves: the invariant, and at most one record more, whose key was never given before
pub record Goes (sites : List Site) (w u : TheWorld) : Type 0 where
  pub holders : Holders sites u
  pub sent : Option (Outgoing Term ℕ)
  pub is : u.sent ≡ with_one sent w.sent
  pub fresh : (t : Term) (a b : ℕ) → GivenTo w.sent t a → GivesIn sent t b → ⊥

module _ (sites : List Site) (same : Term → Term → Bool) (octets : Outgoing Term ℕ → List ℕ)
    (sender : Option (Outgoing Term ℕ) → Option (KeyUse Term))
    (opener : Opening Term → List ℕ → Option (Outgoing Term ℕ) → Outcome) where
  abbrev m : Machine Term ℕ (Outgoing Term ℕ)
  m = machine_by same Root octets sender opener

  -- BESIDE THE GIFTS AND ATTEMPTS OF A LATER WORLD

  module _ (w : TheWorld) (xs : List (Outgoing Term ℕ)) (tried : List (Tried Term ℕ)) where
    -- what is later than the world after a step is later than the world before it
    earlier_by : (x : Option (Outgoing Term ℕ)) (one : Option (Tried Term ℕ)) → ((t : Term) (a : ℕ) → GivenTo (with_one x w.sent) t a → GivenTo xs t a)
        → AllOf (λ e. AnyOf (λ f. e ≡ f) tried) (with_one one w.tried)
        → Within xs tried w
    earlier_by x one given known =
        record { given = λ t a g. given t a (given_old x w.sent t a g); tried = all_old (λ e. AnyOf (λ f. e ≡ f) tried) one w.tried known }

    earlier : (e : Event) → Within xs tried (happens m w e).0 → Within xs tried w
    earlier =
        happens_each m w (λ done a. Within xs tried done.0 → Within xs tried w)
        (λ ksi key caps k. earlier_by None None k.given k.tried)
        (λ input came turn k.
        let outcome = opener (phone_opens (term_reading_by same) w.phone input) (phone_pdu_in input) came in
        earlier_by (phone_step (term_reading_by same) w.phone input outcome).1.sent None k.given k.tried)
        (λ input came k.
        let outcome = opener (core_opens (term_reading_by same) w.core input) (core_pdu_in input) came in
        earlier_by (core_step (term_reading_by same) w.core input outcome).1.sent None k.given k.tried)
        (λ id input came s there own k.
        let outcome = opener (station_opens (term_reading_by same) s input) (station_pdu_in input) came in
        let d = station_step (term_reading_by same) s input outcome in
        earlier_by d.1.sent d.1.tried k.given k.tried)
        (λ answer k. earlier_by None None k.given k.tried)

    abbrev G : Gifts
    G = GivenTo xs

    module _ (h : HoldersIn G tried sites w) where
      -- the invariant, where it is no later
      pub record GoesIn (u : TheWorld) : Type 0 where
        pub holders : Within xs tried u → HoldersIn G tried sites u
        pub sent : Option (Outgoing Term ℕ)
        pub is : u.sent ≡ with_one sent w.sent
        pub fresh : (t : Term) (a b : ℕ) → GivenTo w.sent t a → GivesIn sent t b → ⊥

      phone_after_goes : (d : PhoneState Term ℕ × Reply Term ℕ) → d.1.received ≡ None → NotBetween d.1.sent → PhoneKept d → GoesIn (phone_after m w d).0
      phone_after_goes d e keyless k =
          let none = keyless_gives d.1.sent keyless in record {
            holders = λ later. record {
              phone = k.ok;
              core =
                  subst (λ n. CoreOk n (GivenTo (with_one d.1.sent w.sent)) w.core)
                  (sym (roots_kept w.history d.1.derived)) (core_stays d.1.sent w.sent (next_root w) w.core none h.core);
              stations = h.stations;
              flying = all_one (FlyOk G sites tried) d.1.sent w.sent h.flying (keyless_flies G sites tried d.1.sent keyless);
              held = all_append (HoldOk G sites) w.held _ h.held
                  (step_held G sites AtPhone d.1.received d.1.derived (subst (OfSome IsWellFormed) (sym e) tt) k.outs);
              once = once_one d.1.sent w.sent (λ t a b g l. none t b l) h.once;
              tried = h.tried;
              made = h.made;
            };
            sent = d.1.sent;
            is = refl;
            fresh = λ t a b g l. none t b l;
          }

      core_after_goes : (d : Core Term ℕ × Reply Term ℕ)
          → OfSome IsWellFormed d.1.received
          → CoreKept (next_root w) w.sent G sites tried d
          → GoesIn (core_after m w d).0
      core_after_goes d r k = record {
        holders = λ later. record {
          phone = h.phone;
          core = subst (λ n. CoreOk n (GivenTo (with_one d.1.sent w.sent)) d.0) (sym (roots_kept w.history d.1.derived)) k.ok;
          stations = h.stations;
          flying = all_one (FlyOk G sites tried) d.1.sent w.sent h.flying (k.sends (λ t a g. later.given t a (given_new d.1.sent w.sent t a g)));
          held = all_append (HoldOk G sites) w.held _ h.held (step_held G sites AtCore d.1.received d.1.derived r k.outs);
          once = once_one d.1.sent w.sent k.fresh h.once;
          tried = h.tried;
          made = h.made;
        };
        sent = d.1.sent;
        is = refl;
        fresh = λ t a b g l. k.fresh t a b g l;
      }

      station_after_goes : (id : ℕ) (s : Station Term ℕ) (d : Station Term ℕ × Reply Term ℕ)
          → s.id ≡ id
          → StationStepped G sites tried s.id d
          → GoesIn (station_after m w id d).0
      station_after_goes id s d e k = record {
        holders = λ later.
            let known = all_new (λ e. AnyOf (λ f. e ≡ f) tried) d.1.tried w.tried later.tried in record {
              phone = h.phone;
              core =
                  subst (λ n. CoreOk n (GivenTo (with_one d.1.sent w.sent)) w.core) (sym (roots_kept w.history d.1.derived))
                  (core_stays d.1.sent w.sent (next_root w) w.core k.0.gives h.core);
              stations =
                  all_put (StationOk G sites) (StationOk G sites) id d.0 w.stations
                  (record { cells = k.0.cells; keys = subst (λ n. StationHas (May G sites n) (OwnPlace sites n) d.0) (sym k.0.same) k.0.keys })
                  (λ u f g. g) h.stations;
              flying = all_one (FlyOk G sites tried) d.1.sent w.sent h.flying (k.0.sends known);
              held = all_append (HoldOk G sites) w.held _ h.held
                  (step_held G sites (AtStation id) d.1.received d.1.derived (subst (λ n. OfSome (MayHold G sites n) d.1.received) e k.1)
                  (subst (λ n. OutsAre (MayHold G sites n) d.1.derived) e k.0.outs));
              once = once_one d.1.sent w.sent (λ t a b g l. k.0.gives t b l) h.once;
              tried = all_one (TriedOk G) d.1.tried w.tried h.tried k.0.tries;
              made = all_one (MadeOk G sites tried) d.1.made w.made h.made (k.0.makes known);
            };
        sent = d.1.sent;
        is = refl;
        fresh = λ t a b g l. k.0.gives t b l;
      }

      by_world_goes : (answer : Answer) → GoesIn (by_world m w answer).0
      by_world_goes answer = record {
        holders = λ later. record {
          phone = h.phone;
          core = h.core;
          stations = h.stations;
          flying = h.flying;
          held = h.held;
          once = h.once;
          tried = h.tried;
          made = h.made;
        };
        sent = None;
        is = refl;
        fresh = λ t a b g l. l;
      }

      -- AT A STATION

      station_goes : (id : ℕ) (input : StationInput Term ℕ) (came : Option (Outgoing Term ℕ)) (s : Station Term ℕ) → s.id ≡ id →
          ((outcome : Outcome) →
          StationStepped G sites tried s.id (station_step (term_reading_by same) s input outcome)) →
          GoesIn (turn_of m w id input came (Some s)).0
      station_goes id input came s e step =
          let outcome = opener (station_opens (term_reading_by same) s input) (station_pdu_in input) came in
          station_after_goes id s (station_step (term_reading_by same) s input outcome) e (step outcome)

      -- what comes to an address, if it was sent there
      abbrev CameOk : Address → Option (Outgoing Term ℕ) → Type 0
      CameOk to came = OfSome (λ x. (address_of x ≡ to) × FlyOk G sites tried x) came

      station_record_goes : (on : Interface) (id : ℕ) (came : Option (Outgoing Term ℕ)) → CameOk (address_on on id) came →
          (s : Station Term ℕ) → Found w (StationOk G sites) id s →
          GoesIn (turn_of m w id (StationRecord on (content_in m came)) came (Some s)).0
      station_record_goes on id None c s f =
          station_goes id (StationRecord on (Err RecFault.Short)) None s f.own
          (unread_stepped G sites tried same s f.holds on RecFault.Short)
      station_record_goes on id (Some x) c s f =
          station_goes id (StationRecord on (content_of x)) (Some x) s f.own
          (λ outcome. record_stepped G sites tried same s f.holds on x outcome (c.0 ∙ ap (address_on on) (sym f.own)) c.1)

      -- AT THE PHONE

      phone_goes : (input : PhoneInput Term) (came : Option (Outgoing Term ℕ)) → IsTurn input → GoesIn (phone_turn m w input came).0
      phone_goes input came turn =
          let outcome = opener (phone_opens (term_reading_by same) w.phone input) (phone_pdu_in input) came in
          let row = phone_row (plain_phone (term_reading_by same) w.phone) (front_of (term_reading_by same) w.phone input) outcome in
          let k = phone_kept same w.phone row (phone_root input) (no_root IsRoot input turn) h.phone in
          phone_after_goes (phone_step (term_reading_by same) w.phone input outcome) refl
          (phone_gives same row (phone_root input) w.phone).0 (record { ok = k.ok; outs = k.outs })

      -- AT THE CORE

      abbrev Kept : CoreInput Term ℕ → Type 0
      Kept input = (outcome : Outcome) → CoreKept (next_root w) w.sent G sites tried (core_step (term_reading_by same) w.core input outcome)

      core_goes : (input : CoreInput Term ℕ) (came : Option (Outgoing Term ℕ))
          → OfSome IsWellFormed (core_received input)
          → Kept input
          → GoesIn (core_turn m w input came).0
      core_goes input came r k =
          let outcome = opener (core_opens (term_reading_by same) w.core input) (core_pdu_in input) came in
          core_after_goes (core_step (term_reading_by same) w.core input outcome) r (k outcome)

      acts_kept : (act : CoreAct) → Kept (CoreActs act)
      acts_kept act outcome = core.act_step (next_root w) w.sent G sites tried same w.core act outcome h.core

      nas_kept : (pdu : List ℕ) → Kept (CoreNasPdu pdu)
      nas_kept pdu outcome = core.nas_step (next_root w) w.sent G sites tried same w.core pdu outcome h.core

      read_kept : (read : Result (Content Term ℕ) RecFault) → core.ReadOk tried read → Kept (CoreRecord read)
      read_kept read f outcome = core.read_step (next_root w) w.sent G sites tried same w.core read outcome f h.core

      -- no key comes to the core
      no_key_comes : (to : Address) (t : Term) → to ≡ CoreS1 → KeyGoes G sites to t → ⊥
      no_key_comes to t e k = subst (λ a. KeyGoes G sites a t) e k

      core_record_goes : (came : Option (Outgoing Term ℕ)) → CameOk CoreS1 came → GoesIn (core_turn m w (CoreRecord (content_in m came)) came).0
      core_record_goes None c = core_goes (CoreRecord (Err RecFault.Short)) None tt (read_kept (Err RecFault.Short) tt)
      core_record_goes (Some (SealedNas dir header u e text)) c =
          core_goes (CoreRecord (Err RecFault.Short)) (Some (SealedNas dir header u e text)) tt
          (read_kept (Err RecFault.Short) tt)
      core_record_goes (Some (PlainNas pdu)) c = core_goes (CoreRecord (Err RecFault.Short)) (Some (PlainNas pdu)) tt (read_kept (Err RecFault.Short) tt)
      core_record_goes (Some (SealedRrc dir station air srb u e text)) c =
          core_goes (CoreRecord (Err RecFault.Short)) (Some (SealedRrc dir station air srb u e text)) tt
          (read_kept (Err RecFault.Short) tt)
      core_record_goes (Some (UserPacket dir station air drb e text)) c =
          core_goes (CoreRecord (Err RecFault.Short)) (Some (UserPacket dir station air drb e text)) tt
          (read_kept (Err RecFault.Short) tt)
      core_record_goes (Some (Between to fields None)) (_, (_, reads)) =
          core_goes (CoreRecord (content_of (Between to fields None))) (Some (Between to fields None)) tt (read_kept (content_of (Between to fields None)) reads)
      core_record_goes (Some (Between to fields (Some key))) (here, (goes, _)) = absurd (no_key_comes to key.key here goes)

      -- AN EVENT

      authenticated_goes : (ksi : ℕ) (key : List ℕ) (caps : Caps) → GoesIn (authenticated m w ksi (Root (next_root w) key) caps).0
      authenticated_goes ksi key caps = record {
        holders = λ later. record {
          phone = (phone_kept same w.phone (OfAuth (Authenticated ksi)) (Some (Root (next_root w) key)) tt h.phone).ok;
          core =
              subst (λ n. CoreOk n (GivenTo w.sent)
              (core_step (term_reading_by same) w.core (CoreAuth ksi (Root (next_root w) key) caps) (Opened [])).0)
              (sym (one_root_more w.history (Root (next_root w) key)))
              (auth_kept (next_root w) (GivenTo w.sent) w.core ksi caps (Root (next_root w) key) tt refl h.core);
          stations = h.stations;
          flying = h.flying;
          held = all_append (HoldOk G sites) w.held _ h.held (tt, (tt, tt));
          once = h.once;
          tried = h.tried;
          made = h.made;
        };
        sent = None;
        is = refl;
        fresh = λ t a b g l. l;
      }

      turns : Turns m w (λ e. ⊤) (λ to pdu came. CameOk to came) (StationOk G sites) (λ done a. GoesIn done.0)
      turns = record {
        auth = λ ksi key caps is new. authenticated_goes ksi key caps;
        phone = λ input came turn is. phone_goes input came turn;
        core_acts = λ act is. core_goes (CoreActs act) None tt (acts_kept act);
        core_nas = λ pdu came is. core_goes (CoreNasPdu pdu) came tt (nas_kept pdu);
        core_record = λ pdu came is. core_record_goes came is;
        station_acts = λ id act is s f. station_goes id (StationActs act) None s f.own (act_stepped G sites tried same s f.holds act);
        station_air = λ id air bearer pdu came is s f.
            station_goes id (AirPdu air bearer pdu) came s f.own
            (air_stepped G sites tried same s f.holds air bearer pdu);
        station_record = λ on id pdu came is s f. station_record_goes on id came is s f;
        none = by_world_goes;
      }

      event_goes : (e : Event) → GoesIn (happens m w e).0
      event_goes e =
          happens_by turns (λ to pdu. tt)
          (all_map (FlyOk G sites tried) (λ x. (address_of x ≡ address_of x) × FlyOk G sites tried x) (λ x f. (refl, f)) w.sent h.flying) h.stations e tt

  pub happens_goes : (w : TheWorld) → Holders sites w → (e : Event) → Goes sites w (happens m w e).0
  happens_goes w h e =
      let k = event_goes w w.sent w.tried (now sites w h) e in record {
        holders = λ xs tried later. (event_goes w xs tried (h xs tried (earlier w xs tried e later)) e).holders later;
        sent = k.sent;
        is = k.is;
        fresh = k.fresh;
      }

  -- every run keeps it
  pub run_holds : (w : TheWorld) (es : List Event) → Holders sites w → Holders sites (run m w es)
  run_holds w [] h = h
  run_holds w (e ∷ es) h = run_holds (happens m w e).0 es (happens_goes w h e).holders

-- THE FIRST WORLD

stations_first : (G : Gifts) (sites : List Site) (ss : List StationSetup) → AllOf (StationOk G sites) (stations_of sites ss)
stations_first G sites [] = tt
stations_first G sites (s ∷ ss) = (record { cells = refl; keys = record { context = tt; preps = tt } }, stations_first G sites ss)

-- before the first event nobody holds a key
pub first_holds : (setup : Setup) → Holders setup.cells (first_world setup)
first_holds setup xs tried later = record {
  phone = record { partial = tt; context = tt; radio = tt };
  core = record { partial = tt; context = tt; trigger = tt; link = tt; given = λ t id g. absurd g };
  stations = stations_first (GivenTo xs) setup.cells setup.stations;
  flying = tt;
  held = tt;
  once = λ t a b g h. absurd g;
  tried = tt;
  made = tt;
}
