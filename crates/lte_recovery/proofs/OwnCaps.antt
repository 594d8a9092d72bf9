-- In every run that goes on: where phone and core use one KASME, the core has the phone's own capabilities.
use Rattle.std.proofs.Common.{◌≡◌, refl, sym, ap, ◌∙◌, subst, ℕ, ◌+◌, ◌≤◌, ◌==◌, ◌&&◌, arith, Bool, true, false, List, [], ◌∷◌, ◌++◌, map, Option, Some, None, inl, inr}
use Rattle.std.specs.List.{AllByRecursion as AllOf}
use Rattle.std.proofs.lemmas.Bool.{eqb-true}
use Rattle.rec_base.specs.declared.uses.Dir.TheVariants.{Up, Down}
use Rattle.alg_choice.specs.{Algs.eia2_identity, declared.algs.Algs.Algs, declared.caps.Caps.Caps}
use Rattle.lte_events.specs.{Ranges.IsEvent, declared.acts.CoreAct.CoreAct, declared.addresses.Address.Address, declared.events.Event.Event, declared.setups.Setup.Setup}
use Rattle.key_model.specs.{Derivation.Derivation, HandoverTable.NumberedKey, Reading.Reading, Reading.term_reading_by, Term.Term, Term.Root, Term.Alg, Value.value_of, Value.same_value}
use Rattle.s1x2_rec.specs.Fields.{Fields}
use Rattle.lte_machine.specs.BothRuns.{annex_b_terms}
use Rattle.lte_machine.specs.Ciphers.{Ciphers, annex_b, octets_of}
use Rattle.lte_machine.specs.CoreChoice.{core_act_row}
use Rattle.lte_machine.specs.CoreKeys.{CoreDone}
use Rattle.lte_machine.specs.CoreRows.{CoreActRow, SmcStarted}
use Rattle.lte_machine.specs.CoreState.{CorePartial, CoreContext, CoreInput, CoreActs, CoreNasPdu, CoreRecord}
use Rattle.lte_machine.specs.CoreStep.{core_opens, core_pdu_in, core_step, plain_core}
use Rattle.lte_machine.specs.Distinct.{Member, OneValueOneTerm, keys_of}
use Rattle.lte_machine.specs.Known.{IsReported, SentKnown}
use Rattle.lte_machine.specs.Ladder.{Of, ladder_of}
use Rattle.lte_machine.specs.Machines.{machine_over, sender_of, written_in_values}
use Rattle.lte_machine.specs.Opening.{Opened, Opening, OpensNas, Outcome, judged, open_case, open_octets, same_ciphering, same_uses}
use Rattle.lte_machine.specs.PhoneChoice as choice
use Rattle.lte_machine.specs.PhoneKeys as keys
use Rattle.lte_machine.specs.PhoneRows as row
use Rattle.lte_machine.specs.PhoneState.{NasContext, Partial, PhoneActs, PhoneAirPdu, PhoneAuth, PhoneInput, PhoneNasPdu}
use Rattle.lte_machine.specs.PhoneStep.{phone_opens, phone_step, plain_phone}
use Rattle.lte_machine.specs.Reply.{Reply}
use Rattle.lte_machine.specs.Run.{Running, first_world, replay}
use Rattle.lte_machine.specs.Standing.{RunsTo}
use Rattle.lte_machine.specs.StationState.{AirPdu, Station, StationActs, StationInput, StationRecord}
use Rattle.lte_machine.specs.StationStep.{station_key, station_opens, station_pdu_in, station_row_of, station_step}
use Rattle.lte_machine.specs.Step.{Attempted}
use Rattle.lte_machine.specs.Wire.{Ciphering, KeyUse, Outgoing, SealedNas, PlainNas, SealedRrc, UserPacket, Between, address_of, nas_use}
use Rattle.lte_machine.specs.World.{Line, Machine, authenticated, content_in, core_after, happens, next_root, phone_after, phone_turn, station_after, turn_of, with_one}
use Rattle.lte_machine.proofs.CoreCases as at_core
use Rattle.lte_machine.proofs.PhoneCases as at_phone
use Rattle.lte_machine.proofs.{ActFacts.ActHas, ActFacts.act_has, AnnexB.annex_b_ciphers, AnnexB.under_keys_ciphers, CipherLaws.AreCiphers}
use Rattle.lte_machine.proofs.{History.one_value_one_term, KnownLadder.new_in, KnownLadder.still_in, KnownLists.OfSome, KnownLists.all_each, KnownLists.all_one}
use Rattle.lte_machine.proofs.{KnownWorld.Grounds, KnownWorld.first_grounds, KnownWorld.happens_grounds, LadderRun.one_use, Mixed.by_terms, Mixed.mixed, MixedRun.happens_same}
use Rattle.lte_machine.proofs.{PhoneNasFacts.NasHas, PhoneNasFacts.TakesContext, PhoneNasFacts.nas_has, PhoneNasFacts.phone_nas, Routing.IsTurn, Routing.PhoneGets, Routing.Turns, Routing.happens_by, StillRun.goes_on, Tests.Anything}
use Rattle.lte_properties.specs.Separation.{AnyOf}
use Rattle.lte_properties.proofs.{ChainNumbers.Lists.one_root_more, ChainNumbers.Lists.roots_kept, Opening.Nas.IsRootOf, Opening.Nas.AnyNumber}
use Rattle.lte_recovery.specs.Reconnection.{TheWorld}
use Rattle.lte_recovery.proofs.Heard.{any_member, any_one, foreign_closed}
use Rattle.lte_recovery.proofs.Replayed.{Accepted, Commands, CoreIs, Holds, Keeps, NoCommand, Reads, Said, Starting, Takes, of_context, of_partial, root_of}
use Rattle.lte_recovery.proofs.Replayed.{act_cases, act_holds, air_holds, all_anew, context_anew, nas_cases, nas_holds, record_cases, said_quiet, station_quiet}

one_some : {A : Type 0} (a b : A) (o : Option A) → o ≡ Some a → o ≡ Some b → a ≡ b
one_some {A = A} a b o e f = let same : ◌≡◌ {A = Option A} (Some a) (Some b) = sym e ∙ f in cc

module _ (c : Ciphers Term) (good : AreCiphers c) (between : Fields → Option (NumberedKey Term ℕ) → List ℕ) where
  abbrev m : Machine Term ℕ (Outgoing Term ℕ)
  m = mixed c between

  abbrev r : Reading Term ℕ
  r = term_reading_by same_value

  -- what is so of a world
  abbrev pub Replayed : TheWorld → Type 0
  Replayed w = record {
    core : CoreIs (next_root w) w.core;
    said : AllOf (Said c good (next_root w) (of_partial w.core.partial) (of_context w.core.context)) w.sent;
    accepted : Accepted c good w.sent w.phone.caps (root_of w.phone.context);
  }

  accepted_more : (o : Option (Outgoing Term ℕ)) (xs : List (Outgoing Term ℕ)) (caps : Caps) (root : Option Term) → Accepted c good xs caps root
      → Accepted c good (with_one o xs) caps root
  accepted_more o xs caps None h = tt
  accepted_more o xs caps (Some root) h = any_one (Commands c good root caps) o xs h

  module _ (w : TheWorld) (g : Grounds w) (h : Replayed w) where
    abbrev n : ℕ
    n = next_root w

    abbrev ToSay : Outgoing Term ℕ → Type 0
    ToSay = Said c good n (of_partial w.core.partial) (of_context w.core.context)

    -- THE WORLD AFTER A STEP

    phone_goes : (done : keys.PhoneDone Term ℕ)
        → Accepted c good w.sent w.phone.caps (root_of done.0.context) × NoCommand done.1.sent × (done.0.caps ≡ w.phone.caps)
        → Replayed (phone_after m w done).0
    phone_goes done k =
        let same : next_root (phone_after m w done).0 ≡ n = roots_kept w.history done.1.derived in
        record {
          core = subst (λ i. CoreIs i w.core) (sym same) h.core;
          said = subst (λ i. AllOf (Said c good i (of_partial w.core.partial) (of_context w.core.context)) (with_one done.1.sent w.sent)) (sym same)
              (all_one ToSay done.1.sent w.sent h.said (said_quiet c good n (of_partial w.core.partial) (of_context w.core.context) done.1.sent k.1));
          accepted = subst (λ o. Accepted c good (with_one done.1.sent w.sent) o (root_of done.0.context)) (sym k.2)
              (accepted_more done.1.sent w.sent w.phone.caps (root_of done.0.context) k.0);
        }

    station_goes : (id : ℕ) (done : Station Term ℕ × Reply Term ℕ) → NoCommand done.1.sent → Replayed (station_after m w id done).0
    station_goes id done quiet =
        let same : next_root (station_after m w id done).0 ≡ n = roots_kept w.history done.1.derived in
        record {
          core = subst (λ i. CoreIs i w.core) (sym same) h.core;
          said = subst (λ i. AllOf (Said c good i (of_partial w.core.partial) (of_context w.core.context)) (with_one done.1.sent w.sent)) (sym same)
              (all_one ToSay done.1.sent w.sent h.said (said_quiet c good n (of_partial w.core.partial) (of_context w.core.context) done.1.sent quiet));
          accepted = accepted_more done.1.sent w.sent w.phone.caps (root_of w.phone.context) h.accepted;
        }

    core_goes : (done : CoreDone Term ℕ)
        → CoreIs n done.0
        × AllOf (Said c good n (of_partial done.0.partial) (of_context done.0.context)) w.sent
        × OfSome (Said c good n (of_partial done.0.partial) (of_context done.0.context)) done.1.sent
        → Replayed (core_after m w done).0
    core_goes done k =
        let same : next_root (core_after m w done).0 ≡ n = roots_kept w.history done.1.derived in
        record {
          core = subst (λ i. CoreIs i done.0) (sym same) k.0;
          said = subst (λ i. AllOf (Said c good i (of_partial done.0.partial) (of_context done.0.context)) (with_one done.1.sent w.sent)) (sym same)
              (all_one (Said c good n (of_partial done.0.partial) (of_context done.0.context)) done.1.sent w.sent k.1 k.2);
          accepted = accepted_more done.1.sent w.sent w.phone.caps (root_of w.phone.context) h.accepted;
        }

    auth_goes : (ksi : ℕ) (octets : List ℕ) (caps : Caps) → ksi ≤ 6 → Replayed (authenticated m w ksi (Root n octets) caps).0
    auth_goes ksi octets caps low =
        let u = (authenticated m w ksi (Root n octets) caps).0 in
        let one : next_root u ≡ n + 1 = one_root_more w.history (Root n octets) in
        let new : IsRootOf AnyNumber (n + 1) (Root n octets) = record { number = n; octets = octets; is = refl; low = omega arith; so = tt } in
        record {
          core = subst (λ i. CoreIs i u.core) (sym one) (
              record {
                ksi = low;
                partial = new;
                context = context_anew c good n octets caps (of_partial w.core.partial) (of_context w.core.context) h.core.context;
              }
              );
          said = subst (λ i. AllOf (Said c good i (Some (Root n octets, caps)) (of_context w.core.context)) w.sent) (sym one)
              (all_anew c good n octets caps (of_partial w.core.partial) (of_context w.core.context) w.sent h.said);
          accepted = h.accepted;
        }

    -- WHAT COMES was sent
    abbrev Came : Address → List ℕ → Option (Outgoing Term ℕ) → Type 0
    Came to pdu None = Unit {0}
    Came to pdu (Some x) = record {
      to : to ≡ address_of x;
      sent : Member x w.sent;
      known : SentKnown (IsReported w) x;
      octets : pdu ≡ octets_of c between x;
    }

    -- THE PHONE TAKES A COMMAND of its partial context

    abbrev then : List (Derivation Term) → List Term
    then ds = keys_of (w.history ++ map Of ds)

    judged_as : (u i : KeyUse Term) (e : Option (Ciphering Term)) (pdu text sent : List ℕ) (ts : List Term) (a b : Bool)
        → OneValueOneTerm ts → same_uses same_value u i ≡ a → Member u.key ts → Member i.key ts
        → open_case c (OpensNas u e) pdu (judged a b sent) ≡ Opened text → u ≡ i
    judged_as u i e pdu text sent ts true b own is here there o = one_use ts own u i here there is
    judged_as u i e pdu text sent ts false b own is here there o = absurd (foreign_closed c between u e pdu text o)

    taken_from : (root : Term) (count : ℕ) (pdu text : List ℕ) (caps : Caps) (ds : List (Derivation Term))
        → OneValueOneTerm (then ds)
        → Member (Alg root 2 eia2_identity) (then ds)
        → Reads pdu caps
        → choice.same_caps w.phone.caps caps ≡ true
        → (came : Option (Outgoing Term ℕ))
        → Came Address.PhoneNas pdu came
        → by_terms c (OpensNas (nas_use Down (Alg root 2 eia2_identity) count) None) pdu came ≡ Opened text
        → Accepted c good w.sent w.phone.caps (Some root)
    taken_from root count pdu text caps ds own here reads same None is o =
        absurd (foreign_closed c between (nas_use Down (Alg root 2 eia2_identity) count) None pdu text o)
    taken_from root count pdu text caps ds own here reads same (Some (SealedNas Down header i f sent)) is o =
        let u = nas_use Down (Alg root 2 eia2_identity) count in
        let one : u ≡ i =
        judged_as u i None pdu text sent (then ds) (same_uses same_value u i) (same_ciphering same_value None f) own refl here
        (still_in w.history (map Of ds) i.key is.known.0) o in
        any_member (Commands c good root w.phone.caps) (SealedNas Down header i f sent) w.sent is.sent
        (record { key = sym (ap (λ (v : KeyUse Term). v.key) one); replayed = caps; reads = subst (λ t. Reads t caps) is.octets reads; same = same })
    taken_from root count pdu text caps ds own here reads same (Some (SealedNas Up header i f sent)) is o = let bad = is.to in absurd cc
    taken_from root count pdu text caps ds own here reads same (Some (PlainNas octets)) is o =
        absurd (foreign_closed c between (nas_use Down (Alg root 2 eia2_identity) count) None pdu text o)
    taken_from root count pdu text caps ds own here reads same (Some (SealedRrc Up station air srb i f sent)) is o = let bad = is.to in absurd cc
    taken_from root count pdu text caps ds own here reads same (Some (SealedRrc Down station air srb i f sent)) is o = let bad = is.to in absurd cc
    taken_from root count pdu text caps ds own here reads same (Some (UserPacket dir station air drb f sent)) is o =
        absurd (foreign_closed c between (nas_use Down (Alg root 2 eia2_identity) count) None pdu text o)
    taken_from root count pdu text caps ds own here reads same (Some (Between to fields key)) is o =
        absurd (foreign_closed c between (nas_use Down (Alg root 2 eia2_identity) count) None pdu text o)

    module _ (pdu : List ℕ) (came : Option (Outgoing Term ℕ)) (is : Came Address.PhoneNas pdu came) where
      abbrev outcome : Outcome
      outcome = by_terms c (keys.nas_expects r (phone_nas r w.phone pdu) w.phone) pdu came

      from : (algs : Algs) (count : ℕ) (p : Partial Term) (f : TakesContext r w.phone pdu outcome algs count) (ds : List (Derivation Term))
          → w.phone.partial ≡ Some p
          → OneValueOneTerm (then ds)
          → Member (Alg p.root 2 eia2_identity) (then ds)
          → Accepted c good w.sent w.phone.caps (Some p.root)
      from algs count p f ds holds own here =
          let expects : keys.nas_expects r (phone_nas r w.phone pdu) w.phone ≡ OpensNas (nas_use Down (Alg p.root 2 eia2_identity) count) None =
          ap (λ x. keys.nas_expects r x w.phone) f.front ∙ ap (λ o. keys.command_expects r count algs o) holds in
          taken_from p.root count pdu f.text f.caps ds own here
          (record { header = f.by.header_is; ksi = f.by.partial.ksi; algs = algs; is = f.by.reads }) f.same came is
          (ap (λ o. by_terms c o pdu came) (sym expects) ∙ f.opened)

      takes : (x : row.NasRow) → NasHas r w.phone pdu outcome x → OneValueOneTerm (then (keys.nas_does r x w.phone).1.derived)
          → Takes c good n w.sent w.phone x
      takes (row.ContextTaken algs count) f own = λ p holds.
          let ds = (keys.context_taken r algs count w.phone (Some p)).1.derived in
          from algs count p f ds holds (subst (λ o. OneValueOneTerm (then (keys.context_taken r algs count w.phone o).1.derived)) holds own)
          (new_in w.history (map Of ds) (Alg p.root 2 eia2_identity) (inr (inr (inl refl))))
      takes (row.ContextTakenConnected algs count) f own = λ p holds.
          let ds = (keys.context_taken_connected r algs count w.phone (Some p)).1.derived in
          from algs count p f.0 ds holds (subst (λ o. OneValueOneTerm (then (keys.context_taken_connected r algs count w.phone o).1.derived)) holds own)
          (new_in w.history (map Of ds) (Alg p.root 2 eia2_identity) (inr (inl refl)))
      takes other f own = tt

    -- EVERY EVENT

    starts : (act : CoreAct) (x : CoreActRow) → ActHas w.core act x → Starting c good n w.sent w.core x
    starts act (SmcStarted ksi algs caps count) f = λ p holds.
        let one : f.partial ≡ p = one_some f.partial p w.core.partial f.holds holds in
        (f.ksi_is ∙ ap (λ (x : CorePartial Term). x.ksi) one, f.caps_is ∙ ap (λ (x : CorePartial Term). x.caps) one)
    starts act other f = tt

    abbrev Left : TheWorld × Line Term → Attempted Term (Outgoing Term ℕ) → Type 0
    Left done a = OneValueOneTerm (keys_of done.0.history) → Replayed done.0

    abbrev opened : Opening Term → List ℕ → Option (Outgoing Term ℕ) → Outcome
    opened = by_terms c

    phone_turns : (input : PhoneInput Term) (came : Option (Outgoing Term ℕ)) → IsTurn input → PhoneGets IsEvent Came input came
        → OneValueOneTerm (keys_of (phone_turn m w input came).0.history)
        → Replayed (phone_turn m w input came).0
    phone_turns (PhoneAuth ksi root) came turn is own = absurd turn
    phone_turns (PhoneActs act) (Some x) turn is own = absurd is
    phone_turns (PhoneActs act) None turn is own =
        phone_goes (phone_step r w.phone (PhoneActs act) (opened (phone_opens r w.phone (PhoneActs act)) [] None))
        (at_phone.act_case r Anything (Holds c good n w.sent) w.phone (act_holds c good n w.sent w.phone) _ tt h.accepted)
    phone_turns (PhoneNasPdu pdu) came turn is own =
        let outcome = opened (phone_opens r w.phone (PhoneNasPdu pdu)) pdu came in
        let x = choice.nas_row w.phone.caps (plain_phone r w.phone).context (plain_phone r w.phone).radio (phone_nas r w.phone pdu) outcome in
        phone_goes (phone_step r w.phone (PhoneNasPdu pdu) outcome)
        (at_phone.nas_case r (Takes c good n w.sent) (Holds c good n w.sent) w.phone (nas_holds c good n w.sent w.phone) x
        (takes pdu came is x (nas_has r w.phone pdu outcome) own) h.accepted)
    phone_turns (PhoneAirPdu station air bearer pdu) came turn is own =
        let input = PhoneAirPdu station air bearer pdu in
        phone_goes (phone_step r w.phone input (opened (phone_opens r w.phone input) pdu came))
        (at_phone.air_case r Anything (Holds c good n w.sent) w.phone (air_holds c good n w.sent w.phone) _ tt h.accepted)

    station_turns : (id : ℕ) (input : StationInput Term ℕ) (came : Option (Outgoing Term ℕ)) (s : Station Term ℕ)
        → Replayed (turn_of m w id input came (Some s)).0
    station_turns id input came s =
        let outcome = opened (station_opens r s input) (station_pdu_in input) came in
        station_goes id (station_step r s input outcome) (station_quiet s (station_row_of r s input outcome) (station_key input))

    turns : Turns m w IsEvent Came (λ s. Unit {0}) Left
    turns = record {
      auth = λ ksi octets caps is new own. auth_goes ksi octets caps is.0;
      phone = λ input came turn is own. phone_turns input came turn is own;
      core_acts = λ act is own.
          core_goes (core_step r w.core (CoreActs act) (opened (core_opens r w.core (CoreActs act)) [] None))
          (at_core.act_case r (Starting c good n w.sent) (Keeps c good n w.sent) w.core (act_cases c good n w.sent w.core)
          (core_act_row (plain_core r w.core) act) (starts act (core_act_row (plain_core r w.core) act) (act_has r w.core act)) h.core h.said);
      core_nas = λ pdu came is own.
          core_goes (core_step r w.core (CoreNasPdu pdu) (opened (core_opens r w.core (CoreNasPdu pdu)) pdu came))
          (at_core.nas_case r Anything (Keeps c good n w.sent) w.core (nas_cases c good n w.sent w.core) _ tt h.core h.said);
      core_record = λ pdu came is own.
          let input : CoreInput Term ℕ = CoreRecord (content_in m came) in
          core_goes (core_step r w.core input (opened (core_opens r w.core input) (core_pdu_in input) came))
          (at_core.record_case r Anything (Keeps c good n w.sent) w.core (record_cases c good n w.sent w.core) _ tt h.core h.said);
      station_acts = λ id act is s f own. station_turns id (StationActs act) None s;
      station_air = λ id air bearer pdu came is s f own. station_turns id (AirPdu air bearer pdu) came s;
      station_record = λ on id pdu came is s f own. station_turns id (StationRecord on (content_in m came)) came s;
      none = λ answer own. h;
    }

    came_of : (xs : List (Outgoing Term ℕ)) → ((x : Outgoing Term ℕ) → Member x xs → Member x w.sent) → AllOf (SentKnown (IsReported w)) xs
        → AllOf (λ x. Came (address_of x) (octets_of c between x) (Some x)) xs
    came_of [] here known = tt
    came_of (x ∷ xs) here known = (record { to = refl; sent = here x (inl refl); known = known.0; octets = refl }, came_of xs (λ y k. here y (inr k)) known.1)

    pub happens_replayed : (e : Event) → IsEvent e → OneValueOneTerm (keys_of (happens m w e).0.history) → Replayed (happens m w e).0
    happens_replayed e is =
        happens_by turns (λ to pdu. tt) (came_of w.sent (λ x k. k) g.keys.sent) (all_each (λ s. Unit {0}) (λ s. tt) w.stations) e is

  -- EVERY RUN THAT GOES ON

  abbrev written : Machine Term ℕ (Outgoing Term ℕ)
  written = machine_over same_value c between

  abbrev no_clash : TheWorld → Type 0
  no_clash w = (ladder_of same_value w.history).clash ≡ None

  pub replayed_along : (by_octets : Opening Term → List ℕ → Outcome) (w : TheWorld) (es : List Event) (u : TheWorld) → Grounds w → no_clash w → Replayed w
      → AllOf IsEvent es → replay by_octets written (Running w) es ≡ Running u → Replayed u
  replayed_along by_octets w [] u g calm h are is = let one : w ≡ u = cc in subst Replayed one h
  replayed_along by_octets w (e ∷ es) u g calm h are is =
      let on = goes_on by_octets written w e es u is in
      let next : (happens written w e).0 ≡ (happens m w e).0 = happens_same c between w g calm e on.0 in
      let grounds : Grounds (happens m w e).0 = happens_grounds Root (octets_of c between) sender_of (by_terms c) w e g in
      let own : OneValueOneTerm (keys_of (happens m w e).0.history) =
      one_value_one_term (happens m w e).0.history grounds.ladder (subst no_clash next on.0) in
      replayed_along by_octets (happens written w e).0 es u (subst Grounds (sym next) grounds) on.0
      (subst Replayed (sym next) (happens_replayed w g h e are.0 own)) are.1 on.1

  -- THE CAPABILITIES are the phone's own

  same_is : (a b : Caps) → choice.same_caps a b ≡ true → a ≡ b
  same_is a b e =
      let both = both_so (a.eea == b.eea) (a.eia == b.eia) e in
      let eea : a.eea ≡ b.eea = eqb-true a.eea b.eea both.0 in
      let eia : a.eia ≡ b.eia = eqb-true a.eia b.eia both.1 in λ j. record { eea = eea j; eia = eia j }
    where
      both_so : (x y : Bool) → (x && y) ≡ true → (x ≡ true) × (y ≡ true)
      both_so true y f = (refl, f)
      both_so false y f = absurd cc

  root_is : (a b : Term) → Alg a 2 eia2_identity ≡ Alg b 2 eia2_identity → a ≡ b
  root_is a b e = cc

  found : (next : ℕ) (a : Option (Term × Caps)) (y : Term × Caps) (caps : Caps) (xs : List (Outgoing Term ℕ))
      → AllOf (Said c good next a (Some y)) xs → AnyOf (Commands c good y.0 caps) xs → y.1 ≡ caps
  found next a y caps [] all any = absurd any
  found next a y caps (x ∷ xs) all (inl here) = at x all.0 here
    where
      at : (x : Outgoing Term ℕ) → Said c good next a (Some y) x → Commands c good y.0 caps x → y.1 ≡ caps
      at (SealedNas Down header u e text) says k =
          let fits = says k.replayed k.reads in
          let root : y.0 ≡ fits.root = root_is y.0 fits.root (sym k.key ∙ fits.key) in
          sym (same_is caps k.replayed k.same ∙ fits.context root)
      at other says k = absurd k
  found next a y caps (x ∷ xs) all (inr more) = found next a y caps xs all.1 more

  pub own_caps : (w : TheWorld) → Replayed w → (p : NasContext Term) (k : CoreContext Term) → w.phone.context ≡ Some p → w.core.context ≡ Some k
      → k.nas.root ≡ p.root
      → k.caps ≡ w.phone.caps
  own_caps w h p k at_phone at_core root =
      let accepted : Accepted c good w.sent w.phone.caps (Some p.root) = subst (λ o. Accepted c good w.sent w.phone.caps (root_of o)) at_phone h.accepted in
      found (next_root w) (of_partial w.core.partial) (k.nas.root, k.caps) w.phone.caps w.sent
      (subst (λ o. AllOf (Said c good (next_root w) (of_partial w.core.partial) (of_context o)) w.sent) at_core h.said)
      (subst (λ t. AnyOf (Commands c good t w.phone.caps) w.sent) (sym root) accepted)

module _ (setup : Setup) (events : List Event) (are : AllOf IsEvent events) (w : TheWorld) (is : RunsTo annex_b setup events w) where
  good_ciphers : AreCiphers annex_b_terms
  good_ciphers = under_keys_ciphers value_of annex_b annex_b_ciphers

  pub core_has_own : (p : NasContext Term) (k : CoreContext Term) → w.phone.context ≡ Some p → w.core.context ≡ Some k → k.nas.root ≡ p.root
      → k.caps ≡ w.phone.caps
  core_has_own =
      own_caps annex_b_terms good_ciphers written_in_values w
      (replayed_along annex_b_terms good_ciphers written_in_values (open_octets annex_b_terms) (first_world setup) events w (first_grounds setup) refl
      (record { core = record { ksi = tt; partial = tt; context = tt }; said = tt; accepted = tt }) are is)
