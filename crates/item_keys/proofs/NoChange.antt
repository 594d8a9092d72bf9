-- With one authentication at most no key is changed: the core asks for no change, and no station makes a key by one.
use Rattle.std.proofs.Common.{◌≡◌, refl, ap, ◌∙◌, subst, ℕ, ◌+◌, ◌≤◌, Bool, true, false, cond, List, [], ◌∷◌, Option, Some, None, Result, Ok, Err, inl, inr, arith}
use Rattle.std.specs.Prelude.{⊤, ◌⊎◌}
use Rattle.std.specs.List.{count_by, AllByRecursion as AllOf}
use Rattle.std.proofs.lemmas.List.Sums.{sum_by-cons}
use Rattle.rec_base.specs.declared.faults.RecFault.{RecFault}
use Rattle.lte_events.specs.{declared.events.Event.Event, declared.lines.Who.Who}
use Rattle.key_model.specs.{Term.Term, Reading.Reading, Reading.term_reading_by}
use Rattle.s1x2_rec.specs.{Content.Content, Content.map_content}
use Rattle.s1x2_rec.specs.Fields.{Fields, ContextModification}
use Rattle.lte_machine.specs.{Bearers.which, CoreKeys.CoreDone, CoreStep.core_opens, CoreStep.core_pdu_in, CoreStep.core_step, CoreStep.plain_core, CoreChoice.core_fields_row, CoreChoice.core_act_row, StationChoice.record_row, StationChoice.air_front, StationChoice.air_row, StationChoice.act_row}
use Rattle.lte_machine.specs.CoreState.{Core, CoreContext, CoreInput, CoreActs, CoreNasPdu, CoreRecord, CoreLink, CorePartial}
use Rattle.lte_machine.specs.{Machines.machine_by, PhoneChoice.phone_row, PhoneState.PhoneInput}
use Rattle.lte_machine.specs.Opening.{Opening, Outcome}
use Rattle.lte_machine.specs.PhoneStep.{plain_phone, front_of, phone_root, phone_opens, phone_pdu_in, phone_step}
use Rattle.lte_machine.specs.StationRecords.{source_release}
use Rattle.lte_machine.specs.Reply.{From, ByChange, Made, Origin, Reply, unseen}
use Rattle.lte_machine.specs.Run.{Running, replay, report, EventReport, Reported, Coincided}
use Rattle.lte_machine.specs.StationState.{Station, StationInput, StationActs, AirPdu, StationRecord, Interface}
use Rattle.lte_machine.specs.StationStep.{plain_station, station_opens, station_pdu_in, station_step}
use Rattle.lte_machine.specs.Wire.{KeyUse, Outgoing, SealedNas, PlainNas, SealedRrc, UserPacket, Between}
use Rattle.lte_machine.specs.World.{Machine, Line, with_one, phone_turn, core_turn, turn_of, content_in, happens}
use Rattle.lte_machine.proofs.CoreCases.{NasCases, nas_case, RecordCases, record_case, ActCases, act_case}
use Rattle.lte_machine.proofs.NasFacts.{NasHas, nas_row, nas_has}
use Rattle.lte_machine.proofs.StationCases as station
use Rattle.lte_machine.proofs.StationCases.{Any}
use Rattle.lte_machine.proofs.{KnownLists.OfSome, KnownLists.all_one, KnownLists.all_each, PhoneGives.NotBetween, PhoneGives.phone_gives, RecordFacts.RecordHas as StationHas, RecordFacts.record_has as station_has, Routing.Turns, Routing.happens_by, StillRun.goes_on, StillRun.still_one, Tests.Anything, Worlds.TheWorld}
use Rattle.item_keys.specs.Few.{is_both}
use Rattle.item_keys.proofs.ChainSteps.{told_first}

-- WHAT IS SENT AND MADE

-- these are no order of the core to change a key
abbrev NoOrder : Fields → Type 0
NoOrder (ContextModification conn next) = ⊥
NoOrder other = ⊤

abbrev pub NoChange : Outgoing Term ℕ → Type 0
NoChange (Between to fields key) = NoOrder fields
NoChange other = ⊤

-- a station came to a key not by such an order
abbrev pub NotByChange : From Term → Type 0
NotByChange (ByChange before) = ⊥
NotByChange other = ⊤

abbrev pub NotChanged : Made Term ℕ → Type 0
NotChanged made = NotByChange made.from

-- THE CORE

abbrev IsNone : {A : Type 0} → Option A → Type 0
IsNone None = ⊤
IsNone (Some x) = ⊥

-- it has not both, what an authentication left and a context in use
abbrev Apart : Option (CorePartial Term) → Option (CoreContext Term) → Type 0
Apart None context = ⊤
Apart (Some partial) context = IsNone context

-- a connection has a context
abbrev Linked : Option (CoreContext Term) → Option (CoreLink Term ℕ) → Type 0
Linked None link = IsNone link
Linked (Some context) link = ⊤

abbrev Once : Option (CorePartial Term) → Option (CoreContext Term) → Option (CoreLink Term ℕ) → Type 0
Once partial context link = Apart partial context × Linked context link

-- before the first authentication it has neither
abbrev Never : Option (CorePartial Term) → Option (CoreContext Term) → Type 0
Never partial context = IsNone partial × IsNone context

apart_still : (p : Option (CorePartial Term)) (c d : CoreContext Term) → Apart p (Some c) → Apart p (Some d)
apart_still None c d h = tt
apart_still (Some p) c d h = h

linked_still : (c : Option (CoreContext Term)) (l k : CoreLink Term ℕ) → Linked c (Some l) → Linked c (Some k)
linked_still None l k h = h
linked_still (Some c) l k h = tt

unlinked : (c : Option (CoreContext Term)) → Linked c None
unlinked None = tt
unlinked (Some c) = tt

-- what an authentication left, with no context, has no connection
no_link : (p : CorePartial Term) (c : Option (CoreContext Term)) (o : Option (CoreLink Term ℕ)) (l : CoreLink Term ℕ)
    → Once (Some p) c o → o ≡ Some l → ⊥
no_link p None None l h e = cc
no_link p None (Some k) l h e = h.1
no_link p (Some c) o l h e = h.0

-- A STEP OF THE CORE that is no authentication
abbrev Keeps : Core Term ℕ → CoreDone Term ℕ → Type 0
Keeps s d =
    (Once s.partial s.context s.link → Once d.0.partial d.0.context d.0.link × OfSome NoChange d.1.sent)
    × (Never s.partial s.context → Never d.0.partial d.0.context)

module _ (same : Term → Term → Bool) where
  abbrev r : Reading Term ℕ
  r = term_reading_by same

  nas_keeps : (s : Core Term ℕ) (pdu : List ℕ) (outcome : Outcome) → NasCases r (λ t row. NasHas r t pdu outcome row) Keeps s
  nas_keeps s pdu outcome = record {
    nothing = λ t answer. (λ h. (h, tt), λ n. n);
    closed = λ k. (λ h. (h, tt), λ n. n);
    completed = λ count p keys k. (λ h. ((tt, tt), tt), λ n. absurd n.0);
    changed = λ count conn next station p keys k.
        (λ h. absurd (no_link p s.context s.link k.1.link h k.1.stands), λ n. absurd n.0);
    asked = λ count c k. (λ h. ((apart_still s.partial c _ h.0, tt), tt), λ n. absurd n.1);
    opened = λ count text c k. (λ h. ((apart_still s.partial c _ h.0, tt), tt), λ n. absurd n.1);
    rejected = λ count c k. (λ h. ((apart_still s.partial c _ h.0, tt), tt), λ n. absurd n.1);
  }

  record_keeps : (s : Core Term ℕ) → RecordCases r Anything Keeps s
  record_keeps s = record {
    nothing = λ t answer. (λ h. (h, tt), λ n. n);
    switched = λ conn station number alarm link k. (λ h. ((h.0, linked_still s.context link _ h.1), tt), λ n. n);
    asked = λ conn source attempt cell target caps link k. (λ h. ((h.0, linked_still s.context link _ h.1), tt), λ n. n);
    ordered = λ conn source attempt cell ncc algs air k. (λ h. (h, tt), λ n. n);
    notified = λ station link k. (λ h. ((h.0, linked_still s.context link _ h.1), tt), λ n. n);
    cancelled = λ conn source attempt cell target k. (λ h. (h, tt), λ n. n);
  }

  act_keeps : (s : Core Term ℕ) → ActCases r Anything Keeps s
  act_keeps s = record {
    nothing = λ t answer. (λ h. (h, tt), λ n. n);
    started = λ ksi algs caps count p k. (λ h. (h, tt), λ n. absurd n.0);
    set_up = λ conn cell target caps count c k. (λ h. ((h.0, tt), tt), λ n. absurd n.1);
    released = λ conn station k. (λ h. ((h.0, unlinked s.context), tt), λ n. n);
    sent = λ count text c k. (λ h. ((apart_still s.partial c _ h.0, tt), tt), λ n. absurd n.1);
    skipped = λ n c k. (λ h. ((apart_still s.partial c _ h.0, tt), tt), λ none. absurd none.1);
  }

  -- A STEP OF A STATION

  abbrev Quiet : Station Term ℕ × Reply Term ℕ → Type 0
  Quiet d = OfSome NoChange d.1.sent × OfSome NotChanged d.1.made

  released_quiet : (conn : ℕ) (origin : Option Origin) → OfSome NoChange (source_release {K = Term} {C = ℕ} conn origin)
  released_quiet conn None = tt
  released_quiet conn (Some o) = tt

  module _ (s : Station Term ℕ) where
    record_quiet : (on : Interface) (fields : Fields) → station.RecordCases r s (λ row key. StationHas r s on fields row × NoOrder fields) Quiet
    record_quiet on fields = record {
      nothing = λ answer. (tt, tt);
      given = λ conn cell caps algs air kenb k. (tt, tt);
      released = λ key k. (tt, tt);
      taken = λ conn origin pair k. (released_quiet conn origin, tt);
      by_s1 = λ w pair k. (tt, tt);
      by_x2 = λ w star k. (tt, tt);
      answered = λ order key k. (tt, tt);
      cancelled = λ from key k. (tt, tt);
      left = λ key k. (tt, tt);
      renewed = λ conn number air count c e kenb k. absurd (subst NoOrder k.0.fields_is k.1);
    }

    air_quiet : station.AirCases r s Any Quiet
    air_quiet = record {
      nothing = λ answer. (tt, tt);
      secured = λ count k. (tt, tt);
      opened = λ srb count text k. (tt, tt);
      packet = λ drb count text k. (tt, tt);
      by_s1 = λ at count k p e. (tt, tt);
      within = λ at count origin k p e. (tt, tt);
      by_x2 = λ at count number k p e. (tt, tt);
    }

    act_quiet : station.ActCases r s Any Quiet
    act_quiet = record {
      nothing = λ answer. (tt, tt);
      by_x2 = λ number target cell k c e. (tt, tt);
      by_s1 = λ number target cell k c e. (tt, tt);
      within = λ number air cell k c e. (tt, tt);
      commanded = λ via order count k c e. (tt, tt);
      cancelled_x2 = λ conn number target k. (tt, tt);
      cancelled_s1 = λ conn number cell k. (tt, tt);
      cancelled_within = λ number k. (tt, tt);
      asked = λ number k c e. (tt, tt);
      packet = λ drb count text k c e. (tt, tt);
      text = λ srb count text k c e. (tt, tt);
      skipped = λ on n k. (tt, tt);
    }

    -- a record that was read is no such order
    abbrev ReadOk : Result (Content Term ℕ) RecFault → Type 0
    ReadOk (Err fault) = ⊤
    ReadOk (Ok content) = NoOrder content.fields

    abbrev InputOk : StationInput Term ℕ → Type 0
    InputOk (StationRecord on read) = ReadOk read
    InputOk other = ⊤

    step_quiet : (i : StationInput Term ℕ) (outcome : Outcome) → InputOk i → Quiet (station_step r s i outcome)
    step_quiet (StationActs act) outcome f = station.act_case r s Quiet Any act_quiet (act_row (plain_station r s) act) tt
    step_quiet (AirPdu air bearer pdu) outcome f =
        station.air_case r s Quiet Any air_quiet (air_row (plain_station r s) (air_front (plain_station r s) air (which bearer) pdu) outcome) tt
    step_quiet (StationRecord on (Err fault)) outcome f = (tt, tt)
    step_quiet (StationRecord on (Ok content)) outcome f =
        station.record_case r s Quiet (λ row key. StationHas r s on content.fields row × NoOrder content.fields) (record_quiet on content.fields)
        (record_row (plain_station r s) on (Ok (map_content unseen r.ncc content))) content.key (station_has r s on content, f)

-- EVERY EVENT

-- whether a report is of an authentication
abbrev pub joint : EventReport Term → Bool
joint (Reported l) = is_both l.who
joint (Coincided coincidence) = false

-- so far no change was asked for, and none made
abbrev pub NoneChanged : TheWorld → Type 0
NoneChanged w = Once w.core.partial w.core.context w.core.link × AllOf NoChange w.sent × AllOf NotChanged w.made

abbrev pub NoContext : TheWorld → Type 0
NoContext w = Never w.core.partial w.core.context

-- an event that is no authentication keeps both; behind the first authentication no key is changed yet
abbrev pub Goes : TheWorld → TheWorld → Who → Type 0
Goes w u who = ((is_both who ≡ false) × NoneChanged u × (NoContext w → NoContext u)) ⊎ ((is_both who ≡ true) × (NoContext w → NoneChanged u))

none_between : (o : Option (Outgoing Term ℕ)) → NotBetween o → OfSome NoChange o
none_between None h = tt
none_between (Some (SealedNas dir header u e text)) h = tt
none_between (Some (PlainNas octets)) h = tt
none_between (Some (SealedRrc dir station air srb u e text)) h = tt
none_between (Some (UserPacket dir station air drb e text)) h = tt
none_between (Some (Between to fields key)) h = absurd h

module _ (same : Term → Term → Bool) (root : ℕ → List ℕ → Term) (octets : Outgoing Term ℕ → List ℕ)
    (sender : Option (Outgoing Term ℕ) → Option (KeyUse Term))
    (opener : Opening Term → List ℕ → Option (Outgoing Term ℕ) → Outcome) where
  abbrev m : Machine Term ℕ (Outgoing Term ℕ)
  m = machine_by same root octets sender opener

  module _ (w : TheWorld) (h : NoneChanged w) where
    core_goes : (d : CoreDone Term ℕ) → Keeps w.core d
        → (Once d.0.partial d.0.context d.0.link × AllOf NoChange (with_one d.1.sent w.sent) × AllOf NotChanged w.made)
        × (NoContext w → Never d.0.partial d.0.context)
    core_goes d k = let now = k.0 h.0 in ((now.0, all_one NoChange d.1.sent w.sent h.1 now.1, h.2), k.1)

    abbrev Gone : TheWorld × Line Term → Type 0
    Gone done = Goes w done.0 done.1.who

    core_turned : (input : CoreInput Term ℕ) (came : Option (Outgoing Term ℕ)) → ((outcome : Outcome) → Keeps w.core (core_step (term_reading_by same) w.core input outcome))
        → Gone (core_turn m w input came)
    core_turned input came k =
        let outcome = opener (core_opens (term_reading_by same) w.core input) (core_pdu_in input) came in
        let gone = core_goes (core_step (term_reading_by same) w.core input outcome) (k outcome) in
        inl (refl, gone.0, gone.1)

    record_step : (read : Result (Content Term ℕ) RecFault) (outcome : Outcome) → Keeps w.core (core_step (term_reading_by same) w.core (CoreRecord read) outcome)
    record_step (Err fault) outcome = (λ o. (o, tt), λ n. n)
    record_step (Ok content) outcome =
        record_case (term_reading_by same) Anything Keeps w.core (record_keeps same w.core)
        (core_fields_row (plain_core (term_reading_by same) w.core) content.fields) tt

    station_turned : (id : ℕ) (input : StationInput Term ℕ) (came : Option (Outgoing Term ℕ)) (s : Station Term ℕ) → InputOk same s input
        → Gone (turn_of m w id input came (Some s))
    station_turned id input came s f =
        let outcome = opener (station_opens (term_reading_by same) s input) (station_pdu_in input) came in
        let d = station_step (term_reading_by same) s input outcome in
        let quiet = step_quiet same s input outcome f in
        inl (refl, (h.0, all_one NoChange d.1.sent w.sent h.1 quiet.0, all_one NotChanged d.1.made w.made h.2 quiet.1), λ n. n)

    phone_turned : (input : PhoneInput Term) (came : Option (Outgoing Term ℕ)) → Gone (phone_turn m w input came)
    phone_turned input came =
        let r = term_reading_by same in
        let outcome = opener (phone_opens r w.phone input) (phone_pdu_in input) came in
        let d = phone_step r w.phone input outcome in
        let gives = phone_gives same (phone_row (plain_phone r w.phone) (front_of r w.phone input) outcome) (phone_root input) w.phone in
        inl (refl, (h.0, all_one NoChange d.1.sent w.sent h.1 (none_between d.1.sent gives.0), h.2), λ n. n)

    read_ok : (s : Station Term ℕ) (came : Option (Outgoing Term ℕ)) → OfSome NoChange came → ReadOk same s (content_in m came)
    read_ok s None k = tt
    read_ok s (Some (Between to fields key)) k = k
    read_ok s (Some other) k = tt

    turns : Turns m w (λ e. ⊤) (λ to pdu came. OfSome NoChange came) (λ s. ⊤) (λ done a. Gone done)
    turns = record {
      auth = λ ksi key caps is new. inr (refl, λ n. ((n.1, h.0.1), h.1, h.2));
      phone = λ input came turn is. phone_turned input came;
      core_acts = λ act is. core_turned (CoreActs act) None
          (λ outcome. act_case (term_reading_by same) Anything Keeps w.core (act_keeps same w.core)
          (core_act_row (plain_core (term_reading_by same) w.core) act) tt);
      core_nas = λ pdu came is. core_turned (CoreNasPdu pdu) came
          (λ outcome. nas_case (term_reading_by same) (λ t row. NasHas (term_reading_by same) t pdu outcome row) Keeps w.core (nas_keeps same w.core pdu outcome)
          (nas_row (term_reading_by same) w.core pdu outcome) (nas_has (term_reading_by same) w.core pdu outcome));
      core_record = λ pdu came is. core_turned (CoreRecord (content_in m came)) came (record_step (content_in m came));
      station_acts = λ id act is s f. station_turned id (StationActs act) None s tt;
      station_air = λ id air bearer pdu came is s f. station_turned id (AirPdu air bearer pdu) came s tt;
      station_record = λ on id pdu came is s f. station_turned id (StationRecord on (content_in m came)) came s (read_ok s came is);
      none = λ answer. inl (refl, h, λ n. n);
    }

    pub happens_goes : (e : Event) → Gone (happens m w e)
    happens_goes e = happens_by turns (λ to pdu. tt) h.1 (all_each (λ s. ⊤) (λ s. tt) w.stations) e tt

  -- EVERY RUN of one authentication

  module _ (by_octets : Opening Term → List ℕ → Outcome) where
    -- so many authentications were before
    abbrev Before : ℕ → TheWorld → Type 0
    Before n w = NoneChanged w × (n ≡ 0 → NoContext w)

    pub none_changed : (n : ℕ) (w : TheWorld) (es : List Event) (u : TheWorld) → replay by_octets m (Running w) es ≡ Running u
        → Before n w
        → n + count_by joint (report by_octets m (Running w) es) ≤ 1
        → NoneChanged u
    none_changed n w [] u is now few = subst NoneChanged (still_one is) now.0
    none_changed n w (e ∷ es) u is now few =
        by (happens_goes w now.0 e) (λ k. none_changed k (happens m w e).0 es u (goes_on by_octets m w e es u is).1)
      where
        told : count_by joint (report by_octets m (Running w) (e ∷ es))
            ≡ cond (is_both (happens m w e).1.who) 1 0 + count_by joint (report by_octets m (Running (happens m w e).0) es)
        told =
            ap (count_by joint) (told_first same root octets sender opener by_octets w e es u is)
            ∙ sum_by-cons (λ x. cond (joint x) 1 0) (Reported (happens m w e).1) (report by_octets m (Running (happens m w e).0) es)

        -- the other events, behind so many authentications
        Later : Type 0
        Later =
            (k : ℕ) → Before k (happens m w e).0
            → k + count_by joint (report by_octets m (Running (happens m w e).0) es) ≤ 1 → NoneChanged u

        by : Goes w (happens m w e).0 (happens m w e).1.who → Later → NoneChanged u
        by (inl (other, still, never)) later =
            let count = told ∙ ap (λ b. cond b 1 0 + count_by joint (report by_octets m (Running (happens m w e).0) es)) other in
            later n (still, λ z. never (now.1 z)) (omega (arith, count, few))
        by (inr (one, first)) later =
            let count = told ∙ ap (λ b. cond b 1 0 + count_by joint (report by_octets m (Running (happens m w e).0) es)) one in
            let none : n ≡ 0 = omega (arith, count, few) in
            later 1 (first (now.1 none), λ z. absurd cc) (omega (arith, count, few))
