-- What the core took on NAS was sent by the phone: where both use one KASME, the COUNT that the core expects is not above the phone's next one.
use Rattle.std.proofs.Common.{◌≡◌, refl, sym, ap, ◌∙◌, subst, ℕ, ◌+◌, Bool, true, false, List, [], ◌∷◌, ◌++◌, Option, Some, None, inl, inr}
use Rattle.std.specs.{Prelude.IfSome, List.flat_map, List.AllByRecursion as AllOf}
use Rattle.rec_base.specs.declared.uses.Dir.TheVariants.{Up, Down}
use Rattle.lte_events.specs.{declared.addresses.Address.Address, declared.events.Event.Event}
use Rattle.key_model.specs.{Reading.Reading, Reading.term_reading_by, Term.Term, Term.Root, Value.same_value, HandoverTable.NumberedKey}
use Rattle.s1x2_rec.specs.Fields.{Fields}
use Rattle.lte_machine.specs.Wire.{KeyUse, Ciphering, ciphering_if, nas_use, nas_ciphering, uses_of, Outgoing, SealedNas, PlainNas, SealedRrc, UserPacket, Between, address_of}
use Rattle.lte_machine.specs.{Ciphers.Ciphers, Ciphers.octets_of, CoreStep.core_opens, Ladder.ladder_of, Machines.machine_over, Machines.sender_of, Run.Running, Run.replay}
use Rattle.nas_guard.specs.Seal.{is_ciphered}
use Rattle.lte_machine.specs.CoreKeys.{CoreDone, core_does_nas, core_nas_expects, opens_by_procedure, opens_by_context}
use Rattle.nas_rec.specs.declared.records.NasRecord.{NasRecord}
use Rattle.nas_rec.specs.declared.records.NasRecord.TheVariants.{SecurityModeReject, ServiceRequest, NasData}
use Rattle.lte_machine.specs.CoreRows.{CoreNasRow, NasRefused, PlainReject, SmcComplete, SmcChange, ServiceAsked, NasOpened, SealedReject}
use Rattle.lte_machine.specs.CoreState.{Core, CoreContext, CoreNasPdu}
use Rattle.lte_machine.specs.Distinct.{keys_of, Member, OneValueOneTerm}
use Rattle.lte_machine.specs.Known.{ProcedureKnown, CoreContextKnown, SentKnown, IsReported}
use Rattle.lte_machine.specs.Opening.{Opening, OpensNas, Outcome, Opened, same_uses, same_ciphering, judged, open_case, open_foreign}
use Rattle.lte_machine.specs.World.{Machine, with_one, happens}
use Rattle.lte_machine.proofs.CoreCases.{NasCases, RecordCases, ActCases, nas_case, record_case, act_case}
use Rattle.lte_machine.proofs.{History.one_value_one_term, KnownLists.all_each, KnownWorld.Grounds, KnownWorld.happens_grounds, LadderRun.one_use, Mixed.by_terms, Mixed.mixed, MixedRun.happens_same, Routing.Turns, Routing.happens_by, StillRun.goes_on}
use Rattle.lte_machine.proofs.NasFacts.{NasHas, Completes, Opens, nas_has, nas_row}
use Rattle.lte_properties.specs.Separation.{AnyOf}
use Rattle.lte_recovery.specs.Reconnection.{TheWorld}

-- a message that was sent upwards under a use
abbrev pub IsUnder : KeyUse Term → Outgoing Term ℕ → Type 0
IsUnder u (SealedNas Up header i e text) = u ≡ i
IsUnder u other = ⊥

-- the core's context expects one COUNT more than that of a message that was sent under its keys
abbrev pub HeardIn : List (Outgoing Term ℕ) → Option (CoreContext Term) → Type 0
HeardIn sent None = Unit {0}
HeardIn sent (Some k) = (count : ℕ) × (k.nas.receive ≡ count + 1) × AnyOf (IsUnder (nas_use Up k.nas.keys.int count)) sent

abbrev pub Heard : TheWorld → Type 0
Heard w = HeardIn w.sent w.core.context

-- MORE IS SENT

any_append : (P : Outgoing Term ℕ → Type 0) (xs ys : List (Outgoing Term ℕ)) → AnyOf P xs → AnyOf P (xs ++ ys)
any_append P [] ys h = absurd h
any_append P (x ∷ xs) ys (inl h) = inl h
any_append P (x ∷ xs) ys (inr h) = inr (any_append P xs ys h)

pub any_one : (P : Outgoing Term ℕ → Type 0) (o : Option (Outgoing Term ℕ)) (xs : List (Outgoing Term ℕ)) → AnyOf P xs → AnyOf P (with_one o xs)
any_one P None xs h = h
any_one P (Some x) xs h = any_append P xs (x ∷ []) h

heard_more : (one : Option (Outgoing Term ℕ)) (sent : List (Outgoing Term ℕ)) (o : Option (CoreContext Term)) → HeardIn sent o → HeardIn (with_one one sent) o
heard_more one sent None h = tt
heard_more one sent (Some k) h = (h.0, h.1, any_one (IsUnder (nas_use Up k.nas.keys.int h.0)) one sent h.2)

-- what is so of one of a list is so of some of it
pub any_member : (P : Outgoing Term ℕ → Type 0) (x : Outgoing Term ℕ) (xs : List (Outgoing Term ℕ)) → Member x xs → P x → AnyOf P xs
any_member P x [] m h = absurd m
any_member P x (y ∷ ys) (inl e) h = inl (subst P e h)
any_member P x (y ∷ ys) (inr m) h = inr (any_member P x ys m h)

-- WHAT THE CORE OPENS

module _ (c : Ciphers Term) (between : Fields → Option (NumberedKey Term ℕ) → List ℕ) where
  abbrev m : Machine Term ℕ (Outgoing Term ℕ)
  m = mixed c between

  abbrev r : Reading Term ℕ
  r = term_reading_by same_value

  -- what is foreign does not open
  pub foreign_closed : (u : KeyUse Term) (e : Option (Ciphering Term)) (pdu text : List ℕ) → open_foreign c (OpensNas u e) pdu ≡ Opened text → ⊥
  unfolding open_foreign
  foreign_closed u e pdu text h = absurd cc

  module _ (w : TheWorld) (own : OneValueOneTerm (keys_of w.history)) (g : Grounds w) where
    -- what comes to an address was sent, under keys that were reported
    abbrev Came : Address → List ℕ → Option (Outgoing Term ℕ) → Type 0
    Came to pdu None = Unit {0}
    Came to pdu (Some x) = (to ≡ address_of x) × Member x w.sent × SentKnown (IsReported w) x

    judged_so : (u i : KeyUse Term) (e : Option (Ciphering Term)) (pdu text sent : List ℕ) (a b : Bool) → same_uses same_value u i ≡ a
        → IsReported w u.key
        → IsReported w i.key
        → open_case c (OpensNas u e) pdu (judged a b sent) ≡ Opened text → u ≡ i
    judged_so u i e pdu text sent true b is here there h = one_use (keys_of w.history) own u i here there is
    judged_so u i e pdu text sent false b is here there h = absurd (foreign_closed u e pdu text h)

    -- what opens under a reported key was sent under that use
    pub opened_sent : (u : KeyUse Term) (e : Option (Ciphering Term)) (pdu text : List ℕ) (came : Option (Outgoing Term ℕ)) → IsReported w u.key
        → Came Address.CoreNas pdu came
        → by_terms c (OpensNas u e) pdu came ≡ Opened text
        → AnyOf (IsUnder u) w.sent
    opened_sent u e pdu text None here is h = absurd (foreign_closed u e pdu text h)
    opened_sent u e pdu text (Some (SealedNas Up header i f sent)) here (_, member, (reported, _)) h =
        any_member (IsUnder u) (SealedNas Up header i f sent) w.sent member
        (judged_so u i e pdu text sent (same_uses same_value u i) (same_ciphering same_value e f) refl here reported h)
    opened_sent u e pdu text (Some (SealedNas Down header i f sent)) here is h = let bad = is.0 in absurd cc
    opened_sent u e pdu text (Some (PlainNas octets)) here is h = absurd (foreign_closed u e pdu text h)
    opened_sent u e pdu text (Some (SealedRrc Up station air srb i f sent)) here is h = let bad = is.0 in absurd cc
    opened_sent u e pdu text (Some (SealedRrc Down station air srb i f sent)) here is h = let bad = is.0 in absurd cc
    opened_sent u e pdu text (Some (UserPacket dir station air drb f sent)) here is h = absurd (foreign_closed u e pdu text h)
    opened_sent u e pdu text (Some (Between to fields key)) here is h = absurd (foreign_closed u e pdu text h)

    -- THE CORE'S STEPS

    -- the COUNT of a row was sent under the keys by which the core opened it
    abbrev Sent : Core Term ℕ → CoreNasRow → Type 0
    Sent s (SmcComplete count) = IfSome s.procedure (λ keys. AnyOf (IsUnder (nas_use Up keys.int count)) w.sent)
    Sent s (SmcChange count conn next station) = IfSome s.procedure (λ keys. AnyOf (IsUnder (nas_use Up keys.int count)) w.sent)
    Sent s (ServiceAsked count) = IfSome s.context (λ k. AnyOf (IsUnder (nas_use Up k.nas.keys.int count)) w.sent)
    Sent s (NasOpened count text) = IfSome s.context (λ k. AnyOf (IsUnder (nas_use Up k.nas.keys.int count)) w.sent)
    Sent s (SealedReject count) = IfSome s.context (λ k. AnyOf (IsUnder (nas_use Up k.nas.keys.int count)) w.sent)
    Sent s other = Unit {0}

    abbrev Keeps : Core Term ℕ → CoreDone Term ℕ → Type 0
    Keeps s done = HeardIn w.sent s.context → HeardIn w.sent done.0.context

    nas_cases : NasCases r Sent Keeps w.core
    nas_cases = record {
      nothing = λ t answer h. h;
      closed = λ k h. h;
      completed = λ count p keys k h. (count, refl, k);
      changed = λ count conn next station p keys k h. (count, refl, k);
      asked = λ count o k h. (count, refl, k);
      opened = λ count text o k h. (count, refl, k);
      rejected = λ count o k h. (count, refl, k);
    }

    module _ (pdu : List ℕ) (came : Option (Outgoing Term ℕ)) (is : Came Address.CoreNas pdu came) where
      abbrev outcome : Outcome
      outcome = by_terms c (core_opens r w.core (CoreNasPdu pdu)) pdu came

      completes : (count : ℕ) → Completes r w.core pdu outcome count → IfSome w.core.procedure (λ keys. AnyOf (IsUnder (nas_use Up keys.int count)) w.sent)
      completes count k =
          let expects : core_opens r w.core (CoreNasPdu pdu) ≡ opens_by_procedure (Some k.by.keys) count =
          ap (λ f. core_nas_expects f w.core) k.front ∙ ap (λ o. opens_by_procedure o count) k.by.running in
          let known = subst (λ o. ProcedureKnown (IsReported w) o) k.by.running g.keys.core.1 in
          subst (λ o. IfSome o (λ keys. AnyOf (IsUnder (nas_use Up keys.int count)) w.sent)) (sym k.by.running)
          (opened_sent (nas_use Up k.by.keys.int count) (Some (nas_ciphering Up k.by.keys count)) pdu k.text came known.1 is (ap (λ o. by_terms c o pdu came) (sym expects) ∙ k.opened))

      opens : (count : ℕ) (x : NasRecord) → Opens r w.core pdu outcome count x
          → IfSome w.core.context (λ k. AnyOf (IsUnder (nas_use Up k.nas.keys.int count)) w.sent)
      opens count x k =
          let expects : core_opens r w.core (CoreNasPdu pdu) ≡ opens_by_context (Some k.by.context) k.header count =
          ap (λ f. core_nas_expects f w.core) k.front ∙ ap (λ o. opens_by_context o k.header count) k.by.in_use in
          let (_, (_, int)) = subst (λ o. CoreContextKnown (IsReported w) o) k.by.in_use g.keys.core.2 in
          subst (λ o. IfSome o (λ b. AnyOf (IsUnder (nas_use Up b.nas.keys.int count)) w.sent)) (sym k.by.in_use)
          (opened_sent (nas_use Up k.by.context.nas.keys.int count)
          (ciphering_if (is_ciphered k.header) (nas_ciphering Up k.by.context.nas.keys count)) pdu k.text came int is
          (ap (λ o. by_terms c o pdu came) (sym expects) ∙ k.opened))

      row_sent : (row : CoreNasRow) → NasHas r w.core pdu outcome row → Sent w.core row
      row_sent (NasRefused answer) k = tt
      row_sent PlainReject k = tt
      row_sent (SmcComplete count) k = completes count k.0
      row_sent (SmcChange count conn next station) k = completes count k.0
      row_sent (ServiceAsked count) k = opens count ServiceRequest k
      row_sent (NasOpened count text) k = opens count (NasData text) k
      row_sent (SealedReject count) (cause, keys, running, k) = opens count (SecurityModeReject cause) k

      heard_nas : Heard w → HeardIn w.sent (core_does_nas r (nas_row r w.core pdu outcome) w.core).0.context
      heard_nas =
          nas_case r Sent Keeps w.core nas_cases (nas_row r w.core pdu outcome) (row_sent (nas_row r w.core pdu outcome) (nas_has r w.core pdu outcome))

    act_cases : ActCases r (λ s row. Unit {0}) Keeps w.core
    act_cases = record {
      nothing = λ t answer h. h;
      started = λ ksi algs caps count p k h. h;
      set_up = λ conn cell target caps count o k h. h;
      released = λ conn station k h. h;
      sent = λ count text o k h. h;
      skipped = λ n o k h. h;
    }

    record_cases : RecordCases r (λ s row. Unit {0}) Keeps w.core
    record_cases = record {
      nothing = λ t answer h. h;
      switched = λ conn station number alarm link k h. h;
      asked = λ conn source attempt cell target caps link k h. h;
      ordered = λ conn source attempt cell ncc algs air k h. h;
      notified = λ station link k h. h;
      cancelled = λ conn source attempt cell target k h. h;
    }

    -- EVERY EVENT

    turns : Heard w → Turns m w (λ e. Unit {0}) Came (λ s. Unit {0}) (λ done a. Heard done.0)
    turns h = record {
      auth = λ ksi octets caps is new. h;
      phone = λ input came turn is. heard_more _ w.sent w.core.context h;
      core_acts = λ act is. heard_more _ w.sent _ (act_case r (λ s row. Unit {0}) Keeps w.core act_cases _ tt h);
      core_nas = λ pdu came is. heard_more _ w.sent _ (heard_nas pdu came is h);
      core_record = λ pdu came is. heard_more _ w.sent _ (record_case r (λ s row. Unit {0}) Keeps w.core record_cases _ tt h);
      station_acts = λ id act is s f. heard_more _ w.sent w.core.context h;
      station_air = λ id air bearer pdu came is s f. heard_more _ w.sent w.core.context h;
      station_record = λ on id pdu came is s f. heard_more _ w.sent w.core.context h;
      none = λ answer. h;
    }

    came_of : (xs : List (Outgoing Term ℕ)) → ((x : Outgoing Term ℕ) → Member x xs → Member x w.sent) → AllOf (SentKnown (IsReported w)) xs
        → AllOf (λ x. Came (address_of x) (octets_of c between x) (Some x)) xs
    came_of [] here known = tt
    came_of (x ∷ xs) here known = ((refl, here x (inl refl), known.0), came_of xs (λ y m. here y (inr m)) known.1)

    pub happens_heard : Heard w → (e : Event) → Heard (happens m w e).0
    happens_heard h e =
        happens_by (turns h) (λ to pdu. tt) (came_of w.sent (λ x m. m) g.keys.sent)
        (all_each (λ s. Unit {0}) (λ s. tt) w.stations) e tt

  -- EVERY RUN THAT GOES ON

  abbrev written : Machine Term ℕ (Outgoing Term ℕ)
  written = machine_over same_value c between

  abbrev no_clash : TheWorld → Type 0
  no_clash w = (ladder_of same_value w.history).clash ≡ None

  pub heard_along : (by_octets : Opening Term → List ℕ → Outcome) (w : TheWorld) (es : List Event) (u : TheWorld) → Grounds w → no_clash w → Heard w
      → replay by_octets written (Running w) es ≡ Running u → Heard u
  heard_along by_octets w [] u g calm h is = let one : w ≡ u = cc in subst Heard one h
  heard_along by_octets w (e ∷ es) u g calm h is =
      let on = goes_on by_octets written w e es u is in
      let next : (happens written w e).0 ≡ (happens m w e).0 = happens_same c between w g calm e on.0 in
      let heard : Heard (happens m w e).0 = happens_heard w (one_value_one_term w.history g.ladder calm) g h e in
      let grounds : Grounds (happens m w e).0 = happens_grounds Root (octets_of c between) sender_of (by_terms c) w e g in
      heard_along by_octets (happens written w e).0 es u (subst Grounds (sym next) grounds) on.0 (subst Heard (sym next) heard) on.1

-- WHAT THE PHONE SENT is below its next COUNT

all_parts : (Q : KeyUse Term → Type 0) (xs ys : List (KeyUse Term)) → AllOf Q (xs ++ ys) → AllOf Q xs × AllOf Q ys
all_parts Q [] ys all = (tt, all)
all_parts Q (x ∷ xs) ys all = let rest = all_parts Q xs ys all.1 in ((all.0, rest.0), rest.1)

-- of all uses of records sent, and so of one
pub sent_use : (Q : KeyUse Term → Type 0) (u : KeyUse Term) (xs : List (Outgoing Term ℕ)) → AllOf Q (flat_map uses_of xs) → AnyOf (IsUnder u) xs → Q u
sent_use Q u [] all h = absurd h
sent_use Q u (x ∷ xs) all (inl h) = at x h (all_parts Q (uses_of x) (flat_map uses_of xs) all).0
  where
    at : (x : Outgoing Term ℕ) → IsUnder u x → AllOf Q (uses_of x) → Q u
    at (SealedNas Up header i None text) h all = subst Q (sym h) all.0
    at (SealedNas Up header i (Some e) text) h (_, (integrity, _)) = subst Q (sym h) integrity
    at (SealedNas Down header i e text) h all = absurd h
    at (PlainNas octets) h all = absurd h
    at (SealedRrc dir station air srb i e text) h all = absurd h
    at (UserPacket dir station air drb e text) h all = absurd h
    at (Between to fields key) h all = absurd h
sent_use Q u (x ∷ xs) all (inr h) = sent_use Q u xs (all_parts Q (uses_of x) (flat_map uses_of xs) all).1 h
