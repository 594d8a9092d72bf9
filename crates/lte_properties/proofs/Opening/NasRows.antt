-- What each row of the core and of the phone leaves of the NAS keys.
use Rattle.std.proofs.Common.{◌≡◌, ℕ, ◌≤◌, ◌<◌, Bool, List, length, Option, Some, None, Ok, refl, ap, sym, subst, ◌∙◌}
use Rattle.std.specs.Prelude.{⊤}
use Rattle.rec_base.specs.declared.uses.Dir.{Dir}
use Rattle.rec_base.specs.declared.uses.Dir.TheVariants.{Up, Down}
use Rattle.alg_choice.specs.{Choice.choice_of, declared.algs.Algs.Algs, declared.algs.Eea.Eea, declared.caps.Caps.Caps}
use Rattle.lte_events.specs.{Ranges.IsCoreAct, Ranges.IsPhoneAct, declared.acts.CoreAct.CoreAct}
use Rattle.key_model.specs.{Term.Term, Reading.Reading, Reading.term_reading_by}
use Rattle.nas_count.specs.Estimate.{nas_count_limit}
use Rattle.nas_rec.specs.{declared.records.NasRecord.NasRecord, Spelling.spelling_of}
use Rattle.nas_rec.specs.declared.records.NasRecord.TheVariants.{SecurityModeCommand, SecurityModeComplete, SecurityModeReject, ServiceRequest, NasData}
use Rattle.lte_machine.specs.Wire.{Ciphering, ciphering_by, nas_use}
use Rattle.lte_machine.specs.PhoneState.{Partial, NasContext, Phone}
use Rattle.lte_machine.specs.PhoneRows as phone
use Rattle.lte_machine.specs.{PhoneRows.PhoneRow, PhoneKeys.PhoneDone, PhoneKeys.phone_does, CoreState.Core, CoreState.CorePartial, CoreRows.CoreRow, CoreKeys.CoreDone, CoreKeys.core_does}
use Rattle.lte_machine.specs.PhoneKeys as phone_keys
use Rattle.lte_machine.specs.CoreRows as core
use Rattle.lte_machine.proofs.CoreCases as at_core
use Rattle.lte_machine.proofs.PhoneCases as at_phone
use Rattle.lte_machine.proofs.ActFacts.{ActHas, Starts, Sends}
use Rattle.lte_machine.proofs.{PhoneActFacts.HasCount, PhoneActFacts.ByAct, Tests.Anything, Tests.above_of}
use Rattle.lte_properties.proofs.Opening.Nas.{Choices, nas_keys, IsRootOf, AnyNumber, ChosenIs, RootHas, ContextOk, ProcedureOk, PhoneOk, CoreOk, SealedSo, ciphered_for, SealedOk, OutOk}

-- THE CORE

-- what a row needs: a command has the algorithms that are chosen for the partial context; data have a COUNT
abbrev pub StartNeeds : List Eea → ℕ → Algs → Option (CorePartial Term) → Type 0
StartNeeds priority ksi algs None = ⊤
StartNeeds priority ksi algs (Some p) = (ksi ≡ p.ksi) × (choice_of priority p.caps ≡ Ok algs)

started_needs : (s : Core Term ℕ) (act : CoreAct) (ksi : ℕ) (algs : Algs) (caps : Caps) (count : ℕ) → Starts s act ksi algs caps count
    → StartNeeds s.priority ksi algs s.partial
started_needs s act ksi algs caps count f = subst (StartNeeds s.priority ksi algs) (sym f.holds) (f.ksi_is, f.chosen)

sent_needs : (s : Core Term ℕ) (act : CoreAct) (count : ℕ) (text : List ℕ) → Sends s act count text → IsCoreAct act
    → (count < nas_count_limit) × (length text ≤ 200)
sent_needs s act count text f is =
    (subst (λ n. n < nas_count_limit) (sym f.count_is) (above_of nas_count_limit f.context.nas.send f.left), (subst IsCoreAct f.act_is is).1)

abbrev pub CoreRowNeeds : Core Term ℕ → CoreRow → Type 0
CoreRowNeeds s (core.OfAct row) = (act : CoreAct) × ActHas s act row × IsCoreAct act
CoreRowNeeds s other = ⊤

module _ (same : Term → Term → Bool) (g : Choices) (next : ℕ) where
  abbrev r : Reading Term ℕ
  r = term_reading_by same

  abbrev pub CoreGoes : CoreDone Term ℕ → Type 0
  CoreGoes d = CoreOk g next d.0 × OutOk g next d.1.sent

  abbrev pub PhoneGoes : PhoneDone Term ℕ → Type 0
  PhoneGoes d = PhoneOk g next d.0 × OutOk g next d.1.sent

  -- a message under a context
  sealed_by : (c : NasContext Term) → ContextOk g next c → (dir : Dir) (header count : ℕ) (e : Option (Ciphering Term)) (x : NasRecord)
      → SealedSo dir header (nas_use dir c.keys.int count) e c.root c.keys.algs x
      → e ≡ ciphered_for dir header (nas_use dir c.keys.int count) c.root c.keys.algs
      → SealedOk g next dir header (nas_use dir c.keys.int count) e (spelling_of x)
  sealed_by c k dir header count e x so type = record {
    root = c.root;
    algs = c.keys.algs;
    says = x;
    has = k.0;
    integrity = ap (λ keys. nas_use dir keys.int count) k.1;
    spelled = refl;
    so = so;
    ciphered = type;
  }

  ciphered_by_own : (c : NasContext Term) → ContextOk g next c → (dir : Dir) (count : ℕ)
      → Some (ciphering_by c.keys.algs.eea (nas_use dir c.keys.enc count))
      ≡ Some (ciphering_by c.keys.algs.eea (nas_use dir (nas_keys c.root c.keys.algs).enc count))
  ciphered_by_own c k dir count = ap (λ keys. Some (ciphering_by c.keys.algs.eea (nas_use dir keys.enc count))) k.1

  -- with no procedure the partial context has no keys
  no_procedure : (o : Option (CorePartial Term)) → ProcedureOk g next o None
  no_procedure None = refl
  no_procedure (Some p) = tt

  -- of a core whose keys are so
  abbrev CoreKeeps : Core Term ℕ → CoreDone Term ℕ → Type 0
  CoreKeeps s d = CoreOk g next s → CoreGoes d

  core_nas_goes : (s : Core Term ℕ) → at_core.NasCases r Anything CoreKeeps s
  core_nas_goes s = record {
    nothing = λ t answer h. (h, tt);
    closed = λ f h. ((h.0, no_procedure s.partial, h.2), tt);
    completed = λ count p keys f h. ((tt, refl, h.1), tt);
    changed = λ count conn after station p keys f h. ((tt, refl, h.1), tt);
    asked = λ count c f h. (h, tt);
    opened = λ count text c f h. (h, tt);
    rejected = λ count c f h. ((h.0, no_procedure s.partial, h.2), tt);
  }

  -- connections have nothing of NAS
  core_record_goes : (s : Core Term ℕ) → at_core.RecordCases r Anything CoreKeeps s
  core_record_goes s = record {
    nothing = λ t answer h. (h, tt);
    switched = λ conn station number alarm link f h. (h, tt);
    asked = λ conn source attempt cell target caps link f h. (h, tt);
    ordered = λ conn source attempt cell ncc algs air f h. (h, tt);
    notified = λ station link f h. (h, tt);
    cancelled = λ conn source attempt cell target f h. (h, tt);
  }

  -- the command opens a procedure with the algorithms chosen
  core_act_goes : (act : CoreAct) → IsCoreAct act → (s : Core Term ℕ) → at_core.ActCases r (λ t row. ActHas t act row) CoreKeeps s
  core_act_goes act is s = record {
    nothing = λ t answer h. (h, tt);
    started = λ ksi algs caps count p f h.
        let (low, k) = h.0 in
        let needs = started_needs (at_core.with_partial s (Some p)) act ksi algs caps count f in
        let root : RootHas g next p.root algs =
        search (sym needs.1 ∙ k.so) in (
          ((low, k), (root, refl), h.2),
          record {
            root = p.root;
            algs = algs;
            says = SecurityModeCommand ksi algs caps;
            has = root;
            integrity = refl;
            spelled = refl;
            so = record { type = refl; plain = refl; chosen = refl; low = subst (λ n. n ≤ 6) (sym needs.0) low };
            ciphered = refl;
          },
        );
    set_up = λ conn cell target caps count c f h. (h, tt);
    released = λ conn station f h. (h, tt);
    sent = λ count text c f h.
        let needs = sent_needs (at_core.with_context s (Some c)) act count text f is in
        let own = ciphered_by_own c.nas h.2 Down count in (
          h,
          sealed_by c.nas h.2 Down 2 count _ (NasData text)
              (record { type = refl; ciphering = own; count = needs.0; short = needs.1 }) own,
        );
    skipped = λ n c f h. (h, tt);
  }

  -- a new KASME
  abbrev pub CoreRootNeeds : Core Term ℕ → ℕ → Caps → Option Term → Type 0
  CoreRootNeeds s ksi caps None = ⊤
  CoreRootNeeds s ksi caps (Some root) = (ksi ≤ 6) × IsRootOf (ChosenIs g (choice_of s.priority caps)) next root

  pub core_auth_goes : (ksi : ℕ) (caps : Caps) (root : Option Term) (s : Core Term ℕ) → CoreOk g next s → CoreRootNeeds s ksi caps root
      → CoreGoes (core_does r (core.OfAuth ksi caps) root s)
  core_auth_goes ksi caps None s h needs = (h, tt)
  core_auth_goes ksi caps (Some root) s h needs = ((needs, tt, h.2), tt)

  -- any other row of the core
  abbrev pub NoAuth : CoreRow → Type 0
  NoAuth (core.OfAuth ksi caps) = ⊥
  NoAuth other = ⊤

  pub core_goes : (row : CoreRow) (root : Option Term) (s : Core Term ℕ) → NoAuth row → CoreOk g next s → CoreRowNeeds s row
      → CoreGoes (core_does r row root s)
  core_goes (core.OfNas row) root s other h needs = at_core.nas_case r Anything CoreKeeps s (core_nas_goes s) row tt h
  core_goes (core.OfRecord row) root s other h needs = at_core.record_case r Anything CoreKeeps s (core_record_goes s) row tt h
  core_goes (core.OfAct row) root s other h needs = at_core.act_case r _ CoreKeeps s (core_act_goes needs.0 needs.2 s) row needs.1 h
  core_goes (core.OfAuth ksi caps) root s other h needs = absurd other

  -- THE PHONE

  -- what a row needs: the algorithms of a command that was taken are those chosen for the KASME; data have a COUNT
  abbrev pub TakenNeeds : Algs → Option (Partial Term) → Type 0
  TakenNeeds algs None = ⊤
  TakenNeeds algs (Some p) = RootHas g next p.root algs

  abbrev pub NasNeeds : Option (Partial Term) → phone.NasRow → Type 0
  NasNeeds partial (phone.ContextTaken algs count) = TakenNeeds algs partial
  NasNeeds partial (phone.ContextTakenConnected algs count) = TakenNeeds algs partial
  NasNeeds partial other = ⊤

  abbrev pub SendNeeds : Option (NasContext Term) → Type 0
  SendNeeds None = ⊤
  SendNeeds (Some c) = c.send < nas_count_limit

  count_left : (s : Phone Term ℕ) → HasCount s → SendNeeds s.context
  count_left s f = subst SendNeeds (sym f.in_use) (above_of nas_count_limit f.context.send f.left)

  abbrev pub AuthNeeds : Option Term → Type 0
  AuthNeeds None = ⊤
  AuthNeeds (Some root) = IsRootOf AnyNumber next root

  abbrev pub RowNeeds : Phone Term ℕ → Option Term → PhoneRow → Type 0
  RowNeeds s root (phone.OfAuth row) = AuthNeeds root
  RowNeeds s root (phone.OfNas row) = NasNeeds s.partial row
  RowNeeds s root (phone.OfAir row) = ⊤
  RowNeeds s root (phone.OfAct row) = ByAct s row

  auth_goes : (row : phone.AuthRow) (root : Option Term) (s : Phone Term ℕ) → PhoneOk g next s → AuthNeeds root → PhoneGoes (phone_keys.auth_does row root s)
  auth_goes (phone.Authenticated ksi) None s h needs = (h, tt)
  auth_goes (phone.Authenticated ksi) (Some root) s h needs = ((needs, h.1), tt)

  -- of a phone whose keys are so
  abbrev PhoneKeeps : Phone Term ℕ → PhoneDone Term ℕ → Type 0
  PhoneKeeps s d = PhoneOk g next s → PhoneGoes d

  nas_goes : (s : Phone Term ℕ) → at_phone.NasCases r (λ t row. NasNeeds t.partial row) PhoneKeeps s
  nas_goes s = record {
    nothing = λ t answer h. (h, tt);
    rejected = λ answer cause needs h. (h, tt);
    rejected_under = λ answer cause c needs h.
        (h, sealed_by c h.1 Up 2 c.send _ (SecurityModeReject cause) refl (ciphered_by_own c h.1 Up c.send));
    taken = λ algs count p needs h. (
      (tt, (needs, refl)),
      record { root = p.root; algs = algs; says = SecurityModeComplete; has = needs; integrity = refl; spelled = refl; so = refl; ciphered = refl },
    );
    taken_connected = λ algs count p needs h. (
      (tt, (needs, refl)),
      record { root = p.root; algs = algs; says = SecurityModeComplete; has = needs; integrity = refl; spelled = refl; so = refl; ciphered = refl },
    );
    opened = λ count text c needs h. (h, tt);
  }

  -- PDUs of the air have nothing of NAS
  air_goes : (s : Phone Term ℕ) → at_phone.AirCases r Anything PhoneKeeps s
  air_goes s = record {
    nothing = λ t answer h. (h, tt);
    secured = λ station air algs count w f h. (h, tt);
    handed_over = λ cell steps algs station air l f h. (h, tt);
    changed = λ cell algs station air l c e f h. (h, tt);
    rrc = λ srb count text l f h. (h, tt);
    packet = λ drb count text l f h. (h, tt);
  }

  act_goes : (s : Phone Term ℕ) → at_phone.ActCases r ByAct PhoneKeeps s
  act_goes s = record {
    nothing = λ t answer h. (h, tt);
    requested = λ c needs h. (h, sealed_by c h.1 Up 1 c.send None ServiceRequest refl refl);
    resent = λ l needs h. (h, tt);
    idle = λ needs h. (h, tt);
    packet = λ drb text l needs h. (h, tt);
    rrc = λ srb text l needs h. (h, tt);
    nas = λ text c (_, (counts, act_is), is) h.
        let left = count_left (at_phone.with_context s (Some c)) counts in
        let (_, short) = subst IsPhoneAct act_is is in
        let own = ciphered_by_own c h.1 Up c.send in
        (h, sealed_by c h.1 Up 2 c.send _ (NasData text) (record { type = refl; ciphering = own; count = left; short = short }) own);
    nas_skipped = λ n c needs h. (h, tt);
    bearer_skipped = λ on n l needs h. (h, tt);
  }

  -- any row of the phone
  pub phone_goes : (row : PhoneRow) (root : Option Term) (s : Phone Term ℕ) → PhoneOk g next s → RowNeeds s root row → PhoneGoes (phone_does r row root s)
  phone_goes (phone.OfAuth row) root s h needs = auth_goes row root s h needs
  phone_goes (phone.OfNas row) root s h needs = at_phone.nas_case r _ PhoneKeeps s (nas_goes s) row needs h
  phone_goes (phone.OfAir row) root s h needs = at_phone.air_case r Anything PhoneKeeps s (air_goes s) row tt h
  phone_goes (phone.OfAct row) root s h needs = at_phone.act_case r ByAct PhoneKeeps s (act_goes s) row needs h
