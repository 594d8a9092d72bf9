-- What the phone and the core have of a KASME's capabilities: a Security Mode Command replays those of its authentication, and the phone takes
-- none that replays others than its own (TS 33.401 7.2.4.4).
use Rattle.std.proofs.Common.{◌≡◌, refl, sym, ap, ◌∙◌, subst, ℕ, ◌+◌, ◌≤◌, arith, true, List, [], ◌∷◌, Option, Some, None, Result, Ok}
use Rattle.std.specs.{List.AllByRecursion as AllOf}
use Rattle.rec_base.specs.declared.{faults.RecFault.RecFault, uses.Dir.TheVariants.Down}
use Rattle.alg_choice.specs.{Algs.eia2_identity, declared.algs.Algs.Algs, declared.caps.Caps.Caps}
use Rattle.lte_events.specs.declared.answers.Answer.{Answer}
use Rattle.key_model.specs.{HandoverTable.NumberedKey, Reading.Reading, Reading.term_reading_by, Term.Term, Term.Root, Term.Alg, Value.same_value}
use Rattle.nas_guard.specs.{Open.sent_in}
use Rattle.nas_rec.specs.{declared.records.NasRecord.NasRecord, Reading.read_nas, Spelling.spelling_of}
use Rattle.nas_rec.specs.declared.records.NasRecord.TheVariants.{SecurityModeCommand}
use Rattle.nas_rec.proofs.Laws.{spelled_is_read}
use Rattle.lte_machine.specs.Ciphers.{Ciphers, nas_octets}
use Rattle.lte_machine.specs.CoreKeys.{CoreDone}
use Rattle.lte_machine.specs.CoreRows.{CoreActRow, SmcStarted}
use Rattle.lte_machine.specs.CoreState.{Core, CorePartial, CoreContext}
use Rattle.lte_machine.specs.PhoneChoice.{header_for_phone, same_caps}
use Rattle.lte_machine.specs.PhoneKeys.{PhoneDone}
use Rattle.lte_machine.specs.PhoneRows as row
use Rattle.lte_machine.specs.PhoneState.{NasContext, Partial, Phone}
use Rattle.lte_machine.specs.Reply.{Origin}
use Rattle.lte_machine.specs.StationKeys.{station_does}
use Rattle.lte_machine.specs.StationRecords as station_records
use Rattle.lte_machine.specs.StationRows.{StationRow}
use Rattle.lte_machine.specs.StationState.{Station}
use Rattle.lte_machine.specs.Wire.{KeyUse, Ciphering, Outgoing, SealedNas, nas_use}
use Rattle.lte_machine.proofs.CipherLaws.{AreCiphers}
use Rattle.lte_machine.proofs.CoreCases as at_core
use Rattle.lte_machine.proofs.PhoneCases as at_phone
use Rattle.lte_machine.proofs.StationCases as at_station
use Rattle.lte_machine.proofs.{KnownLists.OfSome, KnownLists.all_more, Tests.Anything}
use Rattle.lte_properties.specs.Separation.{AnyOf}
use Rattle.lte_properties.proofs.Opening.Counts.{nas_parts, header_down}
use Rattle.lte_properties.proofs.Opening.Nas.{IsRootOf, AnyNumber}

-- a KASME and capabilities
abbrev pub Pair : Type 0
Pair = Term × Caps

abbrev pub of_partial : Option (CorePartial Term) → Option Pair
of_partial None = None
of_partial (Some p) = Some (p.root, p.caps)

abbrev pub of_context : Option (CoreContext Term) → Option Pair
of_context None = None
of_context (Some k) = Some (k.nas.root, k.caps)

abbrev pub root_of : Option (NasContext Term) → Option Term
root_of None = None
root_of (Some x) = Some x.root

-- what the core has of this KASME is of these capabilities
abbrev pub HasCaps : Term → Caps → Option Pair → Type 0
HasCaps root d None = Unit {0}
HasCaps root d (Some x) = x.0 ≡ root → d ≡ x.1

-- the octets of a message read as a command that replays these
abbrev pub Reads : List ℕ → Caps → Type 0
Reads pdu d = record {
  header : header_for_phone pdu ≡ Ok 3;
  ksi : ℕ;
  algs : Algs;
  is : read_nas (sent_in pdu) ≡ Ok (SecurityModeCommand ksi algs d);
}

-- a use is of the integrity key of a KASME that was authenticated, and what the core has of it is of these capabilities
abbrev pub Fits : ℕ → Option Pair → Option Pair → KeyUse Term → Caps → Type 0
Fits next a b u d = record {
  root : Term;
  known : IsRootOf AnyNumber next root;
  key : u.key ≡ Alg root 2 eia2_identity;
  partial : HasCaps root d a;
  context : HasCaps root d b;
}

-- THE CORE: its partial context and its context in use are of KASMEs of authentications, of two

abbrev pub KsiLow : Option (CorePartial Term) → Type 0
KsiLow None = Unit {0}
KsiLow (Some p) = p.ksi ≤ 6

abbrev pub RootIs : ℕ → Option Pair → Type 0
RootIs next None = Unit {0}
RootIs next (Some x) = IsRootOf AnyNumber next x.0

abbrev pub Apart : Option Pair → Term → Type 0
Apart None root = Unit {0}
Apart (Some x) root = x.0 ≡ root → ⊥

abbrev pub ContextIs : ℕ → Option Pair → Option Pair → Type 0
ContextIs next a None = Unit {0}
ContextIs next a (Some y) = IsRootOf AnyNumber next y.0 × Apart a y.0

abbrev pub CoreIs : ℕ → Core Term ℕ → Type 0
CoreIs next s = record {
  ksi : KsiLow s.partial;
  partial : RootIs next (of_partial s.partial);
  context : ContextIs next (of_partial s.partial) (of_context s.context);
}

apart_has : (next : ℕ) (x : Pair) (b : Option Pair) (d : Caps) → ContextIs next (Some x) b → HasCaps x.0 d b
apart_has next x None d h = tt
apart_has next x (Some y) d h = λ e. absurd (h.1 (sym e))

-- NO COMMAND: all but what the core sends to the phone on NAS
abbrev pub NoCommand : Option (Outgoing Term ℕ) → Type 0
NoCommand (Some (SealedNas Down header u e text)) = ⊥
NoCommand other = Unit {0}

module _ (c : Ciphers Term) (good : AreCiphers c) where
  abbrev r : Reading Term ℕ
  r = term_reading_by same_value

  -- each message to the phone that reads as a command replays what the core has of its KASME
  abbrev pub Said : ℕ → Option Pair → Option Pair → Outgoing Term ℕ → Type 0
  Said next a b (SealedNas Down header u e text) = (d : Caps) → Reads (nas_octets c header u e text) d → Fits next a b u d
  Said next a b other = Unit {0}

  pub said_quiet : (next : ℕ) (a b : Option Pair) (o : Option (Outgoing Term ℕ)) → NoCommand o → OfSome (Said next a b) o
  said_quiet next a b (Some (SealedNas Down header u e text)) h = absurd h
  said_quiet next a b other h = tt

  -- the phone took a command that replays its own
  abbrev pub Commands : Term → Caps → Outgoing Term ℕ → Type 0
  Commands root caps (SealedNas Down header u e text) = record {
    key : u.key ≡ Alg root 2 eia2_identity;
    replayed : Caps;
    reads : Reads (nas_octets c header u e text) replayed;
    same : same_caps caps replayed ≡ true;
  }
  Commands root caps other = ⊥

  abbrev pub Accepted : List (Outgoing Term ℕ) → Caps → Option Term → Type 0
  Accepted sent caps None = Unit {0}
  Accepted sent caps (Some root) = AnyOf (Commands root caps) sent

  -- what came with a context goes on with the context alone
  said_moved : (next : ℕ) (x : Pair) (b : Option Pair) (y : Outgoing Term ℕ) → Said next (Some x) b y → Said next None (Some x) y
  said_moved next x b (SealedNas Down header u e text) k = λ d reads.
      let f = k d reads in record { root = f.root; known = f.known; key = f.key; partial = tt; context = f.partial }
  said_moved next x b other k = tt

  -- a new authentication
  root_more : (next : ℕ) (root : Term) → IsRootOf AnyNumber next root → IsRootOf AnyNumber (next + 1) root
  root_more next root k = let low = k.low in record { number = k.number; octets = k.octets; is = k.is; low = omega (arith, low); so = tt }

  new_root : (next : ℕ) (octets : List ℕ) (root : Term) → IsRootOf AnyNumber next root → Root next octets ≡ root → ⊥
  new_root next octets root k e =
      let low = k.low in let same : next ≡ k.number = number_of next k.number octets k.octets (e ∙ k.is) in omega (arith, low, same)
    where
      number_of : (n m : ℕ) (s t : List ℕ) → Root n s ≡ Root m t → n ≡ m
      number_of n m s t f = cc

  said_anew : (next : ℕ) (octets : List ℕ) (caps : Caps) (a b : Option Pair) (y : Outgoing Term ℕ) → Said next a b y
      → Said (next + 1) (Some (Root next octets, caps)) b y
  said_anew next octets caps a b (SealedNas Down header u e text) k = λ d reads.
      let f = k d reads in
      record {
        root = f.root;
        known = root_more next f.root f.known;
        key = f.key;
        partial = λ same. absurd (new_root next octets f.root f.known same);
        context = f.context;
      }
  said_anew next octets caps a b other k = tt

  pub context_anew : (next : ℕ) (octets : List ℕ) (caps : Caps) (a b : Option Pair) → ContextIs next a b → ContextIs (next + 1) (Some (Root next octets, caps)) b
  context_anew next octets caps a None h = tt
  context_anew next octets caps a (Some y) h = (root_more next y.0 h.0, new_root next octets y.0 h.0)

  pub all_anew : (next : ℕ) (octets : List ℕ) (caps : Caps) (a b : Option Pair) (xs : List (Outgoing Term ℕ)) → AllOf (Said next a b) xs
      → AllOf (Said (next + 1) (Some (Root next octets, caps)) b) xs
  all_anew next octets caps a b [] h = tt
  all_anew next octets caps a b (x ∷ xs) h = (said_anew next octets caps a b x h.0, all_anew next octets caps a b xs h.1)

  -- A COMMAND AS IT IS SENT
  caps_of : (k l : ℕ) (a b : Algs) (d f : Caps)
      → (let y : Result NasRecord RecFault = Ok (SecurityModeCommand k a d) in let z : Result NasRecord RecFault = Ok (SecurityModeCommand l b f) in y ≡ z)
      → d ≡ f
  caps_of k l a b d f e = cc

  command_says : (u : KeyUse Term) (ksi : ℕ) (algs : Algs) (caps d : Caps) → ksi ≤ 6
      → Reads (nas_octets c 3 u None (spelling_of (SecurityModeCommand ksi algs caps))) d → d ≡ caps
  command_says u ksi algs caps d low reads =
      let text = spelling_of (SecurityModeCommand ksi algs caps) in
      let plain : sent_in (nas_octets c 3 u None text) ≡ text = (nas_parts c good 3 u None text).2 in
      let own : read_nas (sent_in (nas_octets c 3 u None text)) ≡ Ok (SecurityModeCommand ksi algs caps) =
      ap read_nas plain ∙ spelled_is_read (SecurityModeCommand ksi algs caps) low in
      caps_of reads.ksi ksi reads.algs algs d caps (sym reads.is ∙ own)

  -- data are no command
  data_says : (u : KeyUse Term) (e : Option (Ciphering Term)) (text : List ℕ) (d : Caps) → Reads (nas_octets c 2 u e text) d → ⊥
  data_says u e text d reads =
      let parts = nas_parts c good 2 u e text in
      not_both (header_for_phone (nas_octets c 2 u e text)) (header_down (nas_octets c 2 u e text) 39 parts.3 parts.0 refl) reads.header
    where
      not_both : (o : Result ℕ Answer) → o ≡ Ok 2 → o ≡ Ok 3 → ⊥
      not_both o f g = let two : (let x : Result ℕ Answer = Ok 2 in let y : Result ℕ Answer = Ok 3 in x ≡ y) = sym f ∙ g in cc

  module _ (next : ℕ) (sent : List (Outgoing Term ℕ)) where
    -- WHAT THE CORE DOES
    abbrev pub Keeps : Core Term ℕ → CoreDone Term ℕ → Type 0
    Keeps s done =
        CoreIs next s → AllOf (Said next (of_partial s.partial) (of_context s.context)) sent
        → CoreIs next done.0
        × AllOf (Said next (of_partial done.0.partial) (of_context done.0.context)) sent
        × OfSome (Said next (of_partial done.0.partial) (of_context done.0.context)) done.1.sent

    pub nas_cases : (s : Core Term ℕ) → at_core.NasCases r Anything Keeps s
    nas_cases s = record {
      nothing = λ t answer i h. (i, h, tt);
      closed = λ k i h. (i, h, tt);
      completed = λ count p keys k i h. (
        record { ksi = tt; partial = tt; context = (i.partial, tt) },
        all_more (Said next (Some (p.root, p.caps)) (of_context s.context)) (Said next None (Some (p.root, p.caps)))
            (said_moved next (p.root, p.caps) (of_context s.context)) sent h,
        tt,
      );
      changed = λ count conn following station p keys k i h. (
        record { ksi = tt; partial = tt; context = (i.partial, tt) },
        all_more (Said next (Some (p.root, p.caps)) (of_context s.context)) (Said next None (Some (p.root, p.caps)))
            (said_moved next (p.root, p.caps) (of_context s.context)) sent h,
        tt,
      );
      asked = λ count o k i h. (i, h, tt);
      opened = λ count text o k i h. (i, h, tt);
      rejected = λ count o k i h. (i, h, tt);
    }

    pub record_cases : (s : Core Term ℕ) → at_core.RecordCases r Anything Keeps s
    record_cases s = record {
      nothing = λ t answer i h. (i, h, tt);
      switched = λ conn station number alarm link k i h. (i, h, tt);
      asked = λ conn source attempt cell target caps link k i h. (i, h, tt);
      ordered = λ conn source attempt cell ncc algs air k i h. (i, h, tt);
      notified = λ station link k i h. (i, h, tt);
      cancelled = λ conn source attempt cell target k i h. (i, h, tt);
    }

    -- a command is of the partial context
    abbrev pub Starting : Core Term ℕ → CoreActRow → Type 0
    Starting s (SmcStarted ksi algs caps count) = (p : CorePartial Term) → s.partial ≡ Some p → (ksi ≡ p.ksi) × (caps ≡ p.caps)
    Starting s other = Unit {0}

    pub act_cases : (s : Core Term ℕ) → at_core.ActCases r Starting Keeps s
    act_cases s = record {
      nothing = λ t answer i h. (i, h, tt);
      started = λ ksi algs caps count p k i h.
          let own = k p refl in
          let low : ksi ≤ 6 = subst (λ n. n ≤ 6) (sym own.0) i.ksi in (
            i,
            h,
            λ d reads. record {
              root = p.root;
              known = i.partial;
              key = refl;
              partial = λ e. command_says (nas_use Down (Alg p.root 2 eia2_identity) count) ksi algs caps d low reads ∙ own.1;
              context = apart_has next (p.root, p.caps) (of_context s.context) d i.context;
            },
          );
      set_up = λ conn cell target caps count o k i h. (i, h, tt);
      released = λ conn station k i h. (i, h, tt);
      sent = λ count text o k i h. (i, h, λ d reads. absurd (data_says _ _ _ d reads));
      skipped = λ n o k i h. (i, h, tt);
    }

    -- WHAT THE PHONE DOES
    abbrev pub Holds : Phone Term ℕ → PhoneDone Term ℕ → Type 0
    Holds s done =
        Accepted sent s.caps (root_of s.context)
        → Accepted sent s.caps (root_of done.0.context) × NoCommand done.1.sent × (done.0.caps ≡ s.caps)

    abbrev pub Takes : Phone Term ℕ → row.NasRow → Type 0
    Takes s (row.ContextTaken algs count) = (p : Partial Term) → s.partial ≡ Some p → Accepted sent s.caps (Some p.root)
    Takes s (row.ContextTakenConnected algs count) = (p : Partial Term) → s.partial ≡ Some p → Accepted sent s.caps (Some p.root)
    Takes s other = Unit {0}

    pub nas_holds : (s : Phone Term ℕ) → at_phone.NasCases r Takes Holds s
    nas_holds s = record {
      nothing = λ t answer h. (h, tt, refl);
      rejected = λ answer cause k h. (h, tt, refl);
      rejected_under = λ answer cause x k h. (h, tt, refl);
      taken = λ algs count p k h. (k p refl, tt, refl);
      taken_connected = λ algs count p k h. (k p refl, tt, refl);
      opened = λ count text x k h. (h, tt, refl);
    }

    pub air_holds : (s : Phone Term ℕ) → at_phone.AirCases r Anything Holds s
    air_holds s = record {
      nothing = λ t answer h. (h, tt, refl);
      secured = λ id air algs count w k h. (h, tt, refl);
      handed_over = λ cell steps algs id air l k h. (h, tt, refl);
      changed = λ cell algs id air l x f k h. (h, tt, refl);
      rrc = λ srb count text l k h. (h, tt, refl);
      packet = λ drb count text l k h. (h, tt, refl);
    }

    pub act_holds : (s : Phone Term ℕ) → at_phone.ActCases r Anything Holds s
    act_holds s = record {
      nothing = λ t answer h. (h, tt, refl);
      requested = λ x k h. (h, tt, refl);
      resent = λ l k h. (h, tt, refl);
      idle = λ k h. (h, tt, refl);
      packet = λ drb text l k h. (h, tt, refl);
      rrc = λ srb text l k h. (h, tt, refl);
      nas = λ text x k h. (h, tt, refl);
      nas_skipped = λ n x k h. (h, tt, refl);
      bearer_skipped = λ on n l k h. (h, tt, refl);
    }

-- WHAT A STATION DOES: it sends nothing on NAS

source_quiet : (conn : ℕ) (origin : Option Origin) → NoCommand (station_records.source_release conn origin)
source_quiet conn None = tt
source_quiet conn (Some o) = tt

pub station_quiet : (s : Station Term ℕ) (row : StationRow) (key : Option (NumberedKey Term ℕ)) → NoCommand (station_does (term_reading_by same_value) row key s).1.sent
station_quiet s =
    at_station.station_case (term_reading_by same_value) s (λ done. NoCommand done.1.sent)
    (record {
      nothing = λ answer. tt;
      given = λ conn cell caps algs air kenb k. tt;
      released = λ key k. tt;
      taken = λ conn origin pair k. source_quiet conn origin;
      by_s1 = λ w pair k. tt;
      by_x2 = λ w star k. tt;
      answered = λ order key k. tt;
      cancelled = λ from key k. tt;
      left = λ key k. tt;
      renewed = λ conn number air count x e kenb k. tt;
    })
    (record {
      nothing = λ answer. tt;
      secured = λ count k. tt;
      opened = λ srb count text k. tt;
      packet = λ drb count text k. tt;
      by_s1 = λ at count k p e. tt;
      within = λ at count origin k p e. tt;
      by_x2 = λ at count number k p e. tt;
    })
    (record {
      nothing = λ answer. tt;
      by_x2 = λ number target cell k x e. tt;
      by_s1 = λ number target cell k x e. tt;
      within = λ number air cell k x e. tt;
      commanded = λ via order count k x e. tt;
      cancelled_x2 = λ conn number target k. tt;
      cancelled_s1 = λ conn number cell k. tt;
      cancelled_within = λ number k. tt;
      asked = λ number k x e. tt;
      packet = λ drb count text k x e. tt;
      text = λ srb count text k x e. tt;
      skipped = λ on n k. tt;
    })
