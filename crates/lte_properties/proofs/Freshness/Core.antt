-- What each row of the core keeps of the keys that it gives and uses.
use Rattle.std.proofs.Common.{◌≡◌, refl, sym, ap, subst, ℕ, ◌+◌, ◌<◌, ◌≤◌, ◌⊎◌, inl, inr, Bool, List, Option, Some, None, arith}
use Rattle.std.specs.Prelude.{IfSome}
use Rattle.alg_choice.specs.{declared.algs.Algs.Algs, declared.caps.Caps.Caps, Algs.identity_of, Algs.eia2_identity}
use Rattle.annex_a_keys.specs.Cell.{Place}
use Rattle.rec_base.specs.declared.uses.Dir.TheVariants.{Down}
use Rattle.lte_events.specs.declared.acts.CoreAct.{CoreAct}
use Rattle.key_model.specs.Term.{Term, Kenb, Alg}
use Rattle.key_model.specs.Reading.{term_reading_by}
use Rattle.nas_count.specs.Estimate.{nas_count_limit}
use Rattle.nas_guard.specs.{Keys.Keys, Seal.nas_bearer}
use Rattle.lte_machine.specs.{Bearers.skipped, Opening.Outcome, World.uses_in}
use Rattle.lte_machine.specs.Wire.{KeyUse, Outgoing, nas_use}
use Rattle.lte_machine.specs.CoreState.{Core, CorePartial, CoreContext}
use Rattle.lte_machine.specs.CoreRows.{CoreNasRow, CoreRecordRow, CoreActRow}
use Rattle.lte_machine.specs.CoreKeys.{CoreDone, smc_started, nas_taken, nas_sent_to, nas_sent, context_set_up, core_does_nas, core_does_record, core_does_act, nas_text}
use Rattle.lte_machine.proofs.CoreCases.{with_partial, with_context, NasCases, nas_case, RecordCases, record_case, ActCases, act_case}
use Rattle.lte_machine.proofs.{ActFacts.ActHas, NasFacts.NasHas, NasFacts.opens_above, Tests.Anything, Tests.by_some}
use Rattle.lte_properties.specs.ChainBelow.{AllOf}
use Rattle.lte_properties.proofs.{Freshness.Sequence.authentication_of, Freshness.Lists.both_apart, Freshness.PhoneNas.types_apart}
use Rattle.lte_properties.proofs.Freshness.Uses.{Home, home_at, Homes, HomesStay, OnKey, IsNas, NasDown, CoreUse, AllApart}
use Rattle.lte_properties.proofs.Freshness.Stands.{IsPast, NasKeysOf, core_partial_root, core_context_root, due, core_mark, CoreStands, RecordStands}
use Rattle.lte_properties.proofs.Freshness.Order.{homed, homed_here, homed_is, homed_grows, later_mark}

-- a use that the core had not made before, and has made now, of a NAS key
abbrev pub NewDown : ℕ → Core Term ℕ → Core Term ℕ → KeyUse Term → Type 0
NewDown roots s t u = record {
  down : u.dir ≡ Down;
  of_nas : OnKey (λ k type. IsNas type) u.key;
  now : CoreUse roots t u;
  news : CoreUse roots s u → ⊥;
}

-- what a step of the core keeps, with the homes of keys afterwards
pub record CoreKeeps (roots : ℕ) (given : Homes) (s t : Core Term ℕ) (sent : Option (Outgoing Term ℕ)) : Type 0 where
  pub new : Homes
  pub grows : HomesStay given new
  pub stands : CoreStands roots new t
  pub nas : (k : Term) (count : ℕ) → NasDown roots s.partial s.context k count → NasDown roots t.partial t.context k count
  pub uses : AllOf (NewDown roots s t) (uses_in sent)
  pub apart : AllApart (uses_in sent)
  pub sends : (taken : Homes) → IfSome sent (RecordStands taken new)

module _ (roots : ℕ) (given : Homes) where
  -- no key is given, no COUNT taken
  keeps : (s t : Core Term ℕ) (sent : Option (Outgoing Term ℕ)) → CoreStands roots given t →
      ((k : Term) (count : ℕ) → NasDown roots s.partial s.context k count → NasDown roots t.partial t.context k count) →
      AllOf (NewDown roots s t) (uses_in sent) → AllApart (uses_in sent) → ((taken : Homes) → IfSome sent (RecordStands taken given)) →
      CoreKeeps roots given s t sent
  keeps s t sent stands nas uses apart sends = record {
    new = given;
    grows = λ k h e. e;
    stands = stands;
    nas = nas;
    uses = uses;
    apart = apart;
    sends = sends;
  }

  -- nothing changes
  still : (s : Core Term ℕ) → CoreStands roots given s → CoreKeeps roots given s s None
  still s h = keeps s s None h (λ k count u. u) tt tt (λ taken. tt)

  module _ (s : Core Term ℕ) (c : CoreContext Term) where
    -- a trigger is below the next COUNT to be taken
    due_below : (o : Option ℕ) → IfSome o (λ count. count < c.nas.receive) → due o c.nas.receive ≤ c.nas.receive
    due_below None h = omega arith
    due_below (Some count) h = omega arith

    -- and where none stands, the next one is what is due
    due_rises : (o : Option ℕ) (count : ℕ) → c.nas.receive ≤ count → due o c.nas.receive ≤ due o (count + 1)
    due_rises None count le = omega arith
    due_rises (Some n) count le = omega arith

    -- a trigger stays below the next COUNT to be taken
    trigger_below : (o : Option ℕ) (count : ℕ) → c.nas.receive ≤ count → IfSome o (λ n. n < c.nas.receive) → IfSome o (λ n. n < count + 1)
    trigger_below None count le h = tt
    trigger_below (Some n) count le h = omega arith

    -- a message of a COUNT was taken
    taken_stands : (count : ℕ) (procedure : Option (Keys Term)) → c.nas.receive ≤ count → CoreStands roots given (record s { context = Some c }) →
        IfSome procedure (λ keys. IfSome s.partial (λ p. NasKeysOf p.root keys)) →
        CoreStands roots given (record s { context = Some (nas_taken count c); procedure = procedure })
    taken_stands count procedure le h p = record {
      kasmes = h.kasmes;
      keys = h.keys;
      procedure = p;
      trigger = trigger_below s.trigger count le h.trigger;
      past = λ t k e. later_mark roots (core_partial_root s.partial) (authentication_of c.nas.root) (due s.trigger c.nas.receive) (due s.trigger (count + 1)) t
          (due_rises s.trigger count le) (h.past t k e);
    }

    -- and asks for a connection
    asked_stands : (count : ℕ) → c.nas.receive ≤ count → CoreStands roots given (record s { context = Some c }) →
        CoreStands roots given (record s { context = Some (nas_taken count c); trigger = Some count })
    asked_stands count le h = record {
      kasmes = h.kasmes;
      keys = h.keys;
      procedure = h.procedure;
      trigger = omega arith;
      past = λ t k e. later_mark roots (core_partial_root s.partial) (authentication_of c.nas.root) (due s.trigger c.nas.receive) count t
          (let x = due_below s.trigger h.trigger in omega arith) (h.past t k e);
    }

    -- another KASME is that of a newer partial context
    other_root : (root : Term) (P : CorePartial Term → Type 0) (o : Option (CorePartial Term))
        → IfSome (core_partial_root o) (λ p. authentication_of root < p) →
        IfSome o (λ p. root ≡ p.root → P p)
    other_root root P None h = tt
    other_root root P (Some p) h = λ e. let k = ap authentication_of e in absurd (omega arith)

    -- the next COUNT under a NAS key of the context
    new_nas : (type id bearer : ℕ) → IsNas type → CoreStands roots given (record s { context = Some c }) →
        NewDown roots (record s { context = Some c }) (record s { context = Some (nas_sent_to (c.nas.send + 1) c) })
        (record { key = Alg c.nas.root type id; count = c.nas.send; bearer = bearer; dir = Down })
    new_nas type id bearer lt h = let (low, newer) = h.kasmes.1 in record {
      down = refl;
      of_nas = lt;
      now = λ n. (low, other_root c.nas.root (λ p. c.nas.send < p.send) s.partial newer, λ e. omega arith);
      news = λ old. let x = (old lt).2 refl in absurd (omega arith);
    }

    -- both uses of a NAS sending are new, and apart
    abbrev BothNas : Keys Term → Type 0
    BothNas keys =
        NewDown roots (record s { context = Some c }) (record s { context = Some (nas_sent_to (c.nas.send + 1) c) }) (nas_use Down keys.enc c.nas.send)
        × NewDown roots (record s { context = Some c }) (record s { context = Some (nas_sent_to (c.nas.send + 1) c) }) (nas_use Down keys.int c.nas.send)
        × (nas_use Down keys.int c.nas.send ≡ nas_use Down keys.enc c.nas.send → ⊥)

    -- a NAS text takes the next COUNT
    text_sent : (text : List ℕ) → CoreStands roots given (record s { context = Some c }) →
        CoreKeeps roots given (record s { context = Some c }) (record s { context = Some (nas_sent_to (c.nas.send + 1) c) })
        (Some (nas_text c.nas.keys c.nas.send text))
    text_sent text h =
        let b = subst BothNas (sym h.keys) (
          new_nas 1 (identity_of c.nas.keys.algs.eea) nas_bearer (omega arith) h,
          new_nas 2 eia2_identity nas_bearer (omega arith) h,
          types_apart _ _ 1 2 refl refl (λ e. absurd (omega arith)),
        ) in
        keeps _ _ _ h (λ k count u. (u.0, u.1, λ e. let x = u.2 e in omega arith)) (b.0, (b.1, tt)) (both_apart _ _ b.2) (λ taken. tt)

    -- COUNTs are left out
    skipped_on : (n : ℕ) → c.nas.send ≤ n → CoreStands roots given (record s { context = Some c }) →
        CoreKeeps roots given (record s { context = Some c }) (record s { context = Some (nas_sent_to n c) }) None
    skipped_on n le h = keeps _ _ None h (λ k count u. (u.0, u.1, λ e. let x = u.2 e in omega arith)) tt tt (λ taken. tt)

  -- of a core that stands so
  abbrev Keeps : Core Term ℕ → CoreDone Term ℕ → Type 0
  Keeps s d = CoreStands roots given s → CoreKeeps roots given s d.0 d.1.sent

  -- with a new context in use all that was given is of an older authentication; the KeNB of a key change is of the new one, and no
  -- station makes a context of it
  nas_keeps : (same : Term → Term → Bool) (pdu : List ℕ) (outcome : Outcome) (s : Core Term ℕ)
      → NasCases (term_reading_by same) (λ t row. NasHas (term_reading_by same) t pdu outcome row) Keeps s
  nas_keeps same pdu outcome s = record {
    nothing = λ t answer h. still t h;
    closed = λ f h. keeps s _ None (search)
        (λ k count u. u) tt tt (λ taken. tt);
    completed = λ count p keys f h. keeps _ _ None
        (record {
          kasmes = (tt, (h.kasmes.0, tt));
          keys = h.procedure;
          procedure = tt;
          trigger = omega arith;
          past = λ t k e. let (low, older, _) = h.past t k e in (low, tt, (omega arith, λ f. absurd (omega arith)));
        })
        (λ k n u. (u.0, tt, u.1)) tt tt (λ taken. tt);
    changed = λ count conn next station p keys f h. keeps _ _ _
        (record {
          kasmes = (tt, (h.kasmes.0, tt));
          keys = h.procedure;
          procedure = tt;
          trigger = tt;
          past = λ t k e. let (low, older, _) = h.past t k e in (low, tt, (omega arith, λ f. absurd (omega arith)));
        })
        (λ k n u. (u.0, tt, u.1)) tt tt (λ taken. tt);
    asked = λ count c f h. keeps _ _ None (asked_stands s c count (opens_above f) h) (λ k n u. u) tt tt (λ taken. tt);
    opened = λ count text c f h. keeps _ _ None (taken_stands s c count s.procedure (opens_above f) h h.procedure) (λ k n u. u) tt tt (λ taken. tt);
    rejected = λ count c f h. keeps _ _ None (taken_stands s c count None (opens_above f.3) h tt) (λ k n u. u) tt tt (λ taken. tt);
  }

  pub core_nas_keeps : (same : Term → Term → Bool) (s : Core Term ℕ) (pdu : List ℕ) (outcome : Outcome) (row : CoreNasRow)
      → NasHas (term_reading_by same) s pdu outcome row → CoreStands roots given s →
      let d = core_does_nas (term_reading_by same) row s in CoreKeeps roots given s d.0 d.1.sent
  core_nas_keeps same s pdu outcome row f h = nas_case (term_reading_by same) _ Keeps s (nas_keeps same pdu outcome s) row f h

  -- records of S1 move the chain alone
  record_keeps : (same : Term → Term → Bool) (s : Core Term ℕ) → RecordCases (term_reading_by same) Anything Keeps s
  record_keeps same s = record {
    nothing = λ t answer h. still t h;
    switched = λ conn station number alarm link f h. keeps _ _ _ h (λ k count u. u) tt tt (λ taken. tt);
    asked = λ conn source attempt cell target caps link f h. keeps _ _ _ h (λ k count u. u) tt tt (λ taken. tt);
    ordered = λ conn source attempt cell ncc algs air f h. keeps s s _ h (λ k count u. u) tt tt (λ taken. tt);
    notified = λ station link f h. keeps _ _ None h (λ k count u. u) tt tt (λ taken. tt);
    cancelled = λ conn source attempt cell target f h. keeps s s _ h (λ k count u. u) tt tt (λ taken. tt);
  }

  pub core_record_keeps : (same : Term → Term → Bool) (row : CoreRecordRow) (s : Core Term ℕ) → CoreStands roots given s →
      let d = core_does_record (term_reading_by same) row s in CoreKeeps roots given s d.0 d.1.sent
  core_record_keeps same row s h = record_case (term_reading_by same) Anything Keeps s (record_keeps same s) row tt h

  -- acts

  -- the Security Mode Command takes the next downlink COUNT of the partial context
  started_keeps : (same : Term → Term → Bool) (ksi : ℕ) (algs : Algs) (caps : Caps) (count : ℕ) (s : Core Term ℕ) (p : CorePartial Term)
      → count ≡ p.send → Keeps (with_partial s (Some p)) (smc_started (term_reading_by same) ksi algs caps count (Some p) (with_partial s (Some p)))
  started_keeps same ksi algs caps count s p e h =
      keeps _ _ _ (search)
      (λ k n u. (u.0, (λ g. let x = u.1 g in omega arith), u.2)) (
        record {
          down = refl;
          of_nas = omega arith;
          now = λ n. (h.kasmes.0, λ g. omega arith, older s.context h.kasmes.1);
          news = λ old. let x = (old (omega arith)).1 refl in absurd (omega arith);
        },
        tt,
      )
      (tt, tt) (λ taken. tt)
    where
      older : (o : Option (CoreContext Term)) → IfSome (core_context_root o) (λ c. (c < roots) × (c < authentication_of p.root))
          → IfSome o (λ c. p.root ≡ c.nas.root → count < c.nas.send)
      older None k = tt
      older (Some c) k = λ g. let x = ap authentication_of g in let y = k.1 in absurd (omega arith)

  -- a NAS text is sent
  sent_keeps : (count : ℕ) (text : List ℕ) (s : Core Term ℕ) (c : CoreContext Term)
      → count ≡ c.nas.send → Keeps (with_context s (Some c)) (nas_sent count text (Some c) (with_context s (Some c)))
  sent_keeps count text s c e h =
      subst (λ n. let d = nas_sent n text (Some c) (with_context s (Some c)) in CoreKeeps roots given (with_context s (Some c)) d.0 d.1.sent) (sym e)
      (text_sent s c text h)

  -- the KeNB of the trigger has no home yet, and gets the station of the cell
  set_up_keeps : (same : Term → Term → Bool) (conn : ℕ) (cell : Place) (target : ℕ) (caps : Caps) (count : ℕ) (s : Core Term ℕ)
      (c : CoreContext Term) (trigger : Option ℕ) → trigger ≡ Some count →
      let now : Core Term ℕ = record s { context = Some c; trigger = trigger } in
      CoreStands roots given now →
      let d = context_set_up (term_reading_by same) conn cell target caps count (Some c) now in CoreKeeps roots given now d.0 d.1.sent
  set_up_keeps same conn cell target caps count s c None e h = absurd (cc)
  set_up_keeps same conn cell target caps count s c (Some n) e h = record {
    new = homed given kenb (home_at target conn);
    grows = homed_grows given kenb (home_at target conn) not_given;
    stands = search (all);
    nas = λ k m u. u;
    uses = tt;
    apart = tt;
    sends = λ taken. record { station = target; is_to = refl; here = homed_here given kenb (home_at target conn); no_star = refl };
  }
    where
      kenb : Term
      kenb = Kenb c.nas.root count

      not_given : (k : Home) → given kenb ≡ Some k → ⊥
      not_given k f = let (_, _, (_, earlier)) = h.past kenb k f in let x = earlier refl in let y = by_some e in absurd (omega arith)

      all : (t : Term) (k : Home) → homed given kenb (home_at target conn) t ≡ Some k → IsPast roots (core_partial_root s.partial) (core_mark None (Some c)) t
      all t k f = by_side (homed_is given kenb (home_at target conn) t k f) where
        by_side : ((given t ≡ Some k) ⊎ ((t ≡ kenb) × (home_at target conn ≡ k))) → IsPast roots (core_partial_root s.partial) (core_mark None (Some c)) t
        by_side (inl g) =
            later_mark roots (core_partial_root s.partial) (authentication_of c.nas.root) n c.nas.receive t (let x = h.trigger in omega arith) (h.past t k g)
        by_side (inr g) =
            let (low, older) = h.kasmes.1 in
            subst (IsPast roots (core_partial_root s.partial) (core_mark None (Some c))) (sym g.0)
            (low, older, (omega arith, λ i. let x = h.trigger in let y = by_some e in omega arith))

  act_keeps : (same : Term → Term → Bool) (act : CoreAct) (s : Core Term ℕ) → ActCases (term_reading_by same) (λ t row. ActHas t act row) Keeps s
  act_keeps same act s = record {
    nothing = λ t answer h. still t h;
    started = λ ksi algs caps count p f h.
        started_keeps same ksi algs caps count s p (subst (λ o. IfSome o (λ q. count ≡ q.send)) (sym f.holds) f.count_is) h;
    set_up = λ conn cell target caps count c f h. set_up_keeps same conn cell target caps count s c s.trigger f.triggered h;
    released = λ conn station f h. keeps s _ _ h (λ k count u. u) tt tt (λ taken. tt);
    sent = λ count text c f h. sent_keeps count text s c (subst (λ o. IfSome o (λ x. count ≡ x.nas.send)) (sym f.in_use) f.count_is) h;
    skipped = λ n c f h. skipped_on s c (skipped n c.nas.send nas_count_limit) (omega arith) h;
  }

  pub core_act_keeps : (same : Term → Term → Bool) (s : Core Term ℕ) (act : CoreAct) (row : CoreActRow) → ActHas s act row → CoreStands roots given s →
      let d = core_does_act (term_reading_by same) row s in CoreKeeps roots given s d.0 d.1.sent
  core_act_keeps same s act row f h = act_case (term_reading_by same) _ Keeps s (act_keeps same act s) row f h
