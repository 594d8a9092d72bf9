-- What each row of the core keeps: it gives each key to one station, since each key that it gives is a later one.
use Rattle.std.proofs.Common.{◌≡◌, refl, sym, ◌∙◌, subst, ℕ, suc, ◌+◌, ◌≤◌, ◌<◌, ◌⊎◌, inl, inr, Bool, List, [], Option, Some, None, Result, Ok, Err, arith}
use Rattle.std.specs.Prelude.{⊤}
use Rattle.alg_choice.specs.declared.caps.Caps.{Caps}
use Rattle.annex_a_keys.specs.Cell.{Place}
use Rattle.rec_base.specs.declared.faults.RecFault.{RecFault}
use Rattle.lte_events.specs.{Site.Site, declared.acts.CoreAct.CoreAct, declared.addresses.Address.TheVariants.StationS1, declared.answers.Answer.TheVariants.BadRecord, declared.setups.FirstNcc.FirstNcc}
use Rattle.lte_events.specs.declared.setups.FirstNcc.TheVariants.{One, Two}
use Rattle.nas_count.specs.Estimate.{nas_count_limit}
use Rattle.nas_guard.specs.Keys.{Keys}
use Rattle.key_model.specs.Term.{Term, Kenb, Nh, IsRoot, IsDerivationKey, IsWellFormed}
use Rattle.key_model.specs.{HandoverTable.NumberedKey, Number.chain_number, Reading.term_reading_by}
use Rattle.s1x2_rec.specs.Content.{Content}
use Rattle.s1x2_rec.specs.Fields.{Fields, InitialContext, ContextRelease, PathSwitchAnswer, HandoverRequest, ContextModification}
use Rattle.nh_chain.specs.Chain.{ChainState, stepped, present_pair}
use Rattle.lte_machine.specs.{Bearers.skipped, Wire.Outgoing, Wire.Between, Opening.Outcome, CoreChoice.core_fields_row, CoreChoice.core_act_row, CoreStep.plain_core, CoreStep.core_step, World.with_one}
use Rattle.lte_machine.specs.Reply.{Reply, Tried, only}
use Rattle.lte_machine.specs.CoreState.{Core, CorePartial, CoreContext, CoreLink, CoreInput, CoreActs, CoreNasPdu, CoreRecord}
use Rattle.lte_machine.specs.CoreKeys.{nas_sent_to, CoreDone, chain_from, nh_kept, authenticated, smc_complete, service_asked, context_set_up, path_switched, handover_asked, key_changed, new_context}
use Rattle.lte_machine.proofs.CoreCases.{with_procedure, with_partial, with_context, with_link, NasCases, nas_case, RecordCases, record_case, ActCases, act_case}
use Rattle.lte_machine.proofs.{ActFacts.ActHas, ActFacts.act_has, S1Facts.RecordHas, S1Facts.record_has}
use Rattle.lte_machine.proofs.NasFacts.{NasHas, nas_row, nas_has, opens_above}
use Rattle.lte_properties.specs.Separation.{GivenTo}
use Rattle.lte_properties.proofs.{ChainNumbers.Lists.OfSome, KeySeparation.Phone.root_derives}
use Rattle.lte_properties.proofs.KeySeparation.Keys.{Gifts, GivesIn, given_split, FieldsOk, FlyOk, OutsAre}
use Rattle.lte_properties.proofs.KeySeparation.CoreKeeps.{root_number, count_of, BelowPartial, next_count, BelowContext, Past, AtMost, PartialOk, ContextOk, TriggerOk, ChainOk, LinkOk, CoreOk, CoreKept, below_partial_same, past_same}

-- a record that was read: one that asks for a handover is of an attempt
abbrev pub ReadOk : List (Tried Term ℕ) → Result (Content Term ℕ) RecFault → Type 0
ReadOk tried (Ok content) = FieldsOk tried content.fields content.key
ReadOk tried (Err fault) = ⊤

-- a chain goes on to a key that was not given
not_itself : (n : ℕ) → suc n ≤ n → ⊥
not_itself n h = omega arith

not_below : (n : ℕ) → n < n → ⊥
not_below n h = omega arith

-- a chain that begins, with the NH of number 1 kept or not: its key, and what was given no later than KeNB
module _ (same : Term → Term → Bool) (root : Term) (count : ℕ) where
  begun_ok : (first : FirstNcc) (roots : ℕ) (p : Option (CorePartial Term)) (c : Option (CoreContext Term)) (tr : Option ℕ) → IsRoot root
      → Past roots p c tr (Kenb root count)
      → ChainOk roots p c tr (chain_from (term_reading_by same) first root (Kenb root count))
  begun_ok One roots p c tr is past = (is, is, refl, past)
  begun_ok Two roots p c tr is past =
      (is, (is, is), refl, past_same roots p c tr (Kenb root count) (Nh root (Kenb root count)) refl refl past)

  abbrev AtKenb : Term → Type 0
  AtKenb u =
      (root_number u ≤ root_number root)
      × (root_number u ≡ root_number root → (count_of u ≤ count) × (count_of u ≡ count → chain_number u ≤ 0))

  at_first : {n : ℕ} → n ≤ 0 → n ≤ 1
  at_first low = omega arith

  begun_most : (first : FirstNcc) (conn station : ℕ) (u : Term) → AtKenb u
      → AtMost (Some (record { conn = conn; chain = chain_from (term_reading_by same) first root (Kenb root count); station = station })) u
  begun_most One conn station u h = h
  begun_most Two conn station u h = (h.0, λ e. let k = h.1 e in (k.0, λ f. at_first (k.1 f)))

  kept_well : (first : FirstNcc) → IsRoot root → OutsAre IsWellFormed (nh_kept (term_reading_by same) first root (Kenb root count))
  kept_well One is = tt
  kept_well Two is = ((is, is), tt)

module _ (roots : ℕ) (xs : List (Outgoing Term ℕ)) (G : Gifts) (sites : List Site) (tried : List (Tried Term ℕ)) (same : Term → Term → Bool) (s : Core Term ℕ) where
  abbrev Before : Core Term ℕ → Type 0
  Before t = CoreOk roots (GivenTo xs) t

  abbrev After : CoreDone Term ℕ → Type 0
  After d = CoreKept roots xs G sites tried d

  -- of a core before which all was well
  abbrev Keeps : Core Term ℕ → CoreDone Term ℕ → Type 0
  Keeps t d = Before t → After d

  -- what was given, where nothing is given now
  still : (x : Option (Outgoing Term ℕ)) (P : Term → Type 0) → ((t : Term) (id : ℕ) → GivesIn x t id → ⊥) → ((t : Term) (id : ℕ) → GivenTo xs t id → P t) →
      (t : Term) (id : ℕ) → GivenTo (with_one x xs) t id → P t
  still x P none h t id g = by (given_split x xs t id g) where
    by : GivenTo xs t id ⊎ GivesIn x t id → P t
    by (inl k) = h t id k
    by (inr k) = absurd (none t id k)

  chain_past : (p q : Option (CorePartial Term)) (c d : Option (CoreContext Term)) (tr ur : Option ℕ)
      → ((t : Term) → Past roots p c tr t → Past roots q d ur t) → (o : Option (CoreLink Term ℕ)) →
      LinkOk roots p c tr o → LinkOk roots q d ur o
  chain_past p q c d tr ur f None h = tt
  chain_past p q c d tr ur f (Some l) h = search (f)

  -- a step that gives no key, after which the keys of before are past
  quiet : (old t : Core Term ℕ) (reply : Reply Term ℕ) → Before old → t.link ≡ old.link → PartialOk roots t.partial
      → ContextOk roots t.partial t.context → TriggerOk t.trigger t.context →
      ((u : Term) → Past roots old.partial old.context old.trigger u → Past roots t.partial t.context t.trigger u) →
      ((u : Term) (id : ℕ) → GivesIn reply.sent u id → ⊥) → OutsAre IsWellFormed reply.derived →
      OfSome (FlyOk G sites tried) reply.sent → After (t, reply)
  quiet old t reply h e p c tr past none outs sends = record {
    ok = record {
      partial = p;
      context = c;
      trigger = tr;
      link = subst (LinkOk roots t.partial t.context t.trigger) (sym e)
          (chain_past old.partial t.partial old.context t.context old.trigger t.trigger past old.link h.link);
      given = still reply.sent (λ u. Past roots t.partial t.context t.trigger u × AtMost t.link u) none
          (λ u id g. let k = h.given u id g in (past u k.0, subst (λ o. AtMost o u) (sym e) k.1));
    };
    outs = outs;
    sends = λ le. sends;
    fresh = λ u a b g k. none u b k;
  }

  -- and that keeps the roots, COUNTs and trigger
  calm : (t : Core Term ℕ) (reply : Reply Term ℕ) → Before t → ((u : Term) (id : ℕ) → GivesIn reply.sent u id → ⊥) → OutsAre IsWellFormed reply.derived →
      OfSome (FlyOk G sites tried) reply.sent → After (t, reply)
  calm t reply h none outs sends = quiet t t reply h refl h.partial h.context h.trigger (λ u k. k) none outs sends

  -- BY A NAS MESSAGE

  complete_kept : (count : ℕ) (p : CorePartial Term) (keys : Keys Term) → let t = with_procedure s (Some p) (Some keys) in
      Keeps t (smc_complete count (Some p) (Some keys) t)
  complete_kept count p keys h =
      quiet (with_procedure s (Some p) (Some keys)) _ _ h refl tt (h.partial.0, h.partial.1, tt) below past (λ u id g. g) tt tt
    where
      below : count < count + 1
      below = omega arith

      least : (a b n : ℕ) → a < b → (a ≤ b) × (a ≡ b → n < count)
      least a b n lt = (omega arith, λ e. omega arith)

      past : (u : Term) → Past roots (Some p) s.context s.trigger u
          → (root_number u < roots) × ⊤ × ((root_number u ≤ root_number p.root) × (root_number u ≡ root_number p.root → count_of u < count))
      past u k = (k.0, tt, least (root_number u) (root_number p.root) (count_of u) k.1)

  -- the KeNB of the new context is of a later authentication than all that was given
  changed_kept : (count conn next station : ℕ) (p : CorePartial Term) (keys : Keys Term) → let t = with_procedure s (Some p) (Some keys) in
      Keeps t (key_changed (term_reading_by same) count conn next station (Some p) (Some keys) t)
  changed_kept count conn next station p keys h = record {
    ok = record {
      partial = tt;
      context = (h.partial.0, h.partial.1, tt);
      trigger = tt;
      link = begun_ok same p.root count s.first_ncc roots None (Some (new_context p keys count)) None h.partial.0 kenb_past;
      given = λ u id q. let k = by u id (given_split (Some sent) xs u id q) in (k.0, begun_most same p.root count s.first_ncc next station u k.1);
    };
    outs = (h.partial.0, kept_well same p.root count s.first_ncc h.partial.0);
    sends = λ le. (((h.partial.0, le (Kenb p.root count) station (refl, refl)), tt), tt);
    fresh = λ t a b g l.
        let ((_, before, _), _) = h.given (Kenb p.root count) a (subst (λ u. GivenTo xs u a) (sym l.0) g) in not_below (root_number p.root) before;
  } where
    sent : Outgoing Term ℕ
    sent = Between (StationS1 station) (ContextModification conn next) (Some (record { key = Kenb p.root count; number = 0 }))

    kenb_past : Past roots None (Some (new_context p keys count)) None (Kenb p.root count)
    kenb_past = (h.partial.1, tt, (omega arith, λ g. omega arith))

    below : (m : ℕ) → m < root_number p.root → (m ≤ root_number p.root) × (m ≡ root_number p.root → ⊥)
    below m lt = (omega arith, λ e. omega arith)

    old : (u : Term) (id : ℕ) → GivenTo xs u id
        → Past roots None (Some (new_context p keys count)) None u × ((root_number u ≤ root_number p.root) × (root_number u ≡ root_number p.root →
        (count_of u ≤ count) × (count_of u ≡ count → chain_number u ≤ 0)))
    old u id g =
        let q = (h.given u id g).0 in
        let b = below (root_number u) q.1 in
        ((q.0, tt, (b.0, λ e. absurd (b.1 e))), (b.0, λ e. absurd (b.1 e)))

    by : (u : Term) (id : ℕ) → GivenTo xs u id ⊎ GivesIn (Some sent) u id
        → Past roots None (Some (new_context p keys count)) None u × ((root_number u ≤ root_number p.root) × (root_number u ≡ root_number p.root →
        (count_of u ≤ count) × (count_of u ≡ count → chain_number u ≤ 0)))
    by u id (inl g) = old u id g
    by u id (inr g) =
        subst (λ v. Past roots None (Some (new_context p keys count)) None v × ((root_number v ≤ root_number p.root) × (root_number v ≡ root_number p.root →
        (count_of v ≤ count) × (count_of v ≡ count → chain_number v ≤ 0)))) g.0 (kenb_past, (omega arith, λ e. (omega arith, λ i. omega arith)))

  asked_kept : (count : ℕ) (c : CoreContext Term) → c.nas.receive ≤ count → let t = with_context s (Some c) in Keeps t (service_asked count (Some c) t)
  asked_kept count c n h =
      quiet (record s { context = Some c }) _ _ h refl h.partial h.context below past (λ u id g. g) tt tt
    where
      below : count < count + 1
      below = omega arith

      rises : (tr : Option ℕ) → TriggerOk tr (Some c) → (m : ℕ) → m < next_count tr c.nas.receive → m < count
      rises None k m lt = omega arith
      rises (Some old) k m lt = omega arith

      past : (u : Term) → Past roots s.partial (Some c) s.trigger u
          → (root_number u < roots) × BelowPartial s.partial u
          × ((root_number u ≤ root_number c.nas.root) × (root_number u ≡ root_number c.nas.root → count_of u < count))
      past u (low, partial, (no_later, earlier)) = (low, partial, (no_later, λ e. rises s.trigger h.trigger (count_of u) (earlier e)))

  -- a message of this COUNT was taken, and the trigger stays
  count_kept : (count : ℕ) (c : CoreContext Term) → c.nas.receive ≤ count → (t : Core Term ℕ) (reply : Reply Term ℕ) → Before (record s { context = Some c }) →
      t.link ≡ s.link → t.partial ≡ s.partial → t.trigger ≡ s.trigger →
      t.context ≡ Some (record c { nas = record c.nas { receive = count + 1 } }) → reply.sent ≡ None → reply.derived ≡ [] → After (t, reply)
  count_kept count c n t reply h e f g i j k =
      quiet (record s { context = Some c }) t reply h e (subst (PartialOk roots) (sym f) h.partial)
      (subst (λ p. ContextOk roots p t.context) (sym f) (subst (ContextOk roots s.partial) (sym i) h.context))
      (subst (λ r. TriggerOk r t.context) (sym g) (subst (TriggerOk s.trigger) (sym i) (triggered s.trigger h.trigger)))
      (λ u (low, partial, (no_later, earlier)). subst (λ p. Past roots p t.context t.trigger u) (sym f) (subst (λ r. Past roots s.partial t.context r u) (sym g)
      (subst (λ o. Past roots s.partial o s.trigger u) (sym i) (low, partial, (no_later, λ e. rises s.trigger (count_of u) (earlier e))))))
      (λ u id. subst (λ x. GivesIn x u id → ⊥) (sym j) (λ l. l))
      (subst (OutsAre IsWellFormed) (sym k) tt)
      (subst (OfSome (FlyOk G sites tried)) (sym j) tt)
    where
      rises : (tr : Option ℕ) (m : ℕ) → m < next_count tr c.nas.receive → m < next_count tr (count + 1)
      rises None m lt = omega arith
      rises (Some old) m lt = lt

      triggered : (tr : Option ℕ) → TriggerOk tr (Some c) → TriggerOk tr (Some (record c { nas = record c.nas { receive = count + 1 } }))
      triggered None k = tt
      triggered (Some old) k = omega arith

  nas_kept : (pdu : List ℕ) (outcome : Outcome) → NasCases (term_reading_by same) (λ t row. NasHas (term_reading_by same) t pdu outcome row) Keeps s
  nas_kept pdu outcome = record {
    nothing = λ t answer h. calm _ _ h (λ u id g. g) tt tt;
    closed = λ f h. quiet s _ _ h refl h.partial h.context h.trigger (λ u k. k) (λ u id g. g) tt tt;
    completed = λ count p keys f h. complete_kept count p keys h;
    changed = λ count conn next station p keys f h. changed_kept count conn next station p keys h;
    asked = λ count c f h. asked_kept count c (opens_above f) h;
    opened = λ count text c f h. count_kept count c (opens_above f) _ _ h refl refl refl refl refl refl;
    rejected = λ count c f h. count_kept count c (opens_above f.3) _ _ h refl refl refl refl refl refl;
  }

  -- A CHAIN GOES ONE STEP ON

  -- the next key of the chain goes to this station, in this record
  abbrev pair_sent : CoreLink Term ℕ → ℕ → Fields → Outgoing Term ℕ
  pair_sent link target fields = Between (StationS1 target) fields (Some (present_pair (stepped (term_reading_by same) link.chain)))

  step_kept : (link new : CoreLink Term ℕ) (target : ℕ) (fields : Fields) (t : Core Term ℕ) (reply : Reply Term ℕ) →
      Before (record s { link = Some link }) → new.chain ≡ stepped (term_reading_by same) link.chain →
      reply.sent ≡ Some (pair_sent link target fields) → t.link ≡ Some new → t.partial ≡ s.partial → t.context ≡ s.context → t.trigger ≡ s.trigger →
      CoreOk roots (GivenTo (with_one (Some (pair_sent link target fields)) xs)) t
  step_kept link new target fields t reply h e f g i j k = record {
    partial = subst (PartialOk roots) (sym i) h.partial;
    context = subst (λ o. ContextOk roots o t.context) (sym i) (subst (ContextOk roots s.partial) (sym j) h.context);
    trigger = subst (λ o. TriggerOk o t.context) (sym k) (subst (TriggerOk s.trigger) (sym j) h.trigger);
    link = subst (λ o. LinkOk roots t.partial t.context t.trigger o) (sym g) (subst (ChainOk roots t.partial t.context t.trigger) (sym e)
        (subst (λ o. ChainOk roots o t.context t.trigger chain) (sym i) (subst (λ o. ChainOk roots s.partial o t.trigger chain) (sym j)
        (subst (λ o. ChainOk roots s.partial s.context o chain) (sym k) (h.link.0, (h.link.0, h.link.1), refl, next_past)))));
    given = λ u id q. by u id (given_split (Some (pair_sent link target fields)) xs u id q);
  } where
    chain : ChainState Term ℕ
    chain = stepped (term_reading_by same) link.chain

    next_past : Past roots s.partial s.context s.trigger (Nh link.chain.root link.chain.sync)
    next_past = past_same roots s.partial s.context s.trigger link.chain.sync (Nh link.chain.root link.chain.sync) h.link.2 refl h.link.3

    moved : (u : Term) → Past roots s.partial s.context s.trigger u → Past roots t.partial t.context t.trigger u
    moved u q =
        subst (λ o. Past roots o t.context t.trigger u) (sym i) (subst (λ o. Past roots s.partial o t.trigger u) (sym j)
        (subst (λ o. Past roots s.partial s.context o u) (sym k) q))

    below : (u : Term) → AtMost (Some link) u → AtMost (Some (record new { chain = chain })) u
    below u q = (subst (λ n. root_number u ≤ n) (sym h.link.2) q.0, λ a. let r = q.1 (a ∙ h.link.2) in (r.0, λ b. rise (r.1 b))) where
      rise : chain_number u ≤ chain_number link.chain.sync → chain_number u ≤ suc (chain_number link.chain.sync)
      rise l = omega arith

    itself : AtMost (Some (record new { chain = chain })) (Nh link.chain.root link.chain.sync)
    itself = (omega arith, λ a. (omega arith, λ b. omega arith))

    at_most : (u : Term) → AtMost (Some (record new { chain = chain })) u → AtMost t.link u
    at_most u q = subst (λ o. AtMost o u) (sym g) (subst (λ c. AtMost (Some (record new { chain = c })) u) (sym e) q)

    by : (u : Term) (id : ℕ) → GivenTo xs u id ⊎ GivesIn (Some (pair_sent link target fields)) u id
        → Past roots t.partial t.context t.trigger u × AtMost t.link u
    by u id (inl q) = let r = h.given u id q in (moved u r.0, at_most u (below u r.1))
    by u id (inr q) = subst (λ v. Past roots t.partial t.context t.trigger v × AtMost t.link v) q.0 (moved _ next_past, at_most _ itself)

  -- it was given to nobody before
  step_fresh : (link : CoreLink Term ℕ) (target : ℕ) (fields : Fields) → Before (record s { link = Some link }) → (t : Term) (a b : ℕ)
      → GivenTo xs t a → GivesIn (Some (pair_sent link target fields)) t b → ⊥
  step_fresh link target fields h t a b g k =
      let q = (h.given (Nh link.chain.root link.chain.sync) a (subst (λ u. GivenTo xs u a) (sym k.0) g)).1 in
      not_itself (chain_number link.chain.sync) ((q.1 h.link.2).1 refl)

  record_kept : (fields : Fields) (key : Option (NumberedKey Term ℕ)) → FieldsOk tried fields key
      → RecordCases (term_reading_by same) (λ t row. RecordHas t fields row) Keeps s
  record_kept fields key k = record {
    nothing = λ t answer h. calm _ _ h (λ u id g. g) tt tt;
    switched = λ conn station number alarm link f h. record {
      ok = step_kept link (record { conn = link.conn; chain = stepped (term_reading_by same) link.chain; station = station })
          station (PathSwitchAnswer conn number) _ (path_switched (term_reading_by same) conn station number alarm (Some link) (with_link s (Some link))).1
          h refl refl refl refl refl refl;
      outs = ((h.link.0, h.link.1), tt);
      sends = λ le. (((h.link.0, h.link.1, le (Nh link.chain.root link.chain.sync) station (refl, refl)), tt), tt);
      fresh = step_fresh link station (PathSwitchAnswer conn number) h;
    };
    asked = λ conn source attempt cell target caps link f h. record {
      ok = step_kept link (record link { chain = stepped (term_reading_by same) link.chain }) target (HandoverRequest conn source attempt cell caps)
          _ (handover_asked (term_reading_by same) conn source attempt cell target caps (Some link) (with_link s (Some link))).1
          h refl refl refl refl refl refl;
      outs = ((h.link.0, h.link.1), tt);
      sends = λ le. (((h.link.0, h.link.1, le (Nh link.chain.root link.chain.sync) target (refl, refl)), tt), subst (λ g. FieldsOk tried g key) f.fields_is k);
      fresh = step_fresh link target (HandoverRequest conn source attempt cell caps) h;
    };
    ordered = λ conn source attempt cell ncc algs air f h. calm _ _ h (λ u id g. g) tt (tt, tt);
    notified = λ station link f h. record {
      ok = record { partial = h.partial; context = h.context; trigger = h.trigger; link = h.link; given = h.given };
      outs = tt;
      sends = λ le. tt;
      fresh = λ u a b g k. k;
    };
    cancelled = λ conn source attempt cell target f h. calm _ _ h (λ u id g. g) tt (tt, tt);
  }

  -- BY AN ACT

  -- a KeNB of the COUNT that triggered, which was given to nobody before
  set_up_kept : (conn : ℕ) (cell : Place) (target : ℕ) (caps : Caps) (count : ℕ) (c : CoreContext Term) → s.trigger ≡ Some count
      → let t = with_context s (Some c) in
      Keeps t (context_set_up (term_reading_by same) conn cell target caps count (Some c) t)
  set_up_kept conn cell target caps count c e h = record {
    ok = record {
      partial = h.partial;
      context = h.context;
      trigger = tt;
      link = begun_ok same c.nas.root count s.first_ncc roots s.partial (Some c) None h.context.0 kenb_past;
      given = λ u id q. let k = by u id (given_split (Some sent) xs u id q) in (k.0, begun_most same c.nas.root count s.first_ncc conn target u k.1);
    };
    outs = (h.context.0, kept_well same c.nas.root count s.first_ncc h.context.0);
    sends = λ le. (((h.context.0, le (Kenb c.nas.root count) target (refl, refl)), tt), tt);
    fresh = λ t a b g k.
        let (_, _, (_, earlier)) = before (Kenb c.nas.root count) a (subst (λ u. GivenTo xs u a) (sym k.0) g) in not_below count (earlier refl);
  } where
    sent : Outgoing Term ℕ
    sent = Between (StationS1 target) (InitialContext conn cell caps) (Some (record { key = Kenb c.nas.root count; number = 0 }))

    taken : count < c.nas.receive
    taken = subst (λ o. TriggerOk o (Some c)) e h.trigger

    kenb_past : Past roots s.partial (Some c) None (Kenb c.nas.root count)
    kenb_past = (h.context.1, below_partial_same s.partial c.nas.root (Kenb c.nas.root count) refl h.context.2, (omega arith, λ g. taken))

    before : (u : Term) (id : ℕ) → GivenTo xs u id → Past roots s.partial (Some c) (Some count) u
    before u id g = subst (λ o. Past roots s.partial (Some c) o u) e (h.given u id g).0

    rise : (n : ℕ) → n < count → n < c.nas.receive
    rise n lt = omega (arith, taken)

    less : (n : ℕ) → n < count → n ≤ count
    less n lt = omega arith

    apart : (n : ℕ) → n < count → n ≡ count → ⊥
    apart n lt e = omega arith

    by : (u : Term) (id : ℕ) → GivenTo xs u id ⊎ GivesIn (Some sent) u id →
        Past roots s.partial (Some c) None u × ((root_number u ≤ root_number c.nas.root) × (root_number u ≡ root_number c.nas.root →
        (count_of u ≤ count) × (count_of u ≡ count → chain_number u ≤ 0)))
    by u id (inl q) =
        let (low, partial, (no_later, earlier)) = before u id q in (
          (low, partial, (no_later, λ g. rise (count_of u) (earlier g))),
          (no_later, λ g. (less (count_of u) (earlier g), λ i. absurd (apart (count_of u) (earlier g) i))),
        )
    by u id (inr q) =
        subst (λ v. Past roots s.partial (Some c) None v × ((root_number v ≤ root_number c.nas.root) × (root_number v ≡ root_number c.nas.root →
        (count_of v ≤ count) × (count_of v ≡ count → chain_number v ≤ 0)))) q.0 (kenb_past, (omega arith, λ g. (omega arith, λ i. omega arith)))

  -- COUNTs of the context in use go on
  send_kept : (n : ℕ) (c : CoreContext Term) (reply : Reply Term ℕ) → Before (with_context s (Some c))
      → ((u : Term) (id : ℕ) → GivesIn reply.sent u id → ⊥) → OutsAre IsWellFormed reply.derived →
      OfSome (FlyOk G sites tried) reply.sent → After (with_context s (Some (nas_sent_to n c)), reply)
  send_kept n c reply h none outs sends =
      quiet (with_context s (Some c)) _ _ h refl h.partial h.context (triggered s.trigger h.trigger) (λ u k. k) none outs sends
    where
      triggered : (tr : Option ℕ) → TriggerOk tr (Some c) → TriggerOk tr (Some (nas_sent_to n c))
      triggered None k = tt
      triggered (Some old) k = k

  act_kept : (act : CoreAct) → ActCases (term_reading_by same) (λ t row. ActHas t act row) Keeps s
  act_kept act = record {
    nothing = λ t answer h. calm _ _ h (λ u id g. g) tt tt;
    started = λ ksi algs caps count p f h. quiet (with_partial s (Some p)) _ _ h refl h.partial h.context h.trigger (λ u k. k) (λ u id g. g)
        (root_derives p.root h.partial.0, (root_derives p.root h.partial.0, tt)) tt;
    set_up = λ conn cell target caps count c f h. set_up_kept conn cell target caps count c f.triggered h;
    released = λ conn station f h. record {
      ok = record {
        partial = h.partial;
        context = h.context;
        trigger = h.trigger;
        link = tt;
        given = still (Some (Between (StationS1 station) (ContextRelease conn) None))
            (λ u. Past roots s.partial s.context s.trigger u × ⊤) (λ u id g. g) (λ u id g. ((h.given u id g).0, tt));
      };
      outs = tt;
      sends = λ le. (tt, tt);
      fresh = λ u a b g k. k;
    };
    sent = λ count text c f h. send_kept (count + 1) c _ h (λ u id g. g) tt tt;
    skipped = λ n c f h. send_kept (skipped n c.nas.send nas_count_limit) c _ h (λ u id g. g) tt tt;
  }

  -- A STEP

  abbrev Step : CoreInput Term ℕ → Outcome → Type 0
  Step input outcome = After (core_step (term_reading_by same) s input outcome)

  pub act_step : (act : CoreAct) (outcome : Outcome) → Before s → Step (CoreActs act) outcome
  act_step act outcome h =
      let k = act_case (term_reading_by same) _ Keeps s (act_kept act)
      (core_act_row (plain_core (term_reading_by same) s) act) (act_has (term_reading_by same) s act) h in
      record { ok = k.ok; outs = k.outs; sends = k.sends; fresh = k.fresh }

  pub nas_step : (pdu : List ℕ) (outcome : Outcome) → Before s → Step (CoreNasPdu pdu) outcome
  nas_step pdu outcome h =
      let k = nas_case (term_reading_by same) _ Keeps s (nas_kept pdu outcome)
      (nas_row (term_reading_by same) s pdu outcome) (nas_has (term_reading_by same) s pdu outcome) h in
      record { ok = k.ok; outs = k.outs; sends = k.sends; fresh = k.fresh }

  pub read_step : (read : Result (Content Term ℕ) RecFault) (outcome : Outcome) → ReadOk tried read → Before s → Step (CoreRecord read) outcome
  read_step (Err fault) outcome f h =
      let k = calm s (only (BadRecord fault)) h (λ u id g. g) tt tt in record { ok = k.ok; outs = k.outs; sends = k.sends; fresh = k.fresh }
  read_step (Ok content) outcome f h =
      let row = core_fields_row (plain_core (term_reading_by same) s) content.fields in
      let k = record_case (term_reading_by same) _ Keeps s (record_kept content.fields content.key f) row
      (record_has (term_reading_by same) s content.fields) h in
      record { ok = k.ok; outs = k.outs; sends = k.sends; fresh = k.fresh }

-- AN AUTHENTICATION

-- its KASME is the next one
pub auth_kept : (roots : ℕ) (G : Gifts) (s : Core Term ℕ) (ksi : ℕ) (caps : Caps) (root : Term) → IsRoot root → root_number root ≡ roots → CoreOk roots G s →
    CoreOk (roots + 1) G (authenticated ksi caps (Some root) s).0
auth_kept roots G s ksi caps root i e h = record {
  partial = (i, subst (λ n. n < roots + 1) (sym e) (omega arith));
  context = context s.context h.context;
  trigger = h.trigger;
  link = link s.link h.link;
  given = λ t id g. let k = h.given t id g in (past t k.0, k.1);
} where
  more : (n : ℕ) → n < roots → n < roots + 1
  more n lt = omega arith

  past : (t : Term) → Past roots s.partial s.context s.trigger t
      → (root_number t < roots + 1) × (root_number t < root_number root) × BelowContext s.context s.trigger t
  past t k = (more (root_number t) k.0, subst (λ n. root_number t < n) (sym e) k.0, k.2)

  context : (o : Option (CoreContext Term)) → ContextOk roots s.partial o
      → OfSome (λ c. IsRoot c.nas.root × (root_number c.nas.root < roots + 1) × (root_number c.nas.root < root_number root)) o
  context None k = tt
  context (Some c) k = (k.0, more (root_number c.nas.root) k.1, subst (λ n. root_number c.nas.root < n) (sym e) k.1)

  link : (o : Option (CoreLink Term ℕ)) → LinkOk roots s.partial s.context s.trigger o →
      OfSome (λ l. IsRoot l.chain.root × IsDerivationKey l.chain.sync × (root_number l.chain.root ≡ root_number l.chain.sync)
      × ((root_number l.chain.sync < roots + 1) × (root_number l.chain.sync < root_number root) × BelowContext s.context s.trigger l.chain.sync)) o
  link None k = tt
  link (Some l) k = search (past)
