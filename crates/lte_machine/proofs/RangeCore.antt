-- The core's step keeps its state in range, and what it sends on S1 is in range.
use Rattle.std.proofs.Common.{◌≡◌, sym, subst, ℕ, ◌+◌, ◌<◌, ◌≤◌, ◌^◌, Bool, false, nat_le, List, Option, Some, None, option_map, Ok, Err, arith}
use Rattle.std.proofs.lemmas.Bool.Decides.{nat_tests}
use Rattle.alg_choice.specs.{declared.caps.Caps.Caps, Caps.IsCaps}
use Rattle.annex_a_keys.specs.Cell.{Place}
use Rattle.lte_events.specs.{Ranges.IsCoreAct, declared.acts.CoreAct.CoreAct}
use Rattle.key_model.specs.{Reading.Reading, Reading.term_reading_by, Term.Term}
use Rattle.s1x2_rec.specs.{Fields.Fields, Fields.InitialContext, Fields.HandoverRequest, Spelling.FieldsInRange}
use Rattle.rec_base.specs.Ranges.{IsNumber}
use Rattle.lte_machine.specs.{Opening.Outcome, Reply.unseen, CoreKeys.CoreDone, CoreStep.plain_core, CoreStep.core_step}
use Rattle.lte_machine.specs.CoreState.{Core, CoreContext, CoreLink, CoreInput, CoreAuth, CoreActs, CoreNasPdu, CoreRecord, map_core_context}
use Rattle.lte_machine.specs.CoreChoice.{NUMBERS, caps_in_use, core_fields_row, core_act_row}
use Rattle.lte_machine.proofs.CoreCases.{with_procedure, with_context, with_link, NasCases, nas_case, RecordCases, record_case, ActCases, act_case}
use Rattle.lte_machine.proofs.ActFacts.{ActHas, SetsUp, act_has}
use Rattle.lte_machine.proofs.NasFacts.{NasHas, Changes, nas_row, nas_has}
use Rattle.lte_machine.proofs.RangeHolds.{SentRanged, CoreContextRanged, LinkRanged, CoreRanged, CoreInputRanged}
use Rattle.lte_machine.proofs.RangeStation.{three_bits}
use Rattle.lte_machine.proofs.S1Facts.{RecordHas, Switches, Asks, record_has}

-- WHAT THE CHOICE ESTABLISHED

module _ {K C : Type 0} (s : Core K C) (h : CoreRanged s) where
  -- a connection number that is not spent has 32 bits
  unspent : (n : ℕ) → n ≡ s.next → nat_le NUMBERS s.next ≡ false → IsNumber n
  unspent n e f = subst IsNumber (sym e) (h.0, within)
    where
      within : s.next < 2 ^ 32
      within = grind (arith, nat_tests)

  link_ranged : (link : CoreLink K C) → s.link ≡ Some link → (n : ℕ) → n ≡ link.conn → IsNumber n
  link_ranged link e n f = subst IsNumber (sym f) (subst LinkRanged e h.3)

  -- a key change takes the next number
  change_ranged : (conn next station : ℕ) → Changes s conn next station → IsNumber conn × IsNumber next
  change_ranged conn next station f = (link_ranged f.link f.stands conn f.conn_is, unspent next f.next_is f.left)

  context_caps : (context : CoreContext K) → s.context ≡ Some context → (caps : Caps) → caps ≡ context.caps → IsCaps caps
  context_caps context e caps f = subst IsCaps (sym f) (subst CoreContextRanged e h.2)

  set_up_ranged : (act : CoreAct) (conn : ℕ) (cell : Place) (target : ℕ) (caps : Caps) (count : ℕ) → IsCoreAct act → SetsUp s act conn cell target caps count
      → FieldsInRange (InitialContext conn cell caps)
  set_up_ranged act conn cell target caps count i f =
      (unspent conn f.conn_is f.left, (subst IsCoreAct f.act_is i, context_caps f.context f.in_use caps f.caps_is))

  switch_ranged : (fields : Fields) (conn station number : ℕ) (alarm : Bool)
      → FieldsInRange fields
      → Switches s fields conn station number alarm
      → IsNumber conn × IsNumber number
  switch_ranged fields conn station number alarm i f = let (conn_is, (_, (number_is, _))) = subst FieldsInRange f.fields_is i in (conn_is, number_is)

  caps_ranged : (o : Option (CoreContext K)) → CoreContextRanged o → IsCaps (caps_in_use (option_map (map_core_context unseen) o))
  caps_ranged None k = (omega arith, omega arith)
  caps_ranged (Some c) k = k

  ask_ranged : (fields : Fields) (conn source attempt : ℕ) (cell : Place) (target : ℕ) (caps : Caps)
      → FieldsInRange fields
      → Asks s fields conn source attempt cell target caps
      → FieldsInRange (HandoverRequest conn source attempt cell caps)
  ask_ranged fields conn source attempt cell target caps i f =
      let (conn_is, (source_is, (attempt_is, cell_is))) = subst FieldsInRange f.fields_is i in
      (conn_is, (source_is, (attempt_is, (cell_is, subst IsCaps (sym f.caps_is) (caps_ranged s.context h.2)))))

-- WHAT A ROW DOES

next_up : (n : ℕ) → 1 ≤ n + 1
next_up n = omega arith

zero_most : 0 ≤ 0
zero_most = omega arith

-- the core and what it sends are in range
abbrev pub CoreDoneRanged : CoreDone Term ℕ → Type 0
CoreDoneRanged d = CoreRanged d.0 × SentRanged d.1.sent

module _ (same : Term → Term → Bool) where
  abbrev r : Reading Term ℕ
  r = term_reading_by same

  -- of a core in range
  abbrev Keeps : Core Term ℕ → CoreDone Term ℕ → Type 0
  Keeps s d = CoreRanged s → CoreDoneRanged d

  -- the KeNB of a key change is derived, and has the first number
  nas_ranged : (pdu : List ℕ) (outcome : Outcome) (s : Core Term ℕ) → NasCases r (λ t row. NasHas r t pdu outcome row) Keeps s
  nas_ranged pdu outcome s = record {
    nothing = λ t answer h. (h, tt);
    closed = λ f h. (h, tt);
    completed = λ count p keys f h. ((h.0, tt, h.1, h.3), tt);
    changed = λ count conn next station p keys f h.
        let k = change_ranged (with_procedure s (Some p) (Some keys)) h conn next station f.1 in
        ((next_up next, tt, h.1, k.1), (k, (tt, zero_most)));
    asked = λ count c f h. (h, tt);
    opened = λ count text c f h. (h, tt);
    rejected = λ count c f h. (h, tt);
  }

  -- the pair of a further number is derived
  record_ranged : (fields : Fields) → FieldsInRange fields → (s : Core Term ℕ) → RecordCases r (λ t row. RecordHas t fields row) Keeps s
  record_ranged fields i s = record {
    nothing = λ t answer h. (h, tt);
    switched = λ conn station number alarm link f h.
        (h, (switch_ranged (with_link s (Some link)) h fields conn station number alarm i f, (tt, three_bits _)));
    asked = λ conn source attempt cell target caps link f h.
        (h, (ask_ranged (with_link s (Some link)) h fields conn source attempt cell target caps i f, (tt, three_bits _)));
    ordered = λ conn source attempt cell ncc algs air f h. let (conn_is, (_, others)) = subst FieldsInRange f.0 i in (h, ((conn_is, others), tt));
    notified = λ station link f h. (h, tt);
    cancelled = λ conn source attempt cell target f h. (h, (subst FieldsInRange f.0 i, tt));
  }

  -- the KeNB of a connection is derived, and has the first number
  act_ranged : (act : CoreAct) → IsCoreAct act → (s : Core Term ℕ) → ActCases r (λ t row. ActHas t act row) Keeps s
  act_ranged act i s = record {
    nothing = λ t answer h. (h, tt);
    started = λ ksi algs caps count p f h. (h, tt);
    set_up = λ conn cell target caps count c f h.
        let k = set_up_ranged (with_context s (Some c)) h act conn cell target caps count i f in
        ((next_up conn, h.1, h.2, k.0), (k, (tt, zero_most)));
    released = λ conn station f h. ((h.0, h.1, h.2, tt), (link_ranged s h f.link f.stands conn f.conn_is, tt));
    sent = λ count text c f h. (h, tt);
    skipped = λ n c f h. (h, tt);
  }

  -- one step
  pub core_step_ranged : (s : Core Term ℕ) → CoreRanged s → (i : CoreInput Term ℕ) (outcome : Outcome) → CoreInputRanged i
      → CoreDoneRanged (core_step r s i outcome)
  core_step_ranged s h (CoreAuth ksi root caps) outcome f = ((h.0, f, h.2, h.3), tt)
  core_step_ranged s h (CoreActs act) outcome f = act_case r _ Keeps s (act_ranged act f s) (core_act_row (plain_core r s) act) (act_has r s act) h
  core_step_ranged s h (CoreNasPdu pdu) outcome f =
      nas_case r _ Keeps s (nas_ranged pdu outcome s) (nas_row r s pdu outcome) (nas_has r s pdu outcome) h
  core_step_ranged s h (CoreRecord (Err fault)) outcome f = (h, tt)
  core_step_ranged s h (CoreRecord (Ok content)) outcome f =
      record_case r _ Keeps s (record_ranged content.fields f s) (core_fields_row (plain_core r s) content.fields) (record_has r s content.fields) h
