-- No chain number of the core is above the number at which its chains begin and how often it tells that it stepped one.
use Rattle.std.proofs.Common.{◌≡◌, refl, ap, ◌∙◌, ℕ, ◌+◌, ◌≤◌, ◌==◌, Bool, false, cond, List, [], ◌∷◌, Option, Some, None, arith}
use Rattle.std.specs.Prelude.{⊤}
use Rattle.std.specs.List.{count_by}
use Rattle.std.proofs.lemmas.List.Sums.{sum_by-cons}
use Rattle.lte_events.specs.{declared.events.Event.Event, declared.setups.FirstNcc.FirstNcc}
use Rattle.lte_events.specs.declared.setups.FirstNcc.TheVariants.{One, Two}
use Rattle.key_model.specs.{Term.Term, Reading.term_reading_by}
use Rattle.lte_machine.specs.{CoreKeys.CoreDone, CoreKeys.core_does, CoreKeys.number_from, CoreStep.core_front_of, CoreStep.core_opens, CoreStep.core_pdu_in, CoreStep.core_root, CoreStep.plain_core, CoreChoice.core_row, Reply.Note, Tuples.Coincidence, Ladder.Clash, Ladder.ladder_of, Wire.KeyUse, Wire.Outgoing}
use Rattle.lte_machine.specs.CoreRows.{CoreRow, OfNas, OfRecord, OfAct, OfAuth}
use Rattle.lte_machine.specs.CoreState.{Core, CoreInput, CoreLink}
use Rattle.lte_machine.specs.Machines.{machine_by}
use Rattle.lte_machine.specs.Opening.{Opening, Outcome}
use Rattle.lte_machine.specs.Run.{Running, after, replay, report, EventReport, Reported, Coincided, reported}
use Rattle.lte_machine.specs.Step.{by_ladder, by_coincidence, opening_coincidence, attempted}
use Rattle.lte_machine.specs.World.{Machine, Line, core_turn, happens}
use Rattle.lte_machine.proofs.CoreCases.{NasCases, nas_case, RecordCases, record_case, ActCases, act_case}
use Rattle.lte_machine.proofs.{Routing.happens_each, StillRun.goes_on, StillRun.turns_to, Tests.Anything, Tests.by_test, Worlds.TheWorld}
use Rattle.lte_properties.specs.ChainHolds.{core_numbers, noted}
use Rattle.item_keys.specs.Few.{begins_at, is_chained}

-- the number of a connection's chain is not above
abbrev pub LinkAt : ℕ → Option (CoreLink Term ℕ) → Type 0
LinkAt n None = ⊤
LinkAt n (Some link) = link.chain.number ≤ n

link_up : (n m : ℕ) → n ≤ m → (o : Option (CoreLink Term ℕ)) → LinkAt n o → LinkAt m o
link_up n m le None h = tt
link_up n m le (Some link) h = omega (arith, le, h)

-- whether a note tells that the core stepped its chain, and how many steps that is
abbrev pub is_further : Option (Note Term) → Bool
is_further None = false
is_further (Some note) = is_chained note.way

abbrev pub steps_in : Option (Note Term) → ℕ
steps_in note = cond (is_further note) 1 0

-- A STEP OF THE CORE goes on by no more than it tells
abbrev StepsOn : FirstNcc → Option (CoreLink Term ℕ) → FirstNcc → Option (CoreLink Term ℕ) → Option (Note Term) → Type 0
StepsOn first old begins new note =
    (begins ≡ first) × ((n m : ℕ) → begins_at first ≤ n → LinkAt n old → n + steps_in note ≤ m → LinkAt m new)

still : (first : FirstNcc) (link : Option (CoreLink Term ℕ)) (note : Option (Note Term)) → StepsOn first link first link note
still first link told = (refl, λ n m low h le. link_up n m (omega (arith, le)) link h)

module _ (same : Term → Term → Bool) where
  begin_is : (first : FirstNcc) → number_from (term_reading_by same) first ≡ begins_at first
  begin_is One = refl
  begin_is Two = refl

  begun : (first : FirstNcc) (n m : ℕ) → begins_at first ≤ n → n + 0 ≤ m → number_from (term_reading_by same) first ≤ m
  begun first n m low le = let is = begin_is first in omega (arith, is, low, le)

  abbrev Keeps : Core Term ℕ → CoreDone Term ℕ → Type 0
  Keeps s d = StepsOn s.first_ncc s.link d.0.first_ncc d.0.link d.1.note

  nas_steps : (s : Core Term ℕ) → NasCases (term_reading_by same) Anything Keeps s
  nas_steps s = record {
    nothing = λ t answer. still t.first_ncc t.link None;
    closed = λ k. still s.first_ncc s.link None;
    completed = λ count p keys k. still s.first_ncc s.link None;
    changed = λ count conn next station p keys k. (refl, λ n m low h le. begun s.first_ncc n m low le);
    asked = λ count c k. still s.first_ncc s.link None;
    opened = λ count text c k. still s.first_ncc s.link None;
    rejected = λ count c k. still s.first_ncc s.link None;
  }

  record_steps : (s : Core Term ℕ) → RecordCases (term_reading_by same) Anything Keeps s
  record_steps s = record {
    nothing = λ t answer. still t.first_ncc t.link None;
    switched = λ conn station number alarm link k. (refl, λ n m low h le. omega (arith, h, le));
    asked = λ conn source attempt cell target caps link k. (refl, λ n m low h le. omega (arith, h, le));
    ordered = λ conn source attempt cell ncc algs air k. still s.first_ncc s.link None;
    notified = λ station link k. (refl, λ n m low h le. omega (arith, h, le));
    cancelled = λ conn source attempt cell target k. still s.first_ncc s.link None;
  }

  act_steps : (s : Core Term ℕ) → ActCases (term_reading_by same) Anything Keeps s
  act_steps s = record {
    nothing = λ t answer. still t.first_ncc t.link None;
    started = λ ksi algs caps count p k. still s.first_ncc s.link None;
    set_up = λ conn cell target caps count c k. (refl, λ n m low h le. begun s.first_ncc n m low le);
    released = λ conn station k. (refl, λ n m low h le. tt);
    sent = λ count text c k. still s.first_ncc s.link None;
    skipped = λ n c k. still s.first_ncc s.link None;
  }

  core_steps : (s : Core Term ℕ) (row : CoreRow) (root : Option Term) → Keeps s (core_does (term_reading_by same) row root s)
  core_steps s (OfNas row) root = nas_case (term_reading_by same) Anything Keeps s (nas_steps s) row tt
  core_steps s (OfRecord row) root = record_case (term_reading_by same) Anything Keeps s (record_steps s) row tt
  core_steps s (OfAct row) root = act_case (term_reading_by same) Anything Keeps s (act_steps s) row tt
  core_steps s (OfAuth ksi caps) None = still s.first_ncc s.link None
  core_steps s (OfAuth ksi caps) (Some root) = still s.first_ncc s.link None

-- EVERY EVENT, AND EVERY RUN

-- whether a report tells that the core stepped its chain
abbrev pub further : EventReport Term → Bool
further (Reported l) = is_further l.note
further (Coincided coincidence) = false

module _ (same : Term → Term → Bool) (root : ℕ → List ℕ → Term) (octets : Outgoing Term ℕ → List ℕ)
    (sender : Option (Outgoing Term ℕ) → Option (KeyUse Term))
    (opener : Opening Term → List ℕ → Option (Outgoing Term ℕ) → Outcome) where
  abbrev m : Machine Term ℕ (Outgoing Term ℕ)
  m = machine_by same root octets sender opener

  core_stepped : (w : TheWorld) (input : CoreInput Term ℕ) (came : Option (Outgoing Term ℕ))
      → let h = core_turn m w input came in StepsOn w.core.first_ncc w.core.link h.0.core.first_ncc h.0.core.link h.1.note
  core_stepped w input came =
      let r = term_reading_by same in
      let outcome = opener (core_opens r w.core input) (core_pdu_in input) came in
      core_steps same w.core (core_row (plain_core r w.core) (core_front_of r w.core input) outcome) (core_root input)

  pub happens_stepped : (w : TheWorld) (e : Event) → let h = happens m w e in StepsOn w.core.first_ncc w.core.link h.0.core.first_ncc h.0.core.link h.1.note
  happens_stepped w =
      happens_each m w (λ done a. StepsOn w.core.first_ncc w.core.link done.0.core.first_ncc done.0.core.link done.1.note)
      (λ ksi key caps. still w.core.first_ncc w.core.link None)
      (λ input came turn. still w.core.first_ncc w.core.link _) (λ input came. core_stepped w input came)
      (λ id input came s there own. still w.core.first_ncc w.core.link _) (λ answer. still w.core.first_ncc w.core.link None)

  module _ (by_octets : Opening Term → List ℕ → Outcome) where
    by_clash : (h : TheWorld × Line Term) (o : Option (Clash Term)) (v : TheWorld) → after (by_ladder o h) ≡ Running v → reported (by_ladder o h) ≡ Reported h.1
    by_clash h None v e = refl
    by_clash h (Some clash) v e = absurd cc

    by_tuples : (h : TheWorld × Line Term) (o : Option (Coincidence Term)) (v : TheWorld) → after (by_coincidence m.reading.same o h) ≡ Running v
        → reported (by_coincidence m.reading.same o h) ≡ Reported h.1
    by_tuples h None v e = by_clash h (ladder_of m.reading.same h.0.history).clash v e
    by_tuples h (Some coincidence) v e = absurd cc

    -- what is told of the first event of a run that goes on, and of the others
    pub told_first : (w : TheWorld) (e : Event) (es : List Event) (u : TheWorld)
        → replay by_octets m (Running w) (e ∷ es) ≡ Running u
        → report by_octets m (Running w) (e ∷ es)
        ≡ Reported (happens m w e).1 ∷ report by_octets m (Running (happens m w e).0) es
    told_first w e es u is =
        let turns = turns_to by_octets m w e es u is in
        let line = by_tuples (happens m w e) (opening_coincidence by_octets m (attempted m w e)) (happens m w e).0 turns in
        λ j. line j ∷ report by_octets m (turns j) es

    noted_low : (o : Option (CoreLink Term ℕ)) (top : ℕ → ℕ) (n : ℕ) → LinkAt n o → ((conn : ℕ) → top conn ≤ n) → (conn : ℕ) → noted o top conn ≤ n
    noted_low None top n h low conn = low conn
    noted_low (Some link) top n h low conn = by_test (λ x. x ≤ n) (conn == link.conn) _ _ (λ e. h) (λ e. low conn)

    -- THE CORE'S NUMBERS of a run are not above a first one and the steps that it tells
    pub numbers_low : (w : TheWorld) (top : ℕ → ℕ) (es : List Event) (u : TheWorld) (n : ℕ)
        → replay by_octets m (Running w) es ≡ Running u
        → ((conn : ℕ) → top conn ≤ n)
        → LinkAt n w.core.link
        → begins_at w.core.first_ncc ≤ n
        → (conn : ℕ)
        → core_numbers m w top es conn ≤ n + count_by further (report by_octets m (Running w) es)
    numbers_low w top [] u n is low link first conn = let t = low conn in omega (arith, t)
    numbers_low w top (e ∷ es) u n is low link first conn =
        let h = happens m w e in
        let c = steps_in h.1.note in
        let step = happens_stepped w e in
        let linked : LinkAt (n + c) h.0.core.link = step.1 n (n + c) first link (omega arith) in
        let begins = ap begins_at step.0 in
        let rest = numbers_low h.0 (noted h.0.core.link top) es u (n + c) (goes_on by_octets m w e es u is).1
        (noted_low h.0.core.link top (n + c) linked (λ x. let t = low x in omega (arith, t))) linked (omega (arith, begins, first)) conn in
        let told = ap (count_by further) (told_first w e es u is)
        ∙ sum_by-cons (λ r. cond (further r) 1 0) (Reported h.1) (report by_octets m (Running h.0) es) in
        omega (arith, rest, told)
