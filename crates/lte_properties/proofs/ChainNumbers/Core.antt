-- What each row of the core keeps of the chain numbers.
use Rattle.std.proofs.Common.{◌≡◌, refl, sym, ap, ◌∙◌, subst, ℕ, ◌+◌, ◌≤◌, ◌<◌, ◌==◌, Bool, false, List, Option, Some, None, Err, le_of_eq, lt_of_le_of_lt, arith}
use Rattle.std.proofs.lemmas.Bool.Decides.{nat_tests}
use Rattle.std.specs.Prelude.{⊤}
use Rattle.alg_choice.specs.declared.caps.Caps.{Caps}
use Rattle.rec_base.specs.declared.faults.RecFault.{RecFault}
use Rattle.lte_events.specs.{declared.acts.CoreAct.CoreAct, declared.addresses.Address.Address}
use Rattle.key_model.specs.{Term.Term, HandoverTable.NumberedKey, Reading.term_reading_by}
use Rattle.nh_chain.specs.Chain.{stepped}
use Rattle.s1x2_rec.specs.Fields.{Fields}
use Rattle.lte_machine.specs.{Machines.content_of, Opening.Outcome, Wire.Outgoing, Wire.Between, StationKeys.spent_in, StationState.Station, StationState.Context, CoreChoice.core_fields_row, CoreChoice.core_act_row, CoreKeys.CoreDone, CoreKeys.number_from, CoreStep.plain_core, CoreStep.core_step}
use Rattle.lte_machine.specs.CoreState.{Core, CoreLink, CoreInput, CoreAuth, CoreActs, CoreNasPdu, CoreRecord}
use Rattle.lte_machine.proofs.CoreCases.{with_link, NasCases, nas_case, RecordCases, record_case, ActCases, act_case}
use Rattle.lte_machine.proofs.{ActFacts.ActHas, ActFacts.act_has, S1Facts.RecordHas, S1Facts.record_has, Tests.by_test, Tests.same_of}
use Rattle.lte_machine.proofs.NasFacts.{NasHas, nas_row, nas_has}
use Rattle.lte_properties.specs.ChainBelow.{OfPair, star_in, EachNumber, AtMost, IsUnder, ContextBelow, RecordBelow, LinkTop, CoreTop}
use Rattle.lte_properties.specs.ChainAbove.{RequestOk, AnswerOk, InFlight}
use Rattle.lte_properties.specs.ChainHolds.{noted}
use Rattle.lte_properties.proofs.ChainNumbers.Lists.{OfSome}

-- THE CORE'S NUMBERS

equals_itself : (n : ℕ) → (n == n) ≡ false → ⊥
equals_itself n e = grind (arith, nat_tests)

-- the number that was noted last
noted_own : (top : ℕ → ℕ) (link : CoreLink Term ℕ) → noted (Some link) top link.conn ≡ link.chain.number
noted_own top link =
    by_test (λ n. n ≡ link.chain.number) (link.conn == link.conn) _ _ (λ e. refl) (λ e. absurd (equals_itself link.conn e))

-- what stands already
pub noted_same : (top : ℕ → ℕ) (next : ℕ) (o : Option (CoreLink Term ℕ)) → LinkTop top next o → (conn : ℕ) → noted o top conn ≡ top conn
noted_same top next None h conn = refl
noted_same top next (Some link) h conn =
    by_test (λ n. n ≡ top conn) (conn == link.conn) _ _ (λ e. h.0 ∙ ap top (sym (same_of conn link.conn e))) (λ e. refl)

-- another number of one connection
pub noted_rises : (top : ℕ → ℕ) (link : CoreLink Term ℕ) → top link.conn ≤ link.chain.number → (conn : ℕ) → top conn ≤ noted (Some link) top conn
noted_rises top link h conn =
    by_test (λ n. top conn ≤ n) (conn == link.conn) _ _ (λ e. subst (λ c. top c ≤ link.chain.number) (sym (same_of conn link.conn e)) h) (λ e. omega arith)

noted_undrawn : (top : ℕ → ℕ) (link : CoreLink Term ℕ) (next conn : ℕ) → link.conn < next → next ≤ conn → top conn ≡ 0 → noted (Some link) top conn ≡ 0
noted_undrawn top link next conn lt le h =
    by_test (λ n. n ≡ 0) (conn == link.conn) _ _ (λ e. absurd (apart (same_of conn link.conn e))) (λ e. h)
  where
    apart : conn ≡ link.conn → ⊥
    apart e = omega arith

-- what a step of the core keeps: the new core, and what is sent, which fits each station where a request in flight did
pub record CoreKept (top : ℕ → ℕ) (Asked : Station Term ℕ → Type 0) (t : Core Term ℕ) (x : Option (Outgoing Term ℕ)) : Type 0 where
  pub core : CoreTop (noted t.link top) t
  pub rises : (conn : ℕ) → top conn ≤ noted t.link top conn
  pub sends : OfSome (RecordBelow (noted t.link top)) x
  pub flies : (u : Station Term ℕ) → ContextBelow top u.context → Asked u → OfSome (InFlight u) x

-- no number of a connection that was not drawn was noted: a chain of it begins at any
from_none : {top : ℕ} (number : ℕ) → top ≡ 0 → top ≤ number
from_none number none = omega (arith, none)

-- no pair is sent
abbrev pub Plainly : Option (Outgoing Term ℕ) → Type 0
Plainly x = ((top : ℕ → ℕ) → OfSome (RecordBelow top) x) × ((u : Station Term ℕ) → OfSome (InFlight u) x)

same_link_top : (top : ℕ → ℕ) (next : ℕ) (o : Option (CoreLink Term ℕ)) → LinkTop top next o → LinkTop (noted o top) next o
same_link_top top next None h = tt
same_link_top top next (Some link) h = (sym (noted_own top link), h.1)

module _ (top : ℕ → ℕ) (A : Station Term ℕ → Type 0) (s : Core Term ℕ) (h : CoreTop top s) where
  -- the connection stays, and its number
  link_stays : (t : Core Term ℕ) (x : Option (Outgoing Term ℕ)) → t.link ≡ s.link → t.next ≡ s.next → Plainly x → CoreKept top A t x
  link_stays t x e f p = record {
    core = (
      subst (λ o. LinkTop (noted o top) t.next o) (sym e) (subst (λ n. LinkTop (noted s.link top) n s.link) (sym f) (same_link_top top s.next s.link h.0)),
      λ conn le. noted_same top s.next t.link (subst (LinkTop top s.next) (sym e) h.0) conn ∙ h.1 conn (subst (λ n. n ≤ conn) f le),
    );
    rises = λ conn. subst (λ n. top conn ≤ n) (sym (noted_same top s.next t.link (subst (LinkTop top s.next) (sym e) h.0) conn)) (omega arith);
    sends = p.0 (noted t.link top);
    flies = λ u k a. p.1 u;
  }

  pub silent_kept : (t : Core Term ℕ) → t.link ≡ s.link → t.next ≡ s.next → CoreKept top A t None
  silent_kept t e f = link_stays t None e f ((λ top. tt), (λ u. tt))

  -- a connection with another number, or another one
  link_moves : (t : Core Term ℕ) (link : CoreLink Term ℕ) (x : Option (Outgoing Term ℕ)) → t.link ≡ Some link → s.next ≤ t.next →
      link.conn < t.next → top link.conn ≤ link.chain.number →
      OfSome (RecordBelow (noted (Some link) top)) x → ((u : Station Term ℕ) → ContextBelow top u.context → A u → OfSome (InFlight u) x) →
      CoreKept top A t x
  link_moves t link x e le drawn up sends flies = record {
    core = (
      subst (λ o. LinkTop (noted o top) t.next o) (sym e) (sym (noted_own top link), drawn),
      λ conn k. subst (λ o. noted o top conn ≡ 0) (sym e) (noted_undrawn top link t.next conn drawn k (h.1 conn (omega arith))),
    );
    rises = λ conn. subst (λ o. top conn ≤ noted o top conn) (sym e) (noted_rises top link up conn);
    sends = subst (λ o. OfSome (RecordBelow (noted o top)) x) (sym e) sends;
    flies = flies;
  }

  -- the connection ends
  link_ends : (t : Core Term ℕ) (x : Option (Outgoing Term ℕ)) → t.link ≡ None → t.next ≡ s.next → Plainly x → CoreKept top A t x
  link_ends t x e f p = record {
    core = (
      subst (λ o. LinkTop (noted o top) t.next o) (sym e) tt,
      λ conn le. subst (λ o. noted o top conn ≡ 0) (sym e) (h.1 conn (subst (λ n. n ≤ conn) f le)),
    );
    rises = λ conn. subst (λ o. top conn ≤ noted o top conn) (sym e) (omega arith);
    sends = p.0 (noted t.link top);
    flies = λ u k a. p.1 u;
  }

module _ (top : ℕ → ℕ) (A : Station Term ℕ → Type 0) (same : Term → Term → Bool) (s : Core Term ℕ) where
  -- of a core of these numbers
  abbrev Keeps : Core Term ℕ → CoreDone Term ℕ → Type 0
  Keeps t d = CoreTop top t → CoreKept top A d.0 d.1.sent

  abbrev begins_at : ℕ
  begins_at = number_from (term_reading_by same) s.first_ncc

  -- a connection begins with number 0, or 1 kept, under the next connection number
  nas_kept : (pdu : List ℕ) (outcome : Outcome) → NasCases (term_reading_by same) (λ t row. NasHas (term_reading_by same) t pdu outcome row) Keeps s
  nas_kept pdu outcome = record {
    nothing = λ t answer h. silent_kept top A t h t refl refl;
    closed = λ f h. silent_kept top A s h _ refl refl;
    completed = λ count p keys f h. silent_kept top A s h _ refl refl;
    changed = λ count conn next station p keys f h. link_moves top A s h _ _ _ refl (omega (arith, f.1.next_is)) (omega arith)
        (from_none begins_at (h.1 next (le_of_eq (sym f.1.next_is)))) (omega arith) (λ u k a. tt);
    asked = λ count c f h. silent_kept top A s h _ refl refl;
    opened = λ count text c f h. silent_kept top A s h _ refl refl;
    rejected = λ count c f h. silent_kept top A s h _ refl refl;
  }

  act_kept : (act : CoreAct) → ActCases (term_reading_by same) (λ t row. ActHas t act row) Keeps s
  act_kept act = record {
    nothing = λ t answer h. silent_kept top A t h t refl refl;
    started = λ ksi algs caps count p f h. link_stays top A s h _ _ refl refl ((λ top. tt), (λ u. tt));
    set_up = λ conn cell target caps count c f h. link_moves top A s h _ _ _ refl (omega (arith, f.conn_is)) (omega arith)
        (from_none begins_at (h.1 conn (le_of_eq (sym f.conn_is)))) (omega arith) (λ u k a. tt);
    released = λ conn station f h. link_ends top A s h _ _ refl refl ((λ top. tt), (λ u. tt));
    sent = λ count text c f h. link_stays top A s h _ _ refl refl ((λ top. tt), (λ u. tt));
    skipped = λ n c f h. silent_kept top A s h _ refl refl;
  }

-- what is so of each number is so of each in another way
of_pair_weaker : (P Q : ℕ → Type 0) → ((n : ℕ) → P n → Q n) → (o : Option (NumberedKey Term ℕ)) → OfPair P o → OfPair Q o
of_pair_weaker P Q f None h = tt
of_pair_weaker P Q f (Some pair) h = f pair.number h

pub each_weaker : (P Q : ℕ → Type 0) → ((n : ℕ) → P n → Q n) → (c : Context Term ℕ) → EachNumber P c → EachNumber Q c
each_weaker P Q f c h =
    (f c.key.number h.0, of_pair_weaker P Q f c.key.pair h.1, of_pair_weaker P Q f (star_in c.attempt) h.2, of_pair_weaker P Q f (spent_in c.attempt) h.3)

-- a pair above the core's number is above each number of the context that asked
answer_ok : (top : ℕ → ℕ) (o : Option (Context Term ℕ)) (conn number n : ℕ) → ContextBelow top o → RequestOk o conn number → top conn < n
    → AnswerOk o conn number n
answer_ok top None conn number n h k lt = tt
answer_ok top (Some c) conn number n h k lt = λ e.
    (k e, each_weaker (AtMost (top c.conn)) (IsUnder n) (λ m le. lt_of_le_of_lt le (subst (λ d. top d < n) (sym (k e)) lt)) c h)

-- the chain of a connection goes one step on, which stays one or goes to another station
module _ (top : ℕ → ℕ) (same : Term → Term → Bool) (link : CoreLink Term ℕ) (conn station : ℕ) (i : link.conn ≡ conn) where
  abbrev further : CoreLink Term ℕ
  further = record { conn = link.conn; chain = stepped (term_reading_by same) link.chain; station = station }

  further_up : link.chain.number ≡ top link.conn → top link.conn ≤ link.chain.number + 1
  further_up k = omega arith

  further_above : link.chain.number ≡ top link.conn → top conn < link.chain.number + 1
  further_above k = subst (λ c. top c < link.chain.number + 1) i (omega arith)

  further_below : link.chain.number + 1 ≤ noted (Some further) top conn
  further_below = subst (λ c. link.chain.number + 1 ≤ noted (Some further) top c) i (le_of_eq (sym (noted_own top further)))

module _ (top : ℕ → ℕ) (same : Term → Term → Bool) (to : Address) (fields : Fields) (key : Option (NumberedKey Term ℕ)) (s : Core Term ℕ) where
  -- the stations where the record is in flight
  abbrev Asks : Station Term ℕ → Type 0
  Asks u = InFlight u (Between to fields key)

  record_kept : RecordCases (term_reading_by same) (λ t row. RecordHas t fields row) (Keeps top Asks same s) s
  record_kept = record {
    nothing = λ t answer h. silent_kept top Asks t h t refl refl;
    switched = λ conn station number alarm link f h. let (reached, drawn) = h.0 in
        link_moves top Asks (with_link s (Some link)) h _ (further top same link conn station f.linked) _ refl
        (omega arith) drawn (further_up top same link conn station f.linked reached) (further_below top same link conn station f.linked)
        (λ u c a g.
        let q = subst (λ x. InFlight u (Between to x key)) f.fields_is a g in
        (q.0, answer_ok top u.context conn number _ c q.1 (further_above top same link conn station f.linked reached)));
    asked = λ conn source attempt cell target caps link f h. let (reached, drawn) = h.0 in
        link_moves top Asks (with_link s (Some link)) h _ (further top same link conn link.station f.linked) _ refl
        (omega arith) drawn (further_up top same link conn link.station f.linked reached) (further_below top same link conn link.station f.linked) (λ u c a. tt);
    ordered = λ conn source attempt cell ncc algs air f h. link_stays top Asks s h s _ refl refl ((λ top. tt), (λ u. tt));
    notified = λ station link f h. let (reached, drawn) = h.0 in
        link_moves top Asks (with_link s (Some link)) h _ (record link { station = station }) None refl
        (omega arith) drawn (le_of_eq (sym reached)) tt (λ u c a. tt);
    cancelled = λ conn source attempt cell target f h. link_stays top Asks s h s _ refl refl ((λ top. tt), (λ u. tt));
  }

-- A STEP OF THE CORE

abbrev pub CoreStepKept : (ℕ → ℕ) → (Term → Term → Bool) → Core Term ℕ → (Station Term ℕ → Type 0) → CoreInput Term ℕ → Outcome → Type 0
CoreStepKept top same s A input outcome = let d = core_step (term_reading_by same) s input outcome in CoreKept top A d.0 d.1.sent

module _ (top : ℕ → ℕ) (same : Term → Term → Bool) (s : Core Term ℕ) (h : CoreTop top s) where
  pub core_auth_kept : (ksi : ℕ) (root : Term) (caps : Caps) (outcome : Outcome) → CoreStepKept top same s (λ u. ⊤) (CoreAuth ksi root caps) outcome
  core_auth_kept ksi root caps outcome = silent_kept top _ s h _ refl refl

  pub core_act_kept : (act : CoreAct) (outcome : Outcome) → CoreStepKept top same s (λ u. ⊤) (CoreActs act) outcome
  core_act_kept act outcome =
      act_case (term_reading_by same) _ (Keeps top _ same s) s (act_kept top _ same s act)
      (core_act_row (plain_core (term_reading_by same) s) act) (act_has (term_reading_by same) s act) h

  pub core_nas_kept : (pdu : List ℕ) (outcome : Outcome) → CoreStepKept top same s (λ u. ⊤) (CoreNasPdu pdu) outcome
  core_nas_kept pdu outcome =
      nas_case (term_reading_by same) _ (Keeps top _ same s) s (nas_kept top _ same s pdu outcome)
      (nas_row (term_reading_by same) s pdu outcome) (nas_has (term_reading_by same) s pdu outcome) h

  -- a record that was not sent, and one that was
  pub core_unread_kept : (A : Station Term ℕ → Type 0) (fault : RecFault) (outcome : Outcome) → CoreStepKept top same s A (CoreRecord (Err fault)) outcome
  core_unread_kept A fault outcome = silent_kept top A s h s refl refl

  pub core_record_kept : (x : Outgoing Term ℕ) (outcome : Outcome) → CoreStepKept top same s (λ u. InFlight u x) (CoreRecord (content_of x)) outcome
  core_record_kept (Between to fields key) outcome =
      record_case (term_reading_by same) _ (Keeps top _ same s) s (record_kept top same to fields key s)
      (core_fields_row (plain_core (term_reading_by same) s) fields) (record_has (term_reading_by same) s fields) h
  core_record_kept other outcome = silent_kept top _ s h s refl refl
