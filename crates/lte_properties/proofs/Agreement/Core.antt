-- What the rows of the core leave of the invariant of agreement, and what its choice of a row establishes.
use Rattle.std.proofs.Common.{◌≡◌, ℕ, suc, ◌+◌, ◌<◌, ◌≤◌, refl, sym, ◌∙◌, ap, subst, arith, Bool, true, false, cond, List, Option, Some, None}
use Rattle.std.specs.Prelude.{◌==◌, ⊤}
use Rattle.std.proofs.{lemmas.Bool.eqb-true, lemmas.Bool.Decides.nat_tests}
use Rattle.rec_base.specs.declared.faults.RecFault.{RecFault}
use Rattle.lte_events.specs.{declared.acts.CoreAct.CoreAct, declared.addresses.Address.Address, Site.Site, Site.station_of, declared.setups.FirstNcc.FirstNcc}
use Rattle.lte_events.specs.declared.answers.Answer.TheVariants.{Done, BadRecord}
use Rattle.lte_events.specs.declared.setups.FirstNcc.TheVariants.{One, Two}
use Rattle.key_model.specs.Term.{Term, Kenb, Nh}
use Rattle.key_model.specs.{Chain.nh, HandoverTable.NumberedKey, Reading.term_reading_by}
use Rattle.s1x2_rec.specs.Fields.{Fields}
use Rattle.lte_machine.specs.{Opening.Outcome, Reply.only, Reply.ByTarget, CoreState.Core, CoreState.CoreLink, CoreRows.CoreNasRow, CoreRows.RecordRefused, CoreChoice.core_fields_row, CoreChoice.core_act_row, CoreStep.plain_core}
use Rattle.lte_machine.specs.CoreKeys.{CoreDone, chain_from, number_from, core_does_nas, core_does_record, core_does_act}
use Rattle.lte_machine.proofs.CoreCases.{with_link, NasCases, nas_case, RecordCases, record_case, ActCases, act_case}
use Rattle.lte_machine.proofs.{ActFacts.ActHas, ActFacts.act_has, S1Facts.RecordHas, S1Facts.record_has}
use Rattle.lte_machine.proofs.NasFacts.{NasHas, Completes, nas_row, nas_has}
use Rattle.lte_properties.specs.ChainBelow.{AllOf}
use Rattle.lte_properties.proofs.Agreement.Ghost.{Ghost, chain_at, PairOk, TriedOk, CoreLinkOk, CoreOk, AskedIs, IsOther, BetweenOk, OutOk}
use Rattle.lte_properties.proofs.Agreement.Later.{Later, later_itself, same_found}
use Rattle.lte_properties.proofs.Agreement.ToldIsFound.{all_found}

-- the connections after a step of the core
abbrev pub with_conns : Ghost → (ℕ → Term) → (ℕ → ℕ) → (ℕ → ℕ) → ℕ → Ghost
with_conns g root count top next = record g { root = root; count = count; top = top; next = next }

-- a number rises for the core's present connection alone
abbrev pub IsOff : Option (CoreLink Term ℕ) → ℕ → Type 0
IsOff None conn = ⊤
IsOff (Some link) conn = link.conn ≡ conn → ⊥

abbrev pub StaysOff : Option (CoreLink Term ℕ) → (ℕ → ℕ) → (ℕ → ℕ) → Type 0
StaysOff link top up = (conn : ℕ) → IsOff link conn → up conn ≤ top conn

pub as_before : (link : Option (CoreLink Term ℕ)) (top : ℕ → ℕ) → StaysOff link top top
as_before link top conn off = omega arith

abbrev pub CoreGoes : List Site → Ghost → CoreDone Term ℕ → Type 0
CoreGoes cells g d =
    (root : ℕ → Term) × (count : ℕ → ℕ) × (top : ℕ → ℕ) × (next : ℕ)
    × Later g (with_conns g root count top next) × CoreOk cells (with_conns g root count top next) d.0
    × OutOk (with_conns g root count top next) d.1.sent × StaysOff d.0.link g.top top

-- a value at one number
abbrev at_number : {A : Type 0} → ℕ → A → (ℕ → A) → ℕ → A
at_number n x f i = cond (i == n) x (f i)

here : {A : Type 0} (n : ℕ) (x : A) (f : ℕ → A) → at_number n x f n ≡ x
here n x f = ap (λ b. cond b x (f n)) same_number
  where
    same_number : (n == n) ≡ true
    same_number = grind (arith, nat_tests)

elsewhere : {A : Type 0} (n i : ℕ) (x : A) (f : ℕ → A) → i < n → at_number n x f i ≡ f i
elsewhere n i x f low = ap (λ b. cond b x (f i)) other_number
  where
    other_number : (i == n) ≡ false
    other_number = grind (arith, nat_tests)

apart : {A : Type 0} (n i : ℕ) (x : A) (f : ℕ → A) → (n ≡ i → ⊥) → at_number n x f i ≡ f i
apart n i x f off = by_number (i == n) refl
  where
    by_number : (b : Bool) → (i == n) ≡ b → cond b x (f i) ≡ f i
    by_number true e = absurd (off (sym (eqb-true i n e)))
    by_number false e = refl

risen : (f : ℕ → ℕ) (i n : ℕ) → i ≡ n → f i ≤ f n + 1
risen f i n e = subst (λ m. f i ≤ f m + 1) e (omega arith)

pub equal_below : {a b : ℕ} → a ≡ b → a ≤ b
equal_below e = omega arith

-- a number that rises at one place rises nowhere else
rises : (n : ℕ) (f : ℕ → ℕ) (i : ℕ) → f i ≤ at_number n (f n + 1) f i
rises n f i = by_number (i == n) refl
  where
    by_number : (b : Bool) → (i == n) ≡ b → f i ≤ cond b (f n + 1) (f i)
    by_number true e = risen f i n (eqb-true i n e)
    by_number false e = omega arith

module _ (same : Term → Term → Bool) (cells : List Site) (g : Ghost) (tried_ok : AllOf (TriedOk cells g) g.tried) where
  -- of a core whose connection is as told
  abbrev Keeps : Core Term ℕ → CoreDone Term ℕ → Type 0
  Keeps s d = CoreOk cells g s → CoreGoes cells g d

  -- nothing of the connection changes, and no key is sent
  stays : (s : Core Term ℕ) → CoreOk cells g s → CoreGoes cells g (s, only Done)
  stays s h = (g.root, g.count, g.top, g.next, later_itself g, h, tt, as_before s.link g.top)

  -- a new connection: its KASME, the COUNT of its KeNB, and the number of the first pair that the core sends
  module _ (conn : ℕ) (root : Term) (count : ℕ) (first : FirstNcc) (is : conn ≡ g.next) where
    abbrev begins_at : ℕ
    begins_at = number_from (term_reading_by same) first

    abbrev roots : ℕ → Term
    roots = at_number conn root g.root

    abbrev counts : ℕ → ℕ
    counts = at_number conn count g.count

    abbrev tops : ℕ → ℕ
    tops = at_number conn begins_at g.top

    abbrev begun_ghost : Ghost
    begun_ghost = with_conns g roots counts tops (conn + 1)

    begins_later : Later g begun_ghost
    begins_later = record {
      next = omega arith;
      root = λ i low. elsewhere conn i root g.root (omega arith);
      count = λ i low. elsewhere conn i count g.count (omega arith);
      top = λ i low. equal_below (sym (elsewhere conn i begins_at g.top (omega arith)));
      made = λ station air m e. e;
      tried = λ station number e f. f;
      took = λ x i. i;
      first = λ station air x e. e;
    }

    begins_key : Kenb root count ≡ chain_at begun_ghost conn 0
    begins_key = λ j. Kenb (sym (here conn root g.root) j) (sym (here conn count g.count) j)

    begins_low : conn < conn + 1
    begins_low = omega arith

  -- the core stands at KeNB, or at the NH of number 1, which it keeps
  begins_link : (conn : ℕ) (root : Term) (count : ℕ) (first : FirstNcc) (is : conn ≡ g.next) (station : ℕ)
      → CoreLinkOk (begun_ghost conn root count first is)
      (Some (record { conn = conn; chain = chain_from (term_reading_by same) first root (Kenb root count); station = station }))
  begins_link conn root count One is station = record {
    conn = begins_low conn root count One is;
    number = sym (here conn 0 g.top);
    root = sym (here conn root g.root);
    sync = begins_key conn root count One is;
  }
  begins_link conn root count Two is station = record {
    conn = begins_low conn root count Two is;
    number = sym (here conn 1 g.top);
    root = sym (here conn root g.root);
    sync = λ j. Nh (sym (here conn root g.root) j) (begins_key conn root count Two is j);
  }

  -- a step of the chain
  module _ (link : CoreLink Term ℕ) (k : CoreLinkOk g (Some link)) where
    abbrev up : ℕ → ℕ
    up = at_number link.conn (g.top link.conn + 1) g.top

    abbrev stepped_ghost : Ghost
    stepped_ghost = with_conns g g.root g.count up g.next

    steps_later : Later g stepped_ghost
    steps_later = record {
      next = omega arith;
      root = λ i low. refl;
      count = λ i low. refl;
      top = λ i low. rises link.conn g.top i;
      made = λ station air m e. e;
      tried = λ station number e f. f;
      took = λ x i. i;
      first = λ station air x e. e;
    }

    number_up : link.chain.number + 1 ≡ up link.conn
    number_up = ap (λ n. n + 1) k.number ∙ sym (here link.conn (g.top link.conn + 1) g.top)

    key_up : Nh link.chain.root link.chain.sync ≡ chain_at g link.conn (link.chain.number + 1)
    key_up = (λ j. Nh (k.root j) (k.sync j)) ∙ ap (nh (g.root link.conn) (g.count link.conn)) next_number
      where
        next_number : suc link.chain.number ≡ link.chain.number + 1
        next_number = omega arith

    pair_up : (conn : ℕ) → link.conn ≡ conn → PairOk stepped_ghost conn (record { key = Nh link.chain.root link.chain.sync; number = link.chain.number + 1 })
    pair_up conn e = subst (λ c. PairOk stepped_ghost c (record { key = Nh link.chain.root link.chain.sync; number = link.chain.number + 1 })) e
        (k.conn, equal_below number_up, key_up)

  -- a record that does not read, and one that does
  pub core_unread_goes : (fault : RecFault) (s : Core Term ℕ) → CoreOk cells g s
      → CoreGoes cells g (core_does_record (term_reading_by same) (RecordRefused (BadRecord fault)) s)
  core_unread_goes fault s h = stays s h

  record_goes : (to : Address) (fields : Fields) (key : Option (NumberedKey Term ℕ)) → BetweenOk g to fields key → (s : Core Term ℕ)
      → RecordCases (term_reading_by same) (λ t row. RecordHas t fields row) Keeps s
  record_goes to fields key k s = record {
    nothing = λ t answer h. stays t h;
    switched = λ conn station number alarm link f h. (
      g.root,
      g.count,
      up link h.0,
      g.next,
      steps_later link h.0,
      (record { conn = h.0.conn; number = number_up link h.0; root = h.0.root; sync = key_up link h.0 }, h.1, h.2),
      pair_up link h.0 conn f.linked,
      (λ i off. equal_below (apart link.conn i (g.top link.conn + 1) g.top off)),
    );
    asked = λ conn source attempt cell target caps link f h.
        let asked : AskedIs g conn source attempt cell ByTarget IsOther = subst (λ x. BetweenOk g to x key) f.fields_is k in
        let e = asked.tried in
        let ok = all_found (TriedOk cells g) _ g.tried e tried_ok asked.found in
        let there : station_of cell cells ≡ Some target = subst (λ x. station_of cell x ≡ Some target) h.2 f.site in
        let to : target ≡ e.target = same_found (station_of cell cells) target e.target there (ap (λ x. station_of x cells) (sym asked.cell) ∙ ok.target) in
        let one : e.conn ≡ link.conn = asked.conn ∙ sym f.linked in
        let below : e.number ≤ g.top link.conn = subst (λ c. e.number ≤ g.top c) one ok.term.1 in
        let low : e.number < link.chain.number + 1 = subst (λ n. e.number < n + 1) (sym h.0.number) (omega arith) in (
          g.root,
          g.count,
          up link h.0,
          g.next,
          steps_later link h.0,
          (record { conn = h.0.conn; number = number_up link h.0; root = h.0.root; sync = key_up link h.0 }, h.1, h.2),
          (
            pair_up link h.0 conn f.linked,
            record { tried = e; found = asked.found; conn = asked.conn; cell = asked.cell; kind = asked.kind; so = (low, to, asked.so) },
          ),
          (λ i off. equal_below (apart link.conn i (g.top link.conn + 1) g.top off)),
        );
    ordered = λ conn source attempt cell ncc algs air f h.
        (g.root, g.count, g.top, g.next, later_itself g, h, subst (λ x. BetweenOk g to x key) f.0 k, as_before s.link g.top);
    notified = λ station link f h. stays (with_link s (Some (record link { station = station }))) h;
    cancelled = λ conn source attempt cell target f h. stays s h;
  }

  pub core_record_goes : (to : Address) (fields : Fields) (key : Option (NumberedKey Term ℕ)) → BetweenOk g to fields key → (s : Core Term ℕ) → CoreOk cells g s
      → CoreGoes cells g (core_does_record (term_reading_by same) (core_fields_row (plain_core (term_reading_by same) s) fields) s)
  core_record_goes to fields key k s h =
      record_case (term_reading_by same) _ Keeps s (record_goes to fields key k s)
      (core_fields_row (plain_core (term_reading_by same) s) fields) (record_has (term_reading_by same) s fields) h

  -- NAS, and acts

  -- each Complete that opened has COUNT 0
  abbrev AtZero : List ℕ → Outcome → Core Term ℕ → CoreNasRow → Type 0
  AtZero pdu outcome s row = NasHas (term_reading_by same) s pdu outcome row × ((count : ℕ) → Completes (term_reading_by same) s pdu outcome count → count ≡ 0)

  -- at a key change the connection goes on under the next number, and its station gets the KeNB of COUNT 0
  nas_goes : (pdu : List ℕ) (outcome : Outcome) (s : Core Term ℕ) → NasCases (term_reading_by same) (AtZero pdu outcome) Keeps s
  nas_goes pdu outcome s = record {
    nothing = λ t answer h. stays t h;
    closed = λ f h. stays s h;
    completed = λ count p keys f h. stays s h;
    changed = λ count conn next station p keys f h.
        let (completes, changes) = f.0 in
        let is : next ≡ g.next = changes.next_is ∙ h.1 in (
          roots next p.root count s.first_ncc is,
          counts next p.root count s.first_ncc is,
          tops next p.root count s.first_ncc is,
          next + 1,
          begins_later next p.root count s.first_ncc is,
          (begins_link next p.root count s.first_ncc is station, refl, h.2),
          record {
            below = begins_low next p.root count s.first_ncc is;
            chain = begins_key next p.root count s.first_ncc is;
            root = p.root;
            kenb = ap (Kenb p.root) (f.1 count completes);
            number = refl;
          },
          (λ i off. equal_below (apart next i (number_from (term_reading_by same) s.first_ncc) g.top off)),
        );
    asked = λ count c f h. stays s h;
    opened = λ count text c f h. stays s h;
    rejected = λ count c f h. stays s h;
  }

  -- a message, where each Complete that opened has COUNT 0
  pub core_nas_goes : (pdu : List ℕ) (outcome : Outcome) (s : Core Term ℕ) → CoreOk cells g s
      → ((count : ℕ) → Completes (term_reading_by same) s pdu outcome count → count ≡ 0)
      → CoreGoes cells g (core_does_nas (term_reading_by same) (nas_row (term_reading_by same) s pdu outcome) s)
  core_nas_goes pdu outcome s h zero =
      nas_case (term_reading_by same) _ Keeps s (nas_goes pdu outcome s)
      (nas_row (term_reading_by same) s pdu outcome) (nas_has (term_reading_by same) s pdu outcome, zero) h

  act_goes : (act : CoreAct) (s : Core Term ℕ) → ActCases (term_reading_by same) (λ t row. ActHas t act row) Keeps s
  act_goes act s = record {
    nothing = λ t answer h. stays t h;
    started = λ ksi algs caps count p f h. stays s h;
    set_up = λ conn cell target caps count c f h.
        let is : conn ≡ g.next = f.conn_is ∙ h.1 in (
          roots conn c.nas.root count s.first_ncc is,
          counts conn c.nas.root count s.first_ncc is,
          tops conn c.nas.root count s.first_ncc is,
          conn + 1,
          begins_later conn c.nas.root count s.first_ncc is,
          (begins_link conn c.nas.root count s.first_ncc is target, refl, h.2),
          (begins_low conn c.nas.root count s.first_ncc is, begins_key conn c.nas.root count s.first_ncc is, refl),
          (λ i off. equal_below (apart conn i (number_from (term_reading_by same) s.first_ncc) g.top off)),
        );
    released = λ conn station f h. stays (with_link s None) (tt, h.1, h.2);
    sent = λ count text c f h. stays s h;
    skipped = λ n c f h. stays s h;
  }

  pub core_act_goes : (act : CoreAct) (s : Core Term ℕ) → CoreOk cells g s
      → CoreGoes cells g (core_does_act (term_reading_by same) (core_act_row (plain_core (term_reading_by same) s) act) s)
  core_act_goes act s h =
      act_case (term_reading_by same) _ Keeps s (act_goes act s)
      (core_act_row (plain_core (term_reading_by same) s) act) (act_has (term_reading_by same) s act) h
