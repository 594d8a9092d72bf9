-- No two phones have a key in common, where no event comes to a coincidence.
use Rattle.std.proofs.Common.{◌≡◌, ◌≢◌, refl, sym, ap, subst, ◌∙◌, ℕ, zero, suc, ◌+◌, ◌<◌, ◌≤◌, ◌==◌, Bool, true, false, List, [], ◌∷◌, ◌++◌, length, map, drop, get_or, set, Option, Some, None, inl, inr, arith}
use Rattle.std.specs.Prelude.{◌⊎◌, slice_get, is_ok, IsOk, position, option_map}
use Rattle.std.proofs.lemmas.Bool.{false≢true, eqb-true, eqb-false}
use Rattle.std.proofs.lemmas.List.{get_or-set_other, get_or-set_same, length-map}
use Rattle.std.proofs.{Math.ListN.length-set, lemmas.Option.slice_get-get_or}
use Rattle.std.specs.List.{AllByRecursion as AllOf}
use Rattle.lte_events.specs.{Ranges.IsEvent, declared.events.Event.Event, declared.setups.Setup.Setup}
use Rattle.key_model.specs.Term.{Term}
use Rattle.key_terms.specs.declared.row.LadderRow.{LadderRow}
use Rattle.key_terms.proofs.Places.{position_no}
use Rattle.lte_machine.specs.{BothRuns.annex_b_terms, BothRuns.written_run, Carried.report_value, Ciphers.annex_b, Machines.written_machine, Opening.open_octets, Wire.Outgoing}
use Rattle.lte_machine.specs.Run.{RunState, Running, Stopped, turn, after, EventReport, Reported, Coincided, event_report, first_world}
use Rattle.lte_machine.specs.Step.{next, Continues, Stops, StepResult}
use Rattle.lte_machine.proofs.{EventByEvent.replay_snoc, Worlds.TheWorld}
use Rattle.store_laws.proofs.Adding.{Stands}
use Rattle.fleet_world.specs.Answers.{answer, own_at, taken_by, crossing, unless_taken, unless_met, owned_if, owns_after, owns_from, no_events}
use Rattle.fleet_world.specs.Apart.{IsEventOf, AllAnswered}
use Rattle.fleet_world.specs.Meeting.{Meeting, has_row, row_among, met_in, met_or, meeting_from}
use Rattle.fleet_world.specs.Phones.{phone_run, phone_told, phone_rows, others}
use Rattle.fleet_world.proofs.Ladders.{octets_of, rows_more, has_stands, stands_has, stands_either, new_octets}

-- A PHONE'S OWN EVENTS

-- the run of a phone goes on
abbrev pub GoesOn : Setup → List Event → Type 0
GoesOn setup own = (w : TheWorld) × (written_run setup own ≡ Running w)

pub own_other : (owns : List (List Event)) (p q : ℕ) (own : List Event) → q ≢ p → own_at (set owns p own) q ≡ own_at owns q
own_other owns p q own differ = get_or-set_other owns p q own [] differ

pub own_same : (owns : List (List Event)) (p : ℕ) (own : List Event) → p < length owns → own_at (set owns p own) p ≡ own
own_same owns p own within = get_or-set_same owns p own [] within

pub no_own : (n p : ℕ) → own_at (no_events n) p ≡ []
no_own zero p = refl
no_own (suc n) zero = refl
no_own (suc n) (suc p) = no_own n p

-- an event that is told with a line goes on
told_goes : (r : RunState Term ℕ (Outgoing Term ℕ)) (e : Event) (told : _)
    → report_value (event_report (open_octets annex_b_terms) (written_machine annex_b) r e) ≡ Reported told
    → (u : TheWorld) × (turn (open_octets annex_b_terms) (written_machine annex_b) r e ≡ Running u)
told_goes (Stopped coincidence) e told is = absurd cc
told_goes (Running w) e told is = by (next (open_octets annex_b_terms) (written_machine annex_b) w e) refl is
  where
    by : (s : StepResult Term ℕ (Outgoing Term ℕ)) → next (open_octets annex_b_terms) (written_machine annex_b) w e ≡ s
        → report_value (event_report (open_octets annex_b_terms) (written_machine annex_b) (Running w) e) ≡ Reported told
        → (u : TheWorld) × (after (next (open_octets annex_b_terms) (written_machine annex_b) w e) ≡ Running u)
    by (Continues u line) at k = (u, ap after at)
    by (Stops coincidence) at k = let bad : Coincided _ ≡ Reported told = sym (ap (λ s. report_value (reported_of s)) at) ∙ k in absurd cc
      where
        reported_of : StepResult Term ℕ (Outgoing Term ℕ) → EventReport Term
        reported_of (Continues u line) = Reported line
        reported_of (Stops c) = Coincided c

pub goes_more : (setup : Setup) (own : List Event) (e : Event) (told : _) → phone_told setup own e ≡ Reported told → GoesOn setup (own ++ e ∷ [])
unfolding phone_told
goes_more setup own e told is =
    let on = told_goes (written_run setup own) e told is in
    (on.0, replay_snoc (open_octets annex_b_terms) (written_machine annex_b) (Running (first_world setup)) own e ∙ on.1)

-- APART

-- each phone's run goes on, and no two have a key in common
pub record Apart (setup : Setup) (owns : List (List Event)) : Type 0 where
  pub goes : (p : ℕ) → GoesOn setup (own_at owns p)
  pub range : (p : ℕ) → AllOf IsEvent (own_at owns p)
  pub apart : (p q : ℕ) (octets : List ℕ)
      → has_row octets (phone_rows setup (own_at owns p)) ≡ true
      → has_row octets (phone_rows setup (own_at owns q)) ≡ true
      → p ≡ q

-- no rows
none_there : (setup : Setup) (octets : List ℕ) → has_row octets (phone_rows setup []) ≡ false
unfolding has_row phone_run
none_there setup octets = refl

pub none_apart : (setup : Setup) (n : ℕ) → Apart setup (no_events n)
none_apart setup n = record {
  goes = λ p. subst (GoesOn setup) (sym (no_own n p)) (first_world setup, refl);
  range = λ p. subst (AllOf IsEvent) (sym (no_own n p)) tt;
  apart = λ p q octets h k. absurd (false≢true (sym (none_there setup octets) ∙ ap (λ own. has_row octets (phone_rows setup own)) (sym (no_own n p)) ∙ h));
}

-- the ladder of another phone
other_ladder : (setup : Setup) (owns : List (List Event)) (p q : ℕ)
    → q ≢ p
    → q < length owns
    → slice_get (others setup p owns) q ≡ Some (phone_rows setup (own_at owns q))
other_ladder setup owns p q differ within =
    let ladders = map (phone_rows setup) owns in
    let len : length ladders ≡ length owns = length-map owns (phone_rows setup) in
    let long : length (set ladders p []) ≡ length ladders = length-set ladders p [] in
    slice_get-get_or (set ladders p []) q [] (omega (arith, within, len, long))
    ∙ ap Some (get_or-set_other ladders p q [] [] differ ∙ mapped owns q within)
  where
    mapped : (xs : List (List Event)) (k : ℕ) → k < length xs → get_or (map (phone_rows setup) xs) k [] ≡ phone_rows setup (own_at xs k)
    mapped [] k low = absurd (omega (arith, low))
    mapped (x ∷ xs) zero low = refl
    mapped (x ∷ xs) (suc k) low = mapped xs k (omega (arith, low))

-- a row that meets none
none_met : (k : ℕ) (ladders : List (List LadderRow)) (octets : List ℕ) (later : Option Meeting) → met_or k (row_among ladders octets) later ≡ None
    → (position (has_row octets) ladders ≡ None) × (later ≡ None)
none_met k ladders octets later e = by (position (has_row octets) ladders) refl e
  where
    by : (o : Option ℕ)
        → position (has_row octets) ladders ≡ o
        → met_or k (option_map (met_in ladders octets) o) later ≡ None
        → (position (has_row octets) ladders ≡ None) × (later ≡ None)
    by None is h = (is, h)
    by (Some q) is h = absurd cc

-- of rows that meet none
all_met : (ladders : List (List LadderRow)) (k : ℕ) (rows : List LadderRow)
    → meeting_from ladders k rows ≡ None
    → (octets : List ℕ)
    → Stands octets (octets_of rows)
    → position (has_row octets) ladders ≡ None
all_met ladders k [] none octets h = absurd h
all_met ladders k (r ∷ rows) none octets (inl e) =
    ap (λ o. position (has_row o) ladders) e ∙ (none_met k ladders r.octets (meeting_from ladders (k + 1) rows) none).0
all_met ladders k (r ∷ rows) none octets (inr h) =
    all_met ladders (k + 1) rows (none_met k ladders r.octets (meeting_from ladders (k + 1) rows) none).1 octets h

-- ONE EVENT MORE

module _ (setup : Setup) (owns : List (List Event)) (p : ℕ) (e : Event) (h : Apart setup owns) (within : p < length owns) (good : IsEvent e) where
  abbrev old : List Event
  old = own_at owns p

  abbrev more : List Event
  more = old ++ e ∷ []

  module _ (told : _) (tells : phone_told setup old e ≡ Reported told) (none : crossing setup owns p e ≡ None) where
    on : GoesOn setup more
    on = goes_more setup old e told tells

    rows_on : (new : List (List ℕ)) × (octets_of (phone_rows setup more) ≡ octets_of (phone_rows setup old) ++ new)
    rows_on = rows_more setup old e on.0 on.1

    -- what it has then no other phone has
    alone : (q : ℕ) (octets : List ℕ) → q ≢ p → has_row octets (phone_rows setup more) ≡ true → has_row octets (phone_rows setup (own_at owns q)) ≡ true → ⊥
    alone q octets differ mine its =
        by (stands_either octets (octets_of (phone_rows setup old)) rows_on.0
        (subst (Stands octets) rows_on.1 (has_stands octets (phone_rows setup more) mine)))
      where
        by : Stands octets (octets_of (phone_rows setup old)) ⊎ Stands octets rows_on.0 → ⊥
        by (inl before) = differ (h.apart q p octets its (stands_has octets (phone_rows setup old) before))
        by (inr new) =
            let rows = drop (length (phone_rows setup old)) (phone_rows setup more) in
            let stands : Stands octets (octets_of rows) = subst (Stands octets)
            (sym (new_octets (phone_rows setup old) (phone_rows setup more) rows_on.0 rows_on.1)) new in
            let nobody : position (has_row octets) (others setup p owns) ≡ None =
            all_met (others setup p owns) (length (phone_rows setup old)) rows none octets stands in
            apart_from q nobody (at_most q)
          where
            at_most : (q : ℕ) → (q < length owns) ⊎ (length owns ≤ q)
            at_most q = cases q (length owns)
              where
                cases : (a b : ℕ) → (a < b) ⊎ (b ≤ a)
                cases a zero = inr (omega arith)
                cases zero (suc b) = inl (omega arith)
                cases (suc a) (suc b) = onward (cases a b)
                  where
                    onward : (a < b) ⊎ (b ≤ a) → (suc a < suc b) ⊎ (suc b ≤ suc a)
                    onward (inl lt) = inl (omega (arith, lt))
                    onward (inr le) = inr (omega (arith, le))

            apart_from : (x : ℕ) → position (has_row octets) (others setup p owns) ≡ None → (q < length owns) ⊎ (length owns ≤ q) → ⊥
            apart_from x nobody (inl low) =
                false≢true (sym (position_no (has_row octets) (others setup p owns) q (phone_rows setup (own_at owns q))
                nobody (other_ladder setup owns p q differ low))
                ∙ its)
            apart_from x nobody (inr past) =
                false≢true (sym (none_there setup octets)
                ∙ ap (λ own. has_row octets (phone_rows setup own)) (sym (past_end owns q past))
                ∙ its)
              where
                past_end : (xs : List (List Event)) (k : ℕ) → length xs ≤ k → own_at xs k ≡ []
                past_end [] k le = refl
                past_end (x ∷ xs) zero le = absurd (omega (arith, le))
                past_end (x ∷ xs) (suc k) le = past_end xs k (omega (arith, le))

    abbrev next_owns : List (List Event)
    next_owns = set owns p more

    -- who a phone is
    same_or_not : (q : ℕ) → (q ≡ p) ⊎ (q ≢ p)
    same_or_not q = by (q == p) refl
      where
        by : (b : Bool) → (q == p) ≡ b → (q ≡ p) ⊎ (q ≢ p)
        by true is = inl (eqb-true q p is)
        by false is = inr (eqb-false q p is)

    here : (q : ℕ) → q ≡ p → own_at next_owns q ≡ more
    here q is = ap (own_at next_owns) is ∙ own_same owns p more within

    there : (q : ℕ) → q ≢ p → own_at next_owns q ≡ own_at owns q
    there q differ = own_other owns p q more differ

    all_more : (xs : List Event) → AllOf IsEvent xs → AllOf IsEvent (xs ++ e ∷ [])
    all_more [] are = (good, tt)
    all_more (x ∷ xs) are = (are.0, all_more xs are.1)

    rows_of_next : (q : ℕ) (octets : List ℕ) (own : List Event)
        → own_at next_owns q ≡ own
        → has_row octets (phone_rows setup (own_at next_owns q)) ≡ true
        → has_row octets (phone_rows setup own) ≡ true
    rows_of_next q octets own is k = ap (λ x. has_row octets (phone_rows setup x)) (sym is) ∙ k

    pub apart_more : Apart setup next_owns
    apart_more = record {
      goes = λ q. goes_at q (same_or_not q);
      range = λ q. range_at q (same_or_not q);
      apart = λ a b octets k l. apart_at a b octets k l (same_or_not a) (same_or_not b);
    }
      where
        goes_at : (q : ℕ) → (q ≡ p) ⊎ (q ≢ p) → GoesOn setup (own_at next_owns q)
        goes_at q (inl is) = subst (GoesOn setup) (sym (here q is)) on
        goes_at q (inr differs) = subst (GoesOn setup) (sym (there q differs)) (h.goes q)

        range_at : (q : ℕ) → (q ≡ p) ⊎ (q ≢ p) → AllOf IsEvent (own_at next_owns q)
        range_at q (inl is) = subst (AllOf IsEvent) (sym (here q is)) (all_more old (h.range p))
        range_at q (inr differs) = subst (AllOf IsEvent) (sym (there q differs)) (h.range q)

        apart_at : (a b : ℕ) (octets : List ℕ)
            → has_row octets (phone_rows setup (own_at next_owns a)) ≡ true
            → has_row octets (phone_rows setup (own_at next_owns b)) ≡ true
            → (a ≡ p) ⊎ (a ≢ p) → (b ≡ p) ⊎ (b ≢ p) → a ≡ b
        apart_at a b octets k l (inl is) (inl are) = is ∙ sym are
        apart_at a b octets k l (inl is) (inr differs) =
            absurd (alone b octets differs (rows_of_next a octets more (here a is) k)
            (rows_of_next b octets (own_at owns b) (there b differs) l))
        apart_at a b octets k l (inr differs) (inl are) =
            absurd (alone a octets differs (rows_of_next b octets more (here b are) l)
            (rows_of_next a octets (own_at owns a) (there a differs) k))
        apart_at a b octets k l (inr differs) (inr differ) =
            h.apart a b octets (rows_of_next a octets (own_at owns a) (there a differs) k)
            (rows_of_next b octets (own_at owns b) (there b differ) l)

  -- whatever is answered, if it is a line
  pub apart_next : IsOk (answer setup owns p e) → Apart setup (owns_after setup owns p e)
  apart_next ok = by (taken_by setup owns p e) ok (phone_told setup old e) refl (crossing setup owns p e) refl
    where
      by : (t : Option ℕ)
          → IsOk (unless_taken p t (phone_told setup old e) (crossing setup owns p e))
          → (told : EventReport (List ℕ))
          → phone_told setup old e ≡ told
          → (met : Option Meeting) → crossing setup owns p e ≡ met → Apart setup (owned_if t owns p e)
      by (Some q) ok told tells met meets = h
      by None ok (Coincided coincidence) tells met meets = absurd (false≢true (ap (λ t. is_ok (unless_met p t (crossing setup owns p e))) (sym tells) ∙ ok))
      by None ok (Reported line) tells (Some m) meets =
          absurd (false≢true (ap (λ t. is_ok (unless_met p t (Some m))) (sym tells)
          ∙ ap (λ x. is_ok (unless_met p (phone_told setup old e) x)) (sym meets)
          ∙ ok))
      by None ok (Reported line) tells None meets = apart_more line tells meets

-- and so over all events
pub length_after : (setup : Setup) (owns : List (List Event)) (p : ℕ) (e : Event) → length (owns_after setup owns p e) ≡ length owns
length_after setup owns p e = by (taken_by setup owns p e)
  where
    by : (t : Option ℕ) → length (owned_if t owns p e) ≡ length owns
    by None = length-set owns p (own_at owns p ++ e ∷ [])
    by (Some q) = refl

pub all_apart : (setup : Setup) (owns : List (List Event)) (events : List (ℕ × Event))
    → Apart setup owns
    → AllOf (IsEventOf (length owns)) events
    → AllAnswered setup owns events
    → Apart setup (owns_from setup owns events)
all_apart setup owns [] h are answered = h
all_apart setup owns (x ∷ xs) h are answered =
    let same = length_after setup owns x.0 x.1 in
    all_apart setup (owns_after setup owns x.0 x.1) xs (apart_next setup owns x.0 x.1 h are.0.0 are.0.1 answered.0)
    (subst (λ n. AllOf (IsEventOf n) xs) (sym same) are.1) answered.1
