-- The ladder of a phone: which keys have a row, and what one event more adds.
use Rattle.std.proofs.Common.{◌≡◌, refl, sym, ap, subst, ◌∙◌, ℕ, zero, suc, Bool, true, false, List, [], ◌∷◌, ◌++◌, length, map, drop, Option, Some, None, inl, inr}
use Rattle.std.specs.{Prelude.◌⊎◌, Prelude.slice_get, Option.is_some, Str.bytes_eq}
use Rattle.std.proofs.{lemmas.List.map-append, lemmas.Option.none-some, lemmas.Slice.Eq.bytes_eq-Decides}
use Rattle.lte_events.specs.{declared.events.Event.Event, declared.setups.Setup.Setup}
use Rattle.key_model.specs.{Term.Term, Value.value_of, Value.same_value}
use Rattle.key_terms.specs.{declared.row.LadderRow.LadderRow, declared.row.Origin.Origin, Ladder.row_of}
use Rattle.key_terms.proofs.{Places.position_hit, Holding.plain}
use Rattle.lte_machine.specs.{BothRuns.annex_b_terms, BothRuns.written_run, ByEvent.in_octets, Carried.run_value, Ciphers.annex_b, Ciphers.under_keys, Known.AllReported, Machines.written_machine, Machines.written_in_values, Opening.open_octets, Opening.open_by_uses, Standing.OctetRowsStand, Wire.Outgoing, World.World, World.happens}
use Rattle.lte_machine.specs.Distinct.{keys_of, Member, distinct_after, distinct_terms, is_member, with_new}
use Rattle.lte_machine.specs.Ladder.{RowOrigin, row_key, ladder_of}
use Rattle.lte_machine.specs.Run.{RunState, Running, Stopped, turn, after, first_world}
use Rattle.lte_machine.specs.Step.{next, Continues, Stops, StepResult}
use Rattle.lte_machine.proofs.{EventByEvent.replay_snoc, EventByEvent.step_is, History.among_distinct, History.distinct_append, KnownWorld.Grounds, LadderRun.still_grounds, LadderRun.octets_always, Worlds.TheWorld}
use Rattle.lte_properties.proofs.AccountsHold.{happens_gains}
use Rattle.store_laws.specs.Rows.{numbered, all_noted, world_rows}
use Rattle.store_laws.proofs.{Adding.Stands, Adding.row_stands, Numbered.plain_noted, Numbered.octets_numbered}
use Rattle.fleet_world.specs.Meeting.{has_row}
use Rattle.fleet_world.specs.Phones.{phone_run, phone_rows, rows_in}

-- OCTETS OF ROWS

abbrev pub octets_of : List LadderRow → List (List ℕ)
octets_of rows = map (λ r. r.octets) rows

-- rows that are plainly the same have the same octets
same_octets : (a b : List LadderRow) → map plain a ≡ map plain b → octets_of a ≡ octets_of b
same_octets a b e = twice a ∙ ap (map (λ (p : Origin × List ℕ). p.1)) e ∙ sym (twice b)
  where
    twice : (rows : List LadderRow) → octets_of rows ≡ map (λ (p : Origin × List ℕ). p.1) (map plain rows)
    twice [] = refl
    twice (r ∷ rows) = ap (λ l. r.octets ∷ l) (twice rows)

-- the octets of the rows of a world are its keys, in order
octets_world : {S : Type 0} (u : World (List ℕ) ℕ S) → octets_of (world_rows u) ≡ map row_key (ladder_of bytes_eq u.history).rows
octets_world u =
    let rows = numbered (ladder_of bytes_eq u.history).rows in
    same_octets (all_noted rows u.held) rows (plain_noted rows u.held) ∙ octets_numbered (ladder_of bytes_eq u.history).rows

module _ (setup : Setup) (events : List Event) (w : TheWorld) (runs : written_run setup events ≡ Running w) where
  -- the run in values goes on too
  pub in_values : phone_run setup events ≡ Running (in_octets w)
  unfolding phone_run
  in_values = ap (run_value annex_b) runs

  pub grounds : Grounds w
  grounds =
      still_grounds (under_keys value_of annex_b) written_in_values
      (open_by_uses same_value (under_keys value_of annex_b)) (open_octets annex_b_terms) setup events w runs

  pub reported : AllReported w
  reported = grounds.keys

  stand : OctetRowsStand w.history
  stand =
      octets_always (under_keys value_of annex_b) written_in_values
      (open_by_uses same_value (under_keys value_of annex_b)) (open_octets annex_b_terms) setup events w runs

  -- the rows are the distinct terms
  pub rows_are : octets_of (phone_rows setup events) ≡ map value_of (distinct_terms w.history)
  rows_are = ap (λ r. octets_of (rows_in r)) in_values ∙ octets_world (in_octets w) ∙ stand

  -- and so every term of the run has one
  pub term_has_row : (t : Term) → Member t (keys_of w.history) → has_row (value_of t) (phone_rows setup events) ≡ true
  unfolding has_row
  term_has_row t m =
      row_stands (phone_rows setup events) (value_of t)
      (subst (Stands (value_of t)) (sym rows_are)
      (valued_stands (distinct_terms w.history) (among_distinct [] (keys_of w.history) t m)))
    where
      valued_stands : (ts : List Term) → Member t ts → Stands (value_of t) (map value_of ts)
      valued_stands [] h = absurd h
      valued_stands (u ∷ ts) (inl e) = inl (ap value_of e)
      valued_stands (u ∷ ts) (inr h) = inr (valued_stands ts h)

-- ONE EVENT MORE

-- the distinct terms go on
distinct_more : (seen ts : List Term) → (more : List Term) × (distinct_after seen ts ≡ seen ++ more)
distinct_more seen [] = ([], sym (nothing seen))
  where
    nothing : (xs : List Term) → xs ++ [] ≡ xs
    nothing [] = refl
    nothing (x ∷ xs) = ap (λ l. x ∷ l) (nothing xs)
distinct_more seen (t ∷ ts) = by (is_member t seen) (distinct_more (with_new (is_member t seen) t seen) ts)
  where
    joined : (xs ys : List Term) → (xs ++ t ∷ []) ++ ys ≡ xs ++ (t ∷ ys)
    joined [] ys = refl
    joined (x ∷ xs) ys = ap (λ l. x ∷ l) (joined xs ys)

    by : (b : Bool)
        → (more : List Term) × (distinct_after (with_new b t seen) ts ≡ with_new b t seen ++ more)
        → (more : List Term) × (distinct_after (with_new b t seen) ts ≡ seen ++ more)
    by true h = h
    by false h = (t ∷ h.0, h.1 ∙ joined seen h.0)

terms_more : (history more : List (RowOrigin Term)) → (new : List Term) × (distinct_terms (history ++ more) ≡ distinct_terms history ++ new)
terms_more history more =
    let on = distinct_more (distinct_terms history) (keys_of more) in
    (on.0, ap (distinct_after []) (map-append row_key history more) ∙ distinct_append [] (keys_of history) (keys_of more) ∙ on.1)

-- a run that goes on went on before
before_it : (r : RunState Term ℕ (Outgoing Term ℕ)) (e : Event) (u : TheWorld) → turn (open_octets annex_b_terms) (written_machine annex_b) r e ≡ Running u
    → (w : TheWorld) × (r ≡ Running w) × (u ≡ (happens (written_machine annex_b) w e).0)
before_it (Stopped coincidence) e u is = absurd cc
before_it (Running w) e u is = (w, refl, by (next (open_octets annex_b_terms) (written_machine annex_b) w e) refl is)
  where
    by : (s : StepResult Term ℕ (Outgoing Term ℕ))
        → next (open_octets annex_b_terms) (written_machine annex_b) w e ≡ s
        → after s ≡ Running u
        → u ≡ (happens (written_machine annex_b) w e).0
    by (Continues v line) at k = let one : v ≡ u = cc in sym one ∙ (step_is (open_octets annex_b_terms) (written_machine annex_b) w e v line at).0
    by (Stops coincidence) at k = absurd cc

pub went_on : (setup : Setup) (own : List Event) (e : Event) (u : TheWorld) → written_run setup (own ++ e ∷ []) ≡ Running u
    → (w : TheWorld) × (written_run setup own ≡ Running w) × (u ≡ (happens (written_machine annex_b) w e).0)
went_on setup own e u is =
    before_it (written_run setup own) e u (sym (replay_snoc (open_octets annex_b_terms) (written_machine annex_b) (Running (first_world setup)) own e) ∙ is)

-- and its rows go on
pub rows_more : (setup : Setup) (own : List Event) (e : Event) (u : TheWorld) → written_run setup (own ++ e ∷ []) ≡ Running u
    → (more : List (List ℕ)) × (octets_of (phone_rows setup (own ++ e ∷ [])) ≡ octets_of (phone_rows setup own) ++ more)
rows_more setup own e u is =
    let before = went_on setup own e u is in
    let w = before.0 in
    let gains = happens_gains (written_machine annex_b) w e in
    let terms = terms_more w.history gains.derived in
    let history : u.history ≡ w.history ++ gains.derived = ap (λ (x : TheWorld). x.history) before.2 ∙ gains.history in (
      map value_of terms.0,
      rows_are setup (own ++ e ∷ []) u is ∙ ap (λ h. map value_of (distinct_terms h)) history ∙ ap (map value_of) terms.1
          ∙ map-append value_of (distinct_terms w.history) terms.0 ∙ ap (λ l. l ++ map value_of terms.0) (sym (rows_are setup own w before.1)),
    )

-- ROWS BY THEIR OCTETS

-- a row that is found stands
pub has_stands : (octets : List ℕ) (rows : List LadderRow) → has_row octets rows ≡ true → Stands octets (octets_of rows)
unfolding has_row
has_stands octets rows h = by (row_of rows octets) refl h
  where
    stands_at : (k : ℕ) (rows : List LadderRow) (r : LadderRow) → slice_get rows k ≡ Some r → r.octets ≡ octets → Stands octets (octets_of rows)
    stands_at k [] r at is = absurd (none-some r at)
    stands_at zero (x ∷ rows) r at is = let one : x ≡ r = cc in inl (sym (ap (λ y. y.octets) one ∙ is))
    stands_at (suc k) (x ∷ rows) r at is = inr (stands_at k rows r at is)

    by : (o : Option ℕ) → row_of rows octets ≡ o → is_some o ≡ true → Stands octets (octets_of rows)
    by None e s = cc
    by (Some k) e s =
        let hit = position_hit (λ r. bytes_eq r.octets octets) rows k e in
        stands_at k rows hit.0 hit.1 ((bytes_eq-Decides hit.0.octets octets).0 hit.2)

pub stands_has : (octets : List ℕ) (rows : List LadderRow) → Stands octets (octets_of rows) → has_row octets rows ≡ true
unfolding has_row
stands_has octets rows h = row_stands rows octets h

-- in one of two lists
pub stands_either : (octets : List ℕ) (xs ys : List (List ℕ)) → Stands octets (xs ++ ys) → Stands octets xs ⊎ Stands octets ys
stands_either octets [] ys h = inr h
stands_either octets (x ∷ xs) ys (inl e) = inl (inl e)
stands_either octets (x ∷ xs) ys (inr h) = onward (stands_either octets xs ys h)
  where
    onward : Stands octets xs ⊎ Stands octets ys → Stands octets (x ∷ xs) ⊎ Stands octets ys
    onward (inl k) = inl (inr k)
    onward (inr k) = inr k

drop_front : {A : Type 0} (xs ys : List A) → drop (length xs) (xs ++ ys) ≡ ys
drop_front [] ys = refl
drop_front (x ∷ xs) ys = drop_front xs ys

drop_octets : (n : ℕ) (rows : List LadderRow) → octets_of (drop n rows) ≡ drop n (octets_of rows)
drop_octets zero rows = refl
drop_octets (suc n) [] = refl
drop_octets (suc n) (r ∷ rows) = drop_octets n rows

octets_length : (rows : List LadderRow) → length (octets_of rows) ≡ length rows
octets_length [] = refl
octets_length (r ∷ rows) = ap suc (octets_length rows)

-- the new rows, by their octets
pub new_octets : (before after : List LadderRow) (more : List (List ℕ))
    → octets_of after ≡ octets_of before ++ more
    → octets_of (drop (length before) after) ≡ more
new_octets before after more is =
    drop_octets (length before) after
    ∙ ap (drop (length before)) is
    ∙ ap (λ n. drop n (octets_of before ++ more)) (sym (octets_length before))
    ∙ drop_front (octets_of before) more
