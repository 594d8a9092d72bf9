-- What is read from a world is what its run says.
use Rattle.std.proofs.Common.{◌≡◌, refl, sym, ap, ◌∙◌, subst, ℕ, suc, ◌+◌, ◌≤◌, ◌==◌, ◌<◌, Bool, true, false, not, cond, nat_lt, List, [], ◌∷◌, length, map, get_or, Option, Some, None, arith}
use Rattle.std.specs.{Option.option_map, Prelude.slice_get, Prelude.position, List.position_or_len}
use Rattle.std.proofs.{lemmas.Bool.Decides.nat_tests, lemmas.List.Folds.find_at, lemmas.Option.slice_get_past, lemmas.Option.slice_get_read}
use Rattle.lte_machine.specs.{StationState.Station, World.station_of_id}
use Rattle.enb_context.specs.Drawn.{last_drawn}
use Rattle.lte_world.specs.Whole.{context_kenb, station_air}

-- THE STATION OF A NUMBER

first_place : (id : ℕ) (ss : List (Station (List ℕ) ℕ)) → position_or_len (λ x. x == id) (map (λ s. s.id) ss) ≡ position_or_len (λ s. s.id == id) ss
first_place id [] = refl
first_place id (s ∷ ss) = ap (λ n. cond (not (s.id == id)) (1 + n) 0) (first_place id ss)

at_first : (n k : ℕ) (b : Bool) → cond b (Some n) None ≡ Some k → n ≡ k
at_first n k true e = cc
at_first n k false e = absurd cc

past_all : (n len : ℕ) → cond (nat_lt n len) (Some n) None ≡ None → len ≤ n
past_all n len e = by (nat_lt n len) refl e
  where
    by : (b : Bool) → nat_lt n len ≡ b → cond b (Some n) None ≡ None → len ≤ n
    by true is f = absurd cc
    by false is f = grind (arith, nat_tests)

same_length : (stations : List (Station (List ℕ) ℕ)) → length (map (λ s. s.id) stations) ≡ length stations
same_length [] = refl
same_length (s ∷ ss) = ap suc (same_length ss)

module _ (ids : List ℕ) (stations : List (Station (List ℕ) ℕ)) (are : map (λ s. s.id) stations ≡ ids) (id : ℕ) where
  abbrev place : ℕ
  place = position_or_len (λ x. x == id) ids

  -- the first station of this number stands at the first place of the number
  found_there : station_of_id id stations ≡ slice_get stations place
  found_there = find_at (λ s. s.id == id) stations ∙ ap (slice_get stations) (sym (first_place id stations) ∙ ap (position_or_len (λ x. x == id)) are)

  pub station_at : (k : ℕ) → position (λ x. x == id) ids ≡ Some k → station_of_id id stations ≡ slice_get stations k
  station_at k e = found_there ∙ ap (slice_get stations) (at_first place k (nat_lt place (length ids)) e)

  pub station_nowhere : position (λ x. x == id) ids ≡ None → station_of_id id stations ≡ None
  station_nowhere e =
      found_there ∙ slice_get_past stations place
      (subst (λ n. n ≤ place) (sym (ap length are) ∙ same_length stations) (past_all place (length ids) e))

  pub kenb_at : (k : ℕ)
      → position (λ x. x == id) ids ≡ Some k
      → k < length ids
      → (s : Station (List ℕ) ℕ)
      → s ≡ get_or stations k s
      → (r : Option (List ℕ))
      → r ≡ option_map (λ c. c.key.kenb) s.context
      → r ≡ context_kenb (station_of_id id stations)
  kenb_at k e within s there r is =
      is ∙ ap context_kenb (sym (station_at k e ∙ slice_get_read stations (length ids) k s (sym (ap length are) ∙ same_length stations) within there))

  pub kenb_nowhere : position (λ x. x == id) ids ≡ None → None ≡ context_kenb (station_of_id id stations)
  kenb_nowhere e = ap context_kenb (sym (station_nowhere e))

  pub drawn_at : (k : ℕ)
      → position (λ x. x == id) ids ≡ Some k
      → k < length ids
      → (s : Station (List ℕ) ℕ)
      → s ≡ get_or stations k s
      → (r : Option (ℕ × ℕ))
      → r ≡ last_drawn s.id s.next
      → r ≡ station_air (station_of_id id stations)
  drawn_at k e within s there r is =
      is ∙ ap station_air (sym (station_at k e ∙ slice_get_read stations (length ids) k s (sym (ap length are) ∙ same_length stations) within there))

  pub drawn_nowhere : position (λ x. x == id) ids ≡ None → None ≡ station_air (station_of_id id stations)
  drawn_nowhere e = ap station_air (sym (station_nowhere e))
