-- The first ladder that passes a test, by what is known of each.
use Rattle.std.proofs.Common.{◌≡◌, refl, sym, ap, subst, ◌∙◌, ℕ, zero, suc, ◌+◌, ◌<◌, ◌≤◌, Bool, true, false, List, [], ◌∷◌, length, drop, get_or, Some, None, arith, inl, inr}
use Rattle.std.specs.Prelude.{◌⊎◌, slice_get, position, option_map, unwrap_or}
use Rattle.std.specs.{Option.is_some, List.AllByRecursion as AllOf}
use Rattle.std.proofs.Math.ListN.{length-set}
use Rattle.std.proofs.lemmas.List.{get_or-set_same, length-map, get_or-map}
use Rattle.std.proofs.lemmas.Option.{slice_get-get_or, get_or_from_slice_get, slice_get_within}
use Rattle.key_terms.specs.{declared.row.LadderRow.LadderRow, Ladder.row_of}
use Rattle.key_terms.proofs.Places.{position_first, position_nowhere}
use Rattle.lte_machine.specs.Machines.{Kept}
use Rattle.lte_machine.specs.Run.{RunState, Running, Stopped, GoesOn}
use Rattle.lte_world.specs.Whole.{Whole, InRun, run_of}
use Rattle.store_laws.specs.Rows.{world_rows}
use Rattle.fleet_world.specs.Meeting.{has_root, has_row, met_in, row_among, ladder_at}
use Rattle.fleet_world.specs.Phones.{rows_in, without}
use Rattle.fleet_world.specs.Worlds.{Goes, rows_at, ladders_in, others_in}

-- THE LADDER OF A WORLD

rows_are : (run : RunState (List ℕ) ℕ Kept) (rows : List LadderRow) → GoesOn run → InRun (λ w. rows ≡ world_rows w) run → rows ≡ rows_in run
rows_are (Running w) rows goes are = are
rows_are (Stopped coincidence) rows goes are = absurd goes

pub ladder_is : (v : Whole) (rows : List LadderRow) → Goes v → InRun (λ w. rows ≡ world_rows w) (run_of v) → rows ≡ rows_at v
ladder_is v rows goes are = rows_are (run_of v) rows goes are

pub goes_at : (worlds : List Whole) (k : ℕ) (v : Whole) → AllOf Goes worlds → k < length worlds → v ≡ get_or worlds k v → Goes v
goes_at worlds k v all low is = at worlds k all low is
  where
    at : (ws : List Whole) (j : ℕ) → AllOf Goes ws → j < length ws → v ≡ get_or ws j v → Goes v
    at [] j all low is = absurd (omega (arith, low))
    at (w ∷ ws) zero all low is = subst Goes (sym is) all.0
    at (w ∷ ws) (suc j) all low is = at ws j all.1 (omega (arith, low)) is

-- OTHER LADDERS

pub others_length : (p : ℕ) (worlds : List Whole) → length (others_in p worlds) ≡ length worlds
others_length p worlds = length-set (ladders_in worlds) p [] ∙ length-map worlds rows_at

-- a phone itself has no rows there
pub own_is_empty : (p k : ℕ) (worlds : List Whole) → k ≡ p → k < length worlds → ladder_at (others_in p worlds) k ≡ []
own_is_empty p k worlds is low =
    ap (λ n. ladder_at (without n (ladders_in worlds)) k) (sym is)
    ∙ get_or-set_same (ladders_in worlds) k [] [] (omega (arith, low, length-map worlds rows_at))

pub ladder_of_phone : (k : ℕ) (worlds : List Whole) (v : Whole) → k < length worlds → v ≡ get_or worlds k v → ladder_at (ladders_in worlds) k ≡ rows_at v
ladder_of_phone k worlds v low is = get_or-map rows_at worlds k v [] low ∙ ap rows_at (sym is)

-- THE FIRST ONE

module _ (test : List LadderRow → Bool) (ladders : List (List LadderRow)) where
  pub first_is : (k : ℕ)
      → k < length ladders
      → test (ladder_at ladders k) ≡ true
      → ((j : ℕ) → j < k → test (ladder_at ladders j) ≡ false)
      → position test ladders ≡ Some k
  first_is k low passes before =
      position_first test ladders k (ladder_at ladders k) (slice_get-get_or ladders k [] low) passes
      (λ j y lt at. ap test (sym (get_or_from_slice_get ladders j y [] at)) ∙ before j lt)

  pub none_is : (k : ℕ) → length ladders ≤ k → ((j : ℕ) → j < k → test (ladder_at ladders j) ≡ false) → position test ladders ≡ None
  none_is k past before =
      position_nowhere test ladders (λ j y at.
      let low = slice_get_within ladders j y at in
      ap test (sym (get_or_from_slice_get ladders j y [] at)) ∙ before j (omega (arith, low, past)))

-- one ladder more that does not pass
pub and_this : (test : ℕ → Bool) (k : ℕ) → ((j : ℕ) → j < k → test j ≡ false) → test k ≡ false → (j : ℕ) → j < k + 1 → test j ≡ false
and_this test k before here j low = by j k before here low
  where
    by : (i n : ℕ) → ((j : ℕ) → j < n → test j ≡ false) → test n ≡ false → i < n + 1 → test i ≡ false
    by i n before here low = first_of_two (less i n low)
      where
        first_of_two : (i < n) ⊎ (i ≡ n) → test i ≡ false
        first_of_two (inl lt) = before i lt
        first_of_two (inr is) = ap test is ∙ here

        less : (a b : ℕ) → a < b + 1 → (a < b) ⊎ (a ≡ b)
        less a zero low = inr (omega (arith, low))
        less zero (suc b) low = inl (omega arith)
        less (suc a) (suc b) low = onward (less a b (omega (arith, low)))
          where
            onward : (a < b) ⊎ (a ≡ b) → (suc a < suc b) ⊎ (suc a ≡ suc b)
            onward (inl lt) = inl (omega (arith, lt))
            onward (inr is) = inr (ap suc is)

-- A ROW OF ANOTHER

-- what was found, or not, in one ladder
pub row_found : (octets : List ℕ) (rows : List LadderRow) (k : ℕ) → row_of rows octets ≡ Some k → has_row octets rows ≡ true
unfolding has_row
row_found octets rows k is = ap is_some is

pub row_not_found : (octets : List ℕ) (rows : List LadderRow) → row_of rows octets ≡ None → has_row octets rows ≡ false
unfolding has_row
row_not_found octets rows is = ap is_some is

pub met_is : (octets : List ℕ) (ladders : List (List LadderRow)) (q k : ℕ)
    → position (has_row octets) ladders ≡ Some q
    → row_of (ladder_at ladders q) octets ≡ Some k
    → row_among ladders octets ≡ Some (q, k)
met_is octets ladders q k at is = ap (option_map (met_in ladders octets)) at ∙ ap (λ o. Some (q, unwrap_or o 0)) is

pub met_none : (octets : List ℕ) (ladders : List (List LadderRow)) → position (has_row octets) ladders ≡ None → row_among ladders octets ≡ None
met_none octets ladders at = ap (option_map (met_in ladders octets)) at

-- the rows from number k on begin with that row
pub rows_left : (rows : List LadderRow) (k : ℕ) (r : LadderRow) → slice_get rows k ≡ Some r → drop k rows ≡ r ∷ drop (k + 1) rows
rows_left rows k r at = let next : suc k ≡ k + 1 = omega arith in by_suc rows k r at ∙ ap (λ n. r ∷ drop n rows) next
  where
    by_suc : (rows : List LadderRow) (k : ℕ) (r : LadderRow) → slice_get rows k ≡ Some r → drop k rows ≡ r ∷ drop (suc k) rows
    by_suc [] k r at = absurd cc
    by_suc (x ∷ rows) zero r at = let one : x ≡ r = cc in ap (λ y. y ∷ rows) one
    by_suc (x ∷ rows) (suc k) r at = by_suc rows k r at

-- no rows, no root
pub no_root : (octets : List ℕ) → has_root octets [] ≡ false
unfolding has_root
no_root octets = refl
