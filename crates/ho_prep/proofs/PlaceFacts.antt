-- What `find` gives, by the place that `position` gives.
use Rattle.std.proofs.Common.{◌≡◌, ℕ, ◌≤◌, Bool, true, false, cond, nat_lt, List, length, get_or, Some, None, find, position, refl, ◌∙◌, ap, arith}
use Rattle.std.specs.{Prelude.slice_get, List.position_or_len}
use Rattle.std.proofs.{lemmas.Bool.Decides.nat_tests, lemmas.List.Folds.find_at, lemmas.List.Quantifiers.position-Some, lemmas.Option.slice_get_read, lemmas.Option.slice_get_past}

-- the item at that place
pub find_placed : {X : Type 0} (p : X → Bool) (xs : List X) (place : ℕ) (x : X) → position p xs ≡ Some place → x ≡ get_or xs place x → find p xs ≡ Some x
find_placed p xs place x at is =
    find_at p xs
    ∙ ap (slice_get xs) (same (nat_lt (position_or_len p xs) (length xs)) at)
    ∙ slice_get_read xs (length xs) place x refl (position-Some p xs place x at).0 is
  where
    same : (b : Bool) → cond b (Some (position_or_len p xs)) None ≡ Some place → position_or_len p xs ≡ place
    same true e = cc
    same false e = cc

-- nothing where there is no place
pub find_unplaced : {X : Type 0} (p : X → Bool) (xs : List X) → position p xs ≡ None → find p xs ≡ None
find_unplaced p xs at = find_at p xs ∙ slice_get_past xs (position_or_len p xs) (past _ refl at)
  where
    past : (b : Bool) → nat_lt (position_or_len p xs) (length xs) ≡ b → cond b (Some (position_or_len p xs)) None ≡ None → length xs ≤ position_or_len p xs
    past true e none = cc
    past false e none = grind (arith, nat_tests)
