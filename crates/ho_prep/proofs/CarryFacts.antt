-- What a list of preparations answers is the same however its keys are read.
use Rattle.std.proofs.Common.{◌≡◌, ℕ, Bool, true, false, cond, List, [], ◌∷◌, map, Some, find, refl, ap}
use Rattle.std.specs.Prelude.{nat_le, not, filter, ◌||◌}
use Rattle.std.specs.{Option.option_map, List.list_any}
use Rattle.ho_prep.specs.Prep.{Prep, map_prep, is_at, is_of, at_air, has_attempt, without, drop_below}

-- a test that sees the same before and after keeps the same, finds the same, and passes as much
filter_carried : {X Y : Type 0} (h : X → Y) (p : Y → Bool) (xs : List X) → filter p (map h xs) ≡ map h (filter (λ x. p (h x)) xs)
filter_carried h p [] = refl
filter_carried h p (x ∷ xs) = by_test (filter_carried h p xs) (p (h x))
  where
    by_test : filter p (map h xs) ≡ map h (filter (λ x. p (h x)) xs)
        → (b : Bool)
        → cond b (h x ∷ filter p (map h xs)) (filter p (map h xs))
        ≡ map h (cond b (x ∷ filter (λ x. p (h x)) xs) (filter (λ x. p (h x)) xs))
    by_test rest true = ap (λ ys. h x ∷ ys) rest
    by_test rest false = rest

find_carried : {X Y : Type 0} (h : X → Y) (p : Y → Bool) (xs : List X) → find p (map h xs) ≡ option_map h (find (λ x. p (h x)) xs)
find_carried h p [] = refl
find_carried h p (x ∷ xs) = by_test (find_carried h p xs) (p (h x))
  where
    by_test : find p (map h xs) ≡ option_map h (find (λ x. p (h x)) xs)
        → (b : Bool)
        → cond b (Some (h x)) (find p (map h xs)) ≡ option_map h (cond b (Some x) (find (λ x. p (h x)) xs))
    by_test rest true = refl
    by_test rest false = rest

any_carried : {X Y : Type 0} (h : X → Y) (p : Y → Bool) (xs : List X) → list_any p (map h xs) ≡ list_any (λ x. p (h x)) xs
any_carried h p [] = refl
any_carried h p (x ∷ xs) = ap (λ rest. p (h x) || rest) (any_carried h p xs)

module _ {K C L D : Type 0} (f : K → L) (g : C → D) where
  pub at_air-map : (air : ℕ) (ps : List (Prep K C)) → at_air air (map (map_prep f g) ps) ≡ option_map (map_prep f g) (at_air air ps)
  at_air-map air ps = find_carried (map_prep f g) (is_at air) ps

  pub has_attempt-map : (source attempt : ℕ) (ps : List (Prep K C)) → has_attempt source attempt (map (map_prep f g) ps) ≡ has_attempt source attempt ps
  has_attempt-map source attempt ps = any_carried (map_prep f g) (is_of source attempt) ps

  pub without-map : (source attempt : ℕ) (ps : List (Prep K C))
      → without source attempt (map (map_prep f g) ps) ≡ map (map_prep f g) (without source attempt ps)
  without-map source attempt ps = filter_carried (map_prep f g) (λ p. not (is_of source attempt p)) ps

  pub drop_below-map : (conn : ℕ) (ps : List (Prep K C)) → drop_below conn (map (map_prep f g) ps) ≡ map (map_prep f g) (drop_below conn ps)
  drop_below-map conn ps = filter_carried (map_prep f g) (λ p. nat_le conn p.conn) ps
