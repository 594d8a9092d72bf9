-- What stands at places of lists.
use Rattle.std.proofs.Common.{◌≡◌, refl, sym, ap, ◌∙◌, ℕ, zero, suc, ◌<◌, arith, Bool, true, false, cond, List, [], ◌∷◌, map, take, Some}
use Rattle.std.specs.{Prelude.slice_get, Prelude.find, Option.option_map}
use Rattle.std.proofs.lemmas.Option.{slice_get-map}

-- MAPPED LISTS

pub map_got : {A B : Type 0} (f : A → B) (xs : List A) (k : ℕ) (x : A) → slice_get xs k ≡ Some x → slice_get (map f xs) k ≡ Some (f x)
map_got f xs k x is = slice_get-map f xs k ∙ ap (option_map f) is

pub got_of_map : {A B : Type 0} (f : A → B) (xs : List A) (k : ℕ) (y : B)
    → slice_get (map f xs) k ≡ Some y
    → (x : A) × (slice_get xs k ≡ Some x) × (f x ≡ y)
got_of_map f [] k y e = absurd cc
got_of_map f (x ∷ xs) zero y e = (x, refl, cc)
got_of_map f (x ∷ xs) (suc k) y e = got_of_map f xs k y e

-- THE FIRST of those before place k
pub find_first : {A : Type 0} (p : A → Bool) (xs : List A) (j k : ℕ) (x : A)
    → slice_get xs j ≡ Some x
    → j < k
    → p x ≡ true
    → ((i : ℕ) (y : A) → i < j → slice_get xs i ≡ Some y → p y ≡ false)
    → find p (take k xs) ≡ Some x
find_first p [] j k x at low is none = absurd cc
find_first p (y ∷ ys) j zero x at low is none = absurd (omega (arith, low))
find_first p (y ∷ ys) zero (suc k) x at low is none =
    let same : y ≡ x = cc in ap (λ b. cond b (Some y) (find p (take k ys))) (ap p same ∙ is) ∙ ap (λ z. Some z) same
find_first p (y ∷ ys) (suc j) (suc k) x at low is none =
    ap (λ b. cond b (Some y) (find p (take k ys))) (none 0 y (omega arith) refl)
    ∙ find_first p ys j k x at (omega (arith, low)) is (λ i z less stands. none (suc i) z (omega (arith, less)) stands)

-- what is found stands at a place
pub found_at : {A : Type 0} (p : A → Bool) (xs : List A) (x : A) → find p xs ≡ Some x → (k : ℕ) × (slice_get xs k ≡ Some x) × (p x ≡ true)
found_at p [] x e = absurd cc
found_at p (y ∷ ys) x e = by (p y) refl e (found_at p ys x)
  where
    by : (b : Bool) → p y ≡ b → cond b (Some y) (find p ys) ≡ Some x
        → (find p ys ≡ Some x → (k : ℕ) × (slice_get ys k ≡ Some x) × (p x ≡ true))
        → (k : ℕ) × (slice_get (y ∷ ys) k ≡ Some x) × (p x ≡ true)
    by true is f later = let same : y ≡ x = cc in (0, ap (λ z. Some z) same, ap p (sym same) ∙ is)
    by false is f later = let rest = later f in (suc rest.0, rest.1, rest.2)
