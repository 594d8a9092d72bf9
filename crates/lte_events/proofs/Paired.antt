-- Two lists of one length, item beside item.
use Rattle.std.proofs.Common.{◌≡◌, ℕ, zero, suc, ◌<◌, List, [], ◌∷◌, ◌++◌, length, Some, refl, ap, arith}
use Rattle.std.specs.List.{zip, slice_get}

pub paired_length : {A B : Type 0} (xs : List A) (ys : List B) → length xs ≡ length ys → length (zip xs ys) ≡ length ys
paired_length [] [] same = refl
paired_length [] (y ∷ ys) same = absurd (omega (arith, same))
paired_length (x ∷ xs) [] same = absurd (omega (arith, same))
paired_length (x ∷ xs) (y ∷ ys) same = ap suc (paired_length xs ys (omega (arith, same)))

pub paired_more : {A B : Type 0} (xs : List A) (ys : List B) (x : A) (y : B)
    → length xs ≡ length ys
    → zip (xs ++ x ∷ []) (ys ++ y ∷ []) ≡ zip xs ys ++ (x, y) ∷ []
paired_more [] [] x y same = refl
paired_more [] (b ∷ ys) x y same = absurd (omega (arith, same))
paired_more (a ∷ xs) [] x y same = absurd (omega (arith, same))
paired_more (a ∷ xs) (b ∷ ys) x y same = ap (λ rest. (a, b) ∷ rest) (paired_more xs ys x y (omega (arith, same)))

pub paired_get : {A B : Type 0} (xs : List A) (ys : List B) (i : ℕ) (x : A) (y : B)
    → slice_get xs i ≡ Some x
    → slice_get ys i ≡ Some y
    → slice_get (zip xs ys) i ≡ Some (x, y)
paired_get [] ys i x y first second = cc
paired_get (a ∷ xs) [] i x y first second = cc
paired_get (a ∷ xs) (b ∷ ys) zero x y first second = cc
paired_get (a ∷ xs) (b ∷ ys) (suc i) x y first second = paired_get xs ys i x y first second

-- a place of the pairs is one of both lists
pub paired_places : {A B : Type 0} (xs : List A) (ys : List B) (i : ℕ) → length xs ≡ length ys → i < length (zip xs ys) → (i < length xs) × (i < length ys)
paired_places xs ys i same low = (omega (arith, low, paired_length xs ys same, same), omega (arith, low, paired_length xs ys same))
