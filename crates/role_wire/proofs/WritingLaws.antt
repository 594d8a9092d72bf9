-- Lists written item by item.
use Rattle.std.proofs.Common.{◌≡◌, ℕ, ◌+◌, ◌<◌, ◌≤◌, List, [], ◌∷◌, ◌++◌, length, take, get_or, Some, sym, ap, ◌∙◌, append_assoc, append-nil, arith}
use Rattle.std.specs.{Prelude.slice_get, List.flat_map}
use Rattle.std.proofs.{lemmas.List.take_more, lemmas.Grind.flat_map-append, lemmas.Option.slice_get_within, lemmas.Option.get_or_from_slice_get}

-- the first items and one more
pub flat_map-more : {X A : Type 0} (f : X → List A) (xs : List X) (i : ℕ) (x : X) → i < length xs → get_or xs i x ≡ x
    → flat_map f (take (i + 1) xs) ≡ flat_map f (take i xs) ++ f x
flat_map-more f xs i x within is =
    ap (flat_map f) (take_more xs i x within ∙ ap (λ y. take i xs ++ y ∷ []) is)
    ∙ flat_map-append f (take i xs) (x ∷ []) ∙ ap (λ ys. flat_map f (take i xs) ++ ys) (append-nil (f x))

-- the same of an item that is looked up
pub flat_map-at : {X A : Type 0} (f : X → List A) (xs : List X) (i : ℕ) (x : X) → slice_get xs i ≡ Some x
    → flat_map f (take (i + 1) xs) ≡ flat_map f (take i xs) ++ f x
flat_map-at f xs i x is = flat_map-more f xs i x (slice_get_within xs i x is) (get_or_from_slice_get xs i x x is)

-- a list of two items
pub two_is : {X : Type 0} (xs : List X) (a b : X) → slice_get xs 0 ≡ Some a → Some b ≡ slice_get xs 1 → length xs ≤ 2 → xs ≡ a ∷ b ∷ []
two_is [] a b first second few = absurd cc
two_is (x ∷ []) a b first second few = absurd cc
two_is (x ∷ y ∷ []) a b first second few = cc
two_is (x ∷ y ∷ z ∷ xs) a b first second few = absurd (omega arith)

-- two pieces appended to what was written so far
pub put_more : (first front more x mid new a b : List ℕ) → x ≡ first ++ front → mid ≡ x ++ a → new ≡ mid ++ b → more ≡ front ++ (a ++ b) → new ≡ first ++ more
put_more first front more x mid new a b is once twice all =
    twice
    ∙ ap (λ t. t ++ b) (once ∙ ap (λ t. t ++ a) is)
    ∙ append_assoc (first ++ front) a b
    ∙ append_assoc first front (a ++ b)
    ∙ ap (λ t. first ++ t) (sym all)
