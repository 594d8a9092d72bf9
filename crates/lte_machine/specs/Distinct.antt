-- The distinct terms of a run: what the rows of the ladder stand for.
use Rattle.std.specs.Prelude.{◌≡◌, Bool, true, false, ◌⊎◌, List, [], ◌∷◌, ◌++◌, map}
use Rattle.std.specs.List.{list_any}
use Rattle.key_model.specs.{Term.Term, Term.same_term, Value.value_of}
use Rattle.lte_machine.specs.Ladder.{RowOrigin, row_key}

-- the keys of authentications and derivations, in order
abbrev pub keys_of : List (RowOrigin Term) → List Term
keys_of history = map row_key history

-- an item that stands in a list
abbrev pub Member : {A : Type 0} → A → List A → Type 0
Member x [] = ⊥
Member x (y ∷ ys) = (x ≡ y) ⊎ Member x ys

abbrev pub is_member : Term → List Term → Bool
is_member t us = list_any (same_term t) us

abbrev pub with_new : Bool → Term → List Term → List Term
with_new true t seen = seen
with_new false t seen = seen ++ t ∷ []

-- each term once, at the place where it first stands
abbrev pub distinct_after : List Term → List Term → List Term
distinct_after seen [] = seen
distinct_after seen (t ∷ ts) = distinct_after (with_new (is_member t seen) t seen) ts

abbrev pub distinct_terms : List (RowOrigin Term) → List Term
distinct_terms history = distinct_after [] (keys_of history)

-- of a list of terms each has its own value: two with one value are one term
abbrev pub OneValueOneTerm : List Term → Type 0
OneValueOneTerm ts = (a b : Term) → Member a ts → Member b ts → value_of a ≡ value_of b → a ≡ b
