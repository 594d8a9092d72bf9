-- The moves back from a place.
use Rattle.std.proofs.Common.{◌≡◌, ℕ, ◌-◌, ◌<◌, ◌≤◌, Some, List, [], ◌∷◌, ◌++◌, length, length-append, inl, refl, sym, ap, ◌∙◌, append_assoc, append-nil, arith, slice_get, get_or, reverse}
use Rattle.std.proofs.lemmas.Grind.{reverse_onto}
use Rattle.std.proofs.Math.Seq.{get_or-append_seam}
use Rattle.std.proofs.lemmas.List.{get_or_append_left}
use Rattle.std.proofs.lemmas.Option.{slice_get_within, slice_get-get_or, get_or_from_slice_get}
use Rattle.trace_rules.specs.{Rules.IsIn, Told.Told}
use Rattle.trace_plain.specs.Way.{Came, Back, begun, behind}

-- what stood in a list stands there still
pub get_more : {X : Type 0} (xs ys : List X) (i : ℕ) (x : X) → slice_get xs i ≡ Some x → slice_get (xs ++ ys) i ≡ Some x
get_more xs ys i x e =
    let lt = slice_get_within xs i x e in
    slice_get-get_or (xs ++ ys) i x (omega (arith, lt, length-append xs ys))
    ∙ ap Some (get_or_append_left xs ys x i lt ∙ get_or_from_slice_get xs i x x e)

pub get_last : {X : Type 0} (xs : List X) (x : X) (i : ℕ) → i ≡ length xs → slice_get (xs ++ x ∷ []) i ≡ Some x
get_last xs x i e =
    ap (slice_get (xs ++ x ∷ [])) e
    ∙ slice_get-get_or (xs ++ x ∷ []) (length xs) x (omega (arith, length-append xs (x ∷ [])))
    ∙ ap Some (get_or-append_seam xs x [] x)

-- these, the first last, before those
abbrev pub onto : {X : Type 0} → List X → List X → List X
onto [] ys = ys
onto (x ∷ xs) ys = onto xs (x ∷ ys)

pub onto_is : {X : Type 0} (xs ys : List X) → onto xs ys ≡ reverse xs ++ ys
onto_is [] ys = refl
onto_is (x ∷ xs) ys =
    onto_is xs (x ∷ ys) ∙ sym (ap (λ zs. zs ++ ys) (reverse_onto xs x []) ∙ append_assoc (reverse xs) (x ∷ []) ys)

pub onto_none : {X : Type 0} (xs : List X) → onto xs [] ≡ reverse xs
onto_none xs = onto_is xs [] ∙ append-nil (reverse xs)

pub some_first : {X : Type 0} (xs : List X) → 0 < length xs → (x : X) × (slice_get xs 0 ≡ Some x)
some_first [] h = absurd (omega (arith, h))
some_first (x ∷ xs) h = (get_or (x ∷ xs) 0 x, slice_get-get_or (x ∷ xs) 0 x h)

pub first_in : {X : Type 0} (xs : List X) (x : X) → slice_get xs 0 ≡ Some x → IsIn x xs
first_in [] x e = let no : ⊥ = cc in absurd no
first_in (y ∷ ys) x e = inl (get_or_from_slice_get (y ∷ ys) 0 x x e)

pub back_within : {M : Type 0} (came : List (Came M)) (at : ℕ) (told : List (Told M)) → Back came at told → at ≤ length came
back_within came at told (begun) = omega arith
back_within came at told (behind {one = one} some is less back) = omega (arith, some, slice_get_within came (at - 1) one is)

pub back_more : {M : Type 0} (came more : List (Came M)) (at : ℕ) (told : List (Told M)) → Back came at told → Back (came ++ more) at told
back_more came more at told (begun) = begun
back_more came more at told (behind {one = one} {told = rest} some is less back) =
    behind some (get_more came more (at - 1) one is) less (back_more came more one.from rest back)

-- the move back from a place, and those before it
pub record Before {M : Type 0} (came : List (Came M)) (at : ℕ) (told : List (Told M)) : Type 0 where
  pub one : Came M
  pub is : slice_get came (at - 1) ≡ Some one
  pub less : one.from < at
  pub rest : List (Told M)
  pub split : told ≡ one.told ∷ rest
  pub back : Back came one.from rest

pub back_next : {M : Type 0} (came : List (Came M)) (at : ℕ) (told : List (Told M)) → Back came at told → 0 < at → Before came at told
back_next came at told (begun) some = absurd (omega (arith, some))
back_next came at told (behind {one = one} {told = rest} here is less back) some =
    record { one = one; is = is; less = less; rest = rest; split = refl; back = back }

pub back_none : {M : Type 0} (came : List (Came M)) (at : ℕ) (told : List (Told M)) → Back came at told → at ≡ 0 → told ≡ []
back_none came at told (begun) none = refl
back_none came at told (behind some is less back) none = absurd (omega (arith, some, none))
