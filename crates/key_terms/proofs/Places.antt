-- The first place that passes a test, and what stands at a place, in a list with one more at its end.
use Rattle.std.proofs.Common.{◌≡◌, ℕ, ◌<◌, ◌≤◌, ◌-◌, ◌⊎◌, inl, inr, zero, suc, Bool, true, false, not, Option, Some, None, List, [], ◌∷◌, ◌++◌, length, map, drop, get_or, cond, ltb, ◌+◌, true≢false, sym, refl, ap, ◌∙◌, arith, length-append}
use Rattle.std.specs.List.{position, position_or_len, slice_get, list_any}
use Rattle.std.proofs.{lemmas.Bool.lt-ltb, lemmas.Bool.cases_lt, lemmas.List.Quantifiers.position-Some, Math.Seq.get_or-append_seam}
use Rattle.std.proofs.lemmas.List.{get_or_append_left, length-map, length-drop, get_or-drop}
use Rattle.std.proofs.lemmas.List.Sums.{position_or_len_is, fails_before_first, prefix_len-le-length}
use Rattle.std.proofs.lemmas.Option.{slice_get_within, slice_get-get_or, get_or_from_slice_get, none-some}

-- a first place within the list
position_is : {X : Type 0} (p : X → Bool) (xs : List X) (k : ℕ) → position_or_len p xs ≡ k → k < length xs → position p xs ≡ Some k
position_is p xs k e within = rw (e, lt-ltb k (length xs) within)

-- where none passes, the first place is past the end
pub position-None : {X : Type 0} (p : X → Bool) (xs : List X) → position p xs ≡ None → position_or_len p xs ≡ length xs
position-None p xs none =
    let at_most : position_or_len p xs ≤ length xs = prefix_len-le-length (λ x. not (p x)) xs in
    elim (cases_lt (position_or_len p xs) (length xs)) [
      | inl lt ↦ absurd (none-some (position_or_len p xs) (sym none ∙ position_is p xs (position_or_len p xs) refl lt))
      | inr le ↦ omega arith
    ]

pub position_stays : {X : Type 0} (p : X → Bool) (xs : List X) (y : X) (k : ℕ) → position p xs ≡ Some k → position p (xs ++ y ∷ []) ≡ Some k
position_stays p xs y k found =
    let first = position-Some p xs k y found in
    let longer = length-append xs (y ∷ []) in
    let below : (j : ℕ) → j < k → p (get_or (xs ++ y ∷ []) j y) ≡ false = λ j lt.
    ap p (get_or_append_left xs (y ∷ []) y j (omega (arith, first.0, lt))) ∙ first.2 j lt in
    let at_place : p (get_or (xs ++ y ∷ []) k y) ≡ true = ap p (get_or_append_left xs (y ∷ []) y k first.0) ∙ first.1 in
    position_is p (xs ++ y ∷ []) k
    (position_or_len_is p (xs ++ y ∷ []) k y (omega (arith, first.0, longer)) below (λ _. at_place))
    (omega (arith, first.0, longer))

pub position_at_end : {X : Type 0} (p : X → Bool) (xs : List X) (y : X) → position p xs ≡ None → p y ≡ true → position p (xs ++ y ∷ []) ≡ Some (length xs)
position_at_end p xs y none passes =
    let past = position-None p xs none in
    let longer = length-append xs (y ∷ []) in
    let below : (j : ℕ) → j < length xs → p (get_or (xs ++ y ∷ []) j y) ≡ false =
    λ j lt. ap p (get_or_append_left xs (y ∷ []) y j lt) ∙ fails_before_first p xs j y (omega (arith, past, lt)) in
    let at_end : p (get_or (xs ++ y ∷ []) (length xs) y) ≡ true = ap p (get_or-append_seam xs y [] y) ∙ passes in
    position_is p (xs ++ y ∷ []) (length xs)
    (position_or_len_is p (xs ++ y ∷ []) (length xs) y (omega (arith, longer)) below (λ _. at_end))
    (omega (arith, longer))

-- what stands at a place still stands there
pub slice_get_stays : {X : Type 0} (xs ys : List X) (k : ℕ) (x : X) → slice_get xs k ≡ Some x → slice_get (xs ++ ys) k ≡ Some x
slice_get_stays xs ys k x found =
    let within = slice_get_within xs k x found in
    let longer = length-append xs ys in
    slice_get-get_or (xs ++ ys) k x (omega (arith, within, longer)) ∙ ap Some (get_or_append_left xs ys x k within ∙ get_or_from_slice_get xs k x x found)

-- the one at the end stands at the length
pub slice_get_at_end : {X : Type 0} (xs : List X) (y : X) → slice_get (xs ++ y ∷ []) (length xs) ≡ Some y
slice_get_at_end xs y =
    let longer = length-append xs (y ∷ []) in
    slice_get-get_or (xs ++ y ∷ []) (length xs) y (omega (arith, longer)) ∙ ap Some (get_or-append_seam xs y [] y)

-- a place in the longer list is one of the shorter, or the end
pub slice_get_push : {X : Type 0} (xs : List X) (y : X) (k : ℕ) (x : X)
    → slice_get (xs ++ y ∷ []) k ≡ Some x
    → (slice_get xs k ≡ Some x) ⊎ ((k ≡ length xs) × (x ≡ y))
slice_get_push [] y zero x found = inr (refl, cc)
slice_get_push [] y (suc k) x found = absurd (none-some x found)
slice_get_push (z ∷ xs) y zero x found = inl found
slice_get_push (z ∷ xs) y (suc k) x found =
    elim (slice_get_push xs y k x found) [ inl h ↦ inl h | inr h ↦ inr (omega (arith, h.0), h.1) ]

-- the first place, by what stands at each place
pub position_first : {X : Type 0} (p : X → Bool) (xs : List X) (k : ℕ) (x : X)
    → slice_get xs k ≡ Some x
    → p x ≡ true
    → ((j : ℕ) (y : X) → j < k → slice_get xs j ≡ Some y → p y ≡ false)
    → position p xs ≡ Some k
position_first p xs k x at passes before =
    let within = slice_get_within xs k x at in
    let below : (j : ℕ) → j < k → p (get_or xs j x) ≡ false = λ j lt. before j (get_or xs j x) lt (slice_get-get_or xs j x (omega (arith, within, lt))) in
    position_is p xs k (position_or_len_is p xs k x (omega (arith, within)) below (λ _. ap p (get_or_from_slice_get xs k x x at) ∙ passes)) within

-- what stands at the first place passes
pub position_hit : {X : Type 0} (p : X → Bool) (xs : List X) (k : ℕ) → position p xs ≡ Some k → (x : X) × (slice_get xs k ≡ Some x) × (p x ≡ true)
position_hit p [] k found = absurd (none-some k found)
position_hit p (y ∷ xs) k found =
    let first = position-Some p (y ∷ xs) k y found in
    (get_or (y ∷ xs) k y, slice_get-get_or (y ∷ xs) k y first.0, first.1)

-- where nothing passes, there is none
pub position_nowhere : {X : Type 0} (p : X → Bool) (xs : List X) → ((j : ℕ) (y : X) → slice_get xs j ≡ Some y → p y ≡ false) → position p xs ≡ None
position_nowhere p xs none = by (position p xs) refl
  where
    by : (o : Option ℕ) → position p xs ≡ o → o ≡ None
    by None e = refl
    by (Some k) e =
        let hit = position_hit p xs k e in
        absurd (true≢false (sym hit.2 ∙ none k hit.0 hit.1))

-- and nothing before it does
pub position_before : {X : Type 0} (p : X → Bool) (xs : List X) (k j : ℕ) (y : X) → position p xs ≡ Some k → j < k → slice_get xs j ≡ Some y → p y ≡ false
position_before p xs k j y found lt at =
    let first = position-Some p xs k y found in
    ap p (sym (get_or_from_slice_get xs j y y at)) ∙ first.2 j lt

-- where there is none, nothing passes
pub position_no : {X : Type 0} (p : X → Bool) (xs : List X) (j : ℕ) (y : X) → position p xs ≡ None → slice_get xs j ≡ Some y → p y ≡ false
position_no p xs j y none at =
    let past = position-None p xs none in
    let within = slice_get_within xs j y at in
    ap p (sym (get_or_from_slice_get xs j y y at)) ∙ fails_before_first p xs j y (omega (arith, past, within))

pub position_map : {X Y : Type 0} (f : X → Y) (p : Y → Bool) (xs : List X) → position p (map f xs) ≡ position (λ x. p (f x)) xs
position_map f p xs =
    let place = place_map f p xs in
    let len : length (map f xs) ≡ length xs = length-map xs f in
    λ i. cond (ltb (place i) (len i)) (Some (place i)) None
  where
    place_map : {X Y : Type 0} (f : X → Y) (p : Y → Bool) (xs : List X) → position_or_len p (map f xs) ≡ position_or_len (λ x. p (f x)) xs
    place_map f p [] = refl
    place_map f p (x ∷ xs) = ap (λ n. cond (not (p (f x))) (1 + n) 0) (place_map f p xs)

-- what stands at a place of the rest
pub later_at : {X : Type 0} (n : ℕ) (xs : List X) (j : ℕ) (x : X) → slice_get (drop n xs) j ≡ Some x → slice_get xs (n + j) ≡ Some x
later_at n xs j x at =
    let within = slice_get_within (drop n xs) j x at in
    let len = length-drop n xs in
    slice_get-get_or xs (n + j) x (omega (arith, within, len)) ∙ ap Some (sym (get_or-drop n xs j x) ∙ get_or_from_slice_get (drop n xs) j x x at)

pub at_later : {X : Type 0} (n : ℕ) (xs : List X) (i : ℕ) (x : X) → n ≤ i → slice_get xs i ≡ Some x → slice_get (drop n xs) (i - n) ≡ Some x
at_later n xs i x le at =
    let within = slice_get_within xs i x at in
    let len = length-drop n xs in
    let place : n + (i - n) ≡ i = omega (arith, le) in
    slice_get-get_or (drop n xs) (i - n) x (omega (arith, within, len, le))
    ∙ ap Some (get_or-drop n xs (i - n) x ∙ ap (λ k. get_or xs k x) place ∙ get_or_from_slice_get xs i x x at)

-- where nothing passes, no test finds any
pub list_any_nowhere : {X : Type 0} (p : X → Bool) (xs : List X) → ((j : ℕ) (y : X) → slice_get xs j ≡ Some y → p y ≡ false) → list_any p xs ≡ false
list_any_nowhere p [] none = refl
list_any_nowhere p (x ∷ xs) none =
    let head : p x ≡ false = none 0 x refl in
    let tail : list_any p xs ≡ false = list_any_nowhere p xs (λ j y at. none (suc j) y at) in
    rw (head, tail) refl
