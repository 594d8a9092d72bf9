-- The shares of a list take turns.
use Rattle.std.proofs.Common.{◌≡◌, refl, sym, ap, ◌∙◌, ℕ, ◌+◌, ◌<◌, ◌==◌, Bool, true, false, if◌then◌else◌, List, [], ◌∷◌}
use Rattle.std.specs.Prelude.{◌%◌}
use Rattle.std.proofs.Math.Nat.{mod-mod, mod-add-mod, mod-eq_of_lt}
use Rattle.lte_variants.specs.{Choices.share_from, declared.request.Share.Share}

-- it is the same after a whole round
round : {A : Type 0} (s : Share) (place : ℕ) (xs : List A) → share_from s place xs ≡ share_from s (place % s.parts) xs
unfolding share_from
round s place [] = refl
round s place (x ∷ xs) =
    let rest : share_from s (place + 1) xs ≡ share_from s (place % s.parts + 1) xs =
    round s (place + 1) xs ∙ ap (λ p. share_from s p xs) (sym (mod-add-mod place s.parts 1)) ∙ sym (round s (place % s.parts + 1) xs) in
    (λ j. if sym (mod-mod place s.parts) j + 1 == s.number then x ∷ rest j else rest j)

-- the next place, in this round
abbrev by_turn : {A : Type 0} → Bool → A → List A → List A
by_turn b x xs = if b then x ∷ xs else xs

at_place : {A : Type 0} (s : Share) (place : ℕ) (x : A) (xs : List A) → place < s.parts
    → share_from s place (x ∷ xs) ≡ by_turn (place + 1 == s.number) x (share_from s ((place + 1) % s.parts) xs)
unfolding share_from
at_place s place x xs low = (λ j. by_turn (mod-eq_of_lt low j + 1 == s.number) x (round s (place + 1) xs j))

pub taken : {A : Type 0} (s : Share) (place next : ℕ) (x : A) (left xs : List A) → place < s.parts → left ≡ x ∷ xs
    → (place + 1 == s.number) ≡ true
    → next ≡ (place + 1) % s.parts
    → share_from s place left ≡ x ∷ share_from s next xs
taken s place next x left xs low is turn after =
    ap (share_from s place) is ∙ at_place s place x xs low ∙ (λ j. by_turn (turn j) x (share_from s (sym after j) xs))

pub passed : {A : Type 0} (s : Share) (place next : ℕ) (x : A) (left xs : List A) → place < s.parts → left ≡ x ∷ xs
    → (place + 1 == s.number) ≡ false
    → next ≡ (place + 1) % s.parts
    → share_from s place left ≡ share_from s next xs
passed s place next x left xs low is turn after =
    ap (share_from s place) is ∙ at_place s place x xs low ∙ (λ j. by_turn (turn j) x (share_from s (sym after j) xs))

pub none : {A : Type 0} (s : Share) (place : ℕ) (left : List A) → left ≡ [] → share_from s place left ≡ []
unfolding share_from
none s place left is = ap (share_from s place) is
