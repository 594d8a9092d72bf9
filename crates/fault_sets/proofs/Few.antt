-- The choices that are left.
use Rattle.std.proofs.Common.{◌≡◌, refl, sym, ap, ◌∙◌, ℕ, List, [], ◌∷◌, ◌++◌, map, length, arith, Bool, true, false}
use Rattle.std.specs.Prelude.{zero, suc, take, not}
use Rattle.item_faults.specs.declared.changes.Fault.{Fault}
use Rattle.fault_sets.specs.declared.sets.Place.{Place}
use Rattle.fault_sets.specs.Sets.{chosen, later, left, left_unless, sets_of}

abbrev with : Fault → List Fault → List Fault
with f s = f ∷ s

-- where there are no choices of so many, there are none of more
no_rest : {A : Type 0} (xs ys : List A) → xs ++ ys ≡ [] → ys ≡ []
no_rest [] ys is = is
no_rest (x ∷ xs) ys is = absurd cc

pub none_more : (k : ℕ) (fs : List Fault) → sets_of k fs ≡ [] → sets_of (suc k) fs ≡ []
unfolding sets_of
none_more zero fs is = absurd cc
none_more (suc k) [] is = refl
none_more (suc k) (f ∷ fs) is =
    let rest : sets_of (suc k) fs ≡ [] = no_rest (map (with f) (sets_of k fs)) (sets_of (suc k) fs) is in
    let more : sets_of (suc (suc k)) fs ≡ [] = none_more (suc k) fs rest in
    (λ j. map (with f) (rest j) ++ more j)

-- the first choice
pub put_some : (p : Place) (k : ℕ) (ps : List Place) → sets_of k p.rest.now ≡ left ps → length ps ≡ k
    → sets_of (suc k) (p.fault ∷ p.rest.now) ≡ left (p ∷ ps)
unfolding sets_of later
put_some p k ps is many = (λ j. map (with p.fault) (is j) ++ sets_of (suc (sym many j)) p.rest.now)

pub put_none : (f : Fault) (k : ℕ) (fs : List Fault) → sets_of k fs ≡ [] → sets_of (suc k) (f ∷ fs) ≡ []
unfolding sets_of
put_none f k fs is = let more = none_more k fs is in (λ j. map (with f) (is j) ++ more j)

-- the next one
pub go_some : (p : Place) (os ps : List Place) → later os ≡ left ps → length ps ≡ length os → later (p ∷ os) ≡ left (p ∷ ps)
unfolding later
go_some p os ps is many = (λ j. map (with p.fault) (is j) ++ sets_of (suc (sym many j)) p.rest.now)

-- the choice in the first of some places, and those behind it
taken : {A B : Type 0} (g : A → B) (n : ℕ) (xs : List A) → map g (take n xs) ≡ take n (map g xs)
taken g zero xs = refl
taken g (suc n) [] = refl
taken g (suc n) (x ∷ xs) = (λ j. g x ∷ taken g n xs j)

first : {A : Type 0} (n : ℕ) (xs ys : List A) → length xs ≡ n → take n (xs ++ ys) ≡ xs
first zero [] ys is = refl
first zero (x ∷ xs) ys is = absurd (omega (arith, is))
first (suc n) [] ys is = absurd (omega (arith, is))
first (suc n) (x ∷ xs) ys is = (λ j. x ∷ first n xs ys (omega (arith, is)) j)

go_by : (more : Bool) (ps ns : List Place) → (more ≡ true → later ps ≡ left ns) → (more ≡ false → later ps ≡ [])
    → later ps ≡ left_unless (not more) ns
go_by true ps ns some none = some refl
go_by false ps ns some none = none refl

pub next_is : (over more : Bool) (n : ℕ) (ps ns rest : List Place) (faults : List Fault) → over ≡ false → faults ≡ map chosen ps
    → (more ≡ true → later (take n ps) ≡ left ns) → (more ≡ false → later (take n ps) ≡ [])
    → length ns ≡ n
    → left_unless over (take n ps) ≡ take n faults ∷ left_unless (not more) (take n (ns ++ rest))
next_is over more n ps ns rest faults now are some none many =
    ap (λ b. left_unless b (take n ps)) now
    ∙ (λ j. (taken chosen n ps ∙ ap (take n) (sym are)) j ∷ (go_by more (take n ps) ns some none ∙ ap (left_unless (not more)) (sym (first n ns rest many))) j)
