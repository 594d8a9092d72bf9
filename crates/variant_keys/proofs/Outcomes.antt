-- Keys that differ are told where their definition says so, but at a coincidence.
use Rattle.std.proofs.Common.{◌≡◌, refl, sym, ap, ◌∙◌, arith, ℕ, zero, suc, ◌==◌, ◌&&◌, ◌||◌, Bool, true, false, not, if◌then◌else◌, List, [], ◌∷◌, ◌++◌, drop, length}
use Rattle.std.specs.List.{list_all, list_any}
use Rattle.std.proofs.lemmas.Bool.{eqb-true}
use Rattle.std.proofs.lemmas.List.Folds.{list_any-append}
use Rattle.item_outcomes.specs.{Keys.keys_differ, Same.same, Standing.Standing, declared.judging.Outcome.Outcome}
use Rattle.item_outcomes.specs.declared.judging.Outcome.TheVariants as outcome
use Rattle.item_outcomes.specs.Outcomes.{best, is_told, outcomes, told_from, with_if, worse, worst_first}
use Rattle.variant_keys.specs.Told.{is_keys_differ, tells_keys}

-- what is put behind others and is another outcome
other_behind : (b : Bool) (o : Outcome) (found : List Outcome) → is_keys_differ o ≡ false → tells_keys (with_if b o found) ≡ tells_keys found
other_behind false o found e = refl
other_behind true o found e = list_any-append is_keys_differ found (o ∷ []) ∙ ap (λ b. tells_keys found || (b || false)) e ∙ with_none (tells_keys found)
  where
    with_none : (b : Bool) → (b || false) ≡ b
    with_none true = refl
    with_none false = refl

first_not : (a b : Bool) → (not a && b) ≡ true → (a ≡ false) × (b ≡ true)
first_not false b e = (refl, e)
first_not true b e = absurd cc

others_behind : (own : List ℕ) (usual here : Standing) (os found : List Outcome) → list_all (λ o. not (is_keys_differ o)) os ≡ true
    → tells_keys (told_from own usual here os found) ≡ tells_keys found
unfolding told_from
others_behind own usual here [] found e = refl
others_behind own usual here (o ∷ os) found e =
    let both = first_not (is_keys_differ o) (list_all (λ p. not (is_keys_differ p)) os) e in
    others_behind own usual here os (with_if (is_told own usual here o) o found) both.1
    ∙ other_behind (is_told own usual here o) o found both.0

-- it is the first of those that are told beside one another, and no other of them is it
first_told : (b : Bool) → tells_keys (with_if b outcome.KeysDiffer []) ≡ b
first_told true = refl
first_told false = refl

worse_tells : (own : List ℕ) (usual here : Standing) → tells_keys (worse own usual here) ≡ keys_differ usual.told here.told
unfolding worse told_from is_told
worse_tells own usual here =
    others_behind own usual here (drop 1 worst_first) (with_if (keys_differ usual.told here.told) outcome.KeysDiffer []) refl
    ∙ first_told (keys_differ usual.told here.told)

best_tells : (b : Bool) → tells_keys (best b ∷ []) ≡ false
best_tells true = refl
best_tells false = refl

empty_tells : (xs : List Outcome) → (length xs == 0) ≡ true → tells_keys xs ≡ false
empty_tells [] e = refl
empty_tells (x ∷ xs) e = let none : length (x ∷ xs) ≡ 0 = eqb-true (length (x ∷ xs)) 0 e in absurd (omega (arith, none))

pub tells_so : (own : List ℕ) (usual here : Standing) → tells_keys (outcomes own usual here) ≡ (not here.over && keys_differ usual.told here.told)
tells_so own usual here = by here.over (length (worse own usual here) == 0) refl
  where
    by : (over none : Bool) → (length (worse own usual here) == 0) ≡ none
        → tells_keys (if over then outcome.Coincidence ∷ [] else (if none then best (same own usual.told here.told) ∷ [] else worse own usual here))
        ≡ (not over && keys_differ usual.told here.told)
    by true none e = refl
    by false true e = best_tells (same own usual.told here.told) ∙ sym (empty_tells (worse own usual here) e) ∙ worse_tells own usual here
    by false false e = worse_tells own usual here
