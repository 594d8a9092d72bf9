-- Facts on the cells of a system.
use Rattle.std.proofs.Common.{◌≡◌, ℕ, suc, Bool, true, false, ◌≤◌, ◌<◌, ◌↔◌, List, [], ◌∷◌, ◌++◌, length, rules, All, find, IsTrue, IsSome, IfSome, arith, ⊎_elim}
use Rattle.std.proofs.{lemmas.Grind.common_steps, lemmas.Bool.cases_Bool, lemmas.Bool.Decides.nat_tests, lemmas.List.Elements.All-push, lemmas.List.Elements.All-nil, lemmas.Map.Keys.IsDistinct-push}
use Rattle.std.specs.{List.list_any, List.IsDistinct, Option.option_map, Cmp.IsEquivalence}
use Rattle.annex_a_keys.specs.Cell.{Place}
use Rattle.lte_events.specs.Site.{Site, is_site, IsCellTable}

-- whether two sites have one cell is an equivalence
pub same_cell : IsEquivalence {K = Site} (λ a b. is_site a.cell b)
same_cell = record {
  refl = λ a. grind (arith, nat_tests);
  symm = λ a b. grind (arith, nat_tests);
  congr = λ a b c e. grind (arith, nat_tests);
}

pub no_cell : IsCellTable []
unfolding IsDistinct
no_cell = record { within = omega arith; none_twice = tt; stations = All-nil _ }

-- a table with one more cell, which does not stand yet
pub one_more : (sites : List Site) (station : ℕ) (cell : Place)
    → IsCellTable sites
    → length sites < 32
    → list_any (is_site cell) sites ≡ false
    → station ≤ 7
    → IsCellTable (sites ++ record { station = station; cell = cell } ∷ [])
one_more sites station cell table room absent within = record {
  within = grind (arith, common_steps);
  none_twice = IsDistinct-push same_cell sites (record { station = station; cell = cell }) table.none_twice absent;
  stations = All-push (λ s. s.station ≤ 7) sites (record { station = station; cell = cell }) table.stations within;
}

-- what is found stands
pub found_stands : (p : Site → Bool) (sites : List Site) → IsSome (option_map (λ s. s.station) (find p sites)) ↔ IsTrue (list_any p sites)
found_stands p [] = search rules
found_stands p (s ∷ sites) = ⊎_elim
    (λ (yes : p s ≡ true). rw yes search rules)
    (λ (no : p s ≡ false). rw no (found_stands p sites))
    (cases_Bool (p s))

-- what holds of all holds of what is found
pub found_within : (p : Site → Bool) (sites : List Site)
    → All (λ s. s.station ≤ 7) sites
    → IfSome (option_map (λ s. s.station) (find p sites)) (λ station. station ≤ 7)
found_within p [] table = tt
found_within p (s ∷ sites) table = ⊎_elim
    (λ (yes : p s ≡ true). rw yes (table 0 s (omega arith)))
    (λ (no : p s ≡ false). rw no (found_within p sites (λ k d below. table (suc k) d (omega arith))))
    (cases_Bool (p s))
