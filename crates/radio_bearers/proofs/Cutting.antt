-- The first so many of a list.
use Rattle.std.proofs.Common.{◌≡◌, ℕ, ◌≤◌, ◌<◌, Bool, true, false, List, length, refl, arith}
use Rattle.std.specs.Prelude.{nat_le, min, take}
use Rattle.std.proofs.{lemmas.Bool.Decides.nat_tests, lemmas.Grind.common_steps}

pub cut_is : (n : ℕ) (xs : List ℕ) → take (min (length xs) n) xs ≡ take n xs
cut_is n xs = by_test (nat_le n (length xs)) refl
  where
    by_test : (b : Bool) → nat_le n (length xs) ≡ b → take (min (length xs) n) xs ≡ take n xs
    by_test true e = let le : n ≤ length xs = grind (arith, nat_tests) in let m : min (length xs) n ≡ n = omega arith in rw m refl
    by_test false e =
        let lt : length xs < n = grind (arith, nat_tests) in
        let m : min (length xs) n ≡ length xs = omega arith in
        let le : length xs ≤ n = omega arith in rw m grind (arith, common_steps)
