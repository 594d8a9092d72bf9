-- The first number at which a test is true stays so where more are looked at.
use Rattle.std.proofs.Common.{◌≡◌, ℕ, zero, suc, ◌+◌, ◌≤◌, ◌-◌, Bool, true, false, Some, None, refl, arith, subst}
use Rattle.pdu_guard.specs.Search.{first_true}

pub none_first : (test : ℕ → Bool) → first_true test 0 ≡ None
unfolding first_true
none_first test = refl

pub none_more : (test : ℕ → Bool) (n : ℕ) → first_true test n ≡ None → test n ≡ false → first_true test (suc n) ≡ None
unfolding first_true
none_more test n none here = rw (none, here) refl

found_here : (test : ℕ → Bool) (n : ℕ) → first_true test n ≡ None → test n ≡ true → first_true test (suc n) ≡ Some n
unfolding first_true
found_here test n none here = rw (none, here) refl

found_later : (test : ℕ → Bool) (n found more : ℕ) → first_true test n ≡ Some found → first_true test (more + n) ≡ Some found
unfolding first_true
found_later test n found zero at =
    let same : n ≡ 0 + n = omega arith in
    subst (λ k. first_true test k ≡ Some found) same at
found_later test n found (suc more) at =
    let same : suc (more + n) ≡ suc more + n = omega arith in
    subst (λ k. first_true test k ≡ Some found) same (rw (found_later test n found more at) refl)

pub found_below : (test : ℕ → Bool) (n most : ℕ) → first_true test n ≡ None → test n ≡ true → suc n ≤ most
    → first_true test most ≡ Some n
found_below test n most none here within =
    let whole : most - suc n + suc n ≡ most = omega arith in
    subst (λ m. first_true test m ≡ Some n) whole (found_later test (suc n) n (most - suc n) (found_here test n none here))
