-- `least` is the least number with its remainder, and steps of one reach it.
use Rattle.std.proofs.Common.{◌≡◌, ◌≢◌, ℕ, zero, suc, ◌+◌, ◌-◌, ◌*◌, ◌/◌, ◌%◌, ◌<◌, ◌≤◌, ◌⊎◌, inl, inr, refl, sym, ◌∙◌, ap, true, false, Bool, ◌==◌, if◌then◌else◌, arith, add-zero, mod-lt, mod-eq_of_lt, div-add-mod', suc-mul}
use Rattle.std.proofs.{lemmas.Nat.mod-mul-add, Math.Nat.mod-mod}
use Rattle.std.proofs.lemmas.Bool.{cases_lt, eqb-true, eqb-false}
use Rattle.std.specs.Prelude.{◌↔◌}
use Rattle.key_model.specs.Least.{least, IsLeast, after_steps}

-- so few on from `low` that the remainder does not wrap
remainder_below : (low d w : ℕ) → low % w + d < w → (low + d) % w ≡ low % w + d
remainder_below low d w h =
    let split = div-add-mod' low w in
    let whole : low + d ≡ low / w * w + (low % w + d) = omega arith in
    ap (λ n. n % w) whole ∙ mod-mul-add (low / w) w (low % w + d) h

-- so many on that it wraps once
remainder_above : (low d w : ℕ) → w ≤ low % w + d → low % w + d < w + w → (low + d) % w ≡ (low % w + d) - w
remainder_above low d w h h' =
    let split = div-add-mod' low w in
    let more = suc-mul (low / w) w in
    let whole : low + d ≡ suc (low / w) * w + ((low % w + d) - w) = omega arith in
    ap (λ n. n % w) whole ∙ mod-mul-add (suc (low / w)) w ((low % w + d) - w) (omega arith)

-- how far the least number is above `low`, where the remainder does not wrap
offset_below : (a x w : ℕ) → a < w → x < w → a ≤ x → (x + (w - a)) % w ≡ x - a
offset_below a x w ha hx h =
    let whole : x + (w - a) ≡ 1 * w + (x - a) = omega arith in
    ap (λ n. n % w) whole ∙ mod-mul-add 1 w (x - a) (omega arith)

-- and where it wraps
offset_above : (a x w : ℕ) → a < w → x < w → x < a → (x + (w - a)) % w ≡ x + (w - a)
offset_above a x w ha hx h = mod-eq_of_lt (omega arith)

-- the least number so far above `low`
pub record IsAhead (low x w d : ℕ) : Type 0 where
  pub within : d < w
  pub hits : (low + d) % w ≡ x
  pub earlier : (k : ℕ) → k < d → (low + k) % w ≢ x

ahead : (low x w d : ℕ) → x < w → (low % w ≤ x) × (d ≡ x - low % w) → IsAhead low x w d
ahead low x w d hx h =
    let ha : low % w < w = mod-lt low (omega arith) in
    record {
      within = omega arith;
      hits = remainder_below low d w (omega arith) ∙ omega arith;
      earlier = λ k hk e. let r = remainder_below low k w (omega arith) in absurd (omega arith);
    }

ahead_wrapped : (low x w d : ℕ) → x < w → (x < low % w) × (d ≡ x + (w - low % w)) → IsAhead low x w d
ahead_wrapped low x w d hx h =
    let ha : low % w < w = mod-lt low (omega arith) in
    record {
      within = omega arith;
      hits = remainder_above low d w (omega arith) (omega arith) ∙ omega arith;
      earlier = λ k hk e. not_earlier k hk e ha (cases_lt (low % w + k) w);
    }
  where
    not_earlier : (k : ℕ) → k < d → (low + k) % w ≡ x → low % w < w → (low % w + k < w) ⊎ (w ≤ low % w + k) → ⊥
    not_earlier k hk e ha (inl fits) = let r = remainder_below low k w fits in absurd (omega arith)
    not_earlier k hk e ha (inr wraps) = let r = remainder_above low k w wraps (omega arith) in absurd (omega arith)

pub offset_is : (low x w : ℕ) → x < w → IsAhead low x w ((x + (w - low % w)) % w)
offset_is low x w hx = by_place (cases_lt x (low % w))
  where
    ha : low % w < w
    ha = mod-lt low (omega arith)

    by_place : (x < low % w) ⊎ (low % w ≤ x) → IsAhead low x w ((x + (w - low % w)) % w)
    by_place (inl wraps) = ahead_wrapped low x w _ hx (wraps, offset_above (low % w) x w ha hx wraps)
    by_place (inr fits) = ahead low x w _ hx (fits, offset_below (low % w) x w ha hx fits)

-- `least` is at or above `low`, has the remainder, and no lesser number does
pub least_is : (low x w : ℕ) → x < w → IsLeast low x w (least low x w)
unfolding least
least_is low x w hx =
    let a = offset_is low x w hx in
    record {
      at_or_above = omega arith;
      remainder = a.hits;
      no_lesser = λ m above e. none m above e (cases_lt m (low + (x + (w - low % w)) % w));
    }
  where
    none : (m : ℕ) → low ≤ m → m % w ≡ x → (m < low + (x + (w - low % w)) % w) ⊎ (low + (x + (w - low % w)) % w ≤ m) → low + (x + (w - low % w)) % w ≤ m
    none m above e (inr h) = h
    none m above e (inl h) =
        let whole : low + (m - low) ≡ m = omega arith in
        absurd ((offset_is low x w hx).earlier (m - low) (omega arith) (ap (λ n. n % w) whole ∙ e))

-- only one number is the least
pub least_unique : (low x w m n : ℕ) → IsLeast low x w m → IsLeast low x w n → m ≡ n
least_unique low x w m n a b =
    let up = a.no_lesser n b.at_or_above b.remainder in
    let down = b.no_lesser m a.at_or_above a.remainder in
    omega arith

-- it is less than w above `low`
pub least_near : (low x w : ℕ) → x < w → least low x w < low + w
unfolding least
least_near low x w hx = let a = offset_is low x w hx in omega arith

-- steps of one end d above n, where that is the first number with the remainder
steps_end : (steps n d x w : ℕ) → d ≤ steps → (n + d) % w ≡ x → ((k : ℕ) → k < d → (n + k) % w ≢ x) → after_steps steps n x w ≡ n + d
steps_end zero n d x w few hits earlier = omega arith
steps_end (suc steps) n d x w few hits earlier =
    by_test (n % w == x) refl (λ some. steps_end steps (n + 1) (d - 1) x w (fewer some) (later_hits some) (later_earlier some))
  where
    here : (n + 0) % w ≡ n % w
    here = ap (λ m. m % w) (add-zero n)

    none_left : n % w ≡ x → (0 < d) ⊎ (d ≤ 0) → d ≡ 0
    none_left e (inl some) = absurd (earlier 0 some (here ∙ e))
    none_left e (inr none) = omega arith

    some_left : n % w ≢ x → (0 < d) ⊎ (d ≤ 0) → 0 < d
    some_left differs (inl some) = some
    some_left differs (inr none) =
        let no_step : n + d ≡ n = omega arith in
        absurd (differs (ap (λ m. m % w) (sym no_step) ∙ hits))

    fewer : 0 < d → d - 1 ≤ steps
    fewer some = omega arith

    later_hits : 0 < d → ((n + 1) + (d - 1)) % w ≡ x
    later_hits some = let same : (n + 1) + (d - 1) ≡ n + d = omega arith in ap (λ m. m % w) same ∙ hits

    later_earlier : 0 < d → (k : ℕ) → k < d - 1 → ((n + 1) + k) % w ≢ x
    later_earlier some k h e =
        let next : n + (k + 1) ≡ (n + 1) + k = omega arith in
        earlier (k + 1) (omega arith) (ap (λ m. m % w) next ∙ e)

    by_test : (b : Bool)
        → (n % w == x) ≡ b
        → (0 < d → after_steps steps (n + 1) x w ≡ (n + 1) + (d - 1))
        → (if b then n else after_steps steps (n + 1) x w) ≡ n + d
    by_test true e onward = let at = none_left (eqb-true (n % w) x e) (cases_lt 0 d) in omega arith
    by_test false e onward =
        let some = some_left (eqb-false (n % w) x e) (cases_lt 0 d) in
        onward some ∙ omega arith

-- the first number with the remainder is the least one
pub first_is_least : (low x w d : ℕ) → x < w → (low + d) % w ≡ x → ((k : ℕ) → k < d → (low + k) % w ≢ x) → low + d ≡ least low x w
first_is_least low x w d hx hits earlier =
    least_unique low x w _ _ (record {
      at_or_above = omega arith;
      remainder = hits;
      no_lesser = λ m above e. by_place m above e (cases_lt m (low + d));
    })
    (least_is low x w hx)
  where
    by_place : (m : ℕ) → low ≤ m → m % w ≡ x → (m < low + d) ⊎ (low + d ≤ m) → low + d ≤ m
    by_place m above e (inr h) = h
    by_place m above e (inl h) =
        let whole : low + (m - low) ≡ m = omega arith in
        absurd (earlier (m - low) (omega arith) (ap (λ n. n % w) whole ∙ e))

-- w steps at the most reach `least`
pub steps_reach : (low x w : ℕ) → x < w → after_steps w low x w ≡ least low x w
unfolding least
steps_reach low x w hx =
    let a = offset_is low x w hx in
    steps_end w low ((x + (w - low % w)) % w) x w (omega arith) a.hits a.earlier

-- two numbers with one remainder are no fewer than w apart
apart : (m n w : ℕ) → 0 < w → m < n → n - m < w → n % w ≢ m % w
apart m n w some less few e =
    let ha : m % w < w = mod-lt m some in
    let whole : m + (n - m) ≡ n = omega arith in
    let hits = ap (λ k. k % w) whole ∙ e in
    by_place ha hits (cases_lt (m % w + (n - m)) w)
  where
    by_place : m % w < w → (m + (n - m)) % w ≡ m % w → (m % w + (n - m) < w) ⊎ (w ≤ m % w + (n - m)) → ⊥
    by_place ha hits (inl fits) = let r = remainder_below m (n - m) w fits in absurd (omega arith)
    by_place ha hits (inr wraps) = let r = remainder_above m (n - m) w wraps (omega arith) in absurd (omega arith)

-- a number fewer than w above `low` is the least with its remainder, and one further above is not
pub least_in_window : (low n w : ℕ) → 0 < w → low ≤ n → (least low (n % w) w ≡ n) ↔ (n - low < w)
least_in_window low n w some above = (near, is_least)
  where
    near : least low (n % w) w ≡ n → n - low < w
    near e = let l = least_near low (n % w) w (mod-lt n some) in omega arith

    not_below : n - low < w → (m : ℕ) → low ≤ m → m % w ≡ n % w → (m < n) ⊎ (n ≤ m) → n ≤ m
    not_below few m at_low e (inr h) = h
    not_below few m at_low e (inl less) = absurd (apart m n w some less (omega arith) (sym e))

    is_least : n - low < w → least low (n % w) w ≡ n
    is_least few = least_unique low (n % w) w _ n (least_is low (n % w) w (mod-lt n some)) (record {
      at_or_above = above;
      remainder = refl;
      no_lesser = λ m at_low e. not_below few m at_low e (cases_lt m n);
    })

-- fewer than eight ahead agree, and eight or more differ
pub eight_ahead : (p i : ℕ) → p ≤ i → (least p (i % 8) 8 ≡ i) ↔ (i - p < 8)
eight_ahead p i h = least_in_window p i 8 (omega arith) h

-- the steps to a remainder are those from the remainder of the start
pub least_from_remainder : (p x : ℕ) → least p x 8 ≡ p + (least (p % 8) x 8 - p % 8)
unfolding least
least_from_remainder p x = rw (mod-mod p 8) (omega arith)

-- a remainder is reached in fewer than eight steps
pub steps_few : (own ncc : ℕ) → ncc < 8 → least own ncc 8 - own < 8
steps_few own ncc h = let l = least_near own ncc 8 h in omega arith
