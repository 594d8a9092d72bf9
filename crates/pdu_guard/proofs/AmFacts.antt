-- What the receiving rule of RLC AM finds of what was sent.
use Rattle.std.proofs.Common.{◌≡◌, ℕ, suc, ◌+◌, ◌-◌, ◌*◌, ◌/◌, ◌%◌, ◌<◌, ◌≤◌, ◌==◌, nat_le, nat_lt, true, false, if◌then◌else◌, List, ◌++◌, length, Result, Ok, refl, ap, ◌∙◌, arith, eq-eqb, ◌⊎◌, inl, inr}
use Rattle.std.proofs.{lemmas.Bool.cases_lt, lemmas.Bool.Decides.nat_tests}
use Rattle.rec_base.specs.declared.uses.Dir.{Dir}
use Rattle.pdcp_guard.specs.Counts.{count_limit}
use Rattle.pdu_guard.specs.{declared.am.AmFate.AmFate, declared.am.AmFault.AmFault, declared.am.AmFound.AmFound, declared.drb.DrbKeys.DrbKeys, declared.drb.Numbers.Numbers}
use Rattle.pdu_guard.specs.declared.am.AmFate.TheVariants.{Discarded, Late, New}
use Rattle.pdu_guard.specs.declared.am.Hfn.TheVariants.{Before, Same, After}
use Rattle.pdu_guard.specs.declared.drb.Numbers.TheVariants.{Seven, Twelve, Fifteen, Eighteen}
use Rattle.pdu_guard.specs.Am.{am_count_at, am_count_of, count_at, counted, is_outside, last_before, place_of, window_of}
use Rattle.pdu_guard.specs.Drb.{drb_head, drb_pdu, drb_sent, values_of}

-- the sequence number of what was sent
at_head : (numbers : Numbers) (last next count : ℕ) (sent : List ℕ)
    → am_count_of numbers last next (drb_head numbers count ++ sent) ≡ am_count_at numbers last next (count % values_of numbers)
unfolding am_count_of drb_head
at_head Seven last next count sent =
    let long : nat_lt (suc (length sent)) 1 ≡ false = grind (arith, nat_tests) in
    let good : nat_le 128 (128 + count % 128) ≡ true = grind (arith, nat_tests) in
    let number : (128 + count % 128) % 128 ≡ count % 128 = omega arith in
    rw (long, good, number) refl
at_head Twelve last next count sent =
    let long : nat_lt (suc (suc (length sent))) 2 ≡ false = grind (arith, nat_tests) in
    let good : ((128 + count / 256 % 16) / 16 == 8) ≡ true = eq-eqb ((128 + count / 256 % 16) / 16) 8 (omega arith) in
    let number : 256 * ((128 + count / 256 % 16) % 16) + count % 256 ≡ count % 4096 = omega arith in
    rw (long, good, number) refl
at_head Fifteen last next count sent =
    let long : nat_lt (suc (suc (length sent))) 2 ≡ false = grind (arith, nat_tests) in
    let good : nat_le 128 (128 + count / 256 % 128) ≡ true = grind (arith, nat_tests) in
    let number : 256 * ((128 + count / 256 % 128) % 128) + count % 256 ≡ count % 32768 = omega arith in
    rw (long, good, number) refl
at_head Eighteen last next count sent =
    let long : nat_lt (suc (suc (suc (length sent)))) 3 ≡ false = grind (arith, nat_tests) in
    let good : ((128 + count / 65536 % 4) / 4 == 32) ≡ true = eq-eqb ((128 + count / 65536 % 4) / 4) 32 (omega arith) in
    let number : 65536 * ((128 + count / 65536 % 4) % 4) + 256 * (count / 256 % 256) + count % 256 ≡ count % 262144 = omega arith in
    rw (long, good, number) refl

-- the rows, each by its tests
outside_before : (window last next sn : ℕ) → is_outside window last sn ≡ true → next < sn
    → place_of window last next sn ≡ record { hfn = Before; fate = Discarded }
unfolding place_of
outside_before window last next sn out over =
    let test : nat_lt next sn ≡ true = grind (arith, nat_tests) in
    rw (out, test) refl

outside_same : (window last next sn : ℕ) → is_outside window last sn ≡ true → sn ≤ next
    → place_of window last next sn ≡ record { hfn = Same; fate = Discarded }
unfolding place_of
outside_same window last next sn out over =
    let test : nat_lt next sn ≡ false = grind (arith, nat_tests) in
    rw (out, test) refl

within_after : (window last next sn : ℕ) → is_outside window last sn ≡ false → sn + window < next
    → place_of window last next sn ≡ record { hfn = After; fate = New }
unfolding place_of
within_after window last next sn inside one =
    let test : nat_lt (sn + window) next ≡ true = grind (arith, nat_tests) in
    rw (inside, test) refl

within_before : (window last next sn : ℕ) → is_outside window last sn ≡ false → next ≤ sn + window → next + window ≤ sn
    → place_of window last next sn ≡ record { hfn = Before; fate = Late }
unfolding place_of
within_before window last next sn inside one two =
    let test : nat_lt (sn + window) next ≡ false = grind (arith, nat_tests) in
    let second : nat_le (next + window) sn ≡ true = grind (arith, nat_tests) in
    rw (inside, test, second) refl

within_new : (window last next sn : ℕ) → is_outside window last sn ≡ false → next ≤ sn + window → sn < next + window → next ≤ sn
    → place_of window last next sn ≡ record { hfn = Same; fate = New }
unfolding place_of
within_new window last next sn inside one two three =
    let test : nat_lt (sn + window) next ≡ false = grind (arith, nat_tests) in
    let second : nat_le (next + window) sn ≡ false = grind (arith, nat_tests) in
    let third : nat_le next sn ≡ true = grind (arith, nat_tests) in
    rw (inside, test, second, third) refl

within_late : (window last next sn : ℕ) → is_outside window last sn ≡ false → next ≤ sn + window → sn < next
    → place_of window last next sn ≡ record { hfn = Same; fate = Late }
unfolding place_of
within_late window last next sn inside one two =
    let test : nat_lt (sn + window) next ≡ false = grind (arith, nat_tests) in
    let second : nat_le (next + window) sn ≡ false = grind (arith, nat_tests) in
    let third : nat_le next sn ≡ false = grind (arith, nat_tests) in
    rw (inside, test, second, third) refl

-- a COUNT of 32 bits, and its fate by the next one
is_counted : (found count : ℕ) (means : AmFate) → found ≡ count → count < count_limit
    → counted found means ≡ Ok (record { count = count; fate = means })
is_counted found count means same below =
    let test : nat_lt count count_limit ≡ true = grind (arith, nat_tests) in
    rw (same, test) refl

is_new : (next count : ℕ) → next ≤ count → New ≡ (if nat_le next count then New else Late)
is_new next count above =
    let test : nat_le next count ≡ true = grind (arith, nat_tests) in
    rw test refl

is_late : (next count : ℕ) → count < next → Late ≡ (if nat_le next count then New else Late)
is_late next count below =
    let test : nat_le next count ≡ false = grind (arith, nat_tests) in
    rw test refl

found_new : (found next count : ℕ) → found ≡ count → next ≤ count → count < count_limit
    → counted found New ≡ Ok (record { count = count; fate = if nat_le next count then New else Late })
found_new found next count same above below =
    is_counted found count New same below ∙ ap (λ f. Ok (record { count = count; fate = f })) (is_new next count above)

found_late : (found next count : ℕ) → found ≡ count → count < next → count < count_limit
    → counted found Late ≡ Ok (record { count = count; fate = if nat_le next count then New else Late })
found_late found next count same under below =
    is_counted found count Late same below ∙ ap (λ f. Ok (record { count = count; fate = f })) (is_late next count under)

-- a COUNT that is kept, where each row that may be taken finds it
kept_by : (window values hfn last next sn whole count : ℕ) → is_outside window last sn ≡ false → count < count_limit
    → (sn + window < next → ((hfn + 1) * values + sn ≡ count) × (whole ≤ count))
    → (next ≤ sn + window → next + window ≤ sn → (0 < hfn) × ((hfn - 1) * values + sn ≡ count) × (count < whole))
    → (sn < next + window → next ≤ sn → (hfn * values + sn ≡ count) × (whole ≤ count))
    → (next ≤ sn + window → sn < next → (hfn * values + sn ≡ count) × (count < whole))
    → count_at values hfn sn (place_of window last next sn)
    ≡ Ok (record { count = count; fate = if nat_le whole count then New else Late })
kept_by window values hfn last next sn whole count inside below after before new late =
    first_row (cases_lt (sn + window) next)
  where
    result : Result AmFound AmFault
    result = Ok (record { count = count; fate = if nat_le whole count then New else Late })

    behind : next ≤ sn + window → next + window ≤ sn → (0 < hfn) × ((hfn - 1) * values + sn ≡ count) × (count < whole)
        → count_at values hfn sn (place_of window last next sn) ≡ result
    behind one two (some, same, under) =
        let test : (hfn == 0) ≡ false = grind (arith, nat_tests) in
        rw (within_before window last next sn inside one two, test) (found_late ((hfn - 1) * values + sn) whole count same under below)

    third_row : next ≤ sn + window → sn < next + window → (sn < next) ⊎ (next ≤ sn)
        → count_at values hfn sn (place_of window last next sn) ≡ result
    third_row one two (inl less) =
        rw (within_late window last next sn inside one less) (found_late (hfn * values + sn) whole count (late one less).0 (late one less).1 below)
    third_row one two (inr more) =
        rw (within_new window last next sn inside one two more) (found_new (hfn * values + sn) whole count (new two more).0 (new two more).1 below)

    second_row : next ≤ sn + window → (sn < next + window) ⊎ (next + window ≤ sn)
        → count_at values hfn sn (place_of window last next sn) ≡ result
    second_row one (inl two) = third_row one two (cases_lt sn next)
    second_row one (inr two) = behind one two (before one two)

    first_row : (sn + window < next) ⊎ (next ≤ sn + window) → count_at values hfn sn (place_of window last next sn) ≡ result
    first_row (inl one) =
        rw (within_after window last next sn inside one) (found_new ((hfn + 1) * values + sn) whole count (after one).0 (after one).1 below)
    first_row (inr one) = second_row one (cases_lt sn (next + window))

-- and one that is discarded
discarded_by : (window values hfn last next sn count : ℕ) → is_outside window last sn ≡ true → count < count_limit
    → (next < sn → (0 < hfn) × ((hfn - 1) * values + sn ≡ count))
    → (sn ≤ next → hfn * values + sn ≡ count)
    → count_at values hfn sn (place_of window last next sn) ≡ Ok (record { count = count; fate = Discarded })
discarded_by window values hfn last next sn count out below before same = row (cases_lt next sn)
  where
    behind : next < sn → (0 < hfn) × ((hfn - 1) * values + sn ≡ count)
        → count_at values hfn sn (place_of window last next sn) ≡ Ok (record { count = count; fate = Discarded })
    behind over (some, is) =
        let test : (hfn == 0) ≡ false = grind (arith, nat_tests) in
        rw (outside_before window last next sn out over, test) (is_counted ((hfn - 1) * values + sn) count Discarded is below)

    row : (next < sn) ⊎ (sn ≤ next)
        → count_at values hfn sn (place_of window last next sn) ≡ Ok (record { count = count; fate = Discarded })
    row (inl over) = behind over (before over)
    row (inr under) = rw (outside_same window last next sn out under) (is_counted (hfn * values + sn) count Discarded (same under) below)

-- the numbers, one width after the other, since division is by a numeral
kept_at : (numbers : Numbers) (first next count : ℕ) → first ≤ next → next ≤ first + window_of numbers
    → first ≤ count → count < first + window_of numbers → count < count_limit
    → am_count_at numbers (last_before numbers first) next (count % values_of numbers)
    ≡ Ok (record { count = count; fate = if nat_le next count then New else Late })
unfolding am_count_at
kept_at Seven first next count from near above within below =
    let inside : is_outside 64 ((first + 128 - 1) % 128) (count % 128) ≡ false = grind (arith, nat_tests) in
    kept_by 64 128 (next / 128) _ (next % 128) (count % 128) next count inside below
    (λ one. (omega arith, omega arith)) (λ one two. (omega arith, omega arith, omega arith))
    (λ two three. (omega arith, omega arith)) (λ one three. (omega arith, omega arith))
kept_at Twelve first next count from near above within below =
    let inside : is_outside 2048 ((first + 4096 - 1) % 4096) (count % 4096) ≡ false = grind (arith, nat_tests) in
    kept_by 2048 4096 (next / 4096) _ (next % 4096) (count % 4096) next count inside below
    (λ one. (omega arith, omega arith)) (λ one two. (omega arith, omega arith, omega arith))
    (λ two three. (omega arith, omega arith)) (λ one three. (omega arith, omega arith))
kept_at Fifteen first next count from near above within below =
    let inside : is_outside 16384 ((first + 32768 - 1) % 32768) (count % 32768) ≡ false = grind (arith, nat_tests) in
    kept_by 16384 32768 (next / 32768) _ (next % 32768) (count % 32768) next count inside below
    (λ one. (omega arith, omega arith)) (λ one two. (omega arith, omega arith, omega arith))
    (λ two three. (omega arith, omega arith)) (λ one three. (omega arith, omega arith))
kept_at Eighteen first next count from near above within below =
    let inside : is_outside 131072 ((first + 262144 - 1) % 262144) (count % 262144) ≡ false = grind (arith, nat_tests) in
    kept_by 131072 262144 (next / 262144) _ (next % 262144) (count % 262144) next count inside below
    (λ one. (omega arith, omega arith)) (λ one two. (omega arith, omega arith, omega arith))
    (λ two three. (omega arith, omega arith)) (λ one three. (omega arith, omega arith))

discarded_at : (numbers : Numbers) (first next count : ℕ) → first ≤ next → next ≤ first + window_of numbers
    → count < first → first ≤ count + window_of numbers → next < count + values_of numbers → count < count_limit
    → am_count_at numbers (last_before numbers first) next (count % values_of numbers)
    ≡ Ok (record { count = count; fate = Discarded })
unfolding am_count_at
discarded_at Seven first next count from near under within whole below =
    let out : is_outside 64 ((first + 128 - 1) % 128) (count % 128) ≡ true = grind (arith, nat_tests) in
    discarded_by 64 128 (next / 128) _ (next % 128) (count % 128) count out below
    (λ over. (omega arith, omega arith)) (λ lower. omega arith)
discarded_at Twelve first next count from near under within whole below =
    let out : is_outside 2048 ((first + 4096 - 1) % 4096) (count % 4096) ≡ true = grind (arith, nat_tests) in
    discarded_by 2048 4096 (next / 4096) _ (next % 4096) (count % 4096) count out below
    (λ over. (omega arith, omega arith)) (λ lower. omega arith)
discarded_at Fifteen first next count from near under within whole below =
    let out : is_outside 16384 ((first + 32768 - 1) % 32768) (count % 32768) ≡ true = grind (arith, nat_tests) in
    discarded_by 16384 32768 (next / 32768) _ (next % 32768) (count % 32768) count out below
    (λ over. (omega arith, omega arith)) (λ lower. omega arith)
discarded_at Eighteen first next count from near under within whole below =
    let out : is_outside 131072 ((first + 262144 - 1) % 262144) (count % 262144) ≡ true = grind (arith, nat_tests) in
    discarded_by 131072 262144 (next / 262144) _ (next % 262144) (count % 262144) count out below
    (λ over. (omega arith, omega arith)) (λ lower. omega arith)

-- of a PDU
pub am_kept : (keys : DrbKeys) (dir : Dir) (first next count : ℕ) (text : List ℕ)
    → first ≤ next → next ≤ first + window_of keys.numbers
    → first ≤ count → count < first + window_of keys.numbers → count < count_limit
    → am_count_of keys.numbers (last_before keys.numbers first) next (drb_pdu keys count dir text)
    ≡ Ok (record { count = count; fate = if nat_le next count then New else Late })
unfolding drb_pdu
am_kept keys dir first next count text from near above within below =
    at_head keys.numbers (last_before keys.numbers first) next count (drb_sent keys count dir text)
    ∙ kept_at keys.numbers first next count from near above within below

pub am_discarded : (keys : DrbKeys) (dir : Dir) (first next count : ℕ) (text : List ℕ)
    → first ≤ next → next ≤ first + window_of keys.numbers
    → count < first → first ≤ count + window_of keys.numbers → next < count + values_of keys.numbers → count < count_limit
    → am_count_of keys.numbers (last_before keys.numbers first) next (drb_pdu keys count dir text)
    ≡ Ok (record { count = count; fate = Discarded })
unfolding drb_pdu
am_discarded keys dir first next count text from near under within whole below =
    at_head keys.numbers (last_before keys.numbers first) next count (drb_sent keys count dir text)
    ∙ discarded_at keys.numbers first next count from near under within whole below
