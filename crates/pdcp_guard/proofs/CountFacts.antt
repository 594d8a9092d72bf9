-- What the COUNTs and the ciphering of all bearers have in common.
use Rattle.std.proofs.Common.{◌≡◌, ℕ, ◌+◌, ◌-◌, ◌%◌, ◌<◌, ◌≤◌, nat_lt, Bool, true, false, if◌then◌else◌, List, length, Result, Ok, Err, refl, ap, sym, ◌∙◌, arith, drop}
use Rattle.std.proofs.lemmas.Bool.Decides.{nat_tests}
use Rattle.alg_choice.specs.declared.algs.Eea.{Eea}
use Rattle.alg_choice.specs.declared.algs.Eea.TheVariants.{Eea0, Eea2}
use Rattle.rec_base.specs.declared.uses.Dir.{Dir}
use Rattle.ctr_eea2.proofs.CombinedLemmas.{length-eea2_of}
use Rattle.key_model.specs.Least.{least}
use Rattle.key_model.proofs.LeastFacts.{least_in_window}
use Rattle.nas_guard.specs.Cipher.{ciphered}
use Rattle.pdcp_guard.specs.{declared.pdus.PdcpFault.PdcpFault, declared.pdus.PdcpFault.TheVariants.CountSpent}
use Rattle.pdcp_guard.specs.Counts.{BearerState, count_limit, after_send, in_32_bits, send_count}

-- a ciphered text is as long as the text
pub length-ciphered : (eea : Eea) (key : List ℕ) (count bearer : ℕ) (dir : Dir) (text : List ℕ)
    → length (ciphered eea key count bearer dir text) ≡ length text
unfolding ciphered
length-ciphered Eea0 key count bearer dir text = refl
length-ciphered Eea2 key count bearer dir text = length-eea2_of (drop 16 key) count bearer dir text

-- a COUNT below 2^32 has 32 bits
pub in_32_bits-below : (count : ℕ) → count < count_limit → in_32_bits count ≡ Ok count
unfolding in_32_bits
in_32_bits-below count below =
    let test : nat_lt count count_limit ≡ true = grind (arith, nat_tests) in
    rw test refl

-- a COUNT fewer than w above the next expected one is the least with its sequence number
pub expected-is_least : (w next count : ℕ) → 0 < w → next ≤ count → count - next < w → least next (count % w) w ≡ count
expected-is_least w next count some above few = (least_in_window next count w some above).1 few

-- a COUNT that has 32 bits is itself, and below 2^32
pub in_32_bits-Ok : (count n : ℕ) → in_32_bits count ≡ Ok n → (n ≡ count) × (n < count_limit)
unfolding in_32_bits
in_32_bits-Ok count n found = by_test (nat_lt count count_limit) refl found
  where
    by_test : (b : Bool)
        → nat_lt count count_limit ≡ b
        → (let spent : Result ℕ PdcpFault = Err CountSpent in if b then Ok count else spent) ≡ Ok n
        → (n ≡ count) × (n < count_limit)
    by_test true test e = let is : n ≡ count = cc in (is, grind (arith, nat_tests))
    by_test false test e = absurd (cc)

-- the sending after one takes a greater COUNT
pub send_counts-rise : (b : BearerState) (first second : ℕ) → send_count b ≡ Ok first
    → send_count (after_send b (send_count b)) ≡ Ok second → first < second
send_counts-rise b first second taken again =
    let next : in_32_bits (first + 1) ≡ Ok second = ap (λ r. send_count (after_send b r)) (sym taken) ∙ again in
    let is : second ≡ first + 1 = (in_32_bits-Ok (first + 1) second next).0 in
    omega arith
