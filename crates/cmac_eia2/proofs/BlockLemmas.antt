-- Laws of sums and doublings of blocks.
use Rattle.std.proofs.Common.{◌≡◌, ◌≢◌, ℕ, ◌*◌, ◌/◌, ◌%◌, ◌^◌, List, nat_lt, true, false, refl, ap, arith}
use Rattle.std.specs.Int.Bits.{bit_xor}
use Rattle.std.proofs.lemmas.Bool.Decides.{nat_tests}
use Rattle.rec_base.specs.BigEndian.{number_of, octets_of}
use Rattle.cmac_eia2.specs.Cmac.{doubled}

-- doubling where the highest bit is clear
pub doubled-low : (block : List ℕ) (n : ℕ) → number_of block ≡ n → n / 2 ^ 127 ≡ 0
    → doubled block ≡ octets_of 16 (n * 2 % 2 ^ 128)
unfolding doubled
doubled-low block n e low =
    let test : nat_lt n (2 ^ 127) ≡ true = grind (arith, nat_tests) in
    let shifted : 2 * n % 2 ^ 128 ≡ n * 2 % 2 ^ 128 = ap (λ m. m % 2 ^ 128) (omega arith) in
    rw (e, test, shifted) refl

-- doubling where the highest bit is set
pub doubled-high : (block : List ℕ) (n : ℕ) → number_of block ≡ n → n / 2 ^ 127 ≢ 0
    → doubled block ≡ octets_of 16 (bit_xor (n * 2 % 2 ^ 128) 0x87)
unfolding doubled
doubled-high block n e high =
    let test : nat_lt n (2 ^ 127) ≡ false = grind (arith, nat_tests) in
    let shifted : 2 * n % 2 ^ 128 ≡ n * 2 % 2 ^ 128 = ap (λ m. m % 2 ^ 128) (omega arith) in
    rw (e, test, shifted) refl
