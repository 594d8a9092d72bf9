-- How long an encrypted block is, and that a power of x is an octet.
use Rattle.std.proofs.Common.{◌≡◌, ℕ, zero, suc, ◌-◌, ◌*◌, ◌/◌, ◌%◌, ◌<◌, List, length, refl, arith, lit<}
use Rattle.std.proofs.lemmas.Nat.{xor_of_8}
use Rattle.aes_core.specs.Aes.{add_round_key, aes, cipher}
use Rattle.aes_core.specs.Field.{power_of_x}
use Rattle.aes_core.proofs.FieldLemmas.{multiply-two}

-- an encrypted block has 16 octets
pub length-aes : (key block : List ℕ) → length (aes key block) ≡ 16
unfolding aes cipher add_round_key
length-aes key block = refl

-- a power of x in the field is below 256
pub octet-power_of_x : (n : ℕ) → power_of_x n < 256
octet-power_of_x zero = lit< tt
octet-power_of_x (suc n) =
    let x : ℕ = power_of_x n in
    let x_fits : x < 256 = octet-power_of_x n in
    rw (multiply-two x x_fits) (xor_of_8 (x * 2 % 256) (x / 128 * 27) (omega arith) (omega arith))
