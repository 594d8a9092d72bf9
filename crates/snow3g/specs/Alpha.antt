-- The products with alpha and with its inverse in the feedback of SNOW 3G (TS 35.216 3.4.2 and 3.4.3; the
-- clause numbers are from memory).
use Rattle.std.specs.Prelude.{ℕ, List, [], ◌∷◌, map}
use Rattle.aes_core.specs.Word.{word_number}
use Rattle.snow3g.specs.Octets.{mulxpow}

-- the word whose octets are an octet times these powers of x, where x^8 is A9 hex
abbrev pub times_powers : List ℕ → ℕ → ℕ
times_powers powers octet = word_number (map (λ i. mulxpow octet i 0xa9) powers)

-- MULalpha (3.4.2)
unfoldable pub mul_alpha : ℕ → ℕ
mul_alpha octet = times_powers (23 ∷ 245 ∷ 48 ∷ 239 ∷ []) octet

-- DIValpha (3.4.3)
unfoldable pub div_alpha : ℕ → ℕ
div_alpha octet = times_powers (16 ∷ 39 ∷ 6 ∷ 64 ∷ []) octet
