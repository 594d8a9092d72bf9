-- Numbers as octets, the highest octet first.
use Rattle.std.specs.Prelude.{ℕ, zero, suc, ◌+◌, ◌*◌, ◌/◌, ◌%◌, ◌^◌, List, [], ◌∷◌, fold, take, drop}

-- the number that octets write
unfoldable pub number_of : List ℕ → ℕ
number_of octets = fold (λ n octet. 256 * n + octet) 0 octets

-- the lowest `width` octets of a number
unfoldable pub octets_of : ℕ → ℕ → List ℕ
octets_of zero n = []
octets_of (suc width) n = n / 256 ^ width % 256 ∷ octets_of width n

-- the octets of the field of this width at this place
unfoldable pub field_at : List ℕ → ℕ → ℕ → List ℕ
field_at octets place width = take width (drop place octets)

-- the number in that field
unfoldable pub number_at : List ℕ → ℕ → ℕ → ℕ
number_at octets place width = number_of (field_at octets place width)
