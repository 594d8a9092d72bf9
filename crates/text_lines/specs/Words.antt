-- The words of a line, and what a word is as a number or as octets.
use Rattle.std.specs.Prelude.{ℕ, ◌^◌, ◌==◌, nat_lt, ◌&&◌, not, Bool, true, false, if◌then◌else◌, Option, Some, None, List, [], ◌∷◌}
use Rattle.std.specs.{List.slice_split, List.list_all, Char.is_ascii_digit, Result.result_ok, Str.Parse.digits_value}
use Rattle.hex.specs.Hex.{decode_sized}

-- the words of a line, parted by one space each
abbrev pub is_space : ℕ → Bool
is_space octet = octet == 32

abbrev pub words_of : List ℕ → List (List ℕ)
words_of line = slice_split is_space line

-- a first digit that is no leading zero: 0 stands alone
abbrev pub starts_well : List ℕ → Bool
starts_well [] = false
starts_well (digit ∷ []) = true
starts_well (first ∷ second ∷ digits) = not (first == 48)

-- decimal digits with no sign and no leading zero
abbrev pub is_numeral : List ℕ → Bool
is_numeral word = starts_well word && list_all is_ascii_digit word

-- the number that a word is, below 2 ^ 32
unfoldable pub number_of : List ℕ → Option ℕ
number_of word = if is_numeral word && nat_lt (digits_value 10 word) (2 ^ 32) then Some (digits_value 10 word) else None

-- the octets, so many, that a word is in hex digits of either case
unfoldable pub hex_octets : ℕ → List ℕ → Option (List ℕ)
hex_octets n word = result_ok (decode_sized word n)
