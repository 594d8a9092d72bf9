-- What a word of a line is as the value of a field, or which field is bad.
use Rattle.std.specs.Prelude.{◌≡◌, ℕ, ◌==◌, nat_lt, nat_le, ◌&&◌, Bool, if◌then◌else◌, Option, Some, None, Result, Ok, Err, List, [], ◌∷◌, length, get_or, codes}
use Rattle.std.specs.{Option.ok_or, Option.option_and_then, Result.result_ok, Str.bytes_eq}
use Rattle.growth.specs.Growth.{WasRefused}
use Rattle.hex.specs.Hex.{decode_of}
use Rattle.alg_suite.specs.{declared.ciphering.Ciphering.Ciphering, declared.integrity.Integrity.Integrity}
use Rattle.alg_suite.specs.declared.ciphering.Ciphering.TheVariants.{Eea0, Eea1, Eea2, Eea3}
use Rattle.alg_suite.specs.declared.integrity.Integrity.TheVariants.{Eia0, Eia1, Eia2, Eia3}
use Rattle.annex_a_keys.specs.Cell.{Place}
use Rattle.pdu_guard.specs.{declared.drb.Numbers.Numbers, Drb.numbers_of}
use Rattle.rec_base.specs.declared.uses.Dir.{Dir}
use Rattle.rec_base.specs.declared.uses.Dir.TheVariants.{Up, Down}
use Rattle.text_lines.specs.Words.{number_of, hex_octets}
use Rattle.calc_text.specs.{declared.fields.Field.Field, declared.fields.LineFault.LineFault, declared.requests.Algorithms.Algorithms}
use Rattle.calc_text.specs.declared.fields.LineFault.TheVariants.{Bad, Memory}
use Rattle.calc_text.specs.declared.fields.Field.TheVariants as field

-- the first bad field, in the order in which the fields stand
infixl 10 ◌>>=◌
abbrev pub ◌>>=◌ : {A B : Type 0} → Result A Field → (A → Result B Field) → Result B Field
(Ok x) >>= f = f x
(Err e) >>= f = Err e

-- a fault of a line is the first bad field, or memory that std refused, which says nothing of the line
abbrev pub Refuses : {A : Type 0} → LineFault → Result A Field → Type 0
Refuses (Bad field) reading = reading ≡ Err field
Refuses Memory reading = WasRefused

-- what code read is this reading, or its fault
abbrev pub Reads : {A : Type 0} → Result A LineFault → Result A Field → Type 0
Reads (Ok value) reading = reading ≡ Ok value
Reads (Err fault) reading = Refuses fault reading

-- as many fields as that, and the word of a field
unfoldable pub between : ℕ → ℕ → List (List ℕ) → Result (Unit {0}) Field
between least most fields = if nat_le least (length fields) && nat_le (length fields) most then Ok tt else Err field.Fields

unfoldable pub sized : ℕ → List (List ℕ) → Result (Unit {0}) Field
sized count fields = between count count fields

unfoldable pub word : ℕ → List (List ℕ) → List ℕ
word place fields = get_or fields place []

-- a key of so many octets
abbrev pub key_in : ℕ → Field → List ℕ → Result (List ℕ) Field
key_in n field word = ok_or (hex_octets n word) field

-- a number from the least to the greatest
unfoldable pub number_in : ℕ → ℕ → Field → List ℕ → Result ℕ Field
number_in least greatest field word =
    ok_or (option_and_then (λ n. if nat_le least n && nat_le n greatest then Some n else None) (number_of word)) field

-- a NAS COUNT, of 24 bits (TS 24.301 4.4.3.1)
abbrev pub nas_count_in : List ℕ → Result ℕ Field
nas_count_in word = number_in 0 0xffffff field.Count word

-- the same, or none where it may be any
abbrev pub is_any : List ℕ → Bool
is_any word = bytes_eq word (codes "any")

unfoldable pub count_or_any_in : List ℕ → Result (Option ℕ) Field
count_or_any_in word = if is_any word then Ok None else (nas_count_in word >>= λ n. Ok (Some n))

-- a cell: a PCI up to 503 and an EARFCN-DL up to 262143 (TS 36.331 6.3.4 and 6.4)
unfoldable pub cell_in : List ℕ → List ℕ → Result Place Field
cell_in pci earfcn = do
  p ← number_in 0 503 field.Pci pci
  e ← number_in 0 262143 field.Earfcn earfcn
  Ok (record { pci = p; earfcn = e })

-- DIRECTION
unfoldable pub direction_in : List ℕ → Result Dir Field
direction_in word =
    if bytes_eq word (codes "uplink") then Ok Up
    else if bytes_eq word (codes "downlink") then Ok Down
    else Err field.Direction

-- octets in pairs of hex digits of either case, or `-` for none
abbrev pub written_octets : List ℕ → Option (List ℕ)
written_octets word =
    if bytes_eq word (codes "-") then Some []
    else if length word == 0 then None
    else result_ok (decode_of word)

unfoldable pub octets_in : Field → List ℕ → Result (List ℕ) Field
octets_in field word = ok_or (written_octets word) field

-- an encryption and an integrity algorithm by the digit of their identity, 0 to 3
abbrev pub eea_of_digit : ℕ → Option Ciphering
eea_of_digit digit =
    if digit == 48 then Some Eea0 else if digit == 49 then Some Eea1
    else if digit == 50 then Some Eea2 else if digit == 51 then Some Eea3 else None

abbrev pub eia_of_digit : ℕ → Option Integrity
eia_of_digit digit =
    if digit == 48 then Some Eia0 else if digit == 49 then Some Eia1
    else if digit == 50 then Some Eia2 else if digit == 51 then Some Eia3 else None

abbrev pub both_of : Option Ciphering → Option Integrity → Result Algorithms Field
both_of (Some eea) (Some eia) = Ok (record { eea = eea; eia = eia })
both_of eea eia = Err field.Eea

-- both: E, where integrity is 128-EIA2, or E/I
unfoldable pub algorithms_in : List ℕ → Result Algorithms Field
algorithms_in (e ∷ []) = both_of (eea_of_digit e) (Some Eia2)
algorithms_in (e ∷ slash ∷ i ∷ []) =
    if slash == 47 then both_of (eea_of_digit e) (eia_of_digit i) else Err field.Eea
algorithms_in word = Err field.Eea

-- the same, or none where they may be any
unfoldable pub algorithms_or_any_in : List ℕ → Result (Option Algorithms) Field
algorithms_or_any_in word = if is_any word then Ok None else (algorithms_in word >>= λ a. Ok (Some a))

-- an integrity algorithm alone
abbrev pub eia_by : Option Integrity → Result Integrity Field
eia_by (Some eia) = Ok eia
eia_by None = Err field.Eia

unfoldable pub eia_in : List ℕ → Result Integrity Field
eia_in (digit ∷ []) = eia_by (eia_of_digit digit)
eia_in word = Err field.Eia

-- whether a last field is any
unfoldable pub is_last_any : ℕ → List (List ℕ) → Bool
is_last_any place fields = nat_lt place (length fields) && is_any (word place fields)

-- the integrity algorithm of a last field, or 128-EIA2 where there is none
unfoldable pub last_eia : ℕ → List (List ℕ) → Result Integrity Field
last_eia place fields = if nat_lt place (length fields) then eia_in (word place fields) else Ok Eia2

-- the sequence numbers of a data radio bearer by their bits
unfoldable pub numbers_in : List ℕ → Result Numbers Field
numbers_in word = ok_or (option_and_then numbers_of (number_of word)) field.Bits

-- octets, so many at the most
abbrev pub if_few : ℕ → Field → List ℕ → Result (List ℕ) Field
if_few most field octets = if nat_lt most (length octets) then Err field else Ok octets

unfoldable pub few_octets_in : ℕ → Field → List ℕ → Result (List ℕ) Field
few_octets_in most field word = octets_in field word >>= if_few most field
