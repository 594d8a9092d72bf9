-- The fields of a body, read at a place. An error is the place of the first bad octet: where octets are
-- wanting, the end.
use Rattle.std.specs.Prelude.{◌≡◌, ℕ, ◌+◌, ◌-◌, ◌^◌, ◌≤◌, ◌||◌, nat_lt, if◌then◌else◌, List, [], ◌∷◌, length, drop, Result, Ok, Err}
use Rattle.std.specs.Option.{ok_or}
use Rattle.rec_base.specs.BigEndian.{number_at, field_at, octets_of}
use Rattle.rec_base.specs.Ranges.{Is32Bits}
use Rattle.alg_choice.specs.{declared.caps.Caps.Caps, Caps.IsCaps}
use Rattle.annex_a_keys.specs.Cell.{Place, greatest_pci, greatest_earfcn, IsCell}
use Rattle.rec_fields.specs.{Field.◌>>=◌, Layout.Field, Layout.Ending, Spelled.cell_octets}
use Rattle.role_wire.specs.Codes.{Codes, coded}

-- a number of this width, from `low` to `high`
unfoldable pub number_in : ℕ → ℕ → List ℕ → ℕ → ℕ → Result ℕ ℕ
number_in low high octets place width =
    if nat_lt (length octets) (place + width) then Err (length octets)
    else (let n = number_at octets place width in if nat_lt n low || nat_lt high n then Err place else Ok n)

-- an octet that stands for a value
unfoldable pub coded_at : {A : Type 0} → Codes A → List ℕ → ℕ → Result A ℕ
coded_at codes octets place =
    if nat_lt (length octets) (place + 1) then Err (length octets)
    else ok_or (coded codes (number_at octets place 1)) place

-- a key of 32 octets
unfoldable pub key_at : List ℕ → ℕ → Result (List ℕ) ℕ
key_at octets place = if nat_lt (length octets) (place + 32) then Err (length octets) else Ok (field_at octets place 32)

-- the capabilities of a phone (TS 24.301 9.9.3.36)
unfoldable pub caps_at : List ℕ → ℕ → Result Caps ℕ
caps_at octets place =
    if nat_lt (length octets) (place + 2) then Err (length octets)
    else Ok (record { eea = number_at octets place 1; eia = number_at octets (place + 1) 1 })

-- PCI and EARFCN-DL, two fields (TS 36.331 6.3.4, TS 33.401 A.5)
unfoldable pub cell_at : List ℕ → ℕ → Result Place ℕ
cell_at octets place = do
  pci ← number_in 0 greatest_pci octets place 2
  earfcn ← number_in 0 greatest_earfcn octets (place + 2) 4
  Ok (record { pci = pci; earfcn = earfcn })

-- what stands to the end, at most so many octets
unfoldable pub rest_at : ℕ → List ℕ → ℕ → Result (List ℕ) ℕ
rest_at most octets place = if nat_lt (place + most) (length octets) then Err (place + most) else Ok (drop place octets)

-- the body ends here
unfoldable pub ends_at : List ℕ → ℕ → Result (Unit {0}) ℕ
ends_at octets place = if nat_lt place (length octets) then Err place else Ok tt

-- an octet, at most this
abbrev pub small : ℕ → Field ℕ ℕ
small high = record { read = λ octets place. number_in 0 high octets place 1; spell = λ n. n ∷ []; width = 1; Fits = λ n. n ≤ high }

-- a number of four octets, at least this
abbrev pub word : ℕ → Field ℕ ℕ
word low = record {
  read = λ octets place. number_in low (2 ^ 32 - 1) octets place 4;
  spell = octets_of 4;
  width = 4;
  Fits = λ n. (low ≤ n) × Is32Bits n;
}

-- a value of a table, by its octet
abbrev pub code : {A : Type 0} → (A → ℕ) → (A → Type 0) → Codes A → Field ℕ A
code octet Fits codes = record { read = coded_at codes; spell = λ x. octet x ∷ []; width = 1; Fits = Fits }

-- any value of a table
abbrev pub listed : {A : Type 0} → (A → ℕ) → Codes A → Field ℕ A
listed octet codes = code octet (λ x. Unit {0}) codes

-- a key of 32 octets
abbrev pub key : Field ℕ (List ℕ)
key = record { read = key_at; spell = λ x. x; width = 32; Fits = λ x. length x ≡ 32 }

-- the capabilities of a phone
abbrev pub caps : Field ℕ Caps
caps = record { read = caps_at; spell = λ x. x.eea ∷ x.eia ∷ []; width = 2; Fits = IsCaps }

-- a cell
abbrev pub cell : Field ℕ Place
cell = record { read = cell_at; spell = cell_octets; width = 6; Fits = IsCell }

-- a body ends behind its last field
abbrev pub ending : Ending ℕ
ending = record { none = ends_at; rest = rest_at }
