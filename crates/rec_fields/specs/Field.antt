-- What the field at a place reads as, or the fault of the record.
use Rattle.std.specs.Prelude.{ℕ, ◌+◌, ◌-◌, ◌^◌, ◌==◌, ◌||◌, nat_lt, if◌then◌else◌, List, length, drop, Result, Ok, Err}
use Rattle.rec_base.specs.{BigEndian.number_at, declared.faults.RecFault.RecFault}
use Rattle.rec_base.specs.declared.faults.RecFault.TheVariants.{Short, Long, BadField}
use Rattle.alg_choice.specs.declared.algs.Eea.TheVariants.{Eea0, Eea2}
use Rattle.alg_choice.specs.{declared.algs.Algs.Algs, declared.caps.Caps.Caps}
use Rattle.annex_a_keys.specs.Cell.{Place, greatest_pci, greatest_earfcn}

-- the first fault, from left to right
infixl 10 ◌>>=◌
abbrev pub ◌>>=◌ : {F A B : Type 0} → Result A F → (A → Result B F) → Result B F
(Ok x) >>= f = f x
(Err fault) >>= f = Err fault

-- fewer octets than the layout has, or more
unfoldable pub of_size : ℕ → List ℕ → Result (Unit {0}) RecFault
of_size size octets =
    if nat_lt (length octets) size then Err Short else (if nat_lt size (length octets) then Err Long else Ok tt)

-- a number of this width, from `low` to `high`
unfoldable pub number_in : ℕ → ℕ → List ℕ → ℕ → ℕ → Result ℕ RecFault
number_in low high octets place width =
    let n = number_at octets place width in
    if nat_lt n low || nat_lt high n then Err (BadField place) else Ok n

-- a station: 0 to 7
abbrev pub station_at : List ℕ → ℕ → Result ℕ RecFault
station_at octets place = number_in 0 7 octets place 1

-- NCC, of three bits (TS 36.331 6.3.3)
abbrev pub ncc_at : List ℕ → ℕ → Result ℕ RecFault
ncc_at octets place = number_in 0 7 octets place 1

-- a number of 32 bits, at least 1
abbrev pub from_one_at : List ℕ → ℕ → Result ℕ RecFault
from_one_at octets place = number_in 1 (2 ^ 32 - 1) octets place 4

-- EEA0 or 128-EEA2, with 128-EIA2 (TS 24.301 9.9.3.23)
unfoldable pub algs_at : List ℕ → ℕ → Result Algs RecFault
algs_at octets place =
    let n = number_at octets place 1 in
    if n == 0x02 then Ok (record { eea = Eea0 }) else (if n == 0x22 then Ok (record { eea = Eea2 }) else Err (BadField place))

-- EEA0 to EEA7, and EIA0 to EIA7 (TS 24.301 9.9.3.36)
unfoldable pub caps_at : List ℕ → ℕ → Caps
caps_at octets place = record { eea = number_at octets place 1; eia = number_at octets (place + 1) 1 }

-- PCI in two octets and EARFCN-DL in four, each in its range (TS 36.331 6.3.4 and 6.4)
unfoldable pub cell_at : List ℕ → ℕ → Result Place RecFault
cell_at octets place = do
  pci ← number_in 0 greatest_pci octets place 2
  earfcn ← number_in 0 greatest_earfcn octets (place + 2) 4
  Ok (record { pci = pci; earfcn = earfcn })

-- what stands from a place to the end, at most so many octets
unfoldable pub rest_at : ℕ → List ℕ → ℕ → Result (List ℕ) RecFault
rest_at most octets place = if nat_lt (place + most) (length octets) then Err Long else Ok (drop place octets)

-- the text behind the kind, of at most 200 octets
abbrev pub text_of : List ℕ → Result (List ℕ) RecFault
text_of octets = rest_at 200 octets 1
