-- The fields of a record of NAS, RRC, S1 or X2. Its size is judged first, and then its fields from left to right.
use Rattle.std.specs.Prelude.{◌≡◌, ℕ, ◌+◌, ◌≤◌, ◌<◌, List, [], ◌∷◌, length, get_or, Result, Ok}
use Rattle.rec_base.specs.{BigEndian.field_at, BigEndian.octets_of, Ranges.IsNumber, declared.faults.RecFault.RecFault}
use Rattle.rec_base.specs.declared.faults.RecFault.TheVariants.{Short, BadKind}
use Rattle.alg_choice.specs.{Caps.IsCaps, declared.algs.Algs.Algs, declared.caps.Caps.Caps}
use Rattle.annex_a_keys.specs.Cell.{Place, IsCell}
use Rattle.rec_fields.specs.Field.{◌>>=◌, of_size, number_in, from_one_at, algs_at, caps_at, cell_at, rest_at}
use Rattle.rec_fields.specs.Spelled.{algs_octet, cell_octets}
use Rattle.rec_fields.specs.Layout.{Field, Ending, Layout, Rest, Values, read_by, width_of, Readers, read_rows}

-- an octet from `low` to `high`
abbrev pub octet : ℕ → ℕ → Field RecFault ℕ
octet low high = record {
  read = λ octets place. number_in low high octets place 1;
  spell = λ n. n ∷ [];
  width = 1;
  Fits = λ n. (low ≤ n) × (n ≤ high);
}

-- an octet of at most `high`
abbrev pub octet_to : ℕ → Field RecFault ℕ
octet_to high = record (octet 0 high) { Fits = λ n. n ≤ high }

-- a number of 32 bits, at least 1
abbrev pub number : Field RecFault ℕ
number = record { read = from_one_at; spell = octets_of 4; width = 4; Fits = IsNumber }

-- a cell
abbrev pub cell : Field RecFault Place
cell = record { read = cell_at; spell = cell_octets; width = 6; Fits = IsCell }

-- the chosen algorithms
abbrev pub algorithms : Field RecFault Algs
algorithms = record { read = algs_at; spell = λ algs. algs_octet algs ∷ []; width = 1; Fits = λ algs. Unit {0} }

-- the capabilities of a phone
abbrev pub capabilities : Field RecFault Caps
capabilities = record {
  read = λ octets place. Ok (caps_at octets place);
  spell = λ caps. caps.eea ∷ caps.eia ∷ [];
  width = 2;
  Fits = IsCaps;
}

-- capabilities, any two octets
abbrev pub any_capabilities : Field RecFault Caps
any_capabilities = record capabilities { Fits = λ caps. Unit {0} }

-- a key of 32 octets
abbrev pub key : Field RecFault (List ℕ)
key = record {
  read = λ octets place. Ok (field_at octets place 32);
  spell = λ k. k;
  width = 32;
  Fits = λ k. (length k ≡ 32) × ((i : ℕ) → get_or k i 0 < 256);
}

-- nothing is left to judge at the end of a record that has the size of its layout
abbrev pub sized : Ending RecFault
sized = record { none = λ octets place. Ok tt; rest = rest_at }

-- the size of a record that has a kind and these fields
abbrev pub size_by : Layout RecFault → List ℕ → Result (Unit {0}) RecFault
size_by (Rest most) octets = Ok tt
size_by l octets = of_size (1 + width_of l) octets

-- the record of a layout, or the first fault
abbrev pub read_layout : {A : Type 0} → (l : Layout RecFault) → (Values l → A) → List ℕ → Result A RecFault
read_layout l make octets = size_by l octets >>= λ size. read_by sized l octets 1 (λ vs. Ok (make vs))

-- the record that begins with its kind: no octet is Short, and then an unknown kind is BadKind
abbrev pub read_kinds : {A : Type 0} → Readers RecFault A → List ℕ → Result A RecFault
read_kinds rows octets = read_rows Short BadKind rows octets
