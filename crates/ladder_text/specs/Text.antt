-- What a ladder text is: which lines it has, and which line is the first bad one.
use Rattle.std.specs.Prelude.{◌≡◌, ℕ, ◌+◌, ◌^◌, ◌==◌, nat_lt, nat_le, ◌&&◌, ◌||◌, not, Bool, true, false, if◌then◌else◌, Option, Some, None, Result, Ok, Err, List, [], ◌∷◌, ◌++◌, length, codes, slice_get}
use Rattle.std.specs.{List.fold, List.list_any, Str.bytes_eq}
use Rattle.std.specs.Option.{option_map, option_map_or, option_and_then}
use Rattle.text_lines.specs.Lines.{lines_of}
use Rattle.text_lines.specs.Words.{words_of, number_of, hex_octets}
use Rattle.annex_a_keys.specs.Cell.{Place, greatest_pci, greatest_earfcn}
use Rattle.annex_a_keys.specs.{AlgType.distinguisher, declared.alg_type.AlgType.AlgType}
use Rattle.annex_a_keys.specs.declared.alg_type.AlgType.TheVariants.{NasEnc, NasInt, RrcEnc, RrcInt, UpEnc}
use Rattle.key_terms.specs.{declared.row.Row.Row, Ladder.row}
use Rattle.ladder_text.specs.declared.line.LadderLine.{LadderLine}
use Rattle.ladder_text.specs.declared.line.LadderLine.TheVariants.{Root, Kenb, Nh, Star, Alg}

-- the row that a word names
abbrev pub row_of : List ℕ → Option Row
row_of word = option_map row (number_of word)

-- an uplink NAS COUNT, of 24 bits (TS 24.301 4.4.3.1)
abbrev pub count_of : List ℕ → Option ℕ
count_of word = option_and_then (λ count. if nat_lt count (2 ^ 24) then Some count else None) (number_of word)

-- a cell: a PCI up to 503 and an EARFCN-DL up to 262143 (TS 36.331 6.3.4 and 6.4)
abbrev pub cell_of : List ℕ → List ℕ → Option Place
cell_of pci earfcn = option_and_then (λ p. option_and_then (λ e.
    if nat_le p greatest_pci && nat_le e greatest_earfcn then Some (record { pci = p; earfcn = e }) else None) (number_of earfcn)) (number_of pci)

-- an algorithm type, by its distinguisher (TS 33.401 table A.7-1)
abbrev pub type_numbered : ℕ → Option AlgType
type_numbered n =
    if n == 1 then Some NasEnc
    else (if n == 2 then Some NasInt
    else (if n == 3 then Some RrcEnc
    else (if n == 4 then Some RrcInt
    else (if n == 5 then Some UpEnc
    else None))))

abbrev pub type_of : List ℕ → Option AlgType
type_of word = option_and_then type_numbered (number_of word)

-- the algorithms of a type, by their identities: 128-EIA2 for integrity, EEA0 and 128-EEA2 for encryption
-- (TS 33.401 5.1.3.2 and 5.1.4.2)
abbrev pub takes : AlgType → ℕ → Bool
takes NasInt id = id == 2
takes RrcInt id = id == 2
takes encryption id = id == 0 || id == 2

-- the identity of an algorithm of this type
abbrev pub identity_of : AlgType → List ℕ → Option ℕ
identity_of type word = option_and_then (λ id. if takes type id then Some id else None) (number_of word)

-- the line of two words, of three and of four
unfoldable pub line_of_two : List ℕ → List ℕ → Option LadderLine
line_of_two name key = if bytes_eq name (codes "root") then option_map Root (hex_octets 32 key) else None

unfoldable pub line_of_three : List ℕ → List ℕ → List ℕ → Option LadderLine
line_of_three name r word =
    if bytes_eq name (codes "kenb") then option_and_then (λ root. option_map (Kenb root) (count_of word)) (row_of r)
    else if bytes_eq name (codes "nh") then option_and_then (λ root. option_map (Nh root) (row_of word)) (row_of r)
    else None

unfoldable pub line_of_four : List ℕ → List ℕ → List ℕ → List ℕ → Option LadderLine
line_of_four name r first second =
    if bytes_eq name (codes "star") then option_and_then (λ key. option_map (Star key) (cell_of first second)) (row_of r)
    else if bytes_eq name (codes "alg") then
    option_and_then
    (λ key. option_and_then (λ type. option_map (Alg key type) (identity_of type second)) (type_of first))
    (row_of r)
    else None

-- the line that these words are, whatever rows there are
abbrev pub line_of : List (List ℕ) → Option LadderLine
line_of (name ∷ key ∷ []) = line_of_two name key
line_of (name ∷ r ∷ word ∷ []) = line_of_three name r word
line_of (name ∷ r ∷ first ∷ second ∷ []) = line_of_four name r first second
line_of other = None

-- the same derivation from the same rows, or the same root
abbrev pub same : LadderLine → LadderLine → Bool
same (Root key) (Root key') = bytes_eq key key'
same (Kenb root count) (Kenb root' count') = root.0 == root'.0 && count == count'
same (Nh root sync) (Nh root' sync') = root.0 == root'.0 && sync.0 == sync'.0
same (Star key cell) (Star key' cell') = key.0 == key'.0 && (cell.pci == cell'.pci && cell.earfcn == cell'.earfcn)
same (Alg key type id) (Alg key' type' id') = key.0 == key'.0 && (distinguisher type == distinguisher type' && id == id')
same line other = false

-- a root
abbrev pub is_root : LadderLine → Bool
is_root (Root key) = true
is_root other = false

-- a KeNB or an NH of this root, which can be the SYNC-input of the next NH (TS 33.401 A.4)
abbrev pub is_hop_of : Row → LadderLine → Bool
is_hop_of root (Kenb root' count) = root.0 == root'.0
is_hop_of root (Nh root' sync) = root.0 == root'.0
is_hop_of root other = false

-- a key from which KeNB* is derived (TS 33.401 A.5)
abbrev pub has_star : LadderLine → Bool
has_star (Root key) = false
has_star (Alg key type id) = false
has_star other = true

-- a KeNB, or a KeNB* that becomes the KeNB of its cell (TS 33.401 7.2.8.1.1)
abbrev pub is_kenb : LadderLine → Bool
is_kenb (Kenb root count) = true
is_kenb (Star key cell) = true
is_kenb other = false

-- a key from which a key of this algorithm type is derived: KASME for those of NAS, KeNB for the others (TS 33.401 A.7)
abbrev pub has_alg : AlgType → LadderLine → Bool
has_alg NasEnc line = is_root line
has_alg NasInt line = is_root line
has_alg other line = is_kenb line

-- the row stands and passes a test
abbrev pub stands_as : (LadderLine → Bool) → List LadderLine → Row → Bool
stands_as test rows r = option_map_or test (slice_get rows r.0) false

-- what a line needs of the rows before it
abbrev pub meets : List LadderLine → LadderLine → Bool
meets rows (Root key) = not (list_any (λ line. same line (Root key)) rows)
meets rows (Kenb root count) = stands_as is_root rows root
meets rows (Nh root sync) = stands_as is_root rows root && stands_as (is_hop_of root) rows sync
meets rows (Star key cell) = stands_as has_star rows key
meets rows (Alg key type id) = stands_as (has_alg type) rows key

-- a line makes a new row where no row is the same derivation from the same rows
abbrev pub with_row : List LadderLine → LadderLine → List LadderLine
with_row rows line = if list_any (λ earlier. same earlier line) rows then rows else rows ++ line ∷ []

-- the rows that lines make, whatever their values are
abbrev pub rows_of : List LadderLine → List LadderLine
rows_of lines = fold with_row [] lines

-- the next line of a ladder text, if these words are a good one
abbrev pub next_line : List LadderLine → List (List ℕ) → Option LadderLine
next_line so_far words =
    if nat_lt (length so_far) 4096 then option_and_then (λ line. if meets (rows_of so_far) line then Some line else None) (line_of words)
    else None

-- the lines that follow so many, or the number of the first bad one, counted from 1
abbrev pub reading_from : List LadderLine → List (List ℕ) → Result (List LadderLine) ℕ
reading_from so_far [] = Ok so_far
reading_from so_far (text ∷ texts) =
    option_map_or (λ line. reading_from (so_far ++ line ∷ []) texts) (next_line so_far (words_of text))
    (Err (length so_far + 1))

-- what a text reads as: its ladder lines, or the number of its first bad line
unfoldable pub reading_of : List ℕ → Result (List LadderLine) ℕ
reading_of octets = reading_from [] (lines_of octets)

-- each line meets its need, after these rows
abbrev pub AreGood : List LadderLine → List LadderLine → Type 0
AreGood rows [] = Unit {0}
AreGood rows (line ∷ lines) = (meets rows line ≡ true) × AreGood (with_row rows line) lines
