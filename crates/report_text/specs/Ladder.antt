-- The rows of the ladder in a report.
use Rattle.std.specs.Prelude.{ℕ, ◌+◌, Bool, true, false, Option, Some, None, List, [], ◌∷◌, ◌++◌, codes, unwrap_or, slice_get, slice_index_or}
use Rattle.std.specs.Fmt.{decimal}
use Rattle.hex.specs.Hex.{encode_lower}
use Rattle.hmac_kdf.specs.declared.input.KdfInput.{KdfInput}
use Rattle.hmac_kdf.specs.declared.input.KdfInput.TheVariants.{Kenb, Nh, Star, Alg}
use Rattle.key_terms.specs.{declared.row.LadderRow.LadderRow, declared.row.Row.Row, declared.row.Origin.Origin, Ladder.row_of}
use Rattle.key_terms.specs.declared.row.Origin.TheVariants.{Root, From}

-- a name with two or three numbers in parentheses
unfoldable pub of_two : List ℕ → ℕ → ℕ → List ℕ
of_two name a b = name ++ (codes "(" ++ (decimal a ++ (codes "," ++ (decimal b ++ codes ")"))))

unfoldable pub of_three : List ℕ → ℕ → ℕ → ℕ → List ℕ
of_three name a b c =
    name ++ (codes "(" ++ (decimal a ++ (codes "," ++ (decimal b ++ (codes "," ++ (decimal c ++ codes ")"))))))

-- the row with the octets of a SYNC-input
abbrev pub sync_row : List LadderRow → List ℕ → ℕ
sync_row rows sync = unwrap_or (row_of rows sync) 0

-- what a row was derived from: the row of the key, and then the input (TS 33.401 A.3, A.4, A.5, A.7)
abbrev pub input_text : List LadderRow → Row → KdfInput → List ℕ
input_text rows key (Kenb count) = of_two (codes "kenb") key.0 count
input_text rows key (Nh sync) = of_two (codes "nh") key.0 (sync_row rows sync)
input_text rows key (Star pci earfcn) = of_three (codes "star") key.0 pci earfcn
input_text rows key (Alg type id) = of_three (codes "alg") key.0 type id

abbrev pub form_text : List LadderRow → Origin → List ℕ
form_text rows Root = codes "root"
form_text rows (From key input) = input_text rows key input

-- of the row of this number, if it stands
abbrev pub form_in : List LadderRow → Option LadderRow → List ℕ
form_in rows None = []
form_in rows (Some row) = form_text rows row.origin

abbrev pub form_at : List LadderRow → ℕ → List ℕ
form_at rows k = form_in rows (slice_get rows k)

-- who holds the key: the phone, the core, stations 0 to 7, each behind a comma
abbrev pub if_held : Bool → List ℕ → List ℕ
if_held true name = name
if_held false name = []

abbrev pub station_text : LadderRow → ℕ → List ℕ → List ℕ
station_text row id name = if_held (slice_index_or row.stations id false) name

unfoldable pub each_holder : LadderRow → List ℕ
each_holder row =
    if_held row.phone (codes ",P") ++ (if_held row.core (codes ",C")
    ++ (station_text row 0 (codes ",S0") ++ (station_text row 1 (codes ",S1") ++ (station_text row 2 (codes ",S2")
    ++ (station_text row 3 (codes ",S3") ++ (station_text row 4 (codes ",S4") ++ (station_text row 5 (codes ",S5")
    ++ (station_text row 6 (codes ",S6") ++ station_text row 7 (codes ",S7")))))))))

-- without the first comma, or `-` where nobody holds it
abbrev pub without_comma : List ℕ → List ℕ
without_comma [] = codes "-"
without_comma (comma ∷ names) = names

-- the number of a row, its form, its octets and its holders
unfoldable pub row_head : List LadderRow → ℕ → LadderRow → List ℕ
row_head rows k row = codes "row " ++ (decimal k ++ (codes " " ++ (form_text rows row.origin ++ (codes " " ++ (encode_lower row.octets ++ codes " ")))))

abbrev pub row_text : List LadderRow → ℕ → LadderRow → List ℕ
row_text rows k row = row_head rows k row ++ (without_comma (each_holder row) ++ codes "\n")

-- the rows from row k on
abbrev pub rows_from : List LadderRow → ℕ → List LadderRow → List ℕ
rows_from rows k [] = []
rows_from rows k (row ∷ rest) = row_text rows k row ++ rows_from rows (k + 1) rest

-- the rows of a ladder
abbrev pub ladder_text : List LadderRow → List ℕ
ladder_text rows = rows_from rows 0 rows
