-- What is written for a ladder text.
use Rattle.std.specs.Prelude.{◌≡◌, ◌≢◌, ℕ, ◌+◌, Option, Some, None, Result, Ok, Err, List, [], ◌∷◌, ◌++◌, length, codes, slice_get, position}
use Rattle.std.specs.{Fmt.decimal, Option.option_map_or, Str.bytes_eq}
use Rattle.hex.specs.Hex.{encode_lower}
use Rattle.edge_io.specs.{Told.Told, Cause.Rose}
use Rattle.edge_io.specs.Octets.{Grows, GrowsByPrefix, GrowsByProperPrefix}
use Rattle.hmac_kdf.specs.{declared.input.KdfInput.KdfInput, Kdf.kdf_string}
use Rattle.hmac_kdf.specs.declared.input.KdfInput.TheVariants as input
use Rattle.annex_a_keys.specs.{AlgType.distinguisher, Derived.derivation, declared.derived.Derived.Derived}
use Rattle.key_terms.specs.declared.row.Row.{Row}
use Rattle.ladder_text.specs.{declared.line.LadderLine.LadderLine, declared.ending.Ending.Ending, declared.text.TextFault.TextFault, Text.same}
use Rattle.ladder_text.specs.declared.line.LadderLine.TheVariants.{Root, Kenb, Nh, Star, Alg}
use Rattle.ladder_text.specs.declared.ending.Ending.TheVariants.{Done, Memory, Refused, WriteFault, Coincidence}
use Rattle.ladder_text.specs.declared.text.TextFault.TheVariants as fault

-- a row of the ladder: the line that made it, and its octets
pub record KeyRow : Type 0 where
  pub line : LadderLine
  pub octets : List ℕ

-- the octets of a row
abbrev pub key_at : List KeyRow → Row → List ℕ
key_at rows r = option_map_or (λ row. row.octets) (slice_get rows r.0) []

-- the derivation that a line asks for; a root asks for none
abbrev pub derived_in : List KeyRow → LadderLine → Option Derived
derived_in rows (Root key) = None
derived_in rows (Kenb root count) = Some (derivation (key_at rows root) (input.Kenb count))
derived_in rows (Nh root sync) = Some (derivation (key_at rows root) (input.Nh (key_at rows sync)))
derived_in rows (Star key cell) = Some (derivation (key_at rows key) (input.Star cell.pci cell.earfcn))
derived_in rows (Alg key type id) = Some (derivation (key_at rows key) (input.Alg (distinguisher type) id))

-- the octets that a line stands for: a root's own, and what the derivation gives
abbrev pub octets_in : List KeyRow → LadderLine → List ℕ
octets_in rows (Root key) = key
octets_in rows line = option_map_or (λ made. made.out) (derived_in rows line) []

-- the word for a row's kind
abbrev pub kind_of : LadderLine → List ℕ
kind_of (Root key) = codes "root"
kind_of (Kenb root count) = codes "kenb"
kind_of (Nh root sync) = codes "nh"
kind_of (Star key cell) = codes "star"
kind_of (Alg key type id) = codes "alg"

-- a line of the output: the row's number, its kind and its octets
unfoldable pub row_text : ℕ → List ℕ → List ℕ → List ℕ
row_text k kind octets = decimal k ++ (codes " " ++ (kind ++ (codes " " ++ (encode_lower octets ++ codes "\n"))))

-- the coincidence of line n, a root, with row k
unfoldable pub root_coincidence_text : ℕ → ℕ → List ℕ
root_coincidence_text n k = decimal n ++ (codes " coincidence root " ++ (decimal k ++ codes "\n"))

-- the coincidence of line n with row k, by the key and the input that gave its octets again
unfoldable pub rows_coincidence_text : ℕ → ℕ → List ℕ → KdfInput → List ℕ
rows_coincidence_text n k key input =
    decimal n
    ++ (codes " coincidence rows "
    ++ (decimal k
    ++ (codes " " ++ (encode_lower key ++ (codes " " ++ (encode_lower (kdf_string input) ++ codes "\n"))))))

abbrev pub coincidence_text : ℕ → ℕ → Option Derived → List ℕ
coincidence_text n k None = root_coincidence_text n k
coincidence_text n k (Some made) = rows_coincidence_text n k made.key made.input

-- the refusal of a text whose first bad line has this number
unfoldable pub refusal_text : ℕ → List ℕ
refusal_text k = codes "refused line " ++ (decimal k ++ codes "\n")

-- where a line finds its row: the row of the same derivation, a new one at the end, or a row that
-- another derivation made and that has the octets
pub data Place : Type 0 where
  Again : ℕ → Place
  Anew : Place
  Taken : ℕ → Place

abbrev pub place_by_octets : List KeyRow → List ℕ → Place
place_by_octets rows octets = option_map_or Taken (position (λ row. bytes_eq row.octets octets) rows) Anew

abbrev pub place_in : List KeyRow → LadderLine → Place
place_in rows line = option_map_or Again (position (λ row. same row.line line) rows) (place_by_octets rows (octets_in rows line))

-- the rows after a line
abbrev pub rows_after : Place → List KeyRow → LadderLine → List KeyRow
rows_after Anew rows line = rows ++ record { line = line; octets = octets_in rows line } ∷ []
rows_after place rows line = rows

-- how the output ends where a line finds this place, if it ends there
abbrev pub ends_at : Place → Ending
ends_at (Taken k) = Coincidence
ends_at place = Done

-- what is written for line n
abbrev pub text_at : Place → List KeyRow → ℕ → LadderLine → List ℕ
text_at (Again k) rows n line = row_text k (kind_of line) (octets_in rows line)
text_at Anew rows n line = row_text (length rows) (kind_of line) (octets_in rows line)
text_at (Taken k) rows n line = coincidence_text n k (derived_in rows line)

-- what is written, and how it ends
pub record Output : Type 0 where
  pub text : List ℕ
  pub ends : Ending

-- a line's text and then the rest, of which there is none after a coincidence
abbrev pub then_rest : Place → List ℕ → Output → Output
then_rest (Taken k) line rest = record { text = line; ends = Coincidence }
then_rest place line rest = record { text = line ++ rest.text; ends = rest.ends }

-- the output for lines from the n-th on, after these rows
abbrev pub output_from : List KeyRow → ℕ → List LadderLine → Output
output_from rows n [] = record { text = []; ends = Done }
output_from rows n (line ∷ lines) =
    then_rest (place_in rows line) (text_at (place_in rows line) rows n line) (output_from (rows_after (place_in rows line) rows line) (n + 1) lines)

-- the output for what a text reads as
unfoldable pub output_of : Result (List LadderLine) ℕ → Output
output_of (Ok lines) = output_from [] 1 lines
output_of (Err k) = record { text = refusal_text k; ends = Refused }

-- an ending that says what was written
abbrev pub IsReported : Ending → Type 0
IsReported Done = Unit {0}
IsReported Refused = Unit {0}
IsReported Coincidence = Unit {0}
IsReported other = ⊥

-- what is so of one text at each ending, where `ends` says that it was written
abbrev pub TextAt : Ending → Ending → List ℕ → Told → Told → Type 0
TextAt Memory ends text out out' = Grows out.written out'.written []
TextAt WriteFault ends text out out' = Rose out.write_faults out'.write_faults × GrowsByProperPrefix out.written out'.written text
TextAt ending ends text out out' = (ending ≡ ends) × Grows out.written out'.written text

-- what is so of an output at each ending: it was written whole, or as far as memory and the sink went
abbrev pub Writes : Output → Ending → Told → Told → Type 0
Writes output Done out out' = (output.ends ≡ Done) × Grows out.written out'.written output.text
Writes output Refused out out' = (output.ends ≡ Refused) × Grows out.written out'.written output.text
Writes output Coincidence out out' = (output.ends ≡ Coincidence) × Grows out.written out'.written output.text
Writes output Memory out out' = GrowsByPrefix out.written out'.written output.text
Writes output WriteFault out out' = Rose out.write_faults out'.write_faults × GrowsByProperPrefix out.written out'.written output.text

-- Why no lines were read, and what is then answered: want of memory with nothing written, or the refusal of a bad line, which wants none.
abbrev pub Refuses : {A : Type 0} → Result A TextFault → Ending → Told → Told → Type 0
Refuses (Ok lines) ending out out' = ⊥
Refuses (Err fault.Memory) ending out out' = (ending ≡ Memory) × (out' ≡ out)
Refuses (Err (fault.BadLine k)) ending out out' =
    (ending ≢ Memory) × Writes (record { text = refusal_text k; ends = Refused }) ending out out'
