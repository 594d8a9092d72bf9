-- How the rows of the ladder stand for the lines of the text.
use Rattle.std.specs.Prelude.{◌≡◌, ℕ, ◌<◌, true, Some, Result, Ok, Err, List, length, map, slice_get}
use Rattle.annex_a_keys.specs.AlgType.{distinguisher}
use Rattle.hmac_kdf.specs.declared.input.KdfInput.TheVariants as input
use Rattle.key_terms.specs.{declared.ladder.LadderFault.LadderFault, declared.row.LadderRow.LadderRow, declared.row.Origin.Origin, declared.row.Row.Row, Ladder.row, Ladder.unheld}
use Rattle.key_terms.specs.declared.ladder.LadderFault.TheVariants as fault
use Rattle.key_terms.specs.declared.row.Origin.TheVariants as origin
use Rattle.ladder_text.specs.{declared.line.LadderLine.LadderLine, declared.asked.Asked.Asked, Text.meets}
use Rattle.ladder_text.specs.declared.line.LadderLine.TheVariants.{Root, Kenb, Nh, Star, Alg}
use Rattle.hmac_kdf.specs.Kdf.{IsKdfInput}
use Rattle.ladder_text.specs.declared.asked.Asked.TheVariants as asked
use Rattle.ladder_text.specs.Report.{KeyRow, key_at, derived_in, octets_in, Place, Again, Anew, Taken}

-- the origin of a line's row in the ladder
abbrev pub origin_in : List KeyRow → LadderLine → Origin
origin_in rows (Root key) = origin.Root
origin_in rows (Kenb root count) = origin.From root (input.Kenb count)
origin_in rows (Nh root sync) = origin.From root (input.Nh (key_at rows sync))
origin_in rows (Star key cell) = origin.From key (input.Star cell.pci cell.earfcn)
origin_in rows (Alg key type id) = origin.From key (input.Alg (distinguisher type) id)

-- the ladder of these rows
abbrev pub ladder_of : List KeyRow → List LadderRow
ladder_of rows = map (λ r. unheld (origin_in rows r.line) r.octets) rows

-- a line names rows that stand
abbrev pub Refers : List KeyRow → LadderLine → Type 0
Refers rows (Root key) = Unit {0}
Refers rows (Kenb root count) = root.0 < length rows
Refers rows (Nh root sync) = (root.0 < length rows) × (sync.0 < length rows)
Refers rows (Star key cell) = key.0 < length rows
Refers rows (Alg key type id) = key.0 < length rows

-- the ladder stands for these rows, each of which has the octets of its line
pub record StandsFor (rows : List KeyRow) (ladder : List LadderRow) : Type 0 where
  pub is : ladder ≡ ladder_of rows
  pub octets : (k : ℕ) (r : KeyRow) → slice_get rows k ≡ Some r → r.octets ≡ octets_in rows r.line
  pub refers : (k : ℕ) (r : KeyRow) → slice_get rows k ≡ Some r → Refers rows r.line

-- the rows of a ladder for which a line's need is met
pub record Awaits (ladder : List LadderRow) (line : LadderLine) : Type 0 where
  pub rows : List KeyRow
  pub stand : StandsFor rows ladder
  pub met : meets (map (λ r. r.line) rows) line ≡ true

-- what a line asks for: a root its octets, any other line its derivation, whose input is in range
abbrev pub Asks : List KeyRow → LadderLine → Asked → Type 0
Asks rows line (asked.Root octets) = line ≡ Root octets
Asks rows line (asked.Derivation made) = (derived_in rows line ≡ Some made) × IsKdfInput made.input

abbrev pub IsInput : Asked → Type 0
IsInput (asked.Root octets) = Unit {0}
IsInput (asked.Derivation made) = IsKdfInput made.input

-- the rows of a ladder, and a line whose need is met and that asks for this
pub record IsAsked (ladder : List LadderRow) (what : Asked) : Type 0 where
  pub rows : List KeyRow
  pub line : LadderLine
  pub stand : StandsFor rows ladder
  pub met : meets (map (λ r. r.line) rows) line ≡ true
  pub asks : Asks rows line what

-- the ladder's answer to a line that finds this place
abbrev pub answer_at : Place → List KeyRow → LadderLine → Result Row LadderFault
answer_at (Again k) rows line = Ok (row k)
answer_at Anew rows line = Ok (row (length rows))
answer_at (Taken k) rows line = Err (fault.Coincidence (row k) (origin_in rows line))
