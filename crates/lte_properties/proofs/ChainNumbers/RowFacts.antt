-- What a station's row needs of the key that it read.
use Rattle.std.specs.Prelude.{ℕ, ◌≤◌, Option, Some, None, ⊤}
use Rattle.lte_machine.specs.StationState.{Station, Context}
use Rattle.lte_machine.specs.StationRows.{RecordRow, PairTaken, PreparedByS1, PreparedByX2, StationRow, OfRecord}
use Rattle.key_model.specs.{Term.Term, HandoverTable.NumberedKey}
use Rattle.lte_properties.specs.ChainBelow.{EachNumber, IsUnder}

-- what a row needs of the key of the record that it read. A pair that is taken is above each number of the context, and
-- at most the core's number
abbrev pub PairNeeds : (ℕ → ℕ) → ℕ → Option (Context Term ℕ) → Type 0
PairNeeds top n None = ⊤
PairNeeds top n (Some c) = EachNumber (IsUnder n) c × (n ≤ top c.conn)

abbrev pub RecordNeeds : (ℕ → ℕ) → Station Term ℕ → RecordRow → NumberedKey Term ℕ → Type 0
RecordNeeds top s (PairTaken conn origin) key = PairNeeds top key.number s.context
RecordNeeds top s (PreparedByS1 w) key = key.number ≤ top w.conn
RecordNeeds top s (PreparedByX2 w) key = key.number ≤ top w.conn
RecordNeeds top s other key = ⊤

abbrev pub RowNeeds : (ℕ → ℕ) → Station Term ℕ → StationRow → Option (NumberedKey Term ℕ) → Type 0
RowNeeds top s row None = ⊤
RowNeeds top s (OfRecord row) (Some key) = RecordNeeds top s row key
RowNeeds top s other (Some key) = ⊤
