-- Which station can derive the key of which row by itself.
use Rattle.std.specs.Prelude.{◌≡◌, ℕ, Bool, false, IsTrue, List, Option, Some, None, slice_get, slice_index_or}
use Rattle.key_model.specs.{Derivable.Derivable, Term.Term}
use Rattle.key_terms.specs.{declared.row.LadderRow.LadderRow, declared.row.Origin.Origin}
use Rattle.key_terms.specs.declared.row.Origin.TheVariants.{Root, From}
use Rattle.key_audit.specs.Terms.{term_at}

-- whether a station holds the key of a row
abbrev pub held_by : ℕ → LadderRow → Bool
held_by station row = slice_index_or row.stations station false

abbrev pub held_in : ℕ → Option LadderRow → Bool
held_in station None = false
held_in station (Some row) = held_by station row

abbrev pub holds : List LadderRow → ℕ → ℕ → Bool
holds rows station k = held_in station (slice_get rows k)

-- the keys of the rows that it holds
abbrev pub HeldTerms : List LadderRow → ℕ → Term → Type 0
HeldTerms rows station t = (k : ℕ) × IsTrue (holds rows station k) × (t ≡ term_at rows k)

-- it can derive the key of row k from them, by the derivations of TS 33.401 Annex A
abbrev pub CanDerive : List LadderRow → ℕ → ℕ → Type 0
CanDerive rows station k = Derivable (HeldTerms rows station) (term_at rows k)

-- the row of the key from which a row was derived
abbrev pub key_of : Origin → Option ℕ
key_of Root = None
key_of (From key input) = Some key.0

abbrev pub key_in : Option LadderRow → Option ℕ
key_in None = None
key_in (Some row) = key_of row.origin

abbrev pub key_row : List LadderRow → ℕ → Option ℕ
key_row rows k = key_in (slice_get rows k)

-- the nearest row that a station holds on the way up from row k: k itself, or else the nearest from the row of its key
pub data IsNearest (rows : List LadderRow) (station : ℕ) : ℕ → ℕ → Type 0 where
  by_itself : {k : ℕ} → IsTrue (holds rows station k) → IsNearest rows station k k
  by_key : {k key from : ℕ} → holds rows station k ≡ false → key_row rows k ≡ Some key → IsNearest rows station key from → IsNearest rows station k from
