-- The ladder of keys: its rows stand for the derivations of TS 33.401 Annex A that were made, in the
-- order of their first making. Roots are the KASME that no derivation made.
use Rattle.std.specs.Prelude.{◌≡◌, ◌≢◌, ℕ, zero, suc, ◌<◌, ◌≤◌, ◌^◌, true, false, Option, Some, IsSome, List, [], ◌∷◌, length, map, take, replicate, unwrap_or, slice_get, position}
use Rattle.std.specs.{Option.option_map, Str.bytes_eq}
use Rattle.hmac_kdf.specs.{declared.input.KdfInput.KdfInput, Kdf.kdf}
use Rattle.hmac_kdf.specs.declared.input.KdfInput.TheVariants.{Kenb, Nh, Star, Alg}
use Rattle.annex_a_keys.specs.declared.derived.Derived.{Derived}
use Rattle.key_terms.specs.{declared.ladder.LadderFault.LadderFault, declared.row.Holder.Holder, declared.row.Row.Row, declared.row.LadderRow.LadderRow, declared.row.Origin.Origin}
use Rattle.key_terms.specs.declared.ladder.LadderFault.TheVariants.{Memory, RepeatedRoot, Coincidence}
use Rattle.std.proofs.Math.ListN.{set}
use Rattle.key_terms.specs.declared.row.Holder.TheVariants.{Phone, Core, Station}
use Rattle.key_terms.specs.declared.row.Origin.TheVariants.{Root, From}

-- what a ladder holds, and for how many rows more it has room
pub record Rows : Type 0 where
  pub rows : List LadderRow
  pub spare : ℕ

-- the row of this number
abbrev pub row : ℕ → Row
row k = record { 0 = k }

-- a row that nobody holds
abbrev pub unheld : Origin → List ℕ → LadderRow
unheld origin octets = record { origin = origin; octets = octets; phone = false; core = false; stations = replicate 8 false }

-- the phone, the core, or a station of number 0 to 7
abbrev pub IsHolder : Holder → Type 0
IsHolder Phone = Unit {0}
IsHolder Core = Unit {0}
IsHolder (Station number) = number ≤ 7

-- the row, held by this one too
abbrev pub held_by : Holder → LadderRow → LadderRow
held_by Phone r = record r { phone = true }
held_by Core r = record r { core = true }
held_by (Station number) r = record r { stations = set r.stations number true }

-- the rows, the one of this number held by this one too
abbrev pub holding : Holder → ℕ → List LadderRow → List LadderRow
holding who k [] = []
holding who zero (r ∷ rows) = held_by who r ∷ rows
holding who (suc k) (r ∷ rows) = r ∷ holding who k rows

-- the octets of the row of this number, if it stands
abbrev pub octets_at : List LadderRow → ℕ → Option (List ℕ)
octets_at rows k = option_map (λ r. r.octets) (slice_get rows k)

-- its origin
abbrev pub origin_at : List LadderRow → ℕ → Option Origin
origin_at rows k = option_map (λ r. r.origin) (slice_get rows k)

-- the number of the first row with these octets, if there is one
abbrev pub row_of : List LadderRow → List ℕ → Option ℕ
row_of rows octets = position (λ r. bytes_eq r.octets octets) rows

-- the origin of a derivation: the row of its key, and its input
abbrev pub origin_of : List LadderRow → Derived → Origin
origin_of rows made = From (row (unwrap_or (row_of rows made.key) 0)) made.input

-- no two rows have the same octets: the first row with a row's octets is that row
abbrev pub AreApart : List LadderRow → Type 0
AreApart rows = (k : ℕ) (octets : List ℕ) → octets_at rows k ≡ Some octets → row_of rows octets ≡ Some k

-- KeNB and NH are derived from a root (TS 33.401 A.3 and A.4)
abbrev pub HasRoot : List LadderRow → ℕ → KdfInput → Type 0
HasRoot rows key (Kenb count) = origin_at rows key ≡ Some Root
HasRoot rows key (Nh sync) = origin_at rows key ≡ Some Root
HasRoot rows key (Star pci earfcn) = Unit {0}
HasRoot rows key (Alg kind identity) = Unit {0}

-- the SYNC-input of an NH is a row's octets (TS 33.401 A.4)
abbrev pub HasSync : List LadderRow → KdfInput → Type 0
HasSync rows (Nh sync) = IsSome (row_of rows sync)
HasSync rows (Kenb count) = Unit {0}
HasSync rows (Star pci earfcn) = Unit {0}
HasSync rows (Alg kind identity) = Unit {0}

-- row k is what its origin says: a root, or what an earlier row derives
abbrev pub IsMade : List LadderRow → ℕ → Origin → List ℕ → Type 0
IsMade rows k Root octets = Unit {0}
IsMade rows k (From key input) octets =
    (key.0 < k) × (option_map (λ r. kdf r.octets input) (slice_get rows key.0) ≡ Some octets) × HasRoot rows key.0 input × HasSync rows input

-- each row is what its origin says
abbrev pub AreMade : List LadderRow → Type 0
AreMade rows = (k : ℕ) (r : LadderRow) → slice_get rows k ≡ Some r → IsMade rows k r.origin r.octets

-- the rows stand for distinct derivations with distinct octets
pub record IsLadder (rows : List LadderRow) : Type 0 where
  pub apart : AreApart rows
  pub made : AreMade rows

-- the index has exactly the rows up to its mark, in their order: the mark is its length
abbrev pub IsIndexOf : List (List ℕ) → List LadderRow → Type 0
IsIndexOf keys rows = keys ≡ map (λ r. r.octets) (take (length keys) rows)

-- as many rows as can be numbered
abbrev pub AreNumbered : List LadderRow → Type 0
AreNumbered rows = length rows < 2 ^ 32

-- a row that stands has these octets and another origin than this
pub record Coincides (rows : List LadderRow) (origin : Origin) (octets : List ℕ) (k : ℕ) : Type 0 where
  pub stands : row_of rows octets ≡ Some k
  pub other : origin_at rows k ≢ Some origin

-- why a root is refused: a root has its octets, or a derived row has them
abbrev pub RootRefused : List LadderRow → List ℕ → LadderFault → Type 0
RootRefused rows octets (RepeatedRoot r) = (row_of rows octets ≡ Some r.0) × (origin_at rows r.0 ≡ Some Root)
RootRefused rows octets (Coincidence r origin) = Coincides rows Root octets r.0 × (origin ≡ Root)
RootRefused rows octets Memory = ⊥

-- why a derivation is refused: a row has its octets from another origin
abbrev pub AddRefused : List LadderRow → Derived → LadderFault → Type 0
AddRefused rows made (Coincidence r origin) = Coincides rows (origin_of rows made) made.out r.0 × (origin ≡ origin_of rows made)
AddRefused rows made (RepeatedRoot r) = ⊥
AddRefused rows made Memory = ⊥
