-- The key of each row of a ladder, as the tree of the derivations that made it (TS 33.401 Annex A).
use Rattle.std.specs.Prelude.{ℕ, zero, suc, nat_lt, if◌then◌else◌, List, [], length, Option, Some, None, slice_get}
use Rattle.hmac_kdf.specs.declared.input.KdfInput.{KdfInput}
use Rattle.key_model.specs.Term.{Term, Root, Kenb, Nh, Star, Alg}
use Rattle.key_terms.specs.{declared.row.LadderRow.LadderRow, declared.row.Origin.Origin, Ladder.row_of}
use Rattle.key_terms.specs.declared.row.Origin.TheVariants as origins

-- a row, where it comes before row k
abbrev pub if_before : ℕ → Option ℕ → Option ℕ
if_before k None = None
if_before k (Some j) = if nat_lt j k then Some j else None

-- the row with the octets of the SYNC-input of row k, which comes before it (A.4)
abbrev pub sync_row : List LadderRow → ℕ → List ℕ → Option ℕ
sync_row rows k sync = if_before k (row_of rows sync)

-- the key of a SYNC-input; of one that no row before has it is a root of its own
abbrev pub sync_term : List LadderRow → List ℕ → (ℕ → Term) → Option ℕ → Term
sync_term rows sync term None = Root (length rows) sync
sync_term rows sync term (Some j) = term j

-- one derivation from a key, where the terms of the rows before are known (A.3, A.4, A.5, A.7)
abbrev pub derived_term : List LadderRow → (ℕ → Term) → ℕ → Term → KdfInput → Term
derived_term rows term k key (KdfInput.Kenb count) = Kenb key count
derived_term rows term k key (KdfInput.Nh sync) = Nh key (sync_term rows sync term (sync_row rows k sync))
derived_term rows term k key (KdfInput.Star pci earfcn) = Star key pci earfcn
derived_term rows term k key (KdfInput.Alg kind identity) = Alg key kind identity

abbrev pub origin_term : List LadderRow → (ℕ → Term) → ℕ → List ℕ → Origin → Term
origin_term rows term k octets origins.Root = Root k octets
origin_term rows term k octets (origins.From key input) = derived_term rows term k (term key.0) input

abbrev pub row_term : List LadderRow → (ℕ → Term) → ℕ → Option LadderRow → Term
row_term rows term k None = Root k []
row_term rows term k (Some r) = origin_term rows term k r.octets r.origin

-- the term of row k, found in at most so many steps: each row comes from rows before it
abbrev pub term_within : ℕ → List LadderRow → ℕ → Term
term_within zero rows k = Root k []
term_within (suc steps) rows k = row_term rows (term_within steps rows) k (slice_get rows k)

-- the term of row k
unfoldable pub term_at : List LadderRow → ℕ → Term
term_at rows k = term_within (suc k) rows k
