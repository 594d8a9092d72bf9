-- What the program keeps beside the actors: the records sent, the ladder and the uses, as those of a world.
use Rattle.hmac_kdf.specs.declared.input.KdfInput.{KdfInput}
use Rattle.std.specs.Prelude.{◌≡◌, ℕ, ◌+◌, ◌-◌, ◌*◌, ◌<◌, ◌≤◌, ◌^◌, [], ◌∷◌, ◌++◌, List, length, map, Option, Some, None, Result, Ok, Err}
use Rattle.std.specs.{Str.bytes_eq, List.AllByRecursion as AllOf}
use Rattle.annex_a_keys.specs.declared.derived.Derived.{Derived}
use Rattle.rec_base.specs.declared.uses.Use.{Use}
use Rattle.key_model.specs.Derivation.{Derivation, derived_of}
use Rattle.key_terms.specs.{declared.ladder.LadderFault.LadderFault, declared.proof.Proof.Proof, declared.row.Row.Row, declared.row.LadderRow.LadderRow, declared.row.Holder.Holder}
use Rattle.net_bag.specs.declared.view.BagView.{BagView}
use Rattle.lte_machine.specs.Ladder.{RowOrigin, Of, Clash, Ladder, add_rows, ladder_of}
use Rattle.lte_machine.specs.{Machines.Kept, Tuples.Rows, World.World, World.Holding}
use Rattle.lte_machine.specs.World as world
use Rattle.store_laws.specs.{Rows.holder_of, Additions.AllCanAdd, Joins.HasRow, Joins.Keeps, Proofs.proof_of, Records.world_records, Records.world_uses}

-- rows without a clash
abbrev pub calm : List (RowOrigin (List ℕ)) → Ladder (List ℕ)
calm os = record { rows = os; clash = None }

-- DERIVATIONS

-- a COUNT has 32 bits
abbrev pub CountIn : KdfInput → Type 0
CountIn (KdfInput.Kenb count) = count < 2 ^ 32
CountIn other = Unit {0}

-- a ladder with these rows can take these derivations
pub record Awaits (rows : List LadderRow) (derived : List Derived) : Type 0 where
  pub origins : List (RowOrigin (List ℕ))
  pub held : List (Holding (List ℕ))
  pub made : List (Derivation (List ℕ))
  pub keeps : Keeps origins held rows
  pub are : derived ≡ map derived_of made
  pub can : AllCanAdd (calm origins) (map Of made)

-- what is told of adding one
abbrev pub told : Derived → Result Row LadderFault → Result (Unit {0}) Proof
told made (Ok row) = Ok tt
told made (Err (LadderFault.Coincidence row origin)) = Err (Proof.Rows row made)
told made (Err other) = Ok tt

-- what comes of adding: the rows, or the clash
abbrev pub AddedBy : Option (Clash (List ℕ)) → List (RowOrigin (List ℕ)) → List (Holding (List ℕ)) → List LadderRow → Result (Unit {0}) Proof → Type 0
AddedBy None os held rows result = (result ≡ Ok tt) × Keeps os held rows
AddedBy (Some c) os held rows result = result ≡ Err (proof_of (Rows c))

abbrev pub Added : Ladder (List ℕ) → List (Holding (List ℕ)) → List LadderRow → Result (Unit {0}) Proof → Type 0
Added l held rows result = AddedBy l.clash l.rows held rows result

-- for every ladder of the machine that has these rows
abbrev pub AddsAll : List LadderRow → List LadderRow → List Derived → Result (Unit {0}) Proof → Type 0
AddsAll before after derived result =
    (os : List (RowOrigin (List ℕ))) (held : List (Holding (List ℕ))) (ds : List (Derivation (List ℕ)))
    → Keeps os held before → derived ≡ map derived_of ds → AllCanAdd (calm os) (map Of ds)
    → Added (add_rows bytes_eq (calm os) (map Of ds)) held after result

-- HOLDERS

-- the key of each of these derivations has a row
abbrev pub HasRows : List LadderRow → List Derived → Type 0
HasRows rows derived = AllOf (λ d. HasRow rows d.out) derived

abbrev pub HasKeys : List LadderRow → List (List ℕ) → Type 0
HasKeys rows keys = AllOf (λ key. HasRow rows key) keys

-- the key that was received, if one was
abbrev pub keys_in : Option (List ℕ) → List (List ℕ)
keys_in None = []
keys_in (Some key) = key ∷ []

-- one more holder of a key
abbrev pub HoldsOne : Holder → List ℕ → List LadderRow → List LadderRow → Type 0
HoldsOne who key before after =
    (os : List (RowOrigin (List ℕ))) (held : List (Holding (List ℕ))) (holder : world.Holder)
    → Keeps os held before → who ≡ holder_of holder
    → Keeps os (held ++ record { holder = holder; key = key } ∷ []) after

-- one holder of each of these keys
abbrev pub holdings : world.Holder → List (List ℕ) → List (Holding (List ℕ))
holdings holder keys = map (λ key. record { holder = holder; key = key }) keys

abbrev pub HoldsAll : Holder → List (List ℕ) → List LadderRow → List LadderRow → Type 0
HoldsAll who keys before after =
    (os : List (RowOrigin (List ℕ))) (held : List (Holding (List ℕ))) (holder : world.Holder)
    → Keeps os held before → who ≡ holder_of holder → Keeps os (held ++ holdings holder keys) after

-- NETWORKS

-- the records sent, the rows of the ladder and the uses, and for how many more of each there is room
pub record Stores : Type 0 where
  pub records : List BagView
  pub rows : List LadderRow
  pub uses : List Use
  pub record_room : ℕ
  pub row_room : ℕ
  pub use_room : ℕ

-- they are those of a world, whose ladder has no clash
pub record Fits (w : World (List ℕ) ℕ Kept) (s : Stores) : Type 0 where
  pub records : s.records ≡ world_records w
  pub uses : s.uses ≡ world_uses w
  pub calm : (ladder_of bytes_eq w.history).clash ≡ None
  pub rows : Keeps (ladder_of bytes_eq w.history).rows w.held s.rows

-- HOW MANY RECORDS AND ROWS THERE ARE

-- one event adds a record and 12 rows at the most
abbrev pub AddsFew : Stores → Stores → Type 0
AddsFew before after = (length after.records ≤ length before.records + 1) × (length after.rows ≤ length before.rows + 12)

-- no more than so many events add
abbrev pub Within : ℕ → Stores → Type 0
Within events s = (length s.records ≤ events) × (length s.rows ≤ 12 * events)

-- what one event more adds has a number of 32 bits
abbrev pub HasPlace : Stores → Type 0
HasPlace s = (length s.records < 2 ^ 32 - 1) × (length s.rows + 12 < 2 ^ 32)
