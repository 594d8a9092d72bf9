-- The machine's ladder and the program's, side by side: the same rows, and what each does with one root or derivation more.
use Rattle.std.specs.Prelude.{◌≡◌, ℕ, List, [], ◌∷◌, ◌++◌, Option, Some, None, IsSome, Result, Ok, Err, length}
use Rattle.std.specs.List.{AllByRecursion as AllOf}
use Rattle.annex_a_keys.specs.declared.derived.Derived.{Derived}
use Rattle.key_terms.specs.{declared.ladder.LadderFault.LadderFault, declared.row.LadderRow.LadderRow, declared.row.Origin.Origin, declared.row.Row.Row}
use Rattle.key_terms.specs.Ladder.{unheld, row, row_of, origin_at, origin_of, Coincides}
use Rattle.lte_machine.specs.Ladder.{RowOrigin, OfRoot, Of, Clash}
use Rattle.lte_machine.specs.World.{Holding}
use Rattle.store_laws.specs.Rows.{origin_in, numbered, all_noted}

-- a key has a row
abbrev pub HasRow : List LadderRow → List ℕ → Type 0
HasRow rows key = IsSome (row_of rows key)

-- each derivation is from a key that stands before it
abbrev pub Placed : List LadderRow → List (RowOrigin (List ℕ)) → Type 0
Placed rows [] = Unit {0}
Placed rows (OfRoot key ∷ os) = Placed (rows ++ unheld (origin_in rows (OfRoot key)) key ∷ []) os
Placed rows (Of d ∷ os) = HasRow rows d.key × Placed (rows ++ unheld (origin_in rows (Of d)) d.out ∷ []) os

-- these rows, with these holders
pub record Keeps (os : List (RowOrigin (List ℕ))) (held : List (Holding (List ℕ))) (rows : List LadderRow) : Type 0 where
  pub are : rows ≡ all_noted (numbered os) held
  pub placed : Placed [] os
  pub stand : AllOf (λ h. HasRow (numbered os) h.key) held

-- what the program's ladder says of a derivation that is added
pub record Adds (before after : List LadderRow) (made : Derived) (result : Result Row LadderFault) : Type 0 where
  pub new : row_of before made.out ≡ None → (result ≡ Ok (row (length before))) × (after ≡ before ++ unheld (origin_of before made) made.out ∷ [])
  pub again : (k : ℕ) → row_of before made.out ≡ Some k → origin_at before k ≡ Some (origin_of before made) → (result ≡ Ok (row k)) × (after ≡ before)
  pub coincidence : (k : ℕ) → Coincides before (origin_of before made) made.out k → result ≡ Err (LadderFault.Coincidence (row k) (origin_of before made))

-- what it comes to: the rows with one more, or the same; or the clash that the machine ends by
abbrev pub ComesTo : Option (Clash (List ℕ))
    → RowOrigin (List ℕ)
    → List (RowOrigin (List ℕ))
    → List (Holding (List ℕ))
    → List LadderRow
    → Result Row LadderFault
    → Type 0
ComesTo None o os held after result = ((k : Row) × (result ≡ Ok k)) × Keeps os held after
ComesTo (Some c) o os held after result = ((n : Origin) × (result ≡ Err (LadderFault.Coincidence (row c.row) n))) × (c.origin ≡ o)

-- what the program's ladder says of a root
pub record Roots (before after : List LadderRow) (octets : List ℕ) (result : Result Row LadderFault) : Type 0 where
  pub new : row_of before octets ≡ None → (result ≡ Ok (row (length before))) × (after ≡ before ++ unheld Origin.Root octets ∷ [])
  pub repeated : (k : ℕ) → row_of before octets ≡ Some k → origin_at before k ≡ Some Origin.Root → result ≡ Err (LadderFault.RepeatedRoot (row k))
  pub coincidence : (k : ℕ) → Coincides before Origin.Root octets k → result ≡ Err (LadderFault.Coincidence (row k) Origin.Root)

-- what it comes to where a root has the octets already, and where none has
abbrev pub RootComesTo : Option ℕ
    → Option (Clash (List ℕ))
    → RowOrigin (List ℕ)
    → List (RowOrigin (List ℕ))
    → List (Holding (List ℕ))
    → List LadderRow
    → Result Row LadderFault
    → Type 0
RootComesTo (Some k) clash o os held after result = result ≡ Err (LadderFault.RepeatedRoot (row k))
RootComesTo None clash o os held after result = ComesTo clash o os held after result
