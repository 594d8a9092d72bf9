-- What a ladder asks of a derivation that is added, and that the derivations of a run have it.
use Rattle.std.specs.Prelude.{◌≡◌, ℕ, ◌<◌, ◌≤◌, ◌^◌, IsTrue, List, [], ◌∷◌, None, IsSome, IfSome}
use Rattle.std.specs.{List.list_any, List.AllByRecursion as AllOf, Str.bytes_eq}
use Rattle.annex_a_keys.specs.declared.derived.Derived.{Derived}
use Rattle.hmac_kdf.specs.{declared.input.KdfInput.KdfInput, Kdf.kdf, Kdf.greatest_earfcn}
use Rattle.key_model.specs.Derivation.{derived_of}
use Rattle.key_terms.specs.declared.row.LadderRow.{LadderRow}
use Rattle.key_terms.specs.Ladder.{row_of, HasRoot, HasSync}
use Rattle.lte_machine.specs.Ladder.{RowOrigin, OfRoot, Of, row_key, Ladder, add_next, no_rows}
use Rattle.lte_machine.specs.World.{World}
use Rattle.store_laws.specs.Rows.{numbered}

-- a cell in range; a COUNT has 32 bits by its type
abbrev pub IsInput : KdfInput → Type 0
IsInput (KdfInput.Star pci earfcn) = (pci < 2 ^ 16) × (earfcn ≤ greatest_earfcn)
IsInput other = Unit {0}

-- what a ladder with these rows asks of a derivation, beside room for it
pub record CanAdd (rows : List LadderRow) (made : Derived) : Type 0 where
  pub input : IsInput made.input
  pub out : made.out ≡ kdf made.key made.input
  pub key : IsSome (row_of rows made.key)
  pub root : IfSome (row_of rows made.key) (λ key. HasRoot rows key made.input)
  pub sync : HasSync rows made.input

abbrev pub CanAddTo : List (RowOrigin (List ℕ)) → RowOrigin (List ℕ) → Type 0
CanAddTo rows (OfRoot key) = Unit {0}
CanAddTo rows (Of d) = CanAdd (numbered rows) (derived_of d)

-- each of these roots and derivations can be added, where those before it do not clash
abbrev pub AllCanAdd : Ladder (List ℕ) → List (RowOrigin (List ℕ)) → Type 0
AllCanAdd l [] = Unit {0}
AllCanAdd l (o ∷ os) = (l.clash ≡ None → CanAddTo l.rows o) × AllCanAdd (add_next bytes_eq l o) os

-- a key that is a root or was derived
abbrev pub IsMadeIn : List (RowOrigin (List ℕ)) → List ℕ → Type 0
IsMadeIn history key = IsTrue (list_any (λ o. bytes_eq (row_key o) key) history)

-- each derivation of the world can be added, and each key that was held was made
pub record CanKeep {S : Type 0} (w : World (List ℕ) ℕ S) : Type 0 where
  pub history : AllCanAdd no_rows w.history
  pub held : AllOf (λ h. IsMadeIn w.history h.key) w.held
