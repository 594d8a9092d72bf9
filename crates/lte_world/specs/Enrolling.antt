-- What comes of the KASME of an authentication.
use Rattle.std.specs.Prelude.{◌≡◌, ℕ, List, [], ◌∷◌, ◌++◌, Option, Some, None}
use Rattle.std.specs.Str.{bytes_eq}
use Rattle.key_terms.specs.Ladder.{row}
use Rattle.lte_machine.specs.Ladder.{OfRoot, Clash, ladder_of, root_row}
use Rattle.lte_machine.specs.{Machines.Kept, Tuples.Rows}
use Rattle.lte_machine.specs.World.{World, AtPhone, AtCore}
use Rattle.store_laws.specs.Proofs.{proof_of}
use Rattle.lte_world.specs.{declared.network.Enrolled.Enrolled, Networks.Stores, Networks.Fits}

-- a world with this KASME, which phone and core hold
abbrev pub with_root : World (List ℕ) ℕ Kept → List ℕ → World (List ℕ) ℕ Kept
with_root w root = record w {
  history = w.history ++ OfRoot root ∷ [];
  held = w.held ++ record { holder = AtPhone; key = root } ∷ record { holder = AtCore; key = root } ∷ [];
}

abbrev pub EnrolledBy : Option ℕ → Option (Clash (List ℕ)) → World (List ℕ) ℕ Kept → List ℕ → Stores → Enrolled → Type 0
EnrolledBy (Some k) clash w root stores result = (result ≡ Enrolled.Repeated (row k)) × Fits w stores
EnrolledBy None (Some clash) w root stores result = result ≡ Enrolled.Coincidence (proof_of (Rows clash))
EnrolledBy None None w root stores result = (result ≡ Enrolled.New) × Fits (with_root w root) stores

-- by the row of the ladder that is this root, and by the coincidence with one that is not
unfoldable pub EnrolledAs : Stores → Stores → List ℕ → Enrolled → Type 0
EnrolledAs before after root result =
    (w : World (List ℕ) ℕ Kept) → Fits w before
    → EnrolledBy (root_row bytes_eq root (ladder_of bytes_eq w.history).rows) (ladder_of bytes_eq (with_root w root).history).clash w root after result
