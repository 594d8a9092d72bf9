-- What shows a coincidence, in the machine in octets and in the program.
use Rattle.std.specs.Prelude.{ℕ, List, option_map}
use Rattle.annex_a_keys.specs.declared.derived.Derived.{Derived}
use Rattle.hmac_kdf.specs.declared.input.KdfInput.{KdfInput}
use Rattle.key_model.specs.Derivation.{Input, FromCount, FromSync, FromCell, FromAlg, Derivation, derived_of}
use Rattle.key_terms.specs.declared.proof.Proof as proofs
use Rattle.key_terms.specs.{declared.proof.Proof.Proof, Ladder.row}
use Rattle.lte_machine.specs.Calls.{use_out, use_in}
use Rattle.lte_machine.specs.Ladder.{RowOrigin, OfRoot, Of}
use Rattle.lte_machine.specs.Tuples.{Coincidence, Tuples, Rows}

-- the row that has the octets, and the root or the derivation that was refused
abbrev pub clash_proof : ℕ → RowOrigin (List ℕ) → Proof
clash_proof number (OfRoot key) = proofs.TheVariants.RootIsRow (row number) key
clash_proof number (Of d) = proofs.TheVariants.Rows (row number) (derived_of d)

-- a coincidence, as the program shows it
abbrev pub proof_of : Coincidence (List ℕ) → Proof
proof_of (Tuples sender receiver) = proofs.TheVariants.Tuples (option_map use_out sender) (use_out receiver)
proof_of (Rows clash) = clash_proof clash.row clash.origin

-- and as the machine ends by it
abbrev pub input_of : KdfInput → Input (List ℕ)
input_of (KdfInput.Kenb count) = FromCount count
input_of (KdfInput.Nh sync) = FromSync sync
input_of (KdfInput.Star pci earfcn) = FromCell pci earfcn
input_of (KdfInput.Alg kind identity) = FromAlg kind identity

abbrev pub derivation_of : Derived → Derivation (List ℕ)
derivation_of d = record { key = d.key; input = input_of d.input; out = d.out }

abbrev pub coincidence_of : Proof → Coincidence (List ℕ)
coincidence_of (proofs.TheVariants.Tuples sender receiver) = Tuples (option_map use_in sender) (use_in receiver)
coincidence_of (proofs.TheVariants.RootIsRow r key) = Rows (record { row = r.0; origin = OfRoot key })
coincidence_of (proofs.TheVariants.Rows r d) = Rows (record { row = r.0; origin = Of (derivation_of d) })
