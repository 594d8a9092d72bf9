-- What shows a coincidence, and which one it is.
use Rattle.std.proofs.Common.{◌≡◌, refl, ℕ, List, Some, None}
use Rattle.hmac_kdf.specs.declared.input.KdfInput.{KdfInput}
use Rattle.annex_a_keys.specs.declared.derived.Derived.{Derived}
use Rattle.key_model.specs.Derivation.{Input, FromCount, Derivation, kdf_input, derived_of}
use Rattle.key_terms.specs.declared.proof.Proof as proofs
use Rattle.key_terms.specs.declared.proof.Proof.{Proof}
use Rattle.lte_machine.specs.Ladder.{RowOrigin, OfRoot, Of}
use Rattle.lte_machine.specs.Tuples.{Coincidence, Tuples, Rows}
use Rattle.store_laws.specs.Proofs.{proof_of, coincidence_of, clash_proof, input_of, derivation_of}

input_back : (i : Input (List ℕ)) → input_of (kdf_input i) ≡ i
input_back (FromCount count) = refl
input_back other = refl

input_again : (i : KdfInput) → kdf_input (input_of i) ≡ i
input_again (KdfInput.Kenb count) = refl
input_again other = refl

pub derivation_back : (d : Derivation (List ℕ)) → derivation_of (derived_of d) ≡ d
derivation_back d = λ j. record { key = d.key; input = input_back d.input j; out = d.out }

pub derived_again : (d : Derived) → derived_of (derivation_of d) ≡ d
derived_again d = λ j. record { key = d.key; input = input_again d.input j; out = d.out }

clash_back : (row : ℕ) (o : RowOrigin (List ℕ)) → coincidence_of (clash_proof row o) ≡ Rows (record { row = row; origin = o })
clash_back row (OfRoot key) = refl
clash_back row (Of d) = λ j. Rows (record { row = row; origin = Of (derivation_back d j) })

pub coincidence_back : (c : Coincidence (List ℕ)) → coincidence_of (proof_of c) ≡ c
coincidence_back (Tuples None receiver) = refl
coincidence_back (Tuples (Some sender) receiver) = refl
coincidence_back (Rows clash) = clash_back clash.row clash.origin

pub shown_again : (p : Proof) → proof_of (coincidence_of p) ≡ p
shown_again (proofs.TheVariants.Tuples None receiver) = refl
shown_again (proofs.TheVariants.Tuples (Some sender) receiver) = refl
shown_again (proofs.TheVariants.RootIsRow r key) = refl
shown_again (proofs.TheVariants.Rows r d) = λ j. proofs.TheVariants.Rows r (derived_again d j)
