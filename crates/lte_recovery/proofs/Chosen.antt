-- What a list chooses of capabilities, these hold.
use Rattle.std.proofs.Common.{◌≡◌, refl, ap, ◌∙◌, subst, Bool, true, false, if◌then◌else◌, List, Option, Some, None, Result, Ok, find}
use Rattle.std.specs.Prelude.{◌&&◌}
use Rattle.alg_choice.specs.{Caps.holds_eea, Caps.holds_eia2, Choice.algs_with, Choice.are_supported, Choice.choice_of}
use Rattle.alg_choice.specs.{declared.algs.Algs.Algs, declared.algs.Eea.Eea, declared.caps.Caps.Caps, declared.choices.NoAlgorithm.NoAlgorithm}
use Rattle.alg_choice.proofs.FindFacts.{find_passes}

pub chosen_held : (priority : List Eea) (caps : Caps) (algs : Algs) → choice_of priority caps ≡ Ok algs → are_supported caps algs ≡ true
unfolding choice_of are_supported
chosen_held priority caps algs chosen = by (holds_eia2 caps) refl chosen
  where
    same : (eea : Eea) → (let x : Result Algs NoAlgorithm = algs_with (Some eea) in let y : Result Algs NoAlgorithm = Ok algs in x ≡ y) → eea ≡ algs.eea
    same eea e = let one : (let a : Algs = record { eea = eea } in a ≡ algs) = cc in ap (λ (a : Algs). a.eea) one

    held : (o : Option Eea) → find (holds_eea caps) priority ≡ o → algs_with o ≡ Ok algs → holds_eea caps algs.eea ≡ true
    held None found e = absurd cc
    held (Some eea) found e = subst (λ x. holds_eea caps x ≡ true) (same eea e) (find_passes (holds_eea caps) priority eea found)

    by : (b : Bool) → holds_eia2 caps ≡ b → (if b then algs_with (find (holds_eea caps) priority) else algs_with None) ≡ Ok algs
        → (holds_eea caps algs.eea && holds_eia2 caps) ≡ true
    by true own e = ap (λ b. b && holds_eia2 caps) (held (find (holds_eea caps) priority) refl e) ∙ own
    by false own e = absurd cc
