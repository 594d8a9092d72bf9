-- The keys of a KeNB in two readings.
use Rattle.std.proofs.Common.{◌≡◌, map, refl}
use Rattle.alg_choice.specs.declared.algs.Algs.{Algs}
use Rattle.key_model.specs.{Derivation.map_derivation, Reading.Carries, Reading.Reading}
use Rattle.pdcp_guard.specs.AsKeys.{as_derivations, as_keys_of, map_as_keys}

pub as_keys_of-carried : {K C L D : Type 0} (r : Reading K C) (q : Reading L D) (f : K → L) (g : C → D) → Carries r q f g → (kenb : K) (algs : Algs)
    → map_as_keys f (as_keys_of r kenb algs) ≡ as_keys_of q (f kenb) algs
as_keys_of-carried r q f g c kenb algs = rw (c.alg kenb 3 _, c.alg kenb 4 _, c.alg kenb 5 _) refl

pub as_derivations-carried : {K C L D : Type 0} (r : Reading K C) (q : Reading L D) (f : K → L) (g : C → D) → Carries r q f g → (kenb : K) (algs : Algs)
    → map (map_derivation f) (as_derivations r kenb algs) ≡ as_derivations q (f kenb) algs
as_derivations-carried r q f g c kenb algs = rw (c.alg kenb 3 _, c.alg kenb 4 _, c.alg kenb 5 _) refl
