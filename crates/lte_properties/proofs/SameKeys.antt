-- Tests of keys by which each key is one with itself.
use Rattle.std.proofs.Common.{◌≡◌, Bool, true, refl}
use Rattle.key_model.specs.{Term.Term, Value.same_value}
use Rattle.key_model.proofs.TermFacts.{same_value-Decides}

abbrev pub IsReflexive : (Term → Term → Bool) → Type 0
IsReflexive same = (t : Term) → same t t ≡ true

-- by values
pub reflexive : IsReflexive same_value
reflexive t = (same_value-Decides t t).1 refl
