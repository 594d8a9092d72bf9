-- What follows on an answer that is there.
use Rattle.std.proofs.Common.{◌≡◌, sym, ap, ◌∙◌, Option, Some}
use Rattle.std.specs.Option.{option_map, option_and_then}

pub through : {A B C : Type 0} (value : A → B) (next : B → Option C) (o : Option A) (x : A) (v : Option B) → option_map value o ≡ v →
    o ≡ Some x → option_and_then next v ≡ next (value x)
through value next o x v is at = ap (option_and_then next) (sym is ∙ ap (option_map value) at)
