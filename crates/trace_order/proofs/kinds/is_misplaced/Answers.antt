use Rattle.std.proofs.Common.{◌≡◌, Bool, true, false, Some, refl, sym, subst, ◌∙◌, rules}
use Rattle.std.specs.Prelude.{not}
use Rattle.trace_keys.proofs.OneNet.{clash}
use Rattle.trace_order.specs.Kinds.{IsPlaced, may_carry}
use Rattle.trace_order.proofs.Carrying.{never_placed}
use Rattle.trace_order.proofs.kinds.is_misplaced.Goals as goal

flipped : (b : Bool) → not b ≡ true → b ≡ false
flipped false e = refl
flipped true e = clash e

pub returns : goal.returns
returns c =
    let pair = c.in-Some.pair in
    let placed = c.in-Some-placed_among.placed in
    let brings : c.args.sight.now.pair ≡ Some pair = search rules in
    let is : IsPlaced pair placed = search rules in
    let there : c.at.result.now ≡ c.args.sight.now.at = search rules in
    record {
      never = λ t covered capture.
          never_placed c.args.kasmes.now covered c.args.family.now capture c.args.sight.now pair placed brings is
          (subst (λ at. may_carry c.args.family.now at placed.shape placed.ncc ≡ false) there (sym c.may_carry-may.ensures ∙ flipped _ t));
    }
