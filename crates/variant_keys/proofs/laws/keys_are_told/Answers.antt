use Rattle.std.proofs.Common.{◌≤◌, length, subst}
use Rattle.variant_keys.proofs.Exact.{keys_told}
use Rattle.variant_keys.proofs.laws.keys_are_told.Goals as goal

pub returns : goal.returns
returns c = record {
  told = λ whole. keys_told c.args.setup.now c.args.events.now.items c.requires.scenario c.requires.few whole
      (subst (λ stations. length stations ≤ 8) c.as_slice.ensures.value c.as_slice.ensures.within);
}
