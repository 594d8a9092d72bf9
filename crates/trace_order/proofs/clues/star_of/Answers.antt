use Rattle.std.proofs.Common.{◌≡◌, Some, subst, rules}
use Rattle.hmac_kdf.specs.{declared.input.KdfInput.KdfInput, Kdf.kdf}
use Rattle.trace_order.specs.Kinds.{IsMade}
use Rattle.trace_order.proofs.Making.{star_made}
use Rattle.trace_order.proofs.clues.star_of.Goals as goal

pub returns : goal.returns
returns c =
    let made = c.args.made.now in
    let cell = c.args.cell.now in
    let key : kdf made.key (KdfInput.Star cell.pci cell.earfcn) ≡ c.install.result = search rules in
    subst (λ k. IsMade (record { key = k; shape = record { number = made.shape.number; last = Some cell }; base = made.base })) key (star_made made cell c.requires)
