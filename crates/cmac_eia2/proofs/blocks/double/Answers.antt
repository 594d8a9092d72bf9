use Rattle.std.proofs.Common.{◌≡◌, ◌∙◌, sym, length, rules}
use Rattle.rec_base.proofs.Numbers.{number_of-sixteen, octets_of-is}
use Rattle.cmac_eia2.proofs.BlockLemmas.{doubled-low, doubled-high}
use Rattle.cmac_eia2.proofs.blocks.double.Goals as goal

pub returns-then-number-eq0 : goal.returns-then-number-eq0
returns-then-number-eq0 c =
    let long : length c.args.block ≡ 16 = search rules in
    let number = number_of-sixteen c.args.block long ∙ sym c.from_be_bytes-number.ensures in
    c.to_be_bytes.ensures
    ∙ sym (doubled-low c.args.block c.from_be_bytes-number.result number c.if-number-eq0.true ∙ octets_of-is 16 _)

pub returns-else-number-eq0 : goal.returns-else-number-eq0
returns-else-number-eq0 c =
    let long : length c.args.block ≡ 16 = search rules in
    let number = number_of-sixteen c.args.block long ∙ sym c.from_be_bytes-number.ensures in
    c.to_be_bytes-else-number-eq0.ensures
    ∙ sym (doubled-high c.args.block c.from_be_bytes-number.result number c.if-number-eq0.false ∙ octets_of-is 16 _)
