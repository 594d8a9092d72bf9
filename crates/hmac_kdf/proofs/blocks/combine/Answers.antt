use Rattle.std.proofs.Common.{ℕ, ◌<◌, length, get_or, rules}
use Rattle.std.specs.Prelude.{bit_xor}
use Rattle.std.proofs.{lemmas.List.get_or_default, lemmas.List.Edits.map_over_more}
use Rattle.hmac_kdf.proofs.blocks.combine.Goals as goal

pub loop-octet-preserved : goal.loop-octet-preserved
loop-octet-preserved c =
    let within : c.loop-octet.octet-index < length c.loop-octet.octets = search rules in
    let within' : c.loop-octet.octet-index < length c.args.octets.now = search rules in
    let octet : ℕ = get_or c.loop-octet.octets c.loop-octet.octet-index 0 in
    map_over_more (λ o. bit_xor o c.args.pad) c.args.octets.now c.loop-octet.octets c.loop-octet.octet-index octet within' c.loop-octet.invariant
    (get_or_default c.loop-octet.octets c.loop-octet.octet-index 0 octet within)
