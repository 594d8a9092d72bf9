use Rattle.std.proofs.Common.{◌≡◌, ◌-◌, ◌/◌, ◌<◌, get_or, sym, ◌∙◌, arith}
use Rattle.std.specs.Prelude.{bit_xor}
use Rattle.std.proofs.lemmas.Nat.{xor_of_8}
use Rattle.aes_core.specs.{Word.word_octets, declared.key_expansion.TheConstants.POWERS_OF_X}
use Rattle.aes_core.proofs.{AesLemmas.octet-power_of_x, WordLemmas.word_octets-from}
use Rattle.aes_core.proofs.KeyExpansionLemmas.{get_or-POWERS_OF_X, key_mask-fourth, key_mask-other}
use Rattle.aes_core.proofs.key_expansion.key_mask.Goals as goal

octets : (c : goal.After-from_be_bytes) → c.to_be_bytes-octets.result ≡ word_octets c.args.word
unfolding word_octets
octets c = c.to_be_bytes-octets.ensures

pub returns-then-i-eq0 : goal.returns-then-i-eq0
returns-then-i-eq0 c =
    let word = word_octets c.args.word in
    let power = get_or-POWERS_OF_X (c.args.i / 4 - 1) (omega arith) in
    let small : get_or POWERS_OF_X (c.args.i / 4 - 1) 0 < 256 = rw power (octet-power_of_x (c.args.i / 4 - 1)) in
    let second : c.sub_byte-then-i-eq0.result < 256 = omega arith in
    let third : c.sub_byte-then-i-eq0-2.result < 256 = omega arith in
    let fourth : c.sub_byte-then-i-eq0-3.result < 256 = omega arith in
    let first : bit_xor c.sub_byte.result (get_or POWERS_OF_X (c.args.i / 4 - 1) 0) < 256 = xor_of_8 _ _ (omega arith) small in
    let mask = key_mask-fourth word c.args.i c.if-i-eq0.true in
    word_octets-from _ _ _ _ _ first second third fourth c.from_be_bytes.ensures
    ∙ rw (c.sub_byte.ensures, c.sub_byte-then-i-eq0.ensures, c.sub_byte-then-i-eq0-2.ensures, c.sub_byte-then-i-eq0-3.ensures, octets c, power) (sym mask)

pub returns-else-i-eq0 : goal.returns-else-i-eq0
returns-else-i-eq0 c = sym (key_mask-other _ _ c.if-i-eq0.false)
