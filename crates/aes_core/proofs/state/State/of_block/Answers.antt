use Rattle.std.proofs.Common.{◌≡◌, ℕ, ◌<◌, length, get_or, rules, ◌∙◌}
use Rattle.aes_core.proofs.WordLemmas.{four_words, sixteen, word_octets-from}
use Rattle.aes_core.proofs.state.State.of_block.Goals as goal

pub returns : goal.returns
returns c =
    let block = c.args.block in
    let long : length block ≡ 16 = search rules in
    let octet : (k : ℕ) → get_or block k 0 < 256 = λ k. search rules in
    four_words _ _ _ _ _ _ _ _
    (word_octets-from _ _ _ _ _ (octet 0) (octet 1) (octet 2) (octet 3) c.from_be_bytes.ensures)
    (word_octets-from _ _ _ _ _ (octet 4) (octet 5) (octet 6) (octet 7) c.from_be_bytes-2.ensures)
    (word_octets-from _ _ _ _ _ (octet 8) (octet 9) (octet 10) (octet 11) c.from_be_bytes-3.ensures)
    (word_octets-from _ _ _ _ _ (octet 12) (octet 13) (octet 14) (octet 15) c.from_be_bytes-4.ensures)
    ∙ sixteen block long
