use Rattle.std.proofs.Common.{ℕ, ◌<◌, get_or, rules}
use Rattle.aes_core.proofs.WordLemmas.{word_octets-from}
use Rattle.aes_core.proofs.key_expansion.key_word.Goals as goal

pub returns : goal.returns
returns c =
    let octet : (k : ℕ) → get_or c.args.key.now k 0 < 256 = λ k. search rules in
    word_octets-from _ _ _ _ _ (octet _) (octet _) (octet _) (octet _) c.from_be_bytes.ensures
