use Rattle.std.proofs.Common.{arith, rules}
use Rattle.key_terms.proofs.WordLemmas.{word_has}
use Rattle.key_terms.proofs.words.word_at.Goals as goal

pub returns : goal.returns
returns c = word_has c.args.octets.now c.args.place _ c.requires (λ i. omega (arith, c.type_inv.octets i)) (search rules)
