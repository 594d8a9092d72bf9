use Rattle.std.proofs.Common.{rules}
use Rattle.key_terms.proofs.WordLemmas.{octets_of_words}
use Rattle.key_terms.proofs.words.Words.of.Goals as goal

pub returns-clause-octets : goal.returns-clause-octets
returns-clause-octets c =
    octets_of_words _ c.args.octets.now (search rules) c.word_at.ensures c.word_at-2.ensures c.word_at-3.ensures c.word_at-4.ensures
