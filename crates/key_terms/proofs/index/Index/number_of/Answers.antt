use Rattle.std.proofs.Common.{ap, ◌∙◌}
use Rattle.std.specs.{List.position, Str.bytes_eq}
use Rattle.key_terms.proofs.WordLemmas.{found_by_words}
use Rattle.key_terms.proofs.index.Index.number_of.Goals as goal

pub returns : goal.returns
returns c =
    c.get_index_of.ensures.index
    ∙ found_by_words c.of.result c.self.inside.keys.keys c.args.octets.now c.of.ensures.octets c.of.ensures.words c.self.invariant
    ∙ ap (position (bytes_eq c.args.octets.now)) c.self.view_is
