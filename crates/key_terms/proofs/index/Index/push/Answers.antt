use Rattle.std.proofs.Common.{◌∷◌, [], ◌++◌, ap, ◌∙◌}
use Rattle.std.specs.{List.list_any, Str.bytes_eq}
use Rattle.key_terms.proofs.WordLemmas.{words_push}
use Rattle.key_terms.proofs.index.Index.push.Goals as goal

pub returns-clause-ok : goal.returns-clause-ok
returns-clause-ok c =
    (words_push c.of.result c.self.inside.keys.keys c.insert.new.self.keys c.args.octets c.of.ensures.octets
    c.of.ensures.words c.self.invariant (ap (list_any (bytes_eq c.args.octets)) c.self.view_is ∙ c.requires.new)
    c.in_ok-insert.ensures.keys).1
    ∙ ap (λ keys. keys ++ c.args.octets ∷ []) c.self.view_is
