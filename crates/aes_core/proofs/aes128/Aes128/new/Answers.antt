use Rattle.std.proofs.Common.{◌≡◌, ◌<◌, ◌^◌, ◌∙◌, length, map, refl, ap, rules}
use Rattle.std.specs.Prelude.{All}
use Rattle.std.proofs.lemmas.List.Elements.{All-from_get_or}
use Rattle.aes_core.specs.Word.{word_number}
use Rattle.aes_core.proofs.{KeyExpansionLemmas.concat-key_expansion, WordLemmas.words_of_octets}
use Rattle.aes_core.proofs.aes128.Aes128.new.Goals as goal

pub invariant_of-result : goal.invariant_of-result
invariant_of-result c =
    let words = c.expand_key.result in
    let long : length c.args.key.now ≡ 16 = search rules in
    let fits : All (λ w. w < 2 ^ 32) words = All-from_get_or (λ w. w < 2 ^ 32) words 0 (λ k _. search rules) in
    rw c.expand_key.ensures
    (rw (concat-key_expansion c.args.key.now long) (refl, words_of_octets words fits ∙ ap (map word_number) c.expand_key.ensures))

pub returns : goal.returns
returns c =
    let long : length c.args.key.now ≡ 16 = search rules in
    rw c.expand_key.ensures (concat-key_expansion c.args.key.now long)
