use Rattle.std.proofs.Common.{◌≡◌, ◌/◌, ◌%◌, ◌^◌, get_or, ap, sym, ◌∙◌, arith}
use Rattle.aes_core.specs.{KeyExpansion.add_words, RoundTable.table_entry, Word.word_octets, declared.round_tables.TheConstants.ROUND_0}
use Rattle.aes_core.proofs.WordLemmas.{entry_0, entry_1, entry_2, entry_3, mixed_entries, word_octets-xor}
use Rattle.aes_core.proofs.round_tables.mixed_column.Goals as goal

pub returns : goal.returns
unfolding word_octets
returns c =
    let a = c.args.a in
    let highest : a / 2 ^ 24 % 256 ≡ a / 2 ^ 24 = omega arith in
    let first : word_octets (get_or ROUND_0 (a / 2 ^ 24) 0) ≡ table_entry 0 (a / 2 ^ 24 % 256) =
    entry_0 (a / 2 ^ 24) (omega arith) ∙ ap (table_entry 0) (sym highest) in
    word_octets-xor c.args.key _
    ∙ ap (add_words (word_octets c.args.key))
    (mixed_entries _ _ _ _ _ _ _ _ first (entry_1 _ (omega arith)) (entry_2 _ (omega arith)) (entry_3 _ (omega arith)))
