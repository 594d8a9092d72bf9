use Rattle.std.proofs.Common.{◌≡◌, ℕ, ◌+◌, ◌/◌, ◌^◌, ◌<◌, slice_index, refl, ap, sym, ◌∙◌, arith}
use Rattle.std.specs.Prelude.{bit_xor}
use Rattle.rec_base.proofs.Numbers.{octets_of-is}
use Rattle.rec_base.specs.BigEndian.{octets_of}
use Rattle.snow3g.specs.State.{after, initialised}
use Rattle.snow3g.proofs.StateLemmas.{sixteen_words-at}
use Rattle.eia1.specs.Eia1.{closed, eia1_iv, eia1_of, eia1_word, mac_by_words, two_words}
use Rattle.eia1.proofs.eia1.Goals as goal

-- the words of the code
word : (c : goal.After-to_be_bytes) (k : ℕ) → k < 16
    → slice_index c.next_words-z.result k ≡ eia1_word c.args.key.now c.args.count c.args.bearer c.args.dir (0 + k)
unfolding after eia1_word
word c k h =
    let start = initialised c.args.key.now (eia1_iv c.args.count c.args.bearer c.args.dir) in
    sixteen_words-at start c.new.result c.next_words-z.result 0 k
    (c.new.ensures ∙ ap (initialised c.args.key.now) c.eia1_iv.ensures) c.next_words-z.ensures.value h

pub returns : goal.returns
unfolding eia1_of mac_by_words
returns c =
    let f = eia1_word c.args.key.now c.args.count c.args.bearer c.args.dir in
    let number : bit_xor (c.multiply-closed.result / 2 ^ 32) (slice_index c.next_words-z.result 4)
    ≡ bit_xor (closed c.args.text.now (two_words f 0) (two_words f 2) / 2 ^ 32) (f 4) =
    rw (
      c.multiply-closed.ensures,
      c.evaluated-value.ensures,
      c.two_words.ensures,
      c.two_words-2.ensures,
      word c 0 (omega arith),
      word c 1 (omega arith),
      word c 2 (omega arith),
      word c 3 (omega arith),
      word c 4 (omega arith),
    )
    refl in
    c.to_be_bytes.ensures ∙ sym (octets_of-is 4 _) ∙ ap (octets_of 4) number
