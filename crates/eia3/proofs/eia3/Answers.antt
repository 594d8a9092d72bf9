use Rattle.std.proofs.Common.{◌≡◌, ℕ, ◌+◌, ◌-◌, ◌*◌, ◌/◌, ◌<◌, length, length-drop, take, drop, slice_index, refl, ap, sym, ◌∙◌, arith}
use Rattle.std.specs.Prelude.{bit_xor}
use Rattle.std.proofs.lemmas.List.{get_or-drop, get_or-take, length-take-le, take_rest}
use Rattle.rec_base.proofs.Numbers.{octets_of-is}
use Rattle.rec_base.specs.BigEndian.{octets_of}
use Rattle.zuc.specs.State.{after, initialised}
use Rattle.zuc.proofs.StateLemmas.{after-after, sixteen_words-at}
use Rattle.eia3.specs.Eia3.{eia3_iv, eia3_of, eia3_word, mac_by_words, mac_number, sums}
use Rattle.eia3.specs.Words.{HasWords}
use Rattle.eia3.proofs.SumLemmas.{mac_piece, sums_piece}
use Rattle.eia3.proofs.eia3.Goals as goal

pub loop-number-init : goal.loop-number-init
unfolding after eia3_word sums
loop-number-init c =
    let start = initialised c.args.key.now (eia3_iv c.args.count c.args.bearer c.args.dir) in
    let begins : c.new-zuc.result ≡ start = c.new-zuc.ensures ∙ ap (initialised c.args.key.now) c.eia3_iv.ensures in
    record {
      state = c.next_words-words.ensures.state ∙ ap (λ s. after s 16) begins;
      words = λ i h. sixteen_words-at start c.new-zuc.result c.next_words-words.result 0 i begins c.next_words-words.ensures.value h;
      sum = refl;
    }

pub loop-number-preserved : goal.loop-number-preserved
unfolding eia3_word
loop-number-preserved c =
    let start = initialised c.args.key.now (eia3_iv c.args.count c.args.bearer c.args.dir) in
    let f = eia3_word c.args.key.now c.args.count c.args.bearer c.args.dir in
    let text = c.args.text.now in
    let n = c.loop-number.number in
    let next = c.next_words-next.result in
    let piece = take (64 * n + 64 - 64 * n) (drop (64 * n) text) in
    let words : (i : ℕ) → i < 16 → slice_index next i ≡ f (16 * (n + 1) + i) =
    λ i h. sixteen_words-at start c.loop-number.zuc next (16 * (n + 1)) i c.loop-number.invariant.state c.next_words-next.ensures.value h in
    let first_next : 16 * (n + 1) + 0 ≡ 16 * n + 16 = omega arith in
    let has : HasWords (λ i. f (16 * n + i)) c.loop-number.words (slice_index next 0) =
    record { first = c.loop-number.invariant.words; behind = words 0 (omega arith) ∙ ap f first_next } in
    let long : 8 * length piece ≡ 512 = omega (arith, length-take-le (64 * n + 64 - 64 * n) (drop (64 * n) text), length-drop (64 * n) text) in
    let before : 512 * n ≡ 32 * (16 * n) = omega arith in
    let end : 32 * (16 * n) + 512 ≡ 512 * (n + 1) = omega arith in
    let more : 16 * (n + 1) + 16 ≡ 16 * (n + 1 + 1) = omega arith in
    let same : (j : ℕ) → 8 * j < 512 → slice_index piece j ≡ slice_index text (4 * (16 * n) + j) =
    λ j h. let place : 64 * n + j ≡ 4 * (16 * n) + j = omega arith in
    get_or-take (64 * n + 64 - 64 * n) (drop (64 * n) text) j 0 (omega arith) ∙ get_or-drop (64 * n) text j 0
    ∙ ap (slice_index text) place in
    record {
      state = c.next_words-next.ensures.state ∙ ap (λ s. after s 16) c.loop-number.invariant.state
          ∙ after-after start (16 * (n + 1)) 16 ∙ ap (after start) more;
      words = words;
      sum = ap (λ m. bit_xor m c.piece_sum-sum.result) (c.loop-number.invariant.sum ∙ ap (sums f text) before)
          ∙ ap (bit_xor (sums f text (32 * (16 * n)))) (c.piece_sum-sum.ensures (λ i. f (16 * n + i)) has ∙ ap (sums (λ i. f (16 * n + i)) piece) long)
          ∙ sums_piece f text piece (16 * n) 512 same
          ∙ ap (sums f text) end;
    }

pub returns : goal.returns
unfolding eia3_of eia3_word mac_by_words
returns c =
    let start = initialised c.args.key.now (eia3_iv c.args.count c.args.bearer c.args.dir) in
    let f = eia3_word c.args.key.now c.args.count c.args.bearer c.args.dir in
    let text = c.args.text.now in
    let n = c.loop-number.number in
    let w = length text / 64 in
    let all : n ≡ w = omega arith in
    let y : ℕ → ℕ = λ i. f (16 * w + i) in
    let next = c.next_words-next-2.result in
    let rest = drop (64 * w) text in
    let behind : (i : ℕ) → i < 16 → slice_index next i ≡ y (16 + i) =
    λ i h. let place : 16 * (n + 1) + i ≡ 16 * w + (16 + i) = omega arith in
    sixteen_words-at start c.loop-number.zuc next (16 * (n + 1)) i c.loop-number.invariant.state c.next_words-next-2.ensures.value h ∙ ap f place in
    let has : HasWords y c.loop-number.words (slice_index next 0) = record {
      first = λ i h. let place : 16 * n + i ≡ 16 * w + i = omega arith in c.loop-number.invariant.words i h ∙ ap f place;
      behind = behind 0 (omega arith);
    } in
    let has_next : HasWords (λ i. y (16 + i)) next (y 32) = record { first = behind; behind = refl } in
    let same : (j : ℕ) → 8 * j < 8 * length rest → slice_index rest j ≡ slice_index text (4 * (16 * w) + j) =
    λ j h. let place : 64 * w + j ≡ 4 * (16 * w) + j = omega arith in
    get_or-drop (64 * w) text j 0 ∙ ap (slice_index text) place in
    let before : 512 * n ≡ 32 * (16 * w) = omega arith in
    let end : 32 * (16 * w) + 8 * length rest ≡ 8 * length text = omega (arith, length-drop (64 * w) text) in
    let number : bit_xor c.loop-number.sum c.rest_sum.result ≡ mac_number f text (8 * length text) =
    ap (λ m. bit_xor m c.rest_sum.result) (c.loop-number.invariant.sum ∙ ap (sums f text) before)
    ∙ ap (bit_xor (sums f text (32 * (16 * w)))) (c.rest_sum.ensures y has has_next)
    ∙ ap (λ r. bit_xor (sums f text (32 * (16 * w))) (mac_number y r (8 * length r))) (take_rest text (64 * w))
    ∙ mac_piece f text rest (16 * w) (8 * length rest) same
    ∙ ap (mac_number f text) end in
    c.to_be_bytes.ensures ∙ sym (octets_of-is 4 _) ∙ ap (octets_of 4) number
