use Rattle.std.proofs.Common.{◌≡◌, ℕ, ◌+◌, ◌*◌, ◌<◌, min, length, slice_index, refl, arith, ◌∙◌, ap}
use Rattle.keystream.specs.Combined.{combined, octet_in}
use Rattle.keystream.proofs.CombinedLemmas.{combined_all, combined_block}
use Rattle.snow3g.specs.State.{after, initialised}
use Rattle.snow3g.proofs.StateLemmas.{after-after, sixteen_words-at}
use Rattle.eea1.specs.Eea1.{eea1_iv, eea1_of, eea1_word}
use Rattle.eea1.proofs.Eea1Lemmas.{eea1_of-eea1_of}
use Rattle.eea1.proofs.eea1.Goals as goal

pub loop-number-init : goal.loop-number-init
unfolding after combined
loop-number-init c =
    record { state = c.new-snow.ensures ∙ ap (initialised c.args.key.now) c.eea1_iv.ensures; text = refl }

pub loop-number-preserved : goal.loop-number-preserved
unfolding eea1_word
loop-number-preserved c =
    let start = initialised c.args.key.now (eea1_iv c.args.count c.args.bearer c.args.dir) in
    let f = eea1_word c.args.key.now c.args.count c.args.bearer c.args.dir in
    let n = c.loop-number.number in
    let words = c.next_words-words.result in
    let stops : c.min-end.result ≡ min (64 * n + 64) (length c.args.text.now) = omega arith in
    let same : (i : ℕ) → i < 16 → slice_index words i ≡ f (16 * n + i) =
    λ i h. sixteen_words-at start c.loop-number.snow words (16 * n) i c.loop-number.invariant.state c.next_words-words.ensures.value h in
    let more : 16 * n + 16 ≡ 16 * (n + 1) = omega arith in
    record {
      state = c.next_words-words.ensures.state ∙ ap (λ s. after s 16) c.loop-number.invariant.state
          ∙ after-after start (16 * n) 16 ∙ ap (after start) more;
      text = rw (c.combine_words.ensures, c.loop-number.invariant.text)
          (combined_block f words c.args.text.now n c.min-end.result (omega arith) stops same);
    }

pub returns-clause-value : goal.returns-clause-value
unfolding eea1_of
returns-clause-value c =
    c.loop-number.invariant.text
    ∙ combined_all (octet_in (eea1_word c.args.key.now c.args.count c.args.bearer c.args.dir)) c.args.text.now (64 * c.loop-number.number) (omega arith)

pub returns-clause-twice : goal.returns-clause-twice
returns-clause-twice c =
    ap (eea1_of c.args.key.now c.args.count c.args.bearer c.args.dir) (returns-clause-value c)
    ∙ eea1_of-eea1_of c.args.key.now c.args.count c.args.bearer c.args.dir c.args.text.now
