use Rattle.std.proofs.Common.{◌≡◌, ℕ, ◌+◌, ◌*◌, ◌<◌, min, length, slice_index, refl, arith, ◌∙◌, ap}
use Rattle.keystream.specs.Combined.{combined, octet_in}
use Rattle.keystream.proofs.CombinedLemmas.{combined_all, combined_block}
use Rattle.zuc.specs.State.{after, initialised}
use Rattle.zuc.proofs.StateLemmas.{after-after, sixteen_words-at}
use Rattle.eea3.specs.Eea3.{eea3_iv, eea3_of, eea3_word}
use Rattle.eea3.proofs.Eea3Lemmas.{eea3_of-eea3_of}
use Rattle.eea3.proofs.eea3.Goals as goal

pub loop-number-init : goal.loop-number-init
unfolding after combined
loop-number-init c =
    record { state = c.new-zuc.ensures ∙ ap (initialised c.args.key.now) c.eea3_iv.ensures; text = refl }

pub loop-number-preserved : goal.loop-number-preserved
unfolding eea3_word
loop-number-preserved c =
    let start = initialised c.args.key.now (eea3_iv c.args.count c.args.bearer c.args.dir) in
    let f = eea3_word c.args.key.now c.args.count c.args.bearer c.args.dir in
    let n = c.loop-number.number in
    let words = c.next_words-words.result in
    let stops : c.min-end.result ≡ min (64 * n + 64) (length c.args.text.now) = omega arith in
    let same : (i : ℕ) → i < 16 → slice_index words i ≡ f (16 * n + i) =
    λ i h. sixteen_words-at start c.loop-number.zuc words (16 * n) i c.loop-number.invariant.state c.next_words-words.ensures.value h in
    let more : 16 * n + 16 ≡ 16 * (n + 1) = omega arith in
    record {
      state = c.next_words-words.ensures.state ∙ ap (λ s. after s 16) c.loop-number.invariant.state
          ∙ after-after start (16 * n) 16 ∙ ap (after start) more;
      text = rw (c.combine_words.ensures, c.loop-number.invariant.text)
          (combined_block f words c.args.text.now n c.min-end.result (omega arith) stops same);
    }

pub returns-clause-value : goal.returns-clause-value
unfolding eea3_of
returns-clause-value c =
    c.loop-number.invariant.text
    ∙ combined_all (octet_in (eea3_word c.args.key.now c.args.count c.args.bearer c.args.dir)) c.args.text.now (64 * c.loop-number.number) (omega arith)

pub returns-clause-twice : goal.returns-clause-twice
returns-clause-twice c =
    ap (eea3_of c.args.key.now c.args.count c.args.bearer c.args.dir) (returns-clause-value c)
    ∙ eea3_of-eea3_of c.args.key.now c.args.count c.args.bearer c.args.dir c.args.text.now
