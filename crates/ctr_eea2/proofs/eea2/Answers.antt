use Rattle.std.proofs.Common.{◌≡◌, ℕ, ◌*◌, ◌+◌, ◌-◌, ◌<◌, ◌++◌, min, length, take, drop, slice_index, refl, arith, sym, ◌∙◌, ap}
use Rattle.std.proofs.lemmas.List.{take_min, drop_min}
use Rattle.aes_core.specs.Aes.{aes}
use Rattle.rec_base.specs.{BigEndian.octets_of, Header.header_of}
use Rattle.keystream.specs.Combined.{combined}
use Rattle.keystream.proofs.CombinedLemmas.{combined_all, combined_piece}
use Rattle.ctr_eea2.specs.Eea2.{eea2_of, keystream_octet}
use Rattle.ctr_eea2.proofs.CombinedLemmas.{eea2_of-eea2_of, keystream_octet_at}
use Rattle.ctr_eea2.proofs.eea2.Goals as goal

pub loop-number-init : goal.loop-number-init
unfolding combined
loop-number-init c = refl

pub loop-number-preserved : goal.loop-number-preserved
loop-number-preserved c =
    let f = keystream_octet c.args.key.now c.args.count c.args.bearer c.args.dir in
    let g = slice_index c.encrypt-stream.result in
    let text = c.args.text.now in
    let n = c.loop-number.number in
    let place = 16 * n in
    let stop = c.min-end.result in
    let stops : stop ≡ min (16 * (n + 1)) (length text) = omega arith in
    let stream : c.encrypt-stream.result ≡ aes c.args.key.now (header_of c.args.count c.args.bearer c.args.dir ++ octets_of 8 n) =
    rw (c.encrypt-stream.ensures, c.counter_block.ensures, c.header-header.ensures, c.new-aes.ensures) refl in
    let same : (k : ℕ) → k < stop - place → g k ≡ f (place + k) =
    λ k h. ap (λ block. slice_index block k) stream
    ∙ sym (keystream_octet_at c.args.key.now c.args.count c.args.bearer c.args.dir n k (omega arith)) in
    let piece = combined_piece f g text place stop (omega arith) (omega arith) same in
    let more : combined f 0 (take stop text) ++ drop stop text ≡ combined f 0 (take (16 * (n + 1)) text) ++ drop (16 * (n + 1)) text =
    rw (stops, take_min (16 * (n + 1)) text, drop_min (16 * (n + 1)) text) refl in
    rw (c.combine.ensures, c.loop-number.invariant) (piece ∙ more)

pub returns-clause-value : goal.returns-clause-value
unfolding eea2_of
returns-clause-value c =
    c.loop-number.invariant
    ∙ combined_all (keystream_octet c.args.key.now c.args.count c.args.bearer c.args.dir) c.args.text.now (16 * c.loop-number.number) (omega arith)

pub returns-clause-twice : goal.returns-clause-twice
returns-clause-twice c =
    ap (eea2_of c.args.key.now c.args.count c.args.bearer c.args.dir) (returns-clause-value c)
    ∙ eea2_of-eea2_of c.args.key.now c.args.count c.args.bearer c.args.dir c.args.text.now
