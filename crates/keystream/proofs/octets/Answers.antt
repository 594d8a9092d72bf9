use Rattle.std.proofs.Common.{◌≡◌, ◌+◌, ◌-◌, ◌*◌, length, slice_index, refl, ap, ◌∙◌, arith, rules}
use Rattle.std.proofs.lemmas.List.{places}
use Rattle.rec_base.proofs.Numbers.{octets_of-is}
use Rattle.rec_base.specs.BigEndian.{octets_of}
use Rattle.keystream.proofs.CombinedLemmas.{octet_in_more}
use Rattle.keystream.proofs.octets.Goals as goal

pub loop-i-preserved : goal.loop-i-preserved
unfolding octets_of
loop-i-preserved c =
    let i = c.loop-i.i in
    let words = c.args.words.now in
    let new = c.copy_from_slice.new.self in
    let width : 4 * i + 4 - 4 * i ≡ 4 = omega arith in
    let octets : new ≡ octets_of 4 (slice_index words i) =
    c.copy_from_slice.ensures.after ∙ rw (c.to_be_bytes.ensures, octets_of-is) refl in
    let four : length new ≡ 4 = ap length octets in
    record {
      long = search (rules, places);
      done = octet_in_more (slice_index words) c.loop-i.stream new _ i (omega arith) four octets c.loop-i.invariant.done;
    }
