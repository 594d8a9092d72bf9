use Rattle.std.proofs.Common.{◌+◌, slice_index, ◌∙◌, arith}
use Rattle.keystream.specs.Combined.{octet_in}
use Rattle.keystream.proofs.CombinedLemmas.{combined_same}
use Rattle.keystream.proofs.combine_words.Goals as goal

pub returns : goal.returns
returns c =
    c.combine.ensures
    ∙ combined_same (slice_index c.octets-stream.result) (octet_in (slice_index c.args.words.now)) 0 0 c.args.piece.now
    (λ k h. c.octets-stream.ensures (0 + k) (omega arith))
