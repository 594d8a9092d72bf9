use Rattle.nas_guard.proofs.SealFacts.{expected-is_least, opened-sealed}
use Rattle.nas_guard.proofs.sealing.seal.Goals as goal

pub returns-clause-opens : goal.returns-clause-opens
returns-clause-opens c = λ next above few.
    rw c.octets_of.ensures
    (opened-sealed c.args.keys.now c.args.header c.in_ok-count.count next c.args.dir c.args.text.now
    c.requires.above_plain c.requires.at_most_four c.in_ok-count.ensures.below
    (expected-is_least next c.in_ok-count.count above few))
