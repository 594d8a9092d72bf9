use Rattle.item_probe.proofs.parts.+chain.Given as goal

abbrev pub decreases-chain : goal.decreases-chain
decreases-chain l = l.times
