use Rattle.std.proofs.Common.{length}
use Rattle.net_bag.proofs.Searching.{left, IsCandidate}
use Rattle.net_bag.proofs.search.first_indexed.Given as goal

abbrev pub invariant-loop-candidate : goal.invariant-loop-candidate
invariant-loop-candidate l = IsCandidate l.index l.records.records l.class l.octets l.candidate

abbrev pub decreases-loop-candidate : goal.decreases-loop-candidate
decreases-loop-candidate l = left l.candidate (length l.index)
