use Rattle.std.proofs.Common.{◌≡◌, [], drop}
use Rattle.variant_text.specs.Outcomes.{outcomes_from}
use Rattle.variant_text.proofs.outcomes.outcomes_text.Given as goal

abbrev pub invariant-loop-outcome : goal.invariant-loop-outcome
invariant-loop-outcome l = outcomes_from [] l.outcomes ≡ outcomes_from l.text.items (drop l.outcome-index l.outcomes)
