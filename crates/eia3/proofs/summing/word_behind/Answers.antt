use Rattle.std.proofs.Common.{◌≡◌, ◌+◌, ap, ◌∙◌, arith}
use Rattle.eia3.proofs.summing.word_behind.Goals as goal

pub returns-then-i-lt15 : goal.returns-then-i-lt15
returns-then-i-lt15 c = λ z h. h.first (c.args.i + 1) (omega arith)

pub returns-else-i-lt15 : goal.returns-else-i-lt15
returns-else-i-lt15 c = λ z h. let end : 16 ≡ c.args.i + 1 = omega arith in h.behind ∙ ap z end
