use Rattle.std.proofs.Common.{◌≡◌, ◌+◌, ◌-◌, ap, ◌∙◌, arith}
use Rattle.eia3.proofs.summing.word_at.Goals as goal

pub returns-then-i-lt16 : goal.returns-then-i-lt16
returns-then-i-lt16 c = λ z h k. h.first c.args.i (omega arith)

pub returns-else-i-lt16 : goal.returns-else-i-lt16
returns-else-i-lt16 c = λ z h k. let back : 16 + (c.args.i - 16) ≡ c.args.i = omega arith in k.first (c.args.i - 16) (omega arith) ∙ ap z back
