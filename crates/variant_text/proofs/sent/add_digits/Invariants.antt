use Rattle.std.proofs.Common.{◌≡◌, ◌++◌, map, drop}
use Rattle.variant_text.specs.Sent.{digit}
use Rattle.variant_text.proofs.sent.add_digits.Given as goal

abbrev pub invariant-loop-line : goal.invariant-loop-line
invariant-loop-line l =
    l.initial.text.items ++ map digit l.sent ≡ l.text.items ++ map digit (drop l.line-index l.sent)
