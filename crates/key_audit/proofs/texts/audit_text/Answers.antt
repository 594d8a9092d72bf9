use Rattle.std.proofs.Common.{ap, ◌∙◌, ◌++◌, arith}
use Rattle.key_audit.specs.Local.{exact_mark}
use Rattle.key_audit.proofs.Ways.{one_line}
use Rattle.key_audit.proofs.texts.audit_text.Goals as goal

pub loop-k-preserved : goal.loop-k-preserved
loop-k-preserved c = (
  one_line c.args.ladder.now.rows (exact_mark c.args.ladder.now.rows) c.loop-k.k _ c.loop-k.text.items _ _
      (omega (arith, c.loop-k-test.true, c.len-k-end.ensures.len))
      (c.in_ok-extend_from_slice.ensures.items
      ∙ ap (λ line. c.loop-k.text.items ++ line) (c.deref.ensures.value ∙ c.in_ok-line.ensures.text))
      c.loop-k.invariant.0,
  omega (arith, c.loop-k-test.true, c.len-k-end.ensures.len),
)
