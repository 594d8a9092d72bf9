use Rattle.std.proofs.Common.{◌≡◌, arith, subst, Some}
use Rattle.std.specs.List.{slice_get}
use Rattle.key_terms.specs.declared.row.LadderRow.{LadderRow}
use Rattle.key_audit.specs.Local.{Fills}
use Rattle.key_audit.proofs.{Exactness.exact_where_fits, Filling.filled_more, Filling.filled_all}
use Rattle.key_audit.proofs.audits.fill.Goals as goal

pub loop-k-preserved : goal.loop-k-preserved
loop-k-preserved c = (
  filled_more c.args.ladder.now.rows c.len.ensures.ladder c.loop-k.rows.items _ c.audit_row-row.result c.loop-k.k
      c.in_ok-push.ensures.items c.loop-k.invariant.0 (omega (arith, c.loop-k-test.true, c.len-k-end.ensures.len))
      (subst (λ before. (r : LadderRow)
      → slice_get c.args.ladder.now.rows c.loop-k.k ≡ Some r
      → Fills c.args.ladder.now.rows before c.loop-k.k r c.audit_row-row.result)
      c.deref.ensures.value c.audit_row-row.ensures),
  omega (arith, c.loop-k-test.true, c.len-k-end.ensures.len),
)

pub returns-clause-exact : goal.returns-clause-exact
returns-clause-exact c =
    exact_where_fits c.args.ladder.now.rows c.len.ensures.ladder c.loop-k.rows.items
    (filled_all c.args.ladder.now.rows c.loop-k.rows.items c.loop-k.k c.loop-k.invariant.0
    (omega (arith, c.loop-k.invariant.1, c.loop-k-test.false, c.len-k-end.ensures.len)))
