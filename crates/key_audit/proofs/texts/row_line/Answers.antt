use Rattle.std.proofs.Common.{◌≡◌, ℕ, ◌<◌, ◌∙◌, sym, subst}
use Rattle.key_audit.specs.Local.{mark_at, exact_mark}
use Rattle.key_audit.proofs.{Exactness.exact_marks, Ways.line_same}
use Rattle.key_audit.proofs.texts.row_line.Goals as goal

pub returns-clause-text : goal.returns-clause-text
returns-clause-text c =
    let rows = c.args.ladder.now.rows in
    let exact = c.requires.exact in
    c.in_ok-line.ensures.text ∙ line_same rows (mark_at c.deref.result.now) (exact_mark rows) c.args.row.0
    (subst (λ audit. (s : ℕ) → s < 8 → mark_at audit s c.args.row.0 ≡ exact_mark rows s c.args.row.0)
    (sym c.deref.ensures.value)
    (λ s few.
    exact_marks rows c.requires.ladder c.args.audit.now.rows.items exact c.args.row.0 s c.requires.stands few))
