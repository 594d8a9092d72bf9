-- The lines of an audit, one after the other.
use Rattle.std.proofs.Common.{◌≡◌, ap, ◌∙◌, arith, ℕ, suc, ◌+◌, ◌-◌, ◌<◌, Option, List, ◌++◌}
use Rattle.key_audit.specs.Text.{row_line, row_lines}
use Rattle.key_terms.specs.declared.row.LadderRow.{LadderRow}
use Rattle.run_report.proofs.Partly.{Begins}

-- those of so many rows from row k on begin with its line
pub row_more : (rows : List LadderRow) (marks : ℕ → ℕ → Option ℕ) (k all : ℕ)
    → k < all
    → Begins (row_lines rows marks k (all - k)) (row_line rows marks k) (row_lines rows marks (k + 1) (all - (k + 1)))
row_more rows marks k all below =
    let left : all - k ≡ suc (all - (k + 1)) = omega (arith, below) in
    let next : suc k ≡ k + 1 = omega arith in
    record { is = ap (row_lines rows marks k) left ∙ ap (λ n. row_line rows marks k ++ row_lines rows marks n (all - (k + 1))) next }
