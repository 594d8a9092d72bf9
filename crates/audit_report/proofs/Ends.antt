-- Each text of an audit is a line.
use Rattle.std.proofs.Common.{ℕ, Option, List, refl}
use Rattle.std.specs.{Prelude.codes, Fmt.decimal}
use Rattle.edge_io.specs.Lines.{EndsLine}
use Rattle.edge_io.proofs.Ending.{feed, on}
use Rattle.key_terms.specs.declared.row.LadderRow.{LadderRow}
use Rattle.report_text.specs.Ladder.{form_at, without_comma}
use Rattle.key_audit.specs.Text.{first_line, row_head, line_of, names_text, paths_text, row_line, last_line}

pub first_ends : (rows : ℕ) → EndsLine (first_line rows)
unfolding first_line
first_ends rows = on (codes "audit ") _ (on (decimal rows) _ feed)

line_ends : (k : ℕ) (form names paths : List ℕ) → EndsLine (line_of k form names paths)
line_ends k form names paths = on (row_head k) _ (on form _ (on (codes " ") _ (on (without_comma names) _ (on paths _ feed))))

pub row_ends : (rows : List LadderRow) (marks : ℕ → ℕ → Option ℕ) (k : ℕ) → EndsLine (row_line rows marks k)
row_ends rows marks k = line_ends k (form_at rows k) (names_text (λ station. marks station k)) (paths_text rows k (λ station. marks station k))

pub last_ends : EndsLine last_line
last_ends = record { last = refl }
