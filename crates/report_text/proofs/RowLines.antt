-- The lines of the rows, one after the other.
use Rattle.std.proofs.Common.{◌≡◌, ℕ, ◌+◌, ◌<◌, List, [], ◌++◌, length, drop, get_or, Some, sym, ◌∙◌, ap}
use Rattle.std.specs.Prelude.{slice_get}
use Rattle.std.proofs.{lemmas.List.append_assoc, lemmas.List.drop_more, lemmas.Option.slice_get-get_or}
use Rattle.key_terms.specs.{declared.row.LadderRow.LadderRow, declared.row.Origin.TheVariants.Root, Ladder.unheld}
use Rattle.report_text.specs.Ladder.{row_text, rows_from}

-- after the line of row k the lines from row k + 1 on are left
pub one_more_row : (rows : List LadderRow) (k : ℕ) (before after whole : List ℕ) → k < length rows
    → ((r : LadderRow) → slice_get rows k ≡ Some r → after ≡ before ++ row_text rows k r)
    → before ++ rows_from rows k (drop k rows) ≡ whole
    → after ++ rows_from rows (k + 1) (drop (k + 1) rows) ≡ whole
one_more_row rows k before after whole below adds so_far =
    let r : LadderRow = get_or rows k (unheld Root []) in
    let added : after ≡ before ++ row_text rows k r = adds r (slice_get-get_or rows k _ below) in
    let rest : List ℕ = rows_from rows (k + 1) (drop (k + 1) rows) in
    ap (λ t. t ++ rest) added ∙ append_assoc before (row_text rows k r) rest
    ∙ ap (λ more. before ++ rows_from rows k more) (sym (drop_more rows k (unheld Root []) below)) ∙ so_far
