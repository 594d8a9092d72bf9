-- A loop over the rows of a ladder.
use Rattle.std.proofs.Common.{◌≡◌, sym, ap, ◌∙◌, ℕ, ◌+◌, Bool, List, [], ◌∷◌, ◌++◌, drop, slice_get, Some}
use Rattle.std.proofs.{lemmas.List.drop_more, lemmas.Option.get_or_from_slice_get, lemmas.Option.slice_get_within}
use Rattle.key_terms.specs.declared.row.LadderRow.{LadderRow}
use Rattle.item_runs.specs.Reach.{is_derived, marks_from}

-- the mark of one row more
pub marks_more : (station : ℕ) (marks next : List Bool) (rows : List LadderRow) (n : ℕ) (r : LadderRow)
    → slice_get rows n ≡ Some r
    → next ≡ marks ++ is_derived station marks r ∷ []
    → marks_from station marks (drop n rows) ≡ marks_from station next (drop (n + 1) rows)
unfolding marks_from
marks_more station marks next rows n r at more =
    ap (marks_from station marks)
    (drop_more rows n r (slice_get_within rows n r at) ∙ ap (λ x. x ∷ drop (n + 1) rows) (get_or_from_slice_get rows n r r at))
    ∙ ap (λ m. marks_from station m (drop (n + 1) rows)) (sym more)
