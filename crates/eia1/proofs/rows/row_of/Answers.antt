use Rattle.std.proofs.Common.{ap, ◌∙◌}
use Rattle.eia1.specs.Polynomial.{times_power, times_x}
use Rattle.eia1.proofs.RowLemmas.{sixteen_sums, sums_of_row}
use Rattle.eia1.proofs.rows.row_of.Goals as goal

pub returns : goal.returns
unfolding times_power
returns c =
    let a = c.args.a in
    let b = c.times_x-b.ensures in
    let d = c.times_x-c.ensures ∙ ap times_x b in
    sixteen_sums a _ _ _ ∙ sums_of_row a _ _ _ b d (c.times_x-d.ensures ∙ ap times_x d)
