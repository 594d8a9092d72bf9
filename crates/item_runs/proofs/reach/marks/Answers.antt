use Rattle.std.proofs.Common.{sym, ap, ◌∙◌, [], ◌∷◌, ◌++◌}
use Rattle.item_runs.specs.Reach.{is_derived}
use Rattle.item_runs.proofs.Marking.{marks_more}
use Rattle.item_runs.proofs.reach.marks.Goals as goal

pub loop-number-preserved : goal.loop-number-preserved
loop-number-preserved c =
    let made = c.is_derived-mark.ensures ∙ ap (λ m. is_derived c.args.station m c.row-row.result) c.as_slice.ensures.value in
    c.loop-number.invariant
    ∙ marks_more c.args.station c.loop-number.marks.items c.push_reserved.new.self.items c.args.ladder.now.rows c.loop-number.number c.row-row.result
    c.row-row.ensures.row
    (c.push_reserved.ensures.items
    ∙ (λ j. c.reserve.ensures.items j ++ made j ∷ []))
