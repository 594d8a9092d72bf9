use Rattle.std.proofs.Common.{ap, ◌∙◌, ◌++◌, Some}
use Rattle.key_audit.specs.{Local.mark_of, Text.by_if}
use Rattle.key_audit.proofs.Ways.{one_station}
use Rattle.key_audit.proofs.texts.paths_text.Goals as goal

pub loop-station-preserved : goal.loop-station-preserved
loop-station-preserved c =
    one_station (λ s. by_if c.args.ladder.now.rows c.args.k (mark_of s (Some c.args.marks.now)) s)
    c.loop-station.station c.loop-station.text.items _ _ c.loop-station-test.true
    (c.in_ok-extend_from_slice.ensures.items
    ∙ ap (λ by. c.loop-station.text.items ++ by)
    (c.deref.ensures.value
    ∙ c.in_ok-by.ensures.text
    ∙ ap (λ m. by_if c.args.ladder.now.rows c.args.k m c.loop-station.station) c.mark.ensures))
    c.loop-station.invariant
