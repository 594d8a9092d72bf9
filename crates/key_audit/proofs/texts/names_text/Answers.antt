use Rattle.std.proofs.Common.{ap, ◌∙◌, ◌++◌, Some}
use Rattle.key_audit.specs.{Local.mark_of, Text.name_if}
use Rattle.key_audit.proofs.Ways.{one_station}
use Rattle.key_audit.proofs.texts.names_text.Goals as goal

pub loop-station-preserved : goal.loop-station-preserved
loop-station-preserved c =
    one_station (λ s. name_if (mark_of s (Some c.args.marks.now)) s) c.loop-station.station c.loop-station.text.items _ _ c.loop-station-test.true
    (c.in_ok-extend_from_slice.ensures.items
    ∙ ap (λ name. c.loop-station.text.items ++ name)
    (c.deref.ensures.value ∙ c.in_ok-name.ensures.text ∙ ap (λ m. name_if m c.loop-station.station) c.mark.ensures))
    c.loop-station.invariant
