use Rattle.std.proofs.Common.{◌∙◌, sym, ap}
use Rattle.lte_world.specs.Whole.{run_of}
use Rattle.lte_world.specs.Whole as whole
use Rattle.run_report.specs.Events.{told_of}
use Rattle.run_report.proofs.{CoincidenceHasString.shown_in, ReportByEvent.tells}
use Rattle.run_report.proofs.courses.happen.Goals as goal

pub returns-clause-tells : goal.returns-clause-tells
returns-clause-tells c =
    let v = c.args.world.now in
    let e = c.args.event.now in
    let says = c.apply.ensures.says ∙ ap (λ w. whole.told_of w e) c.in-Ok.ensures.same in
    tells (told_of (run_of v) e) c.apply.result says (λ proof is. shown_in v e proof c.reserve.ensures.ranges.0
    c.reserve.ensures.ranges.1 c.requires.goes_on c.requires.can.0 (sym is ∙ says))
