use Rattle.std.proofs.Common.{◌≡◌, sym, ap, ◌∙◌}
use Rattle.std.proofs.lemmas.Result.{IfOk-weaker}
use Rattle.variant_runs.specs.Judged.{entries, judged, judged_with}
use Rattle.item_faults.specs.Changes.{variant}
use Rattle.variant_runs.proofs.Through.{through}
use Rattle.variant_runs.proofs.studies.Study.verdict.Goals as goal

pub returns-in-Some-clause-judged : goal.returns-in-Some-clause-judged
returns-in-Some-clause-judged c =
    let o = c.args.self.now in
    let faults = c.args.faults.now in
    let is =
    through (λ list. list.items) (judged_with o faults) c.in_ok-list.field-0 c.in-Some.list (variant faults (entries o))
    c.in_ok-list.ensures.items c.in-Some.is in
    IfOk-weaker c.judged_with.result _ (λ told. told ≡ judged o faults)
    (λ told same. same ∙ ap (judged_with o faults) c.as_slice.ensures.value ∙ sym is) c.judged_with.ensures.judged
