use Rattle.std.proofs.Common.{◌≡◌, ap, ◌∙◌, length, rules}
use Rattle.std.proofs.lemmas.Result.{IfOk-weaker}
use Rattle.item_faults.specs.AtOnce.{items_of}
use Rattle.item_standing.specs.Standing.{standing_of}
use Rattle.variant_runs.specs.{Judged.standing_with, Original.run_of}
use Rattle.variant_runs.proofs.studies.Study.standing_with.Goals as goal

pub returns-clause-standing : goal.returns-clause-standing
returns-clause-standing c =
    let study = c.self.inside in
    let list = c.args.list.now in
    let many : c.len-steps.result ≡ length study.steps.items = search rules in
    let sending = c.as_slice.ensures.value ∙ c.self.invariant.is_sending in
    let run = c.in_ok-course.ensures.run ∙ ap (λ names. run_of study.setup study.acts.items (items_of names list)) sending in
    IfOk-weaker c.standing_of.result _ (λ s. s ≡ standing_with c.args.self.now list)
    (λ s same. same ∙ (λ j. standing_of study.acts.items (many j) (c.serving.ensures j) (run j))
    ∙ ap (λ o. standing_with o list) c.self.view_is) c.standing_of.ensures.standing
