use Rattle.std.proofs.Common.{◌≡◌, ◌∙◌, ◌<◌, ◌^◌, sym, ap, subst, length}
use Rattle.item_faults.specs.Faults.{faults_of}
use Rattle.fault_sets.specs.Sets.{sets_of}
use Rattle.lte_variants.specs.{Choices.in_share, Kinds.happening, Report.asked}
use Rattle.lte_variants.proofs.Few.{asked-few}
use Rattle.lte_variants.proofs.report.write_variants.Goals as goal

pub write_told-requires-clause-few : goal.write_told-requires-clause-few
write_told-requires-clause-few g c =
    let r = c.args.request.now in
    let o = c.args.study.now in
    let messages = c.args.messages.now in
    let faults = c.as_slice.ensures.value ∙ c.in-Ok.ensures.faults ∙ ap (λ es. happening r.kinds (faults_of es messages)) c.entries.ensures in
    let is : c.of-choices.result ≡ asked r o messages =
    c.of-choices.ensures ∙ ap (λ fs. in_share r.share (sets_of r.faults fs)) faults in
    subst (λ cs. length cs < 2 ^ 128) (sym is) (asked-few r o messages c.requires.few c.requires.fewer)
