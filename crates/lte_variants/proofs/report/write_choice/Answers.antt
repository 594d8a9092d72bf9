use Rattle.std.proofs.Common.{◌∙◌, sym, subst, Ok, Err, Bool, true, false, Some, None}
use Rattle.std.proofs.lemmas.Result.{err_from_is_err_and}
use Rattle.edge_io.proofs.Ending.{text_is}
use Rattle.run_report.specs.Written.{WritesText}
use Rattle.lte_variants.proofs.Ends.{variant_is}
use Rattle.lte_variants.proofs.Telling.{all_of_it, cut_of_it, none_of_it, told_line, told_so}
use Rattle.lte_variants.proofs.report.write_choice.Goals as goal

pub write_text-requires-clause-lines : goal.write_text-requires-clause-lines
write_text-requires-clause-lines g c = text_is _ _ _ c.variant_line.ensures.text (variant_is _ _ _)

pub returns-in_ok-write_text-in-Ok-Some-clause-text : goal.returns-in_ok-write_text-in-Ok-Some-clause-text
returns-in_ok-write_text-in-Ok-Some-clause-text g c =
    let told = sym c.in-Ok-Some.field-0-is ∙ c.in-Ok-Some.ensures.judged in
    subst (λ t. WritesText t (Ok true) (g.W.Edge.told c.args.out.now) (g.W.Edge.told c.write_text.new.out))
    (told_line c.args.sent c.args.study.now c.args.faults.now (Some c.in-Ok-Some.verdict) told)
    (all_of_it c.requires.out_ready (c.in_ok-write_text-in-Ok-Some.ensures _ c.variant_line.ensures.text))

pub returns-in_ok-write_text-in-Ok-Some-clause-told : goal.returns-in_ok-write_text-in-Ok-Some-clause-told
returns-in_ok-write_text-in-Ok-Some-clause-told g c =
    let told = sym c.in-Ok-Some.field-0-is ∙ c.in-Ok-Some.ensures.judged in
    told_so c.args.study.now c.args.faults.now (Some c.in-Ok-Some.verdict) told

pub returns-in_err-write_text-in-Ok-Some-clause-text : goal.returns-in_err-write_text-in-Ok-Some-clause-text
returns-in_err-write_text-in-Ok-Some-clause-text g c =
    let p = err_from_is_err_and c.from_residual.result c.from_residual.ensures.1 in
    let told = sym c.in-Ok-Some.field-0-is ∙ c.in-Ok-Some.ensures.judged in
    rw (p.1, p.2)
    (subst (λ t. WritesText {A = Bool} t (Err c.in_err-write_text-in-Ok-Some.field-0.0) (g.W.Edge.told c.args.out.now) (g.W.Edge.told c.write_text.new.out))
    (told_line c.args.sent c.args.study.now c.args.faults.now (Some c.in-Ok-Some.verdict) told)
    (cut_of_it c.requires.out_ready (c.in_err-write_text-in-Ok-Some.ensures _ c.variant_line.ensures.text)))

pub returns-in-Ok-None-clause-text : goal.returns-in-Ok-None-clause-text
returns-in-Ok-None-clause-text g c =
    subst (λ t. WritesText t (Ok false) (g.W.Edge.told c.args.out.now) (g.W.Edge.told c.args.out.now))
    (told_line c.args.sent c.args.study.now c.args.faults.now None (sym c.in-Ok-None.field-0-is ∙ c.in-Ok-None.ensures.judged))
    (none_of_it c.requires.out_ready)

pub returns-in-Ok-None-clause-told : goal.returns-in-Ok-None-clause-told
returns-in-Ok-None-clause-told g c =
    told_so c.args.study.now c.args.faults.now None (sym c.in-Ok-None.field-0-is ∙ c.in-Ok-None.ensures.judged)
