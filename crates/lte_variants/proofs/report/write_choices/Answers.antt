use Rattle.std.proofs.lemmas.Result.{err_from_is_err_and}
use Rattle.lte_variants.proofs.Telling.{count_more, few_more, one_cut, one_more}
use Rattle.lte_variants.proofs.report.write_choices.Goals as goal

pub choices-preserved : goal.choices-preserved
choices-preserved g c =
    let o = c.args.study.now in
    let left = c.choices.choices in
    let rest = c.next.new.self in
    let told = c.in_ok-told-in-Some.told in
    let is = c.in-Some.ensures.next in
    let same = c.faults.ensures.faults in
    record {
      text = one_more c.args.sent o c.args.choices left c.in-Some.choice c.faults.result.now rest told c.choices.invariant.text is same
          c.in_ok-told-in-Some.ensures.text;
      count = count_more o left rest c.in-Some.choice c.faults.result.now c.choices.count c.counted-count.result _ told
          c.choices.invariant.count is same c.in_ok-told-in-Some.ensures.told c.counted-count.ensures;
      few = few_more left rest c.in-Some.choice c.choices.count c.counted-count.result _ told c.choices.invariant.few is c.counted-count.ensures;
    }

pub returns-in_err-told-in-Some-clause-text : goal.returns-in_err-told-in-Some-clause-text
returns-in_err-told-in-Some-clause-text g c =
    let p = err_from_is_err_and c.from_residual.result c.from_residual.ensures.1 in
    rw (p.1, p.2)
    (one_cut c.args.sent c.args.study.now c.args.choices c.choices.choices c.in-Some.choice c.faults.result.now c.next.new.self
    c.choices.invariant.text c.in-Some.ensures.next c.faults.ensures.faults c.in_err-told-in-Some.ensures.text)
