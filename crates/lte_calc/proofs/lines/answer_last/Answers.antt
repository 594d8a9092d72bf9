use Rattle.std.proofs.Common.{◌≡◌, ◌<◌, length, sym, subst, rules}
use Rattle.lte_calc.specs.Lines.{LastAt, ends_of}
use Rattle.lte_calc.proofs.Answering.{empty_is, last_none, last_done, last_ended}
use Rattle.lte_calc.proofs.lines.answer_last.Goals as goal

pub returns-then-is_empty-clause-last : goal.returns-then-is_empty-clause-last
returns-then-is_empty-clause-last g c =
    let out = g.W.Edge.told c.args.out.now in
    let none : length c.args.line.now ≡ 0 = search rules in
    subst (λ s. LastAt s c.args.line.now c.args.good out out) (sym c.ends_of.ensures)
    (subst (λ l. LastAt (ends_of c.args.good) l c.args.good out out) (sym (empty_is c.args.line.now none)) (last_none c.args.good out))

pub returns-in-Done-clause-last : goal.returns-in-Done-clause-last
returns-in-Done-clause-last g c =
    let out = g.W.Edge.told c.args.out.now in
    let after = g.W.Edge.told c.answer_line.new.out in
    let some : 0 < length c.args.line.now = search rules in
    subst (λ s. LastAt s c.args.line.now c.args.good out after) (sym c.ends_of-in-Done.ensures)
    (last_done c.args.line.now c.args.good c.answer_line.new.good out after some c.requires.short c.in-Done.ensures.at)

pub returns-in_default : goal.returns-in_default
returns-in_default g c =
    let some : 0 < length c.args.line.now = search rules in
    record {
      last =
          last_ended c.answer_line.result c.args.line.now c.args.good c.answer_line.new.good
          (g.W.Edge.told c.args.out.now) (g.W.Edge.told c.answer_line.new.out) some c.requires.short
          c.answer_line.ensures.at c.in_default.not-Done;
      no_fault = search rules;
      memory = search rules;
      out = search rules;
    }
