use Rattle.std.proofs.Common.{◌<◌, ◌≤◌, length, take, sym, ◌∙◌, rules, arith}
use Rattle.std.proofs.lemmas.List.{length-take}
use Rattle.text_lines.proofs.Ended.{cut_at_feed, no_feed}
use Rattle.lte_calc.specs.{Output.longest_line, Run.IsLine}
use Rattle.lte_calc.proofs.Answering.{none_answered, one_more, stopped_at, stopped_long, too_long_at, too_long_whole}
use Rattle.lte_calc.proofs.lines.answer_whole.Goals as goal

pub lines-init : goal.lines-init
lines-init g c = record {
  so_far = none_answered c.args.text.now c.args.good.now (g.W.Edge.told c.args.out.now);
  no_fault = search rules;
  out = search rules;
}

pub lines-preserved : goal.lines-preserved
lines-preserved g c =
    let rest = c.lines.rest.now in
    let end = c.in-Some.end in
    let cut = cut_at_feed rest end (sym c.first_feed.ensures.feed ∙ c.in-Some.is) in
    let few : end ≤ longest_line = search rules in
    let is : IsLine (take end rest) = (cut.0, omega (arith, few, length-take end rest)) in
    record {
      so_far =
          one_more c.args.text.now rest _ (take end rest) c.args.good.now c.lines.good c.answer_line.new.good _ _ _
          c.lines.invariant.so_far is cut.1 c.in-Done.ensures.at;
      no_fault = search rules;
      out = search rules;
    }

pub returns-then-end-gt-MOST_OCTETS-clause-stopped : goal.returns-then-end-gt-MOST_OCTETS-clause-stopped
returns-then-end-gt-MOST_OCTETS-clause-stopped g c =
    let rest = c.lines.rest.now in
    let end = c.in-Some.end in
    let cut = cut_at_feed rest end (sym c.first_feed.ensures.feed ∙ c.in-Some.is) in
    let within : end < length rest = search rules in
    let long : longest_line < end = search rules in
    stopped_long c.args.text.now rest c.args.good.now c.lines.good _ _ c.lines.invariant.so_far (too_long_at rest end cut.0 within long)

pub returns-in_default : goal.returns-in_default
returns-in_default g c =
    let rest = c.lines.rest.now in
    let end = c.in-Some.end in
    let cut = cut_at_feed rest end (sym c.first_feed.ensures.feed ∙ c.in-Some.is) in
    let few : end ≤ longest_line = search rules in
    let is : IsLine (take end rest) = (cut.0, omega (arith, few, length-take end rest)) in
    record {
      answered = tt;
      begun = tt;
      stopped =
          stopped_at c.answer_line.result c.args.text.now rest (take end rest) _ c.args.good.now c.lines.good
          c.answer_line.new.good _ _ _ c.lines.invariant.so_far c.lines.invariant.no_fault.writes is cut.1
          c.answer_line.ensures.at c.in_default.not-Done;
      no_fault = search rules;
      memory = search rules;
      out = search rules;
    }

pub returns-then-rest-gt-MOST_OCTETS-clause-stopped : goal.returns-then-rest-gt-MOST_OCTETS-clause-stopped
returns-then-rest-gt-MOST_OCTETS-clause-stopped g c =
    let rest = c.lines.rest.now in
    let none = no_feed rest (sym c.first_feed.ensures.feed ∙ c.in-None.is) in
    let long : longest_line < length rest = search rules in
    stopped_long c.args.text.now rest c.args.good.now c.lines.good _ _ c.lines.invariant.so_far (too_long_whole rest none long)

pub returns-in-None-clause-begun : goal.returns-in-None-clause-begun
returns-in-None-clause-begun g c =
    let rest = c.lines.rest.now in
    let few : length rest ≤ longest_line = search rules in
    (no_feed rest (sym c.first_feed.ensures.feed ∙ c.in-None.is), few)
