use Rattle.std.proofs.Common.{◌+◌, ◌<◌, length, sym, ap, subst, arith, rules}
use Rattle.key_terms.proofs.LadderLemmas.{ladder_none}
use Rattle.key_terms.specs.Ladder.{IsLadder}
use Rattle.ladder_text.specs.Report.{place_in, ends_at, text_at, TextAt}
use Rattle.ladder_text.proofs.Printing.{Printed, none_printed, next_printed, line_met, memory_before, one_row_more, ended}
use Rattle.ladder_text.proofs.report.write_lines.Goals as goal

pub loop-index-init : goal.loop-index-init
loop-index-init g c =
    let none = c.requires.empty in
    record {
      printed = none_printed c.args.lines.now (g.W.Edge.told c.args.out.now) c.args.ladder.now.rows none c.requires.good;
      ladder = subst IsLadder (sym none) ladder_none;
      rows = omega (arith, ap length none);
      no_fault = search rules;
      out = search rules;
    }

pub reserve-requires : goal.reserve-requires
reserve-requires g c = omega (arith, c.loop-index.invariant.rows, c.loop-index-test.true, c.requires.few)

pub loop-index-preserved : goal.loop-index-preserved
loop-index-preserved g c =
    let so_far = c.loop-index.invariant in
    let i = c.loop-index.index in
    let lines = c.args.lines.now in
    let line = c.index-lines-index.result in
    let within : i < length lines = c.loop-index-test.true in
    let first = g.W.Edge.told c.args.out.now in
    let mid = g.W.Edge.told c.loop-index.out in
    let now = g.W.Edge.told c.write_line.new.out in
    let ladder = c.reserve.new.self.rows in
    let printed = subst (Printed lines i first mid) (sym c.reserve.ensures.rows) so_far.printed in
    let is = c.index-lines-index.is in
    let rows = printed.rows in
    let met = line_met lines i first mid ladder line printed within is in
    let place = place_in rows line in
    let written = subst (λ s. TextAt s (ends_at place) (text_at place rows (i + 1) line) mid now) c.in-Done.is
    (c.write_line.ensures.line rows printed.stand met) in
    let stand = c.write_line.ensures.rows rows printed.stand met in
    record {
      printed = next_printed lines i first mid now ladder c.write_line.new.ladder.rows line printed within is written stand;
      ladder = c.write_line.ensures.ladder;
      rows = one_row_more rows ladder c.write_line.new.ladder.rows line i printed.stand stand (omega (arith, so_far.rows, ap length c.reserve.ensures.rows));
      no_fault = search rules;
      out = search rules;
    }

pub returns-in-Err-clause-output : goal.returns-in-Err-clause-output
returns-in-Err-clause-output g c = memory_before c.args.lines.now c.loop-index.index _ _ c.loop-index.ladder.rows c.loop-index.invariant.printed

pub returns-in_default : goal.returns-in_default
returns-in_default g c =
    let so_far = c.loop-index.invariant in
    let i = c.loop-index.index in
    let lines = c.args.lines.now in
    let line = c.index-lines-index.result in
    let within : i < length lines = c.loop-index-test.true in
    let first = g.W.Edge.told c.args.out.now in
    let mid = g.W.Edge.told c.loop-index.out in
    let now = g.W.Edge.told c.write_line.new.out in
    let ladder = c.reserve.new.self.rows in
    let printed = subst (Printed lines i first mid) (sym c.reserve.ensures.rows) so_far.printed in
    let is = c.index-lines-index.is in
    let rows = printed.rows in
    let met = line_met lines i first mid ladder line printed within is in
    record {
      output =
          ended lines i first mid now ladder line c.write_line.result printed within is so_far.out.counts
          (c.write_line.ensures.line rows printed.stand met) c.in_default.not-Done;
      memory = search rules;
      no_fault = search rules;
      out = search rules;
    }
