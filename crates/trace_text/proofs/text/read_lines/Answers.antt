use Rattle.std.proofs.Common.{◌≡◌, length, rules}
use Rattle.trace_text.proofs.Lines.{reading_ends}
use Rattle.trace_text.proofs.text.read_lines.Goals as goal

pub returns-clause-reads : goal.returns-clause-reads
returns-clause-reads c =
    let none : length c.loop-rest.rest.now ≡ 0 = search rules in
    reading_ends c.args.text.now c.loop-rest.rest.now c.loop-rest.number c.loop-rest.question c.loop-rest.invariant.reading none
