use Rattle.std.proofs.Common.{length-append, length-take, ◌≡◌, ◌+◌, ◌≤◌, [], ◌++◌, length, take, refl, sym, ap, subst, append-nil, rules, arith}
use Rattle.edge_io.specs.Told.{HasEnded}
use Rattle.lte_calc.specs.{Output.longest_line, Run.IsLine, Run.Came}
use Rattle.lte_calc.specs.Lines.{AnsweredUpTo, StoppedIn, LastAt}
use Rattle.lte_calc.proofs.Running.{Midway, midway_first, came_more, answered_on, memory_run, stopped_run, last_run}
use Rattle.lte_calc.proofs.lines.read_lines.Goals as goal

pub pieces-init : goal.pieces-init
pieces-init g c =
    let none = c.new-held.ensures.items in
    record {
      midway = midway_first c.new-held.result.items (g.R.Edge.told c.args.input.now) (g.W.Edge.told c.args.out.now) none;
      begun = subst IsLine (sym none) (refl, omega arith);
      no_read_fault = search rules;
      no_write_fault = search rules;
      met = search rules;
      input = search rules;
      out = search rules;
    }

pub returns-then-count-eq0-clause-run : goal.returns-then-count-eq0-clause-run
returns-then-count-eq0-clause-run g c =
    let mid = g.R.Edge.told c.pieces.input in
    let now = g.R.Edge.told c.read.new.self in
    let held = c.pieces.held.items in
    let none : c.in-Ok.count ≡ 0 = search rules in
    let came : Came (take c.in-Ok.count c.read.new.buf) mid now = record { gives = c.in-Ok.ensures.octets; most = c.in-Ok.ensures.most } in
    let nothing = subst (λ n. Came (take n c.read.new.buf) mid now) none came in
    let end : HasEnded now = search rules in
    let last = subst (λ l.
    LastAt c.answer_last.result l c.pieces.good (g.W.Edge.told c.pieces.out) (g.W.Edge.told c.answer_last.new.out))
    c.as_slice.ensures.value c.answer_last.ensures.last in
    last_run c.answer_last.result held c.pieces.good (g.R.Edge.told c.args.input.now) now (g.W.Edge.told c.args.out.now) (g.W.Edge.told c.pieces.out) _
    (came_more held [] held c.pieces.good _ mid now _ _ c.pieces.invariant.midway nothing (sym (append-nil held)))
    c.pieces.invariant.no_write_fault.writes c.pieces.invariant.begun end last

pub returns-then-is_err-clause-run : goal.returns-then-is_err-clause-run
returns-then-is_err-clause-run g c =
    let mid = g.R.Edge.told c.pieces.input in
    let now = g.R.Edge.told c.read.new.self in
    let held = c.pieces.held.items in
    let piece = take c.in-Ok.count c.read.new.buf in
    let came : Came piece mid now = record { gives = c.in-Ok.ensures.octets; most = c.in-Ok.ensures.most } in
    let small : c.in-Ok.count ≤ 4096 = search rules in
    let few : length (held ++ piece) ≤ longest_line + 4096 = omega (
      arith,
      length-append held piece,
      length-take c.in-Ok.count c.read.new.buf,
      c.pieces.invariant.begun.1,
      small,
    ) in
    memory_run (held ++ piece) c.pieces.good _ now _ _
    (came_more held piece (held ++ piece) c.pieces.good _ mid now _ _ c.pieces.invariant.midway came refl) few

pub returns-in-Err-answer_whole-clause-run : goal.returns-in-Err-answer_whole-clause-run
returns-in-Err-answer_whole-clause-run g c =
    let mid = g.R.Edge.told c.pieces.input in
    let now = g.R.Edge.told c.read.new.self in
    let held = c.pieces.held.items in
    let piece = take c.in-Ok.count c.read.new.buf in
    let after = c.extend_from_slice.new.items.items in
    let came : Came piece mid now = record { gives = c.in-Ok.ensures.octets; most = c.in-Ok.ensures.most } in
    let put : after ≡ held ++ piece = search rules in
    let stopped = subst (λ t.
    StoppedIn c.in-Err-answer_whole.status t (g.W.Edge.told c.pieces.out) (g.W.Edge.told c.answer_whole.new.out))
    c.as_slice-in-pieces.ensures.value c.in-Err-answer_whole.ensures.stopped in
    let small : c.in-Ok.count ≤ 4096 = search rules in
    let few : length after ≤ longest_line + 4096 = omega (
      arith,
      ap length put,
      length-append held piece,
      length-take c.in-Ok.count c.read.new.buf,
      c.pieces.invariant.begun.1,
      small,
    ) in
    stopped_run c.in-Err-answer_whole.status after c.pieces.good _ now _ _ _
    (came_more held piece after c.pieces.good _ mid now _ _ c.pieces.invariant.midway came put)
    few c.pieces.invariant.no_write_fault.writes stopped

pub returns-in-Err-begun-clause-run : goal.returns-in-Err-begun-clause-run
returns-in-Err-begun-clause-run g c =
    let mid = g.R.Edge.told c.pieces.input in
    let now = g.R.Edge.told c.read.new.self in
    let held = c.pieces.held.items in
    let piece = take c.in-Ok.count c.read.new.buf in
    let after = c.extend_from_slice.new.items.items in
    let came : Came piece mid now = record { gives = c.in-Ok.ensures.octets; most = c.in-Ok.ensures.most } in
    let put : after ≡ held ++ piece = search rules in
    let begun = c.in-Ok-answer_whole.begun.now in
    let answered = subst (λ t. AnsweredUpTo t begun c.pieces.good c.answer_whole.new.good (g.W.Edge.told c.pieces.out)
    (g.W.Edge.told c.answer_whole.new.out))
    c.as_slice-in-pieces.ensures.value c.in-Ok-answer_whole.ensures.answered in
    memory_run begun c.answer_whole.new.good _ now _ _
    (answered_on after begun c.pieces.good c.answer_whole.new.good _ now _ _ _
    (came_more held piece after c.pieces.good _ mid now _ _ c.pieces.invariant.midway came put) answered)
    (omega (arith, c.in-Ok-answer_whole.ensures.begun.1))

pub pieces-preserved : goal.pieces-preserved
pieces-preserved g c =
    let mid = g.R.Edge.told c.pieces.input in
    let now = g.R.Edge.told c.read.new.self in
    let held = c.pieces.held.items in
    let piece = take c.in-Ok.count c.read.new.buf in
    let after = c.extend_from_slice.new.items.items in
    let came : Came piece mid now = record { gives = c.in-Ok.ensures.octets; most = c.in-Ok.ensures.most } in
    let put : after ≡ held ++ piece = search rules in
    let begun = c.in-Ok-answer_whole.begun.now in
    let kept = c.in-Ok-begun.ensures.items in
    let answered = subst (λ t. AnsweredUpTo t begun c.pieces.good c.answer_whole.new.good (g.W.Edge.told c.pieces.out)
    (g.W.Edge.told c.answer_whole.new.out))
    c.as_slice-in-pieces.ensures.value c.in-Ok-answer_whole.ensures.answered in
    record {
      midway =
          subst (λ b. Midway b c.answer_whole.new.good (g.R.Edge.told c.args.input.now) now
          (g.W.Edge.told c.args.out.now) (g.W.Edge.told c.answer_whole.new.out))
          (sym kept)
          (answered_on after begun c.pieces.good c.answer_whole.new.good _ now _ _ _
          (came_more held piece after c.pieces.good _ mid now _ _ c.pieces.invariant.midway came put) answered);
      begun = subst IsLine (sym kept) c.in-Ok-answer_whole.ensures.begun;
      no_read_fault = search rules;
      no_write_fault = search rules;
      met = search rules;
      input = search rules;
      out = search rules;
    }
