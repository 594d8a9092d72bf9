use Rattle.std.proofs.Common.{◌≡◌, ap, ◌∙◌, ◌∷◌, [], ◌++◌, Result, Ok, rules}
use Rattle.lte_world.specs.{declared.faults.WorldFault.WorldFault, Whole.run_of, Whole.told_of}
use Rattle.core_relocation.specs.{declared.lines.TwoLine.TwoLine, Holder.fields_given, Run.answer_in, Whole.state_of}
use Rattle.core_relocation.proofs.Applied.{away_keeps, in_written, line_in, line_keeps, line_runs}
use Rattle.core_relocation.proofs.two.Two.apply.Goals as goal

pub invariant_of-self-in-Some : goal.invariant_of-self-in-Some
invariant_of-self-in-Some c =
    away_keeps (record {
      world = c.self.inside.world;
      cores = c.self.inside.cores;
      events = c.self.inside.log.events;
      senders = c.self.inside.log.senders;
    })
    c.self.invariant c.args.event.now
    c.requires.can.0 c.reserve-2.new.self c.in_ok-reserve.ensures.same
    c.reserve.new.self.events c.reserve.ensures.events c.reserve.new.self.senders c.reserve.ensures.senders c.station_in-from.result c.station_in-from.ensures
    c.in-Some.core c.in-Some.ensures c.put.new.self.events c.put.ensures.events c.put.new.self.senders c.put.ensures.senders

pub returns-in_err-line-clause-written : goal.returns-in_err-line-clause-written
returns-in_err-line-clause-written c runs not =
    let says : c.from_residual-in_err-line.result
    ≡ answer_in c.args.self.now.cores (state_of c.args.self.now) (run_of c.args.self.now.world)
    (told_of c.args.self.now.world c.args.event.now) c.args.event.now =
    search rules in
    says
    ∙ in_written (record {
      world = c.self.inside.world;
      cores = c.self.inside.cores;
      events = c.self.inside.log.events;
      senders = c.self.inside.log.senders;
    })
    c.args.self.now c.self.view_is c.self.invariant c.args.event.now c.requires.can.0 runs

pub invariant_of-self-2 : goal.invariant_of-self-2
invariant_of-self-2 c =
    line_keeps (record {
      world = c.self.inside.world;
      cores = c.self.inside.cores;
      events = c.self.inside.log.events;
      senders = c.self.inside.log.senders;
    })
    c.self.invariant c.args.event.now
    c.requires.can.0 c.reserve-2.new.self c.in_ok-reserve.ensures.same
    c.reserve.new.self.events c.reserve.ensures.events c.reserve.new.self.senders c.reserve.ensures.senders c.station_in-from.result c.station_in-from.ensures
    (search rules) c.in_ok-line.line c.in_ok-line.ensures.says c.apply.new.self c.apply.ensures.run c.apply.ensures.setup c.in_ok-line.ensures.journal
    c.acting-core.result c.acting-core.ensures c.replies.result.now.items c.replies.ensures.last c.taken-came.result
    (c.taken-came.ensures ∙ ap fields_given c.as_slice.ensures.value) c.held_after-self-inside.result c.held_after-self-inside.ensures
    c.put-2.new.self.events (c.put-2.ensures.events ∙ ap (λ es. es ++ c.args.event.now ∷ []) c.sent.ensures.events)
    c.put-2.new.self.senders (c.put-2.ensures.senders ∙ c.sent.ensures.senders)
    c.in_ok-line.ensures.written

pub returns-clause-state : goal.returns-clause-state
returns-clause-state c =
    line_in (record {
      world = c.self.inside.world;
      cores = c.self.inside.cores;
      events = c.self.inside.log.events;
      senders = c.self.inside.log.senders;
    })
    c.self.invariant c.args.event.now
    c.requires.can.0 c.reserve-2.new.self c.in_ok-reserve.ensures.same
    c.reserve.new.self.events c.reserve.ensures.events c.reserve.new.self.senders c.reserve.ensures.senders c.station_in-from.result c.station_in-from.ensures
    (search rules) c.in_ok-line.line c.in_ok-line.ensures.says c.apply.new.self c.apply.ensures.run c.apply.ensures.setup c.in_ok-line.ensures.journal
    c.acting-core.result c.acting-core.ensures c.replies.result.now.items c.replies.ensures.last c.taken-came.result
    (c.taken-came.ensures ∙ ap fields_given c.as_slice.ensures.value) c.held_after-self-inside.result c.held_after-self-inside.ensures
    c.put-2.new.self.events (c.put-2.ensures.events ∙ ap (λ es. es ++ c.args.event.now ∷ []) c.sent.ensures.events)
    c.put-2.new.self.senders (c.put-2.ensures.senders ∙ c.sent.ensures.senders)
    c.args.self.now c.self.view_is

pub returns-clause-written : goal.returns-clause-written
returns-clause-written c runs not =
    let told : Result TwoLine WorldFault = Ok (TwoLine.By (record c.in_ok-line.line { step = c.len.result }) c.acted-by.result) in
    let says : told
    ≡ answer_in c.args.self.now.cores (state_of c.args.self.now) (run_of c.args.self.now.world)
    (told_of c.args.self.now.world c.args.event.now) c.args.event.now =
    search rules in
    says
    ∙ in_written (record {
      world = c.self.inside.world;
      cores = c.self.inside.cores;
      events = c.self.inside.log.events;
      senders = c.self.inside.log.senders;
    })
    c.args.self.now c.self.view_is c.self.invariant c.args.event.now c.requires.can.0 runs

pub returns-clause-runs : goal.returns-clause-runs
returns-clause-runs c runs =
    line_runs (record {
      world = c.self.inside.world;
      cores = c.self.inside.cores;
      events = c.self.inside.log.events;
      senders = c.self.inside.log.senders;
    })
    c.self.invariant c.args.event.now
    c.requires.can.0 c.reserve-2.new.self c.in_ok-reserve.ensures.same
    c.reserve.new.self.events c.reserve.ensures.events c.reserve.new.self.senders c.reserve.ensures.senders c.station_in-from.result c.station_in-from.ensures
    (search rules) c.in_ok-line.line c.in_ok-line.ensures.says c.apply.new.self c.apply.ensures.run c.apply.ensures.setup c.in_ok-line.ensures.journal
    c.acting-core.result c.acting-core.ensures c.replies.result.now.items c.replies.ensures.last c.taken-came.result
    (c.taken-came.ensures ∙ ap fields_given c.as_slice.ensures.value) c.held_after-self-inside.result c.held_after-self-inside.ensures
    c.put-2.new.self.events (c.put-2.ensures.events ∙ ap (λ es. es ++ c.args.event.now ∷ []) c.sent.ensures.events)
    c.put-2.new.self.senders (c.put-2.ensures.senders ∙ c.sent.ensures.senders)
