use Rattle.std.proofs.Common.{◌+◌, length, drop, Ok, ap, subst, sym, ◌∙◌, rules}
use Rattle.std.proofs.lemmas.Result.{err_from_is_err_and}
use Rattle.lte_machine.specs.Run.{Running, first_world}
use Rattle.lte_world.specs.Whole.{run_of}
use Rattle.hub_drive.specs.{Driven.Plan, Driven.PlanWent, Outside.Outside, Outside.outside}
use Rattle.run_report.proofs.HappenedSoFar.{can_take, one_taken}
use Rattle.run_report.specs.{declared.endings.Ending.TheVariants.Done, Events.told_of}
use Rattle.hub_drive.proofs.Event.{plain_of}
use Rattle.hub_drive.proofs.Planned.{PlanGoing, plan_on, plan_cut, plan_ended, plan_goes, plan_runs, event_left, end_done}
use Rattle.hub_drive.specs.Plan.{event_plan, replies_at, turned, followed, events_plan}
use Rattle.hub_drive.proofs.driving.run_all.Goals as goal

pub happen-requires-clause-can : goal.happen-requires-clause-can
happen-requires-clause-can g c = can_take c.at-event.result c.requires.is_scenario c.loop-number.invariant.took c.at-event.ensures

pub returns-in_err-happen-clause-went : goal.returns-in_err-happen-clause-went
returns-in_err-happen-clause-went g c =
    let v = c.loop-number.world in
    let e = c.at-event.result in
    let i = c.loop-number.number in
    let whole : Plan = events_plan c.args.setup.now 0 (Running (first_world c.args.setup.now)) c.args.events.now.items in
    let p : Plan = event_plan c.args.setup.now (length v.journal) (told_of (run_of v) e) (replies_at (run_of v) e) in
    let rest : Plan = events_plan c.args.setup.now (i + 1) (turned (run_of v) e) (drop (i + 1) c.args.events.now.items) in
    let o : Outside = outside (g.W.Edge.told c.args.out.now).written (g.P.Peers.told c.args.peers.now) in
    let x : Outside = outside (g.W.Edge.told c.loop-number.out).written (g.P.Peers.told c.loop-number.peers) in
    let left = event_left c.args.setup.now (run_of v) c.args.events.now.items i (length v.journal) e c.at-event.ensures c.loop-number.invariant.took.count in
    let going : PlanGoing whole (followed p rest) o x = subst (λ (q : Plan). PlanGoing whole q o x) left c.loop-number.invariant.plan in
    let q = err_from_is_err_and c.from_residual.result c.from_residual.ensures.1 in
    rw (q.1, q.2) (plan_cut whole p rest _ o x _ going c.in_err-happen.ensures.went)

pub returns-in-Chance-clause-went : goal.returns-in-Chance-clause-went
returns-in-Chance-clause-went g c =
    let v = c.loop-number.world in
    let e = c.at-event.result in
    let i = c.loop-number.number in
    let whole : Plan = events_plan c.args.setup.now 0 (Running (first_world c.args.setup.now)) c.args.events.now.items in
    let p : Plan = event_plan c.args.setup.now (length v.journal) (told_of (run_of v) e) (replies_at (run_of v) e) in
    let rest : Plan = events_plan c.args.setup.now (i + 1) (turned (run_of v) e) (drop (i + 1) c.args.events.now.items) in
    let o : Outside = outside (g.W.Edge.told c.args.out.now).written (g.P.Peers.told c.args.peers.now) in
    let x : Outside = outside (g.W.Edge.told c.loop-number.out).written (g.P.Peers.told c.loop-number.peers) in
    let y : Outside = outside (g.W.Edge.told c.happen.new.out).written (g.P.Peers.told c.happen.new.peers) in
    let left = event_left c.args.setup.now (run_of v) c.args.events.now.items i (length v.journal) e c.at-event.ensures c.loop-number.invariant.took.count in
    let going : PlanGoing whole (followed p rest) o x = subst (λ (q : Plan). PlanGoing whole q o x) left c.loop-number.invariant.plan in
    plan_ended whole p rest o x y going (subst (λ r. PlanWent p r x y) (c.in_ok-happen.was ∙ ap Ok c.in-Chance.is) c.happen.ensures.went)

pub loop-number-preserved : goal.loop-number-preserved
loop-number-preserved g c =
    let v = c.loop-number.world in
    let w = c.happen.new.world in
    let e = c.at-event.result in
    let i = c.loop-number.number in
    let so_far = c.loop-number.invariant in
    let whole : Plan = events_plan c.args.setup.now 0 (Running (first_world c.args.setup.now)) c.args.events.now.items in
    let p : Plan = event_plan c.args.setup.now (length v.journal) (told_of (run_of v) e) (replies_at (run_of v) e) in
    let rest : Plan = events_plan c.args.setup.now (i + 1) (turned (run_of v) e) (drop (i + 1) c.args.events.now.items) in
    let o : Outside = outside (g.W.Edge.told c.args.out.now).written (g.P.Peers.told c.args.peers.now) in
    let x : Outside = outside (g.W.Edge.told c.loop-number.out).written (g.P.Peers.told c.loop-number.peers) in
    let y : Outside = outside (g.W.Edge.told c.happen.new.out).written (g.P.Peers.told c.happen.new.peers) in
    let left = event_left c.args.setup.now (run_of v) c.args.events.now.items i (length v.journal) e c.at-event.ensures so_far.took.count in
    let going : PlanGoing whole (followed p rest) o x = subst (λ (q : Plan). PlanGoing whole q o x) left so_far.plan in
    let done = c.in_ok-happen.was ∙ ap Ok c.in-Done.is in
    let went = subst (λ r. PlanWent p r x y) done c.happen.ensures.went in
    let takes = c.happen.ensures.takes done in
    record {
      plan = subst (λ r. PlanGoing whole (events_plan c.args.setup.now (i + 1) r (drop (i + 1) c.args.events.now.items)) o y) (sym takes.run)
          (plan_on whole p rest o x y going went);
      took =
          one_taken e so_far.took (plain_of c.args.setup.now (length v.journal) (told_of (run_of v) e)
          (replies_at (run_of v) e) (sym went.1))
          takes;
      running = plan_runs p _ c.happen.result x y so_far.running c.happen.ensures.went;
      no_peer_fault = search rules;
      no_fault = search rules;
      out = search rules;
    }

pub returns-clause-went : goal.returns-clause-went
returns-clause-went g c =
    let so_far = c.loop-number.invariant in
    let whole : Plan = events_plan c.args.setup.now 0 (Running (first_world c.args.setup.now)) c.args.events.now.items in
    let left : Plan = events_plan c.args.setup.now c.loop-number.number (run_of c.loop-number.world) (drop c.loop-number.number c.args.events.now.items) in
    let o : Outside = outside (g.W.Edge.told c.args.out.now).written (g.P.Peers.told c.args.peers.now) in
    let x : Outside = outside (g.W.Edge.told c.loop-number.out).written (g.P.Peers.told c.loop-number.peers) in
    let y : Outside = outside (g.W.Edge.told c.write_end.new.out).written (g.P.Peers.told c.loop-number.peers) in
    plan_goes whole left (Ok Done) o x y so_far.plan
    (end_done c.args.setup.now c.args.events.now.items c.loop-number.number (length c.loop-number.world.journal) (run_of c.loop-number.world)
    (g.W.Edge.told c.loop-number.out) (g.W.Edge.told c.write_end.new.out) (g.P.Peers.told c.loop-number.peers)
    (search rules) so_far.took.count c.in_ok-write_end.ensures.written)
