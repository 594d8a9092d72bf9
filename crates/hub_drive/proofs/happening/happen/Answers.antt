use Rattle.std.proofs.Common.{◌≡◌, length, Ok, sym, ap, subst, ◌∙◌, All}
use Rattle.std.proofs.lemmas.Result.{err_from_is_err_and}
use Rattle.lte_world.specs.Whole.{Whole, run_of}
use Rattle.hub_drive.specs.{Exchanges.HasActor, Exchanges.replied, Went.CutAt, Plan.replies_at}
use Rattle.hub_drive.specs.Outside.{Outside, outside, AllDone}
use Rattle.run_report.specs.{declared.endings.Ending.TheVariants.Done, Events.told_of, Events.event_ends}
use Rattle.lte_world.proofs.TellsAsWritten.{not_over}
use Rattle.hub_drive.proofs.Event.{goes_after, replies_are, all_have, event_told, event_untold, event_coincides, event_unwritten}
use Rattle.hub_drive.proofs.happening.happen.Goals as goal

pub returns-in-Chance-clause-went : goal.returns-in-Chance-clause-went
returns-in-Chance-clause-went g c =
    let v : Whole = c.args.world.now in
    event_coincides c.args.setup.now (length v.journal) (told_of (run_of v) c.args.event.now) (replies_at (run_of v) c.args.event.now)
    (g.W.Edge.told c.args.out.now) (g.W.Edge.told c.write_event.new.out) (g.P.Peers.told c.args.peers.now)
    (sym c.in_ok-write_event.ensures.report.ends ∙ c.in-Chance.is) c.in_ok-write_event.ensures.report.text.written

pub returns-in_err-write_event-clause-went : goal.returns-in_err-write_event-clause-went
returns-in_err-write_event-clause-went g c =
    let v : Whole = c.args.world.now in
    let p = err_from_is_err_and c.from_residual.result c.from_residual.ensures.1 in rw (p.1, p.2)
    (event_unwritten c.args.setup.now (length v.journal) (told_of (run_of v) c.args.event.now) (replies_at (run_of v) c.args.event.now) _
    (g.W.Edge.told c.args.out.now) (g.W.Edge.told c.write_event.new.out) (g.P.Peers.told c.args.peers.now)
    c.in_err-write_event.ensures.report.text.written)

pub tell_all-requires-clause-inputs : goal.tell_all-requires-clause-inputs
tell_all-requires-clause-inputs g c =
    let v : Whole = c.args.world.now in
    let w : Whole = c.write_event.new.world in
    let e = c.args.event.now in
    let takes = c.write_event.ensures.takes (c.in_ok-write_event.was ∙ ap Ok c.in-Done.is) in
    let plain : event_ends (told_of (run_of v) e) ≡ Done = sym c.in_ok-write_event.ensures.report.ends ∙ c.in-Done.is in
    let setup : w.setup ≡ c.args.setup.now = takes.setup ∙ c.requires.same in
    subst (λ s. All (λ r. HasActor s r.0) c.as_slice.result.now) setup
    (subst (All (λ r. HasActor w.setup r.0)) (sym c.as_slice.ensures.value)
    (all_have w.setup c.replies.result.now.items (c.replies.ensures.there (not_over w (goes_after v w e plain takes)))))

pub returns-clause-went : goal.returns-clause-went
returns-clause-went g c =
    let v : Whole = c.args.world.now in
    let w : Whole = c.write_event.new.world in
    let e = c.args.event.now in
    let takes = c.write_event.ensures.takes (c.in_ok-write_event.was ∙ ap Ok c.in-Done.is) in
    let plain : event_ends (told_of (run_of v) e) ≡ Done = sym c.in_ok-write_event.ensures.report.ends ∙ c.in-Done.is in
    let same : c.as_slice.result.now ≡ replies_at (run_of v) e =
    c.as_slice.ensures.value ∙ replies_are v w e c.replies.result.now.items c.requires.can.goes_on takes.setup takes.journal
    (c.replies.ensures.last (not_over w (goes_after v w e plain takes))) in
    let step = c.len-step.ensures ∙ ap length c.journal.ensures in
    let x : Outside = outside (g.W.Edge.told c.write_event.new.out).written (g.P.Peers.told c.args.peers.now) in
    let y : Outside = outside (g.W.Edge.told c.write_event.new.out).written (g.P.Peers.told c.tell_all.new.peers) in
    let did = subst (λ acts. AllDone acts x y) (λ j. replied c.args.setup.now (step j) (same j))
    (c.in_ok-tell_all.ensures.went (g.W.Edge.told c.write_event.new.out).written) in
    event_told c.args.setup.now (length v.journal) (told_of (run_of v) e) (replies_at (run_of v) e)
    (g.W.Edge.told c.args.out.now) (g.W.Edge.told c.write_event.new.out) (g.P.Peers.told c.args.peers.now) (g.P.Peers.told c.tell_all.new.peers)
    plain c.in_ok-write_event.ensures.report.text.written did

pub returns-in_err-tell_all-clause-went : goal.returns-in_err-tell_all-clause-went
returns-in_err-tell_all-clause-went g c =
    let v : Whole = c.args.world.now in
    let w : Whole = c.write_event.new.world in
    let e = c.args.event.now in
    let takes = c.write_event.ensures.takes (c.in_ok-write_event.was ∙ ap Ok c.in-Done.is) in
    let plain : event_ends (told_of (run_of v) e) ≡ Done = sym c.in_ok-write_event.ensures.report.ends ∙ c.in-Done.is in
    let same : c.as_slice.result.now ≡ replies_at (run_of v) e =
    c.as_slice.ensures.value ∙ replies_are v w e c.replies.result.now.items c.requires.can.goes_on takes.setup takes.journal
    (c.replies.ensures.last (not_over w (goes_after v w e plain takes))) in
    let step = c.len-step.ensures ∙ ap length c.journal.ensures in
    let x : Outside = outside (g.W.Edge.told c.write_event.new.out).written (g.P.Peers.told c.args.peers.now) in
    let y : Outside = outside (g.W.Edge.told c.write_event.new.out).written (g.P.Peers.told c.tell_all.new.peers) in
    let cut = subst (λ acts. CutAt acts c.in_err-tell_all.field-0.0 x y) (λ j. replied c.args.setup.now (step j) (same j))
    (c.in_err-tell_all.ensures.went (g.W.Edge.told c.write_event.new.out).written) in
    let p = err_from_is_err_and c.from_residual-in_err-tell_all.result c.from_residual-in_err-tell_all.ensures.1 in
    rw (p.1, p.2)
    (event_untold c.args.setup.now (length v.journal) (told_of (run_of v) e) (replies_at (run_of v) e) c.in_err-tell_all.field-0.0
    (g.W.Edge.told c.args.out.now) (g.W.Edge.told c.write_event.new.out) (g.P.Peers.told c.args.peers.now) (g.P.Peers.told c.tell_all.new.peers)
    plain c.in_ok-write_event.ensures.report.text.written cut)
