use Rattle.std.proofs.Common.{sym, subst, Ok, Err, rules, false}
use Rattle.lte_world.specs.{Systems.Happens, Settling.told_in, Replies.RepliedLast, Replies.UnlessOver}
use Rattle.lte_world.proofs.{Applying.may_happen, Counting.coincidence_within, Counting.line_within, LastReplies.next_replied, LastReplies.told_ok}
use Rattle.lte_world.proofs.Standing.{AtEvent, Gave, event_fits, says_line, run_line, written_line, line_keeps, says_coincidence, run_coincidence}
use Rattle.lte_world.proofs.OneLineMore.{line_step, line_answers, line_commands, line_never, line_packets}
use Rattle.lte_world.proofs.world.World.apply.Goals.{After-keep_one, After-put, In-Err}
use Rattle.lte_world.proofs.world.World.apply.Goals as goal

-- the world stands, and can take the event
event : (c : After-keep_one)
    → AtEvent c.self.inside.setup c.self.inside.journal.items c.self.inside.over c.self.inside.ready c.self.inside.system c.args.self.now c.args.event.now
event c = record {
  none = search rules;
  set = c.self.invariant.0;
  are = c.self.invariant.1;
  stands = c.self.invariant.3;
  view = c.self.view_is;
  can = c.requires;
}

-- it gave a line, or a coincidence
line : (c : After-put)
    → Gave c.self.inside.journal.items c.self.inside.system c.happen.new.self c.args.event.now (Ok c.happen.new.line)
line c = record {
  step = c.len-step.result;
  step_is = c.len-step.ensures;
  happens = subst (λ r.
      Happens c.self.inside.system c.happen.new.self c.args.event.now c.len-step.result (told_in r c.happen.new.line))
      c.in-Ok.is c.happen.ensures.happens;
}

coincidence : (c : In-Err) → Gave c.self.inside.journal.items c.self.inside.system c.happen.new.self c.args.event.now (Err c.in-Err.proof)
coincidence c = record {
  step = c.len-step.result;
  step_is = c.len-step.ensures;
  happens = subst (λ r.
      Happens c.self.inside.system c.happen.new.self c.args.event.now c.len-step.result (told_in r c.happen.new.line))
      c.in-Err.is c.happen.ensures.happens;
}

pub happen-requires-clause-may : goal.happen-requires-clause-may
happen-requires-clause-may c = may_happen c.args.self.now.setup c.args.event.now c.requires.can

pub happen-requires-clause-can : goal.happen-requires-clause-can
happen-requires-clause-can c = event_fits (event (goal.at.happen-requires-clause-can c).After-keep_one)

pub invariant_of-self-in-Ok : goal.invariant_of-self-in-Ok
invariant_of-self-in-Ok c =
    let at = goal.at.invariant_of-self-in-Ok c in
    let t = event at.After-keep_one in
    let i = c.self.inside in
    let replied =
    next_replied i.setup i.journal.items i.over i.system t.none t.stands c.args.event.now c.happen.new.told
    (told_ok c.happen.result c.in-Ok.is c.happen.ensures.told) c.put.new.self.items c.put.ensures.items in
    let keeps = line_keeps t (line at.After-put) c.put.ensures.items c.put.new.self.spare in (
      keeps.0,
      keeps.1,
      keeps.2,
      keeps.3,
      subst (λ o. UnlessOver o (RepliedLast i.setup c.put.new.self.items c.happen.new.told)) (sym t.none) replied,
      line_within i.over i.journal.items c.put.new.self.items c.args.event.now i.system.stores c.happen.new.self.stores t.none c.put.ensures.items
          c.self.invariant.5 c.happen.ensures.grows,
    )

pub invariant_of-self-in-Err : goal.invariant_of-self-in-Err
invariant_of-self-in-Err c = (
  c.self.invariant.0,
  c.self.invariant.1,
  search rules,
  tt,
  tt,
  coincidence_within c.self.inside.over c.in-Err.proof _ c.self.inside.system.stores c.happen.new.self.stores (search rules) c.self.invariant.5
      c.happen.ensures.grows,
)

pub returns-in-Ok-clause-says : goal.returns-in-Ok-clause-says
returns-in-Ok-clause-says c = let at = goal.at.returns-in-Ok-clause-says c in says_line (event at.After-keep_one) (line at.After-put)

pub returns-in-Ok-clause-run : goal.returns-in-Ok-clause-run
returns-in-Ok-clause-run c = let at = goal.at.returns-in-Ok-clause-run c in run_line (event at.After-keep_one) (line at.After-put) c.put.ensures.items

pub returns-in-Ok-clause-written : goal.returns-in-Ok-clause-written
returns-in-Ok-clause-written c = let at = goal.at.returns-in-Ok-clause-written c in written_line (event at.After-keep_one) (line at.After-put) c.put.ensures.items

pub returns-in-Err-clause-says : goal.returns-in-Err-clause-says
returns-in-Err-clause-says c = let at = goal.at.returns-in-Err-clause-says c in says_coincidence (event at.After-keep_one) (coincidence at.In-Err)

pub returns-in-Err-clause-run : goal.returns-in-Err-clause-run
returns-in-Err-clause-run c = let at = goal.at.returns-in-Err-clause-run c in run_coincidence (event at.After-keep_one) (coincidence at.In-Err)

pub returns-in-Ok-clause-step : goal.returns-in-Ok-clause-step
returns-in-Ok-clause-step c =
    let at = goal.at.returns-in-Ok-clause-step c in
    let t = event at.After-keep_one in line_step t (says_line t (line at.After-put))

pub returns-in-Ok-clause-answers : goal.returns-in-Ok-clause-answers
returns-in-Ok-clause-answers c =
    let at = goal.at.returns-in-Ok-clause-answers c in
    let t = event at.After-keep_one in line_answers t (says_line t (line at.After-put)) c.put.ensures.items false

pub returns-in-Ok-clause-commands : goal.returns-in-Ok-clause-commands
returns-in-Ok-clause-commands c =
    let at = goal.at.returns-in-Ok-clause-commands c in
    let t = event at.After-keep_one in line_commands t (says_line t (line at.After-put)) c.put.ensures.items false

pub returns-in-Ok-clause-never : goal.returns-in-Ok-clause-never
returns-in-Ok-clause-never c =
    let at = goal.at.returns-in-Ok-clause-never c in
    let t = event at.After-keep_one in line_never t (says_line t (line at.After-put)) c.put.ensures.items false

pub returns-in-Ok-clause-packets : goal.returns-in-Ok-clause-packets
returns-in-Ok-clause-packets c =
    let at = goal.at.returns-in-Ok-clause-packets c in
    let t = event at.After-keep_one in line_packets t (says_line t (line at.After-put)) c.put.ensures.items false
