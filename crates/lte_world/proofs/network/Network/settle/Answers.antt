use Rattle.std.proofs.Common.{refl, sym, ap, subst, ◌∙◌, ◌++◌, Ok, Err}
use Rattle.std.proofs.lemmas.Result.{err_from_is_err_and}
use Rattle.lte_machine.specs.Calls.{line_of_reply}
use Rattle.lte_world.specs.Networks.{Awaits, AddsAll, HasRows, Fits}
use Rattle.lte_world.specs.Settling.{Settles}
use Rattle.lte_world.proofs.ReplyIsKept.{settles_awaits, settles_stand, settled_by_rows, settled, rows_stand, held_as}
use Rattle.lte_world.proofs.network.Network.settle.Goals as goal

pub add_all-requires-clause-awaits : goal.add_all-requires-clause-awaits
add_all-requires-clause-awaits c =
    let s = subst (λ x. Settles x c.args.out.now) (sym c.self.view_is) c.requires.awaits in
    subst (Awaits c.self.inside.ladder.rows) (sym c.as_slice.ensures.value)
    (settles_awaits _ c.args.out.now c.args.sender c.args.holder c.args.who c.args.step s)

pub returns-in_err-add_all-clause-settled : goal.returns-in_err-add_all-clause-settled
returns-in_err-add_all-clause-settled c =
    let p = err_from_is_err_and c.from_residual-in_err-add_all.result c.from_residual-in_err-add_all.ensures.1 in
    let all = subst (λ x. AddsAll c.self.inside.ladder.rows c.add_all.new.ladder.rows x (Err c.in_err-add_all.field-0.0)) c.as_slice.ensures.value
    c.in_err-add_all.ensures.added in
    rw (p.1, p.2)
    (λ w by r f. settled_by_rows _ c.args.out.now c.args.sender c.args.holder c.args.who c.args.step
    (sym c.in_ok-accepted_so.was ∙ c.accepted_so.ensures) c.in_err-add_all.field-0.0 c.add_all.new.ladder.rows _ all
    w by r (subst (Fits w) (sym c.self.view_is) f))

pub hold_received-requires-clause-stands : goal.hold_received-requires-clause-stands
hold_received-requires-clause-stands c =
    let s = subst (λ x. Settles x c.args.out.now) (sym c.self.view_is) c.requires.awaits in
    let all = subst (λ x. AddsAll c.self.inside.ladder.rows c.add_all.new.ladder.rows x (Ok tt)) c.as_slice.ensures.value
    (subst (AddsAll c.self.inside.ladder.rows c.add_all.new.ladder.rows c.as_slice.result.now) c.in_ok-add_all.was c.add_all.ensures.added) in
    (settles_stand _ c.args.out.now c.args.sender c.args.holder c.args.who c.args.step c.add_all.new.ladder.rows s all).0

pub hold_all-requires-clause-stand : goal.hold_all-requires-clause-stand
hold_all-requires-clause-stand c =
    let s = subst (λ x. Settles x c.args.out.now) (sym c.self.view_is) c.requires.awaits in
    let all = subst (λ x. AddsAll c.self.inside.ladder.rows c.add_all.new.ladder.rows x (Ok tt)) c.as_slice.ensures.value
    (subst (AddsAll c.self.inside.ladder.rows c.add_all.new.ladder.rows c.as_slice.result.now) c.in_ok-add_all.was c.add_all.ensures.added) in
    let stand = (settles_stand _ c.args.out.now c.args.sender c.args.holder c.args.who c.args.step c.add_all.new.ladder.rows s all).1 in
    subst (HasRows c.hold_received.new.ladder.rows) (sym c.as_slice-2.ensures.value)
    (rows_stand c.add_all.new.ladder.rows c.hold_received.new.ladder.rows c.args.out.now.derived
    c.hold_received.ensures.rows stand)

pub returns-clause-settled : goal.returns-clause-settled
returns-clause-settled c w by r f =
    let all = subst (λ x. AddsAll c.self.inside.ladder.rows c.add_all.new.ladder.rows x (Ok tt)) c.as_slice.ensures.value
    (subst (AddsAll c.self.inside.ladder.rows c.add_all.new.ladder.rows c.as_slice.result.now) c.in_ok-add_all.was c.add_all.ensures.added) in
    let held = held_as c.args.holder c.hold_received.new.ladder.rows c.hold_all.new.ladder.rows c.as_slice-2.result.now
    c.args.out.now.derived c.as_slice-2.ensures.value c.hold_all.ensures.held in
    settled _ c.args.out.now c.args.sender c.args.holder c.args.who c.args.step (sym c.in_ok-accepted_so.was ∙ c.accepted_so.ensures)
    c.add_all.new.ladder.rows c.hold_received.new.ladder.rows c.hold_all.new.ladder.rows _ all
    c.hold_received.ensures.held held refl c.keep-sent.ensures.records
    (c.take_uses.ensures ∙ ap (λ x. c.self.inside.uses.items ++ x) c.as_slice-3.ensures.value) c.tell.new.line
    (c.tell.ensures ∙ ap (λ n. line_of_reply c.args.step c.args.who n c.args.out.now) c.keep-sent.ensures.number)
    w by r (subst (Fits w) (sym c.self.view_is) f)
