use Rattle.std.proofs.Common.{◌≡◌, ℕ, ◌≤◌, Some, None, List, length, slice_get, refl, sym, subst, rules}
use Rattle.std.proofs.{lemmas.Option.slice_get_read, lemmas.Result.err_from_is_err_and}
use Rattle.lte_events.specs.{declared.inputs.ActorIn.ActorIn, declared.replies.ActorOut.ActorOut}
use Rattle.role_wire.specs.Reply.{reply_octets}
use Rattle.hub_drive.proofs.Composing.{going_on, going_cut, going_ended}
use Rattle.hub_drive.proofs.Places.{all_at, has_length, peer_within, replied_next, none_replied}
use Rattle.hub_drive.proofs.Running.{all_run_did, one_of}
use Rattle.hub_drive.specs.Exchanges.{HasActor, roles_of, replied}
use Rattle.hub_drive.proofs.telling.tell_all.Goals as goal

pub exchange-requires-clause-running : goal.exchange-requires-clause-running
exchange-requires-clause-running g c =
    let p : ActorIn × ActorOut = c.loop-input-item.result in
    let at : slice_get c.args.replies.now c.loop-input.input-index ≡ Some p =
    slice_get_read c.args.replies.now _ c.loop-input.input-index p refl (search rules) c.loop-input-item.is in
    let Q : ActorIn × ActorOut → Type 0 = λ r. HasActor c.args.setup.now r.0 in
    let has : HasActor c.args.setup.now p.0 = all_at Q c.args.replies.now c.loop-input.input-index p at c.requires.inputs in
    one_of _ (length (roles_of c.args.setup.now)) _ (rw c.peer_of.ensures (peer_within c.args.setup.now p.0 has)) c.loop-input.invariant.1

pub exchange-requires-clause-has_length : goal.exchange-requires-clause-has_length
exchange-requires-clause-has_length g c =
    let P : List ℕ → Type 0 = λ octets. 2 ≤ length octets in
    subst P (sym c.reply_frame-reply.ensures) (has_length (reply_octets c.loop-input-item.result.1))

pub returns-in_err-exchange-clause-went : goal.returns-in_err-exchange-clause-went
returns-in_err-exchange-clause-went g c =
    let q = err_from_is_err_and c.from_residual.result c.from_residual.ensures.1 in
    rw (q.1, q.2)
    (λ written.
    let p : ActorIn × ActorOut = c.loop-input-item.result in
    let at : slice_get c.args.replies.now c.loop-input.input-index ≡ Some p =
    slice_get_read c.args.replies.now _ c.loop-input.input-index p refl (search rules) c.loop-input-item.is in
    going_cut (replied c.args.setup.now c.args.step c.args.replies.now) _ _ _ _ _ _ _
    (c.loop-input.invariant.0 written)
    (replied_next c.args.setup.now c.args.step c.args.replies.now c.loop-input.input-index p.0 p.1 c.peer_of.result
    c.actor_frame-frame.result c.reply_frame-reply.result at c.peer_of.ensures c.actor_frame-frame.ensures.spelled
    c.reply_frame-reply.ensures)
    (c.in_err-exchange.ensures.went written))

pub loop-input-preserved : goal.loop-input-preserved
loop-input-preserved g c =
    let p : ActorIn × ActorOut = c.loop-input-item.result in
    let at : slice_get c.args.replies.now c.loop-input.input-index ≡ Some p =
    slice_get_read c.args.replies.now _ c.loop-input.input-index p refl (search rules) c.loop-input-item.is in (
      λ written.
          going_on (replied c.args.setup.now c.args.step c.args.replies.now) _ _ _ _ _ _
          (c.loop-input.invariant.0 written)
          (replied_next c.args.setup.now c.args.step c.args.replies.now c.loop-input.input-index p.0 p.1
          c.peer_of.result c.actor_frame-frame.result c.reply_frame-reply.result at c.peer_of.ensures
          c.actor_frame-frame.ensures.spelled c.reply_frame-reply.ensures)
          (c.in_ok-exchange.ensures.went written),
      all_run_did _ _ _ _ c.loop-input.invariant.1 (c.in_ok-exchange.ensures.went None).did,
      search rules,
    )

pub returns-clause-went : goal.returns-clause-went
returns-clause-went g c = λ written.
    going_ended (replied c.args.setup.now c.args.step c.args.replies.now) _ _ _
    (none_replied c.args.setup.now c.args.step c.args.replies.now c.loop-input.input-index (search rules))
    (c.loop-input.invariant.0 written)
