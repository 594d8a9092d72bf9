use Rattle.std.proofs.Common.{◌≡◌, None, List, ℕ, [], ◌∷◌, ◌++◌, take, drop, refl, ap, sym, ◌∙◌, append-nil}
use Rattle.std.proofs.lemmas.Result.{err_from_is_err_and}
use Rattle.hub_drive.proofs.Exchanging.{length_part, send_cut, length_cut, exchanged, reply_parts}
use Rattle.hub_drive.proofs.Running.{runs_did}
use Rattle.hub_drive.specs.Acts.{Sending, Receiving}
use Rattle.hub_drive.proofs.calling.exchange.Goals as goal

pub returns-in_err-send-clause-went : goal.returns-in_err-send-clause-went
returns-in_err-send-clause-went g c =
    let p = err_from_is_err_and c.from_residual.result c.from_residual.ensures.1 in
    rw (p.1, p.2)
    (λ written.
    send_cut c.args.step c.args.peer c.args.frame.now c.args.reply.now _ _ _ (c.in_err-send.ensures.went written))

pub receive-requires-clause-running : goal.receive-requires-clause-running
receive-requires-clause-running g c =
    runs_did c.args.peer (Sending c.args.peer c.args.frame.now ∷ []) _ _ c.requires.running (c.in_ok-send.ensures.went None).did

pub returns-in_err-receive-clause-went : goal.returns-in_err-receive-clause-went
returns-in_err-receive-clause-went g c =
    let p = err_from_is_err_and c.from_residual-in_err-receive.result c.from_residual-in_err-receive.ensures.1 in
    rw (p.1, p.2)
    (λ written.
    let size : List ℕ = c.split_at.result.0.now in
    let rest : List ℕ = c.split_at.result.1.now in
    let front : size ≡ take 2 c.args.reply.now = c.split_at.ensures.front ∙ ap (λ (octets : List ℕ). take 2 octets) c.as_slice.ensures.value in
    let back : rest ≡ drop 2 c.args.reply.now = c.split_at.ensures.back ∙ ap (λ (octets : List ℕ). drop 2 octets) c.as_slice.ensures.value in
    let parts : c.args.reply.now ≡ size ++ rest = reply_parts _ _ size rest refl front back in
    length_cut c.args.step c.args.peer c.args.frame.now c.args.reply.now size rest _ _ _ _ front back
    (c.in_ok-send.ensures.went written) (c.in_err-receive.ensures.went written rest parts))

pub receive-requires-2-clause-running : goal.receive-requires-2-clause-running
receive-requires-2-clause-running g c =
    let size : List ℕ = c.split_at.result.0.now in
    let rest : List ℕ = c.split_at.result.1.now in
    let parts : c.args.reply.now ≡ size ++ rest = reply_parts _ _ size rest c.as_slice.ensures.value c.split_at.ensures.front c.split_at.ensures.back in
    runs_did c.args.peer (Receiving c.args.peer (length_part c.args.step size rest) ∷ []) _ _
    (runs_did c.args.peer (Sending c.args.peer c.args.frame.now ∷ []) _ _ c.requires.running (c.in_ok-send.ensures.went None).did)
    (c.in_ok-receive.ensures.went None rest parts).did

pub returns-clause-went : goal.returns-clause-went
returns-clause-went g c = λ written.
    let size : List ℕ = c.split_at.result.0.now in
    let rest : List ℕ = c.split_at.result.1.now in
    let front : size ≡ take 2 c.args.reply.now = c.split_at.ensures.front ∙ ap (λ (octets : List ℕ). take 2 octets) c.as_slice.ensures.value in
    let back : rest ≡ drop 2 c.args.reply.now = c.split_at.ensures.back ∙ ap (λ (octets : List ℕ). drop 2 octets) c.as_slice.ensures.value in
    let parts : c.args.reply.now ≡ size ++ rest = reply_parts _ _ size rest refl front back in
    let whole : c.args.reply.now ≡ size ++ (rest ++ []) = parts ∙ ap (λ (octets : List ℕ). size ++ octets) (sym (append-nil rest)) in
    exchanged c.args.step c.args.peer c.args.frame.now c.args.reply.now size rest c.receive-2.result _ _ _ _ front back
    (c.in_ok-send.ensures.went written) (c.in_ok-receive.ensures.went written rest parts) (c.receive-2.ensures.went written [] whole)
