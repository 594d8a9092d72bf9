-- The COUNTs that are sent over any acts on a bearer rise.
use Rattle.std.proofs.Common.{◌≡◌, ℕ, ◌<◌, ◌≤◌, List, [], ◌∷◌, All, AllPairs, Result, Ok, Err, refl, arith}
use Rattle.std.proofs.{lemmas.List.Elements.All-nil, lemmas.List.Elements.All-cons, lemmas.List.Kept.AllPairs-cons}
use Rattle.pdcp_guard.specs.declared.pdus.PdcpFault.{PdcpFault}
use Rattle.pdcp_guard.specs.Counts.{BearerState, count_limit, after_send, send_count}
use Rattle.pdcp_guard.specs.CountActs.{BearerAct, after_act, counts_sent, sent_before}
use Rattle.pdcp_guard.specs.CountActs.BearerAct.{Send, Skip, Receive}
use Rattle.pdcp_guard.proofs.CountFacts.{in_32_bits-Ok}

-- from this COUNT on, and of 32 bits
abbrev From : ℕ → ℕ → Type 0
From low count = (low ≤ count) × (count < count_limit)

-- a sending puts its COUNT before those from the next one on
from_send : (b : BearerState) (taken : Result ℕ PdcpFault) → send_count b ≡ taken → (later : List ℕ)
    → All (From (after_send b taken).counts.send) later → All (From b.counts.send) (sent_before taken later)
from_send b (Ok count) is later all =
    let has = in_32_bits-Ok b.counts.send count is in
    let low : count ≡ b.counts.send = has.0 in
    let below : count < count_limit = has.1 in
    All-cons (From b.counts.send) count later (omega arith, below) (λ k d within. let at = all k d within in (omega arith, at.1))
from_send b (Err fault) is later all = all

-- no COUNT below the next one is sent
pub sent-from_next : (b : BearerState) (acts : List BearerAct) → All (From b.counts.send) (counts_sent b acts)
sent-from_next b [] = All-nil (From b.counts.send)
sent-from_next b (Send ∷ acts) = from_send b (send_count b) refl (counts_sent (after_act b Send) acts) (sent-from_next (after_act b Send) acts)
sent-from_next b (Skip n ∷ acts) = λ k d within.
    let at = sent-from_next (after_act b (Skip n)) acts k d within in
    (omega arith, at.1)
sent-from_next b (Receive (Ok count) ∷ acts) = sent-from_next (after_act b (Receive (Ok count))) acts
sent-from_next b (Receive (Err fault) ∷ acts) = sent-from_next b acts

-- a sending's COUNT is below those from the next one on
rise_send : (b : BearerState) (taken : Result ℕ PdcpFault) (later : List ℕ)
    → All (From (after_send b taken).counts.send) later → AllPairs (λ x y. x < y) later → AllPairs (λ x y. x < y) (sent_before taken later)
rise_send b (Ok count) later all rise = AllPairs-cons (λ x y. x < y) count later (λ k d within. let at = all k d within in omega arith) rise
rise_send b (Err fault) later all rise = rise

-- each COUNT sent is below all later ones
pub sent-rise : (b : BearerState) (acts : List BearerAct) → AllPairs (λ earlier later. earlier < later) (counts_sent b acts)
sent-rise b [] = λ i j d lt within. absurd (omega arith)
sent-rise b (Send ∷ acts) =
    let next = after_act b Send in
    rise_send b (send_count b) (counts_sent next acts) (sent-from_next next acts) (sent-rise next acts)
sent-rise b (Skip n ∷ acts) = sent-rise (after_act b (Skip n)) acts
sent-rise b (Receive taken ∷ acts) = sent-rise (after_act b (Receive taken)) acts
