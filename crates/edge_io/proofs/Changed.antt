-- A list of peers where one is changed.
use Rattle.std.proofs.Common.{◌≡◌, ℕ, zero, suc, ◌<◌, Option, Some, List, [], ◌∷◌, ◌++◌, length, drop, get_or, map, slice_get, refl, ap, sym, ◌∙◌, append-nil, arith}
use Rattle.std.proofs.Math.ListN.{set}
use Rattle.edge_io.specs.{declared.peers.Role.Role, declared.peers.PeerCall.PeerCall}
use Rattle.edge_io.specs.declared.peers.PeerCall.TheVariants.{Send, Receive}
use Rattle.edge_io.specs.Peers.{PeerTold, PeersTold, change, IdleFrom, SendFailed, ReceiveFailed, new_peer}

pub length-change : {X : Type 0} (k : ℕ) (f : X → X) (xs : List X) → length (change k f xs) ≡ length xs
length-change k f [] = refl
length-change zero f (x ∷ xs) = refl
length-change (suc k) f (x ∷ xs) = ap suc (length-change k f xs)

-- the item at a place is set to what it changes to
pub set-change : {X : Type 0} (k : ℕ) (f : X → X) (xs : List X) (x : X) → k < length xs → x ≡ get_or xs k x → set xs k (f x) ≡ change k f xs
set-change k f [] x within is = absurd (omega arith)
set-change zero f (y ∷ xs) x within is = ap (λ z. f z ∷ xs) is
set-change (suc k) f (y ∷ xs) x within is = ap (λ ys. y ∷ ys) (set-change k f xs x (omega arith) is)

-- the items past that place stay
pub slice_get-change : {X : Type 0} (k j : ℕ) (f : X → X) (xs : List X) → k < j → slice_get (change k f xs) j ≡ slice_get xs j
slice_get-change k j f [] above = refl
slice_get-change k zero f (x ∷ xs) above = absurd (omega arith)
slice_get-change zero (suc j) f (x ∷ xs) above = refl
slice_get-change (suc k) (suc j) f (x ∷ xs) above = slice_get-change k j f xs (omega arith)

pub IdleFrom-change : (started k : ℕ) (f : PeerTold → PeerTold) (peers : List PeerTold)
    → k < started
    → IdleFrom started peers
    → IdleFrom started (change k f peers)
IdleFrom-change started k f peers below idle peer from =
    let stays : slice_get (change k f peers) peer ≡ slice_get peers peer = slice_get-change k peer f peers (omega arith) in
    rw stays (idle peer from)

pub IdleFrom-new : (room : ℕ) (replies : List (List ℕ)) → IdleFrom 0 (map (new_peer room) replies)
IdleFrom-new room [] peer from = (refl, refl)
IdleFrom-new room (reply ∷ replies) zero from = (refl, refl)
IdleFrom-new room (reply ∷ replies) (suc peer) from = IdleFrom-new room replies peer (omega arith)

-- a change to the same changes nothing
change-same : {X : Type 0} (k : ℕ) (f : X → X) → ((x : X) → f x ≡ x) → (xs : List X) → change k f xs ≡ xs
change-same k f same [] = refl
change-same zero f same (x ∷ xs) = ap (λ y. y ∷ xs) (same x)
change-same (suc k) f same (x ∷ xs) = ap (λ ys. x ∷ ys) (change-same k f same xs)

-- a failed send that sent nothing
pub nothing_sent : (peer : ℕ) (octets : List ℕ) (roles : List Role) (peers after : List PeerTold)
    (last : Option PeerCall)
    → after ≡ peers
    → SendFailed peer octets (Some (record { roles = roles; peers = peers; failed_last = last }))
    (Some (record { roles = roles; peers = after; failed_last = Some (Send peer (length octets)) }))
nothing_sent peer octets roles peers after last same =
    let add : PeerTold → PeerTold = λ p. record p { sent = p.sent ++ [] } in
    let unchanged : change peer add peers ≡ peers =
    change-same peer add (λ p. ap (λ (sent : List ℕ). let q : PeerTold = record p { sent = sent } in q) (append-nil p.sent)) peers in
    let shown : List PeerTold → Option PeersTold =
    λ ps. Some (record { roles = roles; peers = ps; failed_last = Some (Send peer (length octets)) }) in
    record { count = 0; told = ap shown (same ∙ sym unchanged) }

-- a failed receive that took nothing
pub nothing_taken : (peer size : ℕ) (roles : List Role) (peers after : List PeerTold) (last : Option PeerCall)
    → after ≡ peers
    → ReceiveFailed peer size (Some (record { roles = roles; peers = peers; failed_last = last }))
    (Some (record { roles = roles; peers = after; failed_last = Some (Receive peer size) }))
nothing_taken peer size roles peers after last same =
    let cut : PeerTold → PeerTold = λ p. record p { to_give = drop 0 p.to_give } in
    let unchanged : change peer cut peers ≡ peers = change-same peer cut (λ p. refl) peers in
    let shown : List PeerTold → Option PeersTold =
    λ ps. Some (record { roles = roles; peers = ps; failed_last = Some (Receive peer size) }) in
    record { count = 0; told = ap shown (same ∙ sym unchanged) }
