-- A peer that runs goes on running while calls are made on it and on others.
use Rattle.std.proofs.Common.{◌≡◌, ℕ, zero, suc, Option, Some, None, List, [], ◌∷◌, length, Ok, IfSome, refl, sym, subst, ◌∙◌, arith, length-append}
use Rattle.std.specs.Option.{option_map}
use Rattle.edge_io.specs.declared.peers.Role.{Role}
use Rattle.edge_io.specs.Peers.{PeerTold, PeersTold, change, is_stopped, IsRunning, IdleFrom, started, sent_to, taken_from}

-- a change that stops no peer and starts none again
is_stopped-change : (peer place : ℕ) (f : PeerTold → PeerTold)
    → ((p : PeerTold) → (f p).stopped ≡ p.stopped)
    → (peers : List PeerTold)
    → is_stopped peer (change place f peers) ≡ is_stopped peer peers
is_stopped-change peer place f same [] = refl
is_stopped-change zero zero f same (p ∷ peers) = same p
is_stopped-change (suc peer) zero f same (p ∷ peers) = refl
is_stopped-change zero (suc place) f same (p ∷ peers) = refl
is_stopped-change (suc peer) (suc place) f same (p ∷ peers) = is_stopped-change peer place f same peers

-- a peer that was just started runs
pub running_started : (role : Role) (place : ℕ) (old new : Option PeersTold)
    → IfSome old (λ t. place ≡ length t.roles)
    → IfSome old (λ t. IdleFrom (length t.roles) t.peers)
    → new ≡ option_map (started role (Ok place)) old
    → IfSome new (IsRunning place)
running_started role place None new next idle is =
    let P : Option PeersTold → Type 0 = λ told. IfSome told (IsRunning place) in
    subst P (sym is) tt
running_started role place (Some t) new next idle is =
    let P : Option PeersTold → Type 0 = λ told. IfSome told (IsRunning place) in
    subst P (sym is)
    (record { started = omega (arith, length-append t.roles (role ∷ [])); not_stopped = (idle place (omega arith)).1 })

-- and goes on running when octets are sent, to it or to another
pub running_sent : (q peer : ℕ) (octets : List ℕ) (old new : Option PeersTold)
    → IfSome old (IsRunning q)
    → new ≡ option_map (sent_to peer octets) old
    → IfSome new (IsRunning q)
running_sent q peer octets None new runs is =
    let P : Option PeersTold → Type 0 = λ told. IfSome told (IsRunning q) in
    subst P (sym is) tt
running_sent q peer octets (Some t) new runs is =
    let P : Option PeersTold → Type 0 = λ told. IfSome told (IsRunning q) in
    subst P (sym is)
    (record { started = runs.started; not_stopped = is_stopped-change q peer _ (λ p. refl) t.peers ∙ runs.not_stopped })

-- and when octets are taken
pub running_taken : (q peer count : ℕ) (old new : Option PeersTold)
    → IfSome old (IsRunning q)
    → new ≡ option_map (taken_from peer count) old
    → IfSome new (IsRunning q)
running_taken q peer count None new runs is =
    let P : Option PeersTold → Type 0 = λ told. IfSome told (IsRunning q) in
    subst P (sym is) tt
running_taken q peer count (Some t) new runs is =
    let P : Option PeersTold → Type 0 = λ told. IfSome told (IsRunning q) in
    subst P (sym is)
    (record { started = runs.started; not_stopped = is_stopped-change q peer _ (λ p. refl) t.peers ∙ runs.not_stopped })
