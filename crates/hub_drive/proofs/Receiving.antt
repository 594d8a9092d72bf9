-- A part of a reply that did not come, and one that came in place of another.
use Rattle.std.proofs.Common.{◌≡◌, ◌≢◌, ℕ, Option, List, [], ◌∷◌, ◌++◌, length, take, IfSome, refl, sym, subst, ◌∙◌}
use Rattle.std.specs.Option.{option_map}
use Rattle.edge_io.specs.Peers.{PeersTold, ReceiveFailed, taken_from, to_give_of}
use Rattle.hub_drive.proofs.Composing.{cut_at}
use Rattle.hub_drive.specs.{declared.faults.DriveFault.DriveFault, Outside.outside, Went.CutAt, Went.Differed}
use Rattle.hub_drive.specs.declared.faults.DriveFault.TheVariants.{PeerFault, Differs}
use Rattle.hub_drive.specs.Acts.{Wanted, Receiving, Calling}

pub receive_failed : (written : Option (List ℕ)) (peer size : ℕ) (w : Wanted) (old new : Option PeersTold)
    → size ≡ length w.octets
    → ReceiveFailed peer size old new
    → CutAt (Calling (Receiving peer w) ∷ []) PeerFault (outside written old) (outside written new)
receive_failed written peer size w old new is failed =
    let P : ℕ → Type 0 = λ n. ReceiveFailed peer n old new in
    cut_at (Calling (Receiving peer w)) PeerFault (outside written old) (outside written new) (refl, subst P is failed)

pub receive_differs : (written : Option (List ℕ)) (peer size : ℕ) (w : Wanted) (reply received : List ℕ) (fault : DriveFault) (old new : Option PeersTold)
    → size ≡ length w.octets → length received ≡ size → received ≢ w.octets → reply ≡ w.before ++ (w.octets ++ w.behind)
    → fault ≡ Differs w.step reply (w.before ++ received)
    → new ≡ option_map (taken_from peer size) old → IfSome old (λ t. take size (to_give_of peer t.peers) ≡ received)
    → CutAt (Calling (Receiving peer w) ∷ []) fault (outside written old) (outside written new)
receive_differs written peer size w reply received fault old new is long other parts named told gave =
    let P : ℕ → Type 0 = λ n. new ≡ option_map (taken_from peer n) old in
    let Q : ℕ → Type 0 = λ n. IfSome old (λ t. take n (to_give_of peer t.peers) ≡ received) in
    let R : DriveFault → Type 0 = λ f. CutAt (Calling (Receiving peer w) ∷ []) f (outside written old) (outside written new) in
    let differed : Differed peer w w.step reply (w.before ++ received) old new = record {
      received = received;
      size = long ∙ is;
      other = other;
      step_is = refl;
      wanted_is = parts;
      got_is = refl;
      told = subst P is told;
      gave = subst Q is gave;
    } in
    subst R (sym named)
    (cut_at (Calling (Receiving peer w)) (Differs w.step reply (w.before ++ received)) (outside written old) (outside written new) (refl, differed))
