-- What acts do, where it is told.
use Rattle.std.specs.Prelude.{◌≡◌, ℕ, zero, suc, ◌<◌, Option, List, [], ◌∷◌, length, take, Ok, IfSome}
use Rattle.std.specs.Option.{option_map}
use Rattle.edge_io.specs.Octets.{Grows}
use Rattle.edge_io.specs.Peers.{PeersTold, IsRunning, started, sent_to, taken_from, stopped_at, to_give_of}
use Rattle.hub_drive.specs.Acts.{Call, Starting, Sending, Receiving, Act, calls, writes}

-- what is told at a moment: the octets written, and the peers
pub record Outside : Type 0 where
  pub written : Option (List ℕ)
  pub peers : Option PeersTold

abbrev pub outside : Option (List ℕ) → Option PeersTold → Outside
outside written peers = record { written = written; peers = peers }

-- what a call makes of the peers
abbrev pub done : Call → PeersTold → PeersTold
done (Starting role) told = started role (Ok 0) told
done (Sending peer octets) told = sent_to peer octets told
done (Receiving peer w) told = taken_from peer (length w.octets) told

abbrev pub all_done : List Call → PeersTold → PeersTold
all_done [] told = told
all_done (call ∷ more) told = all_done more (done call told)

-- a peer that was to give octets had these to give
abbrev pub Gave : Call → PeersTold → Type 0
Gave (Receiving peer w) told = take (length w.octets) (to_give_of peer told.peers) ≡ w.octets
Gave other told = Unit {0}

abbrev pub AllGave : List Call → PeersTold → Type 0
AllGave [] told = Unit {0}
AllGave (call ∷ more) told = Gave call told × AllGave more (done call told)

-- these calls were made, and what came was what was to come
pub record Did (made : List Call) (old new : Option PeersTold) : Type 0 where
  pub told : new ≡ option_map (all_done made) old
  pub gave : IfSome old (AllGave made)

-- these acts were done
pub record AllDone (acts : List Act) (before after : Outside) : Type 0 where
  pub written : Grows before.written after.written (writes acts)
  pub did : Did (calls acts) before.peers after.peers

-- so many peers were started
abbrev pub HasStarted : ℕ → Option PeersTold → Type 0
HasStarted count told = IfSome told (λ t. length t.roles ≡ count)

-- so many peers were started, and none of them is stopped
abbrev pub AllRun : ℕ → Option PeersTold → Type 0
AllRun count told = IfSome told (λ t. (peer : ℕ) → peer < count → IsRunning peer t)

-- the peers below a number are stopped
abbrev pub stopped_below : ℕ → PeersTold → PeersTold
stopped_below zero told = told
stopped_below (suc count) told = stopped_at count (stopped_below count told)
