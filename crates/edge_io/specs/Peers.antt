-- What is told of peers, and what each call does to it.
use Rattle.std.specs.Prelude.{◌≡◌, ℕ, zero, suc, ◌+◌, ◌<◌, ◌≤◌, Bool, true, false, Option, Some, None, List, [], ◌∷◌, ◌++◌, length, take, drop, slice_get, map, Result, Ok, Err}
use Rattle.std.specs.Option.{option_map, option_map_or}
use Rattle.edge_io.specs.{declared.peers.Role.Role, declared.peers.PeerCall.PeerCall, declared.peers.StartFault.StartFault}
use Rattle.edge_io.specs.declared.peers.PeerCall.TheVariants.{Start, Send, Receive}
use Rattle.edge_io.specs.declared.peers.StartFault.TheVariants.{Memory, Failed}

-- one peer
pub record PeerTold : Type 0 where
  pub sent : List ℕ  -- the octets that it was sent
  pub to_give : List ℕ  -- the octets that it has still to give
  pub stopped : Bool
  pub room : ℕ  -- the greatest number of octets that it can be sent

-- all peers
pub record PeersTold : Type 0 where
  pub roles : List Role  -- the roles started, in order; a peer's number is its place here
  pub peers : List PeerTold  -- the peers that can be started, by their numbers
  pub failed_last : Option PeerCall  -- the call that failed last

-- the octets that a peer was sent
abbrev pub sent_of : ℕ → List PeerTold → List ℕ
sent_of peer peers = option_map_or (λ (p : PeerTold). p.sent) (slice_get peers peer) []

-- the octets that a peer has still to give
abbrev pub to_give_of : ℕ → List PeerTold → List ℕ
to_give_of peer peers = option_map_or (λ (p : PeerTold). p.to_give) (slice_get peers peer) []

-- the greatest number of octets that a peer can be sent
abbrev pub room_of : ℕ → List PeerTold → ℕ
room_of peer peers = option_map_or (λ (p : PeerTold). p.room) (slice_get peers peer) 0

-- a peer has no room for these octets behind those that it was sent
abbrev pub IsPastRoom : ℕ → List ℕ → List PeerTold → Type 0
IsPastRoom peer octets peers = room_of peer peers < length (sent_of peer peers) + length octets

-- a peer was stopped
abbrev pub is_stopped : ℕ → List PeerTold → Bool
is_stopped peer peers = option_map_or (λ (p : PeerTold). p.stopped) (slice_get peers peer) false

-- a peer was started and not stopped
pub record IsRunning (peer : ℕ) (told : PeersTold) : Type 0 where
  pub started : peer < length told.roles
  pub not_stopped : is_stopped peer told.peers ≡ false

-- a peer that was not started, so many being started, was sent nothing and is not stopped
abbrev pub IdleFrom : ℕ → List PeerTold → Type 0
IdleFrom started peers = (peer : ℕ) → started ≤ peer → (sent_of peer peers ≡ []) × (is_stopped peer peers ≡ false)

-- a list where the item at a place is changed
abbrev pub change : {X : Type 0} → ℕ → (X → X) → List X → List X
change place f [] = []
change zero f (x ∷ xs) = f x ∷ xs
change (suc place) f (x ∷ xs) = x ∷ change place f xs

-- what a call does to one peer: it sends octets, it takes octets from the front, it stops it
abbrev pub sent_to : ℕ → List ℕ → PeersTold → PeersTold
sent_to peer octets told =
    record told { peers = change peer (λ p. record p { sent = p.sent ++ octets }) told.peers }

abbrev pub taken_from : ℕ → ℕ → PeersTold → PeersTold
taken_from peer count told =
    record told { peers = change peer (λ p. record p { to_give = drop count p.to_give }) told.peers }

abbrev pub stopped_at : ℕ → PeersTold → PeersTold
stopped_at peer told =
    record told { peers = change peer (λ p. record p { stopped = true }) told.peers }

-- a call failed
abbrev pub failed_at : PeerCall → PeersTold → PeersTold
failed_at call told = record told { failed_last = Some call }

-- a start adds its role, or nothing where it fails; want of memory is no fault
abbrev pub started : Role → Result ℕ StartFault → PeersTold → PeersTold
started role (Ok place) told = record told { roles = told.roles ++ role ∷ [] }
started role (Err Memory) told = told
started role (Err Failed) told = failed_at (Start role) told

-- a failed send adds a prefix of its octets to those sent
pub record SendFailed (peer : ℕ) (octets : List ℕ) (old new : Option PeersTold) : Type 0 where
  pub count : ℕ
  pub told : new ≡ option_map (λ t. failed_at (Send peer (length octets)) (sent_to peer (take count octets) t)) old

-- a failed receive of so many octets takes a prefix of what was still to give
pub record ReceiveFailed (peer size : ℕ) (old new : Option PeersTold) : Type 0 where
  pub count : ℕ
  pub told : new ≡ option_map (λ t. failed_at (Receive peer size) (taken_from peer count t)) old

-- a peer that was not started, has this room and gives these octets
abbrev pub new_peer : ℕ → List ℕ → PeerTold
new_peer room reply = record { sent = []; to_give = reply; stopped = false; room = room }

-- peers that have this room and give these octets, none of them started
abbrev pub none_started : ℕ → List (List ℕ) → PeersTold
none_started room replies = record { roles = []; peers = map (new_peer room) replies; failed_last = None }
