-- What calls do, peer by peer.
use Rattle.std.specs.Prelude.{◌≡◌, ℕ, ◌<◌, ◌==◌, if◌then◌else◌, List, [], ◌∷◌, ◌++◌, length}
use Rattle.edge_io.specs.Peers.{PeersTold, sent_of, to_give_of}
use Rattle.edge_io.specs.{declared.peers.Role.Role, declared.peers.PeerCall.PeerCall}
use Rattle.edge_io.specs.declared.peers.PeerCall.TheVariants.{Start, Send, Receive}
use Rattle.hub_drive.specs.Acts.{Call, Starting, Sending, Receiving}

-- the roles that are started
abbrev pub roles_started : List Call → List Role
roles_started [] = []
roles_started (Starting role ∷ calls) = role ∷ roles_started calls
roles_started (Sending peer octets ∷ calls) = roles_started calls
roles_started (Receiving peer w ∷ calls) = roles_started calls

-- the octets that a peer is sent
abbrev pub sends : ℕ → List Call → List ℕ
sends q [] = []
sends q (Starting role ∷ calls) = sends q calls
sends q (Sending peer octets ∷ calls) = (if peer == q then octets else []) ++ sends q calls
sends q (Receiving peer w ∷ calls) = sends q calls

-- and those that come from it
abbrev pub receives : ℕ → List Call → List ℕ
receives q [] = []
receives q (Starting role ∷ calls) = receives q calls
receives q (Sending peer octets ∷ calls) = receives q calls
receives q (Receiving peer w ∷ calls) = (if peer == q then w.octets else []) ++ receives q calls

-- a call by its name
abbrev pub name_of : Call → PeerCall
name_of (Starting role) = Start role
name_of (Sending peer octets) = Send peer (length octets)
name_of (Receiving peer w) = Receive peer (length w.octets)

-- what is told of peers on which these calls were made
pub record Made (calls : List Call) (old new : PeersTold) : Type 0 where
  pub roles : new.roles ≡ old.roles ++ roles_started calls
  pub many : length new.peers ≡ length old.peers
  pub sent : (q : ℕ) → q < length old.peers → sent_of q new.peers ≡ sent_of q old.peers ++ sends q calls
  pub taken : (q : ℕ) → to_give_of q old.peers ≡ receives q calls ++ to_give_of q new.peers
  pub failed : new.failed_last ≡ old.failed_last
