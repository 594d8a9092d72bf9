-- What drives peers: octets that are written and calls on peers, in one order. The text and the list of calls are two projections of it.
use Rattle.std.specs.Prelude.{ℕ, Option, List, [], ◌∷◌, ◌++◌}
use Rattle.edge_io.specs.declared.peers.Role.{Role}

-- a part of a reply that is to come
pub record Wanted : Type 0 where
  -- the number of the event, or none where a peer is set up
  pub step : Option ℕ
  -- what came of the reply before, the part itself, and what is behind it
  pub before : List ℕ
  pub octets : List ℕ
  pub behind : List ℕ

-- a call on peers: of a role, or of the peer with this number
pub data Call : Type 0 where
  Starting : Role → Call
  Sending : ℕ → List ℕ → Call
  Receiving : ℕ → Wanted → Call

pub data Act : Type 0 where
  Writing : List ℕ → Act
  Calling : Call → Act

-- the calls among acts, in order
abbrev pub calls : List Act → List Call
calls [] = []
calls (Writing text ∷ acts) = calls acts
calls (Calling call ∷ acts) = call ∷ calls acts

-- and what they write
abbrev pub writes : List Act → List ℕ
writes [] = []
writes (Writing text ∷ acts) = text ++ writes acts
writes (Calling call ∷ acts) = writes acts
