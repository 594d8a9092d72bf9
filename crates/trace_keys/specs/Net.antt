-- What the network holds for one phone, as far as keys go (TS 33.401 7.2.8).
use Rattle.std.specs.Prelude.{ℕ, Option}
use Rattle.annex_a_keys.specs.Cell.{Place}
use Rattle.key_model.specs.HandoverTable.{NumberedKey}
use Rattle.nh_chain.specs.{Chain.ChainState, Station.StationKey}
use Rattle.trace_keys.specs.declared.moves.Where.{Where}

-- a station that a handover is prepared at: its cell, KeNB* with its number, and the pair that the source used for it
pub record Target (K C : Type 0) : Type 0 where
  pub station : ℕ
  pub cell : Place
  pub star : NumberedKey K C
  pub spent : Option (NumberedKey K C)

-- a key change that was sent and not taken: its KASME and COUNT, its KeNB, and the chain that it begins (7.2.9.2)
pub record Offer (K C : Type 0) : Type 0 where
  pub kasme : ℕ
  pub count : ℕ
  pub kenb : K
  pub core : ChainState K C

-- a phone that is connected: the core's chain, the serving station and its cell, what that station holds, the handover that
-- is prepared, and the key change that is sent
pub record Serving (K C : Type 0) : Type 0 where
  pub core : ChainState K C
  pub station : ℕ
  pub cell : Place
  pub key : StationKey K C
  pub target : Option (Target K C)
  pub offer : Option (Offer K C)

-- which KASME is in use, the least uplink NAS COUNT of which no KeNB of it was taken into use, and the connection
pub record Net (K C : Type 0) : Type 0 where
  pub kasme : ℕ
  pub count : ℕ
  pub serving : Option (Serving K C)

-- a message where a tap may stand, and the key that it carries with its NCC (0 beside a KeNB). What was captured has no pair
-- where its key is not looked at
pub record Sight (K : Type 0) : Type 0 where
  pub at : Where
  pub pair : Option (NumberedKey K ℕ)
