-- Coincidences: what no one shows to be impossible. Each ends a run with its two values.
use Rattle.std.specs.Prelude.{Bool, true, false, Option, Some, None}
use Rattle.lte_machine.specs.{Wire.KeyUse, Opening.same_uses, Ladder.Clash}

-- the two values of a coincidence
pub data Coincidence (K : Type 0) : Type 0 where
  -- a record was accepted under a use, and its sender's integrity use is another, or nobody sent it
  Tuples : Option (KeyUse K) → KeyUse K → Coincidence K
  -- a derivation, or a root, has the octets of a row of the ladder with another origin
  Rows : Clash K → Coincidence K

abbrev pub tuples_unless : {K : Type 0} → Bool → Option (KeyUse K) → KeyUse K → Option (Coincidence K)
tuples_unless true sender receiver = None
tuples_unless false sender receiver = Some (Tuples sender receiver)

abbrev pub same_sender : {K : Type 0} → (K → K → Bool) → Option (KeyUse K) → KeyUse K → Bool
same_sender same None receiver = false
same_sender same (Some sender) receiver = same_uses same receiver sender

-- a use under which a record was accepted, beside its sender's
abbrev pub tuple_coincidence : {K : Type 0} → (K → K → Bool) → Option (KeyUse K) → Option (KeyUse K) → Option (Coincidence K)
tuple_coincidence same sender None = None
tuple_coincidence same sender (Some receiver) = tuples_unless (same_sender same sender receiver) sender receiver
