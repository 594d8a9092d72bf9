-- The chain number of a key.
use Rattle.std.specs.Prelude.{ℕ, suc}
use Rattle.key_model.specs.Term.{Term, Root, Kenb, Nh, Star, Alg}

-- the NH steps from the KeNB of the chain to the key; a KeNB* has the number of the key that it comes from
-- (TS 33.401 7.2.8.1.1). A KASME and an algorithm key have none, written as 0
abbrev pub chain_number : Term → ℕ
chain_number (Kenb r n) = 0
chain_number (Nh r t) = suc (chain_number t)
chain_number (Star t pci earfcn) = chain_number t
chain_number (Root r octets) = 0
chain_number (Alg t type id) = 0
