-- Chains and keys that are known as terms, as they stand in octets (TS 33.401 7.2.8.1.1).
use Rattle.std.specs.Prelude.{ℕ, List}
use Rattle.key_model.specs.{Term.Term, Chain.nh, Chain.ncc_of, Value.value_of, HandoverTable.NumberedKey, HandoverLines.map_numbered}
use Rattle.nh_chain.specs.Chain.{ChainState, map_chain}

-- the chain of KASME r and COUNT n at chain number i
abbrev pub chain_at : Term → ℕ → ℕ → ChainState Term ℕ
chain_at r n i = record { root = r; sync = nh r n i; number = i }

-- a chain in octets, with its NCC
abbrev pub chain_in_octets : ChainState Term ℕ → ChainState (List ℕ) ℕ
chain_in_octets chain = map_chain value_of ncc_of chain

-- a key in octets, with its NCC
abbrev pub in_octets : NumberedKey Term ℕ → NumberedKey (List ℕ) ℕ
in_octets key = map_numbered value_of ncc_of key
