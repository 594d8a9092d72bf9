-- The KASME and the NAS COUNT that a key comes from (TS 33.401 Annex A).
use Rattle.std.specs.Prelude.{ℕ}
use Rattle.key_model.specs.Term.{Term, Root, Kenb, Nh, Star, Alg}

-- the KASME that a key comes from
abbrev pub root_of : Term → Term
root_of (Root r octets) = Root r octets
root_of (Kenb r n) = r
root_of (Nh r t) = r
root_of (Star t pci earfcn) = root_of t
root_of (Alg t type id) = root_of t

-- the uplink NAS COUNT of the KeNB that a key comes from (A.3)
abbrev pub nas_count_of : Term → ℕ
nas_count_of (Root r octets) = 0
nas_count_of (Kenb r n) = n
nas_count_of (Nh r t) = nas_count_of t
nas_count_of (Star t pci earfcn) = nas_count_of t
nas_count_of (Alg t type id) = nas_count_of t
