-- The chain of NH keys below one KASME.
use Rattle.std.specs.Prelude.{ℕ, zero, suc, ◌%◌}
use Rattle.key_model.specs.Term.{Term, Kenb, Nh}

-- the key of chain number i, for KASME r and a KeNB of COUNT n: number 0 is that KeNB, and each later one is the NH
-- with the key before as its SYNC-input (TS 33.401 7.2.8.1.1 and A.4)
abbrev pub nh : Term → ℕ → ℕ → Term
nh r n zero = Kenb r n
nh r n (suc i) = Nh r (nh r n i)

-- the NCC of a chain number, of three bits (TS 33.401 7.2.8.1.1, nextHopChainingCount of TS 36.331 6.3.3)
abbrev pub ncc_of : ℕ → ℕ
ncc_of i = i % 8
