-- A key as the tree of the derivations that made it (TS 33.401 Annex A).
use Rattle.std.specs.Prelude.{ℕ, Bool, false, ◌==◌, ◌&&◌, List}
use Rattle.std.specs.Str.{bytes_eq}

-- a key; a KeNB* that is installed as KeNB is the same term (TS 33.401 7.2.8.1.1)
pub data Term : Type 0 where
  -- the KASME of an authentication: its number, and the octets that it left (6.1.1)
  Root : ℕ → List ℕ → Term
  -- KeNB, from KASME: the uplink NAS COUNT (A.3)
  Kenb : Term → ℕ → Term
  -- NH, from KASME: the SYNC-input (A.4)
  Nh : Term → Term → Term
  -- KeNB*, from NH or KeNB: the target cell's PCI and EARFCN-DL (A.5)
  Star : Term → ℕ → ℕ → Term
  -- an algorithm key, from KASME or KeNB: the algorithm type and identity (A.7)
  Alg : Term → ℕ → ℕ → Term

-- the KASME of an authentication (6.1.1)
abbrev pub IsRoot : Term → Type 0
IsRoot (Root r octets) = Unit {0}
IsRoot other = ⊥

-- a well-formed key that is no algorithm key: others may be derived from it (A.3 to A.7)
abbrev pub IsDerivationKey : Term → Type 0
IsDerivationKey (Root r octets) = Unit {0}
IsDerivationKey (Kenb r n) = IsRoot r
IsDerivationKey (Nh r t) = IsRoot r × IsDerivationKey t
IsDerivationKey (Star t pci earfcn) = IsDerivationKey t
IsDerivationKey (Alg t type id) = ⊥

-- a key in which each KeNB and NH comes from a KASME, and nothing from an algorithm key (A.3, A.4, A.7)
abbrev pub IsWellFormed : Term → Type 0
IsWellFormed (Alg t type id) = IsDerivationKey t
IsWellFormed t = IsDerivationKey t

-- whether two keys are one term
abbrev pub same_term : Term → Term → Bool
same_term (Root r octets) (Root s octets') = (r == s) && bytes_eq octets octets'
same_term (Kenb r n) (Kenb s m) = same_term r s && (n == m)
same_term (Nh r t) (Nh s u) = same_term r s && same_term t u
same_term (Star t pci earfcn) (Star u pci' earfcn') = same_term t u && (pci == pci') && (earfcn == earfcn')
same_term (Alg t type id) (Alg u type' id') = same_term t u && (type == type') && (id == id')
same_term t u = false
