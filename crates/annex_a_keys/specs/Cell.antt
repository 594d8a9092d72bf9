-- A cell as the derivation of KeNB* sees it (TS 33.401 A.5).
use Rattle.std.specs.Prelude.{ℕ, ◌≤◌}
pub use Rattle.hmac_kdf.specs.Kdf.{greatest_earfcn}

-- its physical cell identity and its downlink carrier
pub record Place : Type 0 where
  pub pci : ℕ
  pub earfcn : ℕ

-- the greatest physical cell identity (TS 36.331 6.3.4, PhysCellId)
abbrev pub greatest_pci : ℕ
greatest_pci = 503

-- a cell in range
abbrev pub IsCell : Place → Type 0
IsCell cell = (cell.pci ≤ greatest_pci) × (cell.earfcn ≤ greatest_earfcn)
