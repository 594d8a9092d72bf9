-- The SYNC-input of the next NH (TS 33.401 A.4).
use Rattle.std.specs.Prelude.{ℕ, List}
use Rattle.nh_chain.specs.declared.chain.SyncInput.{SyncInput}
use Rattle.nh_chain.specs.declared.chain.SyncInput.TheVariants.{First, Later}

-- the octets of the KeNB, or of the NH before
abbrev pub sync_octets : SyncInput → List ℕ
sync_octets (First kenb) = kenb
sync_octets (Later nh) = nh
