-- How the fields of a record are spelled.
use Rattle.std.specs.Prelude.{ℕ, ◌+◌, ◌*◌, ◌++◌, List}
use Rattle.rec_base.specs.BigEndian.{octets_of}
use Rattle.alg_choice.specs.{declared.algs.Algs.Algs, Algs.identity_of, Algs.eia2_identity}
use Rattle.annex_a_keys.specs.Cell.{Place}

-- the identity of the ciphering algorithm in the high half, that of 128-EIA2 in the low (TS 24.301 9.9.3.23)
abbrev pub algs_octet : Algs → ℕ
algs_octet algs = 16 * identity_of algs.eea + eia2_identity

-- PCI in two octets, EARFCN-DL in four
abbrev pub cell_octets : Place → List ℕ
cell_octets cell = octets_of 2 cell.pci ++ octets_of 4 cell.earfcn
