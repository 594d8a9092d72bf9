-- shortMAC-I, by which a phone that re-establishes its connection proves itself (TS 36.331 5.3.7.4).
use Rattle.std.specs.Prelude.{ℕ, ◌+◌, ◌*◌, ◌^◌, List}
use Rattle.std.specs.Int.{bytes_high_first}
use Rattle.hmac_kdf.specs.Kdf.{kdf}
use Rattle.hmac_kdf.specs.declared.input.KdfInput.TheVariants as input
use Rattle.alg_suite.specs.Suite.{eia_identity}
use Rattle.annex_a_keys.specs.AlgType.{distinguisher}
use Rattle.annex_a_keys.specs.declared.alg_type.AlgType.TheVariants.{RrcInt}
use Rattle.pdu_guard.specs.ShortMacs.{short_mac_i_of}
use Rattle.calc_text.specs.declared.requests.Reestablishment.{Reestablishment}

-- VarShortMAC-Input in seven octets: cellIdentity of 28 bits, physCellId of 9, c-RNTI of 16, and three zero bits up to a whole octet (7.1
-- and 8.5; X.691)
unfoldable pub var_short_mac_input : Reestablishment → List ℕ
var_short_mac_input r = bytes_high_first 7 (8 * ((r.cell_identity * 2 ^ 9 + r.pci) * 2 ^ 16 + r.c_rnti))

-- under KRRCint and the integrity algorithm of the connection that failed
abbrev pub short_mac_i_by : Reestablishment → List ℕ
short_mac_i_by r = short_mac_i_of r.eia (kdf r.kenb (input.Alg (distinguisher RrcInt) (eia_identity r.eia))) (var_short_mac_input r)
