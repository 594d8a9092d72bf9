-- That what is defined here over plain octets is what nas_guard and pdcp_guard define for the program.
use Rattle.std.specs.Prelude.{ℕ, true, List, Result, Ok, Err}
use Rattle.alg_choice.specs.declared.algs.Eea.{Eea}
use Rattle.alg_choice.specs.declared.algs.Eea.TheVariants as program
use Rattle.alg_suite.specs.{declared.ciphering.Ciphering.Ciphering, declared.integrity.Integrity.TheVariants.Eia2}
use Rattle.alg_suite.specs.declared.ciphering.Ciphering.TheVariants.{Eea0, Eea2}
use Rattle.rec_base.specs.{Bearer.bearer5_of, declared.bearers.Bearer.Bearer}
use Rattle.nas_guard.specs.{Keys.Keys, declared.opening.Opened.Opened, declared.opening.OpenFault.OpenFault}
use Rattle.pdcp_guard.specs.{AsKeys.AsKeys, declared.pdus.PdcpFault.PdcpFault, declared.pdus.PdcpOpened.PdcpOpened}
use Rattle.pdu_guard.specs.{declared.drb.DrbKeys.DrbKeys, declared.drb.Numbers.TheVariants.Twelve, declared.nas.NasKeys.NasKeys, declared.srb.SrbKeys.SrbKeys, Nas.NasOpening, Srb.SrbOpening}

-- the program's encryption algorithms; its integrity algorithm is 128-EIA2
abbrev pub ciphering_of : Eea → Ciphering
ciphering_of program.Eea0 = Eea0
ciphering_of program.Eea2 = Eea2

-- the program's keys: of NAS, of an SRB, and of a DRB, whose sequence numbers have 12 bits there
abbrev pub nas_keys_of : Keys (List ℕ) → NasKeys
nas_keys_of keys = record { enc = keys.enc; int = keys.int; eea = ciphering_of keys.algs.eea; eia = Eia2 }

abbrev pub srb_keys_of : AsKeys (List ℕ) → Bearer → SrbKeys
srb_keys_of keys bearer = record {
  enc = keys.rrc_enc;
  int = keys.rrc_int;
  eea = ciphering_of keys.algs.eea;
  eia = Eia2;
  bearer = bearer5_of bearer;
}

abbrev pub drb_keys_of : AsKeys (List ℕ) → Bearer → DrbKeys
drb_keys_of keys bearer =
    record { enc = keys.up_enc; eea = ciphering_of keys.algs.eea; bearer = bearer5_of bearer; numbers = Twelve }

-- what the program opens, whose MAC was compared
abbrev pub checked_nas : Result Opened OpenFault → Result NasOpening OpenFault
checked_nas (Ok o) = Ok (record { header = o.header; count = o.count; checked = true; text = o.text })
checked_nas (Err fault) = Err fault

abbrev pub checked_srb : Result PdcpOpened PdcpFault → Result SrbOpening PdcpFault
checked_srb (Ok o) = Ok (record { count = o.count; checked = true; text = o.text })
checked_srb (Err fault) = Err fault
