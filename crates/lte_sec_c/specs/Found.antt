-- What a call leaves of an opening: its status, the text's octets and what is told beside it.
use Rattle.std.specs.Prelude.{ℕ, Bool, true, false, List, [], ◌∷◌, ◌++◌, drop, length, Result, Ok, Err}
use Rattle.nas_guard.specs.declared.opening.OpenFault.{OpenFault}
use Rattle.pdcp_guard.specs.{declared.pdus.PdcpOpened.PdcpOpened, declared.pdus.PdcpFault.PdcpFault}
use Rattle.pdu_guard.specs.{Nas.NasOpening, Srb.SrbOpening}
use Rattle.lte_sec_c.specs.{declared.fault.Fault.Fault, declared.fault.Fault.TheVariants.MacFails, declared.found.Found.Found}
use Rattle.lte_sec_c.specs.Status.{done, of_nas, of_pdcp, status_of}

-- what a NAS message opens to, and a PDCP PDU, which has no header type; nothing is checked on a DRB
abbrev pub nas_answer : Result NasOpening OpenFault → Result NasOpening Fault
nas_answer (Ok o) = Ok o
nas_answer (Err fault) = Err (of_nas fault)

abbrev pub srb_answer : Result SrbOpening PdcpFault → Result NasOpening Fault
srb_answer (Ok o) = Ok (record { header = 0; count = o.count; checked = o.checked; text = o.text })
srb_answer (Err fault) = Err (of_pdcp fault)

abbrev pub drb_answer : Result PdcpOpened PdcpFault → Result NasOpening Fault
drb_answer (Ok o) = Ok (record { header = 0; count = o.count; checked = false; text = o.text })
drb_answer (Err fault) = Err (of_pdcp fault)

-- the status
abbrev pub status_after : Result NasOpening Fault → ℕ
status_after (Ok o) = done
status_after (Err fault) = status_of fault

-- the text's room: the text, and behind it what was there; nothing is changed at a refusal
abbrev pub text_after : List ℕ → Result NasOpening Fault → List ℕ
text_after old (Ok o) = o.text ++ drop (length o.text) old
text_after old (Err fault) = old

-- where no MACs are told
abbrev pub no_mac : List ℕ
no_mac = 0 ∷ 0 ∷ 0 ∷ 0 ∷ []

-- as C has a truth value
abbrev pub bit_of : Bool → ℕ
bit_of true = 1
bit_of false = 0

-- at a refusal both MACs where they differ, with their COUNT, and else nothing
abbrev pub found_at : Found → Fault → Found
found_at old (MacFails count wanted got) =
    record { length = 0; count = count; header = 0; wanted = wanted; got = got; checked = 1 }
found_at old other = old

-- the text's length, COUNT and header type, and whether its MAC was compared; or a refusal
abbrev pub found_after : Found → Result NasOpening Fault → Found
found_after old (Ok o) = record {
  length = length o.text;
  count = o.count;
  header = o.header;
  wanted = no_mac;
  got = no_mac;
  checked = bit_of o.checked;
}
found_after old (Err fault) = found_at old fault
