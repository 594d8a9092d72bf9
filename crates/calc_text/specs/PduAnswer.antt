-- What the lines of PDUs, and of a phone's chain, give.
use Rattle.std.specs.Prelude.{ℕ, ◌==◌, Bool, true, false, Option, Some, None, slice_index, if◌then◌else◌, Result, Ok, Err, List, [], ◌∷◌, ◌++◌, length, codes}
use Rattle.std.specs.Fmt.{decimal}
use Rattle.hex.specs.Hex.{encode_lower}
use Rattle.hmac_kdf.specs.Kdf.{kdf}
use Rattle.hmac_kdf.specs.declared.input.KdfInput.TheVariants as input
use Rattle.alg_suite.specs.{Suite.eea_identity, Suite.eia_identity, declared.integrity.Integrity.Integrity}
use Rattle.annex_a_keys.specs.{Cell.Place, AlgType.distinguisher}
use Rattle.annex_a_keys.specs.declared.alg_type.AlgType.TheVariants.{NasEnc, NasInt, RrcEnc, RrcInt, UpEnc}
use Rattle.key_model.specs.Reading.{octet_reading}
use Rattle.key_model.specs.HandoverLines.{nh_after, phone_line, steps_to}
use Rattle.rec_base.specs.declared.uses.Dir.{Dir}
use Rattle.nas_guard.specs.{Open.header_in, Open.sent_in, declared.opening.OpenFault.OpenFault}
use Rattle.nas_guard.specs.declared.opening.OpenFault.TheVariants as nas_fault
use Rattle.pdcp_guard.specs.{declared.pdus.PdcpOpened.PdcpOpened, declared.pdus.PdcpFault.PdcpFault}
use Rattle.pdcp_guard.specs.declared.pdus.PdcpFault.TheVariants as pdcp_fault
use Rattle.pdu_guard.specs.{declared.drb.DrbKeys.DrbKeys, declared.drb.Numbers.Numbers, declared.phone.Phone.Phone, declared.short_macs.ServiceFault.ServiceFault, declared.srb.SrbKeys.SrbKeys, declared.nas.NasHead.NasHead, declared.nas.NasKeys.NasKeys, declared.short_macs.ServiceFound.ServiceFound, Checks.is_checked, Drb.drb_pdu_opened, Search.nas_search, Search.service_search, ShortMacs.service_checked, ShortMacs.service_first, Phone.keys_in}
use Rattle.pdu_guard.specs.declared.short_macs.ServiceFault.TheVariants as service_fault
use Rattle.pdu_guard.specs.Nas.{NasOpening, nas_head_of, nas_opened, nas_sent}
use Rattle.pdu_guard.specs.Srb.{SrbOpening, srb_pdu_opened, srb_pdu_text}
use Rattle.calc_text.specs.{declared.requests.Algorithms.Algorithms, declared.requests.NasPdu.NasPdu, declared.requests.ServicePdu.ServicePdu, declared.requests.BearerInputs.BearerInputs, declared.requests.SrbPdu.SrbPdu}

-- octets in hex digits, or `-` for none
abbrev pub written : List ℕ → List ℕ
written octets = if length octets == 0 then codes "-" else encode_lower octets

-- the keys of NAS, of a signalling and of a data radio bearer (TS 33.401 6.2 and A.7)
abbrev pub nas_int : List ℕ → Integrity → List ℕ
nas_int kasme eia = kdf kasme (input.Alg (distinguisher NasInt) (eia_identity eia))

abbrev pub nas_keys : List ℕ → Algorithms → NasKeys
nas_keys kasme algorithms = record {
  enc = kdf kasme (input.Alg (distinguisher NasEnc) (eea_identity algorithms.eea));
  int = nas_int kasme algorithms.eia;
  eea = algorithms.eea;
  eia = algorithms.eia;
}

abbrev pub srb_keys : List ℕ → Algorithms → ℕ → SrbKeys
srb_keys kenb algorithms bearer = record {
  enc = kdf kenb (input.Alg (distinguisher RrcEnc) (eea_identity algorithms.eea));
  int = kdf kenb (input.Alg (distinguisher RrcInt) (eia_identity algorithms.eia));
  eea = algorithms.eea;
  eia = algorithms.eia;
  bearer = bearer;
}

abbrev pub drb_keys : BearerInputs → Numbers → DrbKeys
drb_keys i numbers = record {
  enc = kdf i.kenb (input.Alg (distinguisher UpEnc) (eea_identity i.algorithms.eea));
  eea = i.algorithms.eea;
  bearer = i.bearer;
  numbers = numbers;
}

-- where nothing was checked, under EIA0, the line says so
abbrev pub mark : Bool → List ℕ
mark true = []
mark false = codes " unchecked"

-- a PDU that opens: its COUNT and its text
unfoldable pub opens_line : ℕ → List ℕ → Bool → List ℕ
opens_line count text checked = codes "opens " ++ (decimal count ++ (codes " " ++ (written text ++ mark checked)))

-- a NAS message that opens: its security header type before
unfoldable pub nas_opens_line : ℕ → ℕ → List ℕ → Bool → List ℕ
nas_opens_line header count text checked =
    codes "opens " ++ (decimal header ++ (codes " " ++ (decimal count ++ (codes " " ++ (written text ++ mark checked)))))

-- a MAC that differs: the COUNT at which it was computed, both MACs, and the text at that COUNT all the same
unfoldable pub mac_fails_line : ℕ → List ℕ → List ℕ → List ℕ → List ℕ
mac_fails_line count wanted got text =
    codes "mac fails "
    ++ (decimal count
    ++ (codes " wanted "
    ++ (encode_lower wanted ++ (codes " got " ++ (encode_lower got ++ (codes " text " ++ written text))))))

-- a first octet that is none of such a PDU
unfoldable pub bad_header_line : ℕ → List ℕ
bad_header_line octet = codes "bad header " ++ encode_lower (octet ∷ [])

abbrev pub short_line : List ℕ
short_line = codes "short"

-- the COUNT would have more bits than it has
abbrev pub spent_line : List ℕ
spent_line = codes "count spent"

-- no COUNT has a MAC that is right
abbrev pub no_count_line : List ℕ
no_count_line = codes "no count"

-- a NAS message that does not open
abbrev pub nas_fault_line : NasKeys → Dir → List ℕ → OpenFault → List ℕ
nas_fault_line keys dir pdu nas_fault.Short = short_line
nas_fault_line keys dir pdu (nas_fault.BadHeader octet) = bad_header_line octet
nas_fault_line keys dir pdu nas_fault.CountSpent = spent_line
nas_fault_line keys dir pdu (nas_fault.MacFails count wanted got) =
    mac_fails_line count wanted got (nas_sent keys (header_in pdu) count dir (sent_in pdu))

-- a NAS message
abbrev pub nas_answer : NasKeys → Dir → List ℕ → Result NasOpening OpenFault → List ℕ
nas_answer keys dir pdu (Ok o) = nas_opens_line o.header o.count o.text o.checked
nas_answer keys dir pdu (Err fault) = nas_fault_line keys dir pdu fault

-- a NAS message at the least COUNT at which its MAC is right, of all that have its sequence number
abbrev pub nas_at : NasKeys → ℕ → Dir → List ℕ → Option ℕ → List ℕ
nas_at keys header dir pdu (Some count) = nas_opens_line header count (nas_sent keys header count dir (sent_in pdu)) (is_checked keys.eia)
nas_at keys header dir pdu None = no_count_line

abbrev pub any_nas_answer : NasKeys → Dir → List ℕ → Result NasHead OpenFault → List ℕ
any_nas_answer keys dir pdu (Ok head) = nas_at keys head.header dir pdu (nas_search keys dir pdu)
any_nas_answer keys dir pdu (Err fault) = nas_fault_line keys dir pdu fault

-- a NAS message at a COUNT or at any
abbrev pub nas_under : NasKeys → Option ℕ → Dir → List ℕ → List ℕ
nas_under keys (Some next) dir pdu = nas_answer keys dir pdu (nas_opened keys next dir pdu)
nas_under keys None dir pdu = any_nas_answer keys dir pdu (nas_head_of 0 pdu)

abbrev pub nas_line : Algorithms → NasPdu → List ℕ
nas_line algorithms n = nas_under (nas_keys n.kasme algorithms) n.count n.dir n.pdu

-- a Service Request: it has no text
unfoldable pub count_line : ℕ → Bool → List ℕ
count_line count checked = codes "opens " ++ (decimal count ++ mark checked)

unfoldable pub short_mac_fails_line : ℕ → List ℕ → List ℕ → List ℕ
short_mac_fails_line count wanted got =
    codes "mac fails " ++ (decimal count ++ (codes " wanted " ++ (encode_lower wanted ++ (codes " got " ++ encode_lower got))))

abbrev pub service_answer : Result ServiceFound ServiceFault → List ℕ
service_answer (Ok found) = count_line found.count found.checked
service_answer (Err (service_fault.BadHeader octet)) = bad_header_line octet
service_answer (Err service_fault.CountSpent) = spent_line
service_answer (Err (service_fault.MacFails count wanted got)) = short_mac_fails_line count wanted got

-- a Service Request at the least COUNT at which its short MAC is right, of all that have its 5 bits
abbrev pub service_at : Integrity → Option ℕ → List ℕ
service_at eia (Some count) = count_line count (is_checked eia)
service_at eia None = no_count_line

abbrev pub any_service_line : Integrity → List ℕ → List ℕ → List ℕ
any_service_line eia int pdu =
    if slice_index pdu 0 == service_first then service_at eia (service_search eia int pdu) else bad_header_line (slice_index pdu 0)

-- a Service Request at a COUNT or at any
abbrev pub service_under : Integrity → List ℕ → Option ℕ → List ℕ → List ℕ
service_under eia int (Some next) pdu = service_answer (service_checked eia int next pdu)
service_under eia int None pdu = any_service_line eia int pdu

abbrev pub service_line : Integrity → ServicePdu → List ℕ
service_line eia s = service_under eia (nas_int s.kasme eia) s.count s.pdu

-- a PDU of a signalling radio bearer
abbrev pub srb_answer : SrbKeys → Dir → List ℕ → Result SrbOpening PdcpFault → List ℕ
srb_answer keys dir pdu (Ok o) = opens_line o.count o.text o.checked
srb_answer keys dir pdu (Err pdcp_fault.Short) = short_line
srb_answer keys dir pdu (Err (pdcp_fault.BadHeader octet)) = bad_header_line octet
srb_answer keys dir pdu (Err pdcp_fault.CountSpent) = spent_line
srb_answer keys dir pdu (Err (pdcp_fault.MacFails count wanted got)) =
    mac_fails_line count wanted got (srb_pdu_text keys count dir pdu)

abbrev pub srb_line : Algorithms → SrbPdu → List ℕ
srb_line algorithms s =
    let keys = srb_keys s.kenb algorithms s.bearer in srb_answer keys s.dir s.pdu (srb_pdu_opened keys s.count s.dir s.pdu)

-- a PDU of a data radio bearer, which has no MAC
abbrev pub drb_answer : Result PdcpOpened PdcpFault → List ℕ
drb_answer (Ok o) = opens_line o.count o.text true
drb_answer (Err pdcp_fault.Short) = short_line
drb_answer (Err (pdcp_fault.BadHeader octet)) = bad_header_line octet
drb_answer (Err pdcp_fault.CountSpent) = spent_line
drb_answer (Err (pdcp_fault.MacFails count wanted got)) = mac_fails_line count wanted got []

abbrev pub drb_line : DrbKeys → ℕ → Dir → List ℕ → List ℕ
drb_line keys count dir pdu = drb_answer (drb_pdu_opened keys count dir pdu)

-- how a phone comes to its KeNB*: without a step of NH horizontally, and else vertically (TS 33.401 7.2.8.4.4)
abbrev pub way : ℕ → List ℕ
way steps = if steps == 0 then codes "horizontal" else codes "vertical"

unfoldable pub reached_line : ℕ → List ℕ → List ℕ → List ℕ
reached_line steps sync star =
    way steps ++ (codes " " ++ (decimal steps ++ (codes " " ++ (encode_lower sync ++ (codes " " ++ encode_lower star)))))

abbrev pub reach_line : Phone → ℕ → Place → List ℕ
reach_line phone ncc cell =
    let steps = steps_to phone.ncc ncc in
    reached_line steps (nh_after octet_reading phone.root phone.sync steps) (phone_line octet_reading (keys_in phone) ncc cell.pci cell.earfcn).key
