-- What the lines of PDUs give of which no algorithm is known: those under which the MAC is right. EIA0 is not tried, since a receiver
-- takes any MAC under it (TS 33.401 B.0).
use Rattle.std.specs.Prelude.{ℕ, if◌then◌else◌, Option, Some, None, Result, Ok, Err, List, [], ◌∷◌, ◌++◌, codes}
use Rattle.std.specs.{Fmt.decimal, Option.option_map, Option.option_or, Option.unwrap_or, Str.bytes_eq}
use Rattle.hex.specs.Hex.{encode_lower}
use Rattle.alg_suite.specs.{Suite.eea_identity, Suite.eia_identity, declared.ciphering.Ciphering.Ciphering, declared.integrity.Integrity.Integrity}
use Rattle.alg_suite.specs.declared.ciphering.Ciphering.TheVariants.{Eea0, Eea1, Eea2, Eea3}
use Rattle.alg_suite.specs.declared.integrity.Integrity.TheVariants.{Eia1, Eia2, Eia3}
use Rattle.rec_base.specs.declared.uses.Dir.{Dir}
use Rattle.rec_base.specs.declared.uses.Dir.TheVariants.{Up, Down}
use Rattle.nas_guard.specs.{Open.mac_in, Open.sent_in, Seal.is_ciphered, declared.opening.OpenFault.OpenFault}
use Rattle.nas_guard.specs.declared.opening.OpenFault.TheVariants as nas_fault
use Rattle.pdcp_guard.specs.{Srb.srb_count, declared.pdus.PdcpFault.PdcpFault}
use Rattle.pdcp_guard.specs.declared.pdus.PdcpFault.TheVariants as pdcp_fault
use Rattle.pdu_guard.specs.{declared.nas.NasHead.NasHead, declared.nas.NasKeys.NasKeys, declared.short_macs.ServiceFault.ServiceFault, declared.short_macs.ServiceFound.ServiceFound}
use Rattle.pdu_guard.specs.{Nas.nas_head_of, Nas.nas_sent, Nas.nas_wanted, Search.nas_search, Search.service_search, ShortMacs.service_checked}
use Rattle.pdu_guard.specs.Srb.{SrbOpening, srb_pdu_opened}
use Rattle.pdu_guard.specs.declared.short_macs.ServiceFault.TheVariants as service_fault
use Rattle.calc_text.specs.{declared.requests.NasPdu.NasPdu, declared.requests.ServicePdu.ServicePdu, declared.requests.SrbPdu.SrbPdu, declared.trying.Fit.Fit}
use Rattle.calc_text.specs.{NasText.is_nas, PduAnswer.bad_header_line, PduAnswer.nas_int, PduAnswer.nas_keys, PduAnswer.short_line, PduAnswer.spent_line, PduAnswer.srb_keys, PduAnswer.written}

-- the other direction
abbrev pub other : Dir → Dir
other Up = Down
other Down = Up

abbrev pub direction_name : Dir → List ℕ
direction_name Up = codes "uplink"
direction_name Down = codes "downlink"

-- the MAC is right under no algorithm that was tried
abbrev pub no_algorithm_line : List ℕ
no_algorithm_line = codes "no algorithm"

-- but it may be in the other direction
unfoldable pub mistaken_line : Dir → Option (List ℕ) → List ℕ
mistaken_line dir (Some line) = codes "no algorithm but " ++ (direction_name dir ++ (codes " " ++ line))
mistaken_line dir None = no_algorithm_line

-- what opens in the direction given, else what opens in the other
abbrev pub tried : Dir → Option (List ℕ) → Option (List ℕ) → List ℕ
tried dir (Some line) mistaken = line
tried dir None mistaken = mistaken_line (other dir) mistaken

-- what is found under the first of 128-EIA1 to 128-EIA3 under which something is
abbrev pub first_eia : {A : Type 0} → (Integrity → Option A) → Option A
first_eia under = option_or (under Eia1) (option_or (under Eia2) (under Eia3))

-- an integrity algorithm, and the COUNT at which the MAC is right under it
abbrev pub fit_at : Integrity → Option ℕ → Option Fit
fit_at eia (Some count) = Some (record { eia = eia; count = count })
fit_at eia None = None

-- the COUNT at which the MAC of a NAS message is right: this one, or where none is given the least of all
abbrev pub nas_right_at : NasKeys → Option ℕ → Dir → List ℕ → Option ℕ
nas_right_at keys (Some count) dir pdu = if bytes_eq (nas_wanted keys count dir pdu) (mac_in pdu) then Some count else None
nas_right_at keys None dir pdu = nas_search keys dir pdu

abbrev pub nas_keys_by : List ℕ → Ciphering → Integrity → NasKeys
nas_keys_by kasme eea eia = nas_keys kasme (record { eea = eea; eia = eia })

-- the first integrity algorithm under which it is; which encryption algorithm there is does not matter, since the MAC covers the text as sent
-- (TS 24.301 4.4.3.3)
abbrev pub nas_fit_by : NasPdu → Option ℕ → Dir → Integrity → Option Fit
nas_fit_by n count dir eia = fit_at eia (nas_right_at (nas_keys_by n.kasme Eea0 eia) count dir n.pdu)

abbrev pub nas_fit : NasPdu → Option ℕ → Dir → Option Fit
nas_fit n count dir = first_eia (nas_fit_by n count dir)

-- an encryption algorithm and the text under it, where that is a NAS message
abbrev pub named_text : Ciphering → List ℕ → List ℕ
named_text eea text =
    if is_nas text then codes " eea" ++ (decimal (eea_identity eea) ++ (codes " " ++ encode_lower text)) else []

abbrev pub text_by : NasPdu → ℕ → Dir → Fit → Ciphering → List ℕ
text_by n header dir fit eea = named_text eea (nas_sent (nas_keys_by n.kasme eea fit.eia) header fit.count dir (sent_in n.pdu))

-- them all, or that there is none
abbrev pub texts_or_none : List ℕ → List ℕ
texts_or_none [] = codes " no NAS message"
texts_or_none (first ∷ texts) = first ∷ texts

unfoldable pub ciphered_texts : NasPdu → ℕ → Dir → Fit → List ℕ
ciphered_texts n header dir fit =
    texts_or_none (text_by n header dir fit Eea0 ++ (text_by n header dir fit Eea1 ++ (text_by n header dir fit Eea2 ++ text_by n header dir fit Eea3)))

-- a text that is not ciphered
unfoldable pub plain_text : List ℕ → List ℕ
plain_text text = codes " " ++ (written text ++ (if is_nas text then [] else codes " no NAS message"))

-- a NAS message under an integrity algorithm: its header type, COUNT, the algorithm, and its text by each encryption algorithm
unfoldable pub nas_fit_line : NasPdu → ℕ → Dir → Fit → List ℕ
nas_fit_line n header dir fit =
    codes "opens " ++ (decimal header ++ (codes " " ++ (decimal fit.count ++ (codes " eia" ++ (decimal (eia_identity fit.eia)
    ++ (if is_ciphered header then ciphered_texts n header dir fit else plain_text (sent_in n.pdu)))))))

abbrev pub nas_tried : NasPdu → ℕ → Option ℕ → Dir → Option (List ℕ)
nas_tried n header count dir = option_map (nas_fit_line n header dir) (nas_fit n count dir)

-- a COUNT where one was given
abbrev pub count_given : Option ℕ → ℕ → Option ℕ
count_given given count = option_map (λ _. count) given

abbrev pub nas_by_head : NasPdu → Result NasHead OpenFault → List ℕ
nas_by_head n (Ok head) =
    let count = count_given n.count head.count in
    tried n.dir (nas_tried n head.header count n.dir) (nas_tried n head.header count (other n.dir))
nas_by_head n (Err nas_fault.Short) = short_line
nas_by_head n (Err (nas_fault.BadHeader octet)) = bad_header_line octet
nas_by_head n (Err nas_fault.CountSpent) = spent_line
nas_by_head n (Err (nas_fault.MacFails count wanted got)) = no_algorithm_line  -- no head has this fault

-- a NAS message of which no algorithm is known
abbrev pub nas_trial_line : NasPdu → List ℕ
nas_trial_line n = nas_by_head n (nas_head_of (unwrap_or n.count 0) n.pdu)

-- a Service Request of which the algorithm is not known: each under which its short MAC is right, and the COUNT
abbrev pub count_found : Result ServiceFound ServiceFault → Option ℕ
count_found (Ok found) = Some found.count
count_found (Err fault) = None

abbrev pub service_right_at : Integrity → List ℕ → Option ℕ → List ℕ → Option ℕ
service_right_at eia int (Some next) pdu = count_found (service_checked eia int next pdu)
service_right_at eia int None pdu = service_search eia int pdu

abbrev pub named_count : Integrity → Option ℕ → List ℕ
named_count eia (Some count) = codes " " ++ (decimal count ++ (codes " eia" ++ decimal (eia_identity eia)))
named_count eia None = []

abbrev pub count_by : ServicePdu → Integrity → List ℕ
count_by s eia = named_count eia (service_right_at eia (nas_int s.kasme eia) s.count s.pdu)

abbrev pub counts_or_none : List ℕ → List ℕ
counts_or_none [] = no_algorithm_line
counts_or_none (first ∷ counts) = codes "opens" ++ (first ∷ counts)

unfoldable pub service_counts : ServicePdu → List ℕ
service_counts s = counts_or_none (count_by s Eia1 ++ (count_by s Eia2 ++ count_by s Eia3))

abbrev pub service_by : ServicePdu → Result ServiceFound ServiceFault → List ℕ
service_by s (Ok found) = service_counts s
service_by s (Err (service_fault.BadHeader octet)) = bad_header_line octet
service_by s (Err service_fault.CountSpent) = spent_line
service_by s (Err (service_fault.MacFails count wanted got)) = service_counts s

abbrev pub service_trial_line : ServicePdu → List ℕ
service_trial_line s = service_by s (service_checked Eia1 (nas_int s.kasme Eia1) (unwrap_or s.count 0) s.pdu)

-- a PDU of a signalling radio bearer: the first encryption algorithm, and under it the first integrity algorithm, under which its MAC-I is
-- right, which is ciphered with the text (TS 36.323 5.6 and 5.7)
unfoldable pub srb_fit_line : Ciphering → Integrity → ℕ → List ℕ → List ℕ
srb_fit_line eea eia count text =
    codes "opens " ++ (decimal count ++ (codes " eia" ++ (decimal (eia_identity eia)
    ++ (codes " eea" ++ (decimal (eea_identity eea) ++ (codes " " ++ written text))))))

abbrev pub srb_fit : Ciphering → Integrity → Result SrbOpening PdcpFault → Option (List ℕ)
srb_fit eea eia (Ok o) = Some (srb_fit_line eea eia o.count o.text)
srb_fit eea eia (Err fault) = None

abbrev pub srb_fit_by : SrbPdu → Dir → Ciphering → Integrity → Option (List ℕ)
srb_fit_by s dir eea eia = srb_fit eea eia (srb_pdu_opened (srb_keys s.kenb (record { eea = eea; eia = eia }) s.bearer) s.count dir s.pdu)

abbrev pub srb_under : SrbPdu → Dir → Ciphering → Option (List ℕ)
srb_under s dir eea = first_eia (srb_fit_by s dir eea)

abbrev pub srb_tried : SrbPdu → Dir → Option (List ℕ)
srb_tried s dir = option_or (srb_under s dir Eea0) (option_or (srb_under s dir Eea1) (option_or (srb_under s dir Eea2) (srb_under s dir Eea3)))

abbrev pub srb_by_head : SrbPdu → Result ℕ PdcpFault → List ℕ
srb_by_head s (Ok count) = tried s.dir (srb_tried s s.dir) (srb_tried s (other s.dir))
srb_by_head s (Err pdcp_fault.Short) = short_line
srb_by_head s (Err (pdcp_fault.BadHeader octet)) = bad_header_line octet
srb_by_head s (Err pdcp_fault.CountSpent) = spent_line
srb_by_head s (Err (pdcp_fault.MacFails count wanted got)) = no_algorithm_line  -- no head has this fault

abbrev pub srb_trial_line : SrbPdu → List ℕ
srb_trial_line s = srb_by_head s (srb_count s.count s.pdu)
