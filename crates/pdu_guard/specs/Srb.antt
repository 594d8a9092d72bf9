-- PDUs of signalling radio bearers over plain octets (TS 36.323 5.6, 5.7 and 6.2.2), under any algorithms.
use Rattle.std.specs.Prelude.{ℕ, ◌-◌, Bool, if◌then◌else◌, List, ◌∷◌, ◌++◌, drop, length, take, Result, Ok, Err}
use Rattle.alg_suite.specs.Suite.{ciphered_by, mac_by}
use Rattle.rec_base.specs.declared.uses.Dir.{Dir}
use Rattle.nas_guard.specs.Open.{first_in}
use Rattle.pdcp_guard.specs.{Srb.srb_count, Srb.srb_header, declared.pdus.PdcpFault.PdcpFault, declared.pdus.PdcpFault.TheVariants.MacFails}
use Rattle.pdu_guard.specs.{Checks.is_checked, Checks.is_taken, declared.srb.SrbKeys.SrbKeys}

-- the greatest number of octets of a PDCP SDU (4.3.1)
abbrev pub longest_sdu : ℕ
longest_sdu = 8188

-- data and MAC-I as sent, and of data and MAC-I as sent the plain ones (5.6)
abbrev pub srb_sent : SrbKeys → ℕ → Dir → List ℕ → List ℕ
srb_sent keys count dir octets = ciphered_by keys.eea keys.enc count keys.bearer dir octets

-- MAC-I over the header and the data before ciphering (5.7)
abbrev pub srb_mac_of : SrbKeys → ℕ → Dir → List ℕ → List ℕ
srb_mac_of keys count dir covered = mac_by keys.eia keys.int count keys.bearer dir covered

-- the PDU of a text: the header octet, and text and MAC-I as sent (6.2.2)
unfoldable pub srb_pdu : SrbKeys → ℕ → Dir → List ℕ → List ℕ
srb_pdu keys count dir text =
    srb_header count ∷ srb_sent keys count dir (text ++ srb_mac_of keys count dir (srb_header count ∷ text))

-- data and MAC-I of a PDU at a COUNT
abbrev pub srb_pdu_plain : SrbKeys → ℕ → Dir → List ℕ → List ℕ
srb_pdu_plain keys count dir pdu = srb_sent keys count dir (drop 1 pdu)

-- its data, and its MAC-I
unfoldable pub srb_pdu_text : SrbKeys → ℕ → Dir → List ℕ → List ℕ
srb_pdu_text keys count dir pdu = take (length pdu - 5) (srb_pdu_plain keys count dir pdu)

unfoldable pub srb_pdu_got : SrbKeys → ℕ → Dir → List ℕ → List ℕ
srb_pdu_got keys count dir pdu = drop (length pdu - 5) (srb_pdu_plain keys count dir pdu)

-- the MAC-I that a receiver computes
abbrev pub srb_pdu_wanted : SrbKeys → ℕ → Dir → List ℕ → List ℕ
srb_pdu_wanted keys count dir pdu = srb_mac_of keys count dir (first_in pdu ∷ srb_pdu_text keys count dir pdu)

-- what a PDU opens to: `checked` says whether its MAC-I was compared
pub record SrbOpening : Type 0 where
  pub count : ℕ
  pub checked : Bool
  pub text : List ℕ

-- what it opens to at a COUNT, where its MAC-I is right
unfoldable pub srb_pdu_at : SrbKeys → ℕ → Dir → List ℕ → Result SrbOpening PdcpFault
srb_pdu_at keys count dir pdu =
    if is_taken keys.eia (srb_pdu_wanted keys count dir pdu) (srb_pdu_got keys count dir pdu)
    then Ok (record { count = count; checked = is_checked keys.eia; text = srb_pdu_text keys count dir pdu })
    else Err (MacFails count (srb_pdu_wanted keys count dir pdu) (srb_pdu_got keys count dir pdu))

abbrev pub srb_pdu_by : SrbKeys → Dir → List ℕ → Result ℕ PdcpFault → Result SrbOpening PdcpFault
srb_pdu_by keys dir pdu (Ok count) = srb_pdu_at keys count dir pdu
srb_pdu_by keys dir pdu (Err fault) = Err fault

-- what a PDU opens to where this COUNT is expected next
abbrev pub srb_pdu_opened : SrbKeys → ℕ → Dir → List ℕ → Result SrbOpening PdcpFault
srb_pdu_opened keys next dir pdu = srb_pdu_by keys dir pdu (srb_count next pdu)
