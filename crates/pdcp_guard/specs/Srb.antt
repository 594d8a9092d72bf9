-- PDUs of signalling radio bearers (TS 36.323 5.6, 5.7 and 6.2.2).
use Rattle.std.specs.Prelude.{◌≡◌, ◌≢◌, ℕ, ◌-◌, ◌%◌, ◌<◌, ◌≤◌, nat_lt, Bool, if◌then◌else◌, List, ◌∷◌, ◌++◌, drop, length, take, Result, Ok, Err}
use Rattle.std.specs.Str.{bytes_eq}
use Rattle.rec_base.specs.{Bearer.bearer5_of, declared.bearers.Bearer.Bearer, declared.uses.Dir.Dir}
use Rattle.key_model.specs.Least.{least}
use Rattle.nas_guard.specs.{Open.first_in, Cipher.ciphered, Cipher.mac_of}
use Rattle.pdcp_guard.specs.{declared.pdus.PdcpSent.PdcpSent, declared.pdus.PdcpOpened.PdcpOpened, declared.pdus.PdcpFault.PdcpFault, AsKeys.AsKeys, Counts.count_limit, Counts.in_32_bits}
use Rattle.pdcp_guard.specs.declared.pdus.PdcpFault.TheVariants.{CountSpent, Short, BadHeader, MacFails}

-- the header octet: three zero bits and the sequence number, the lowest 5 bits of COUNT (6.2.2, 6.3.5)
abbrev pub srb_header : ℕ → ℕ
srb_header count = count % 32

-- data and MAC-I as sent where the bearer is ciphered, and of data and MAC-I as sent the plain ones (5.6)
unfoldable pub srb_ciphered : AsKeys (List ℕ) → Bool → Bearer → ℕ → Dir → List ℕ → List ℕ
srb_ciphered keys cipher bearer count dir octets =
    if cipher then ciphered keys.algs.eea keys.rrc_enc count (bearer5_of bearer) dir octets else octets

-- MAC-I over the header and the data before ciphering (5.7)
abbrev pub srb_mac : AsKeys (List ℕ) → Bearer → ℕ → Dir → List ℕ → List ℕ
srb_mac keys bearer count dir covered = mac_of keys.rrc_int count (bearer5_of bearer) dir covered

-- the PDU of a text: the header octet, the text, and MAC-I, of four octets; text and MAC-I are then
-- ciphered where the bearer is (6.2.2, 5.7, 5.6)
unfoldable pub srb_sealed : AsKeys (List ℕ) → Bool → Bearer → ℕ → Dir → List ℕ → List ℕ
srb_sealed keys cipher bearer count dir text =
    srb_header count ∷ srb_ciphered keys cipher bearer count dir (text ++ srb_mac keys bearer count dir (srb_header count ∷ text))

-- the sending of a text under this COUNT, or its refusal
abbrev pub srb_sent_by : AsKeys (List ℕ) → Bool → Bearer → Dir → List ℕ → Result ℕ PdcpFault → Result PdcpSent PdcpFault
srb_sent_by keys cipher bearer dir text (Ok count) = Ok (record { pdu = srb_sealed keys cipher bearer count dir text; count = count })
srb_sent_by keys cipher bearer dir text (Err fault) = Err fault

-- the sequence number of a PDU
abbrev pub srb_sn : List ℕ → ℕ
srb_sn pdu = first_in pdu % 32

-- the COUNT of a PDU where this one is expected next: the least with its sequence number (5.1.2.2)
unfoldable pub srb_count : ℕ → List ℕ → Result ℕ PdcpFault
srb_count next pdu =
    if nat_lt (length pdu) 5 then Err Short
    else (if nat_lt (first_in pdu) 32 then in_32_bits (least next (srb_sn pdu) 32)
    else Err (BadHeader (first_in pdu)))

-- data and MAC-I of a PDU at a COUNT, deciphered where the bearer is ciphered
abbrev pub srb_plain : AsKeys (List ℕ) → Bool → Bearer → ℕ → Dir → List ℕ → List ℕ
srb_plain keys cipher bearer count dir pdu = srb_ciphered keys cipher bearer count dir (drop 1 pdu)

-- the data of a PDU, and its MAC-I
abbrev pub srb_text : AsKeys (List ℕ) → Bool → Bearer → ℕ → Dir → List ℕ → List ℕ
srb_text keys cipher bearer count dir pdu = take (length pdu - 5) (srb_plain keys cipher bearer count dir pdu)

abbrev pub srb_got : AsKeys (List ℕ) → Bool → Bearer → ℕ → Dir → List ℕ → List ℕ
srb_got keys cipher bearer count dir pdu = drop (length pdu - 5) (srb_plain keys cipher bearer count dir pdu)

-- the MAC-I that a receiver computes
abbrev pub srb_wanted : AsKeys (List ℕ) → Bool → Bearer → ℕ → Dir → List ℕ → List ℕ
srb_wanted keys cipher bearer count dir pdu =
    srb_mac keys bearer count dir (first_in pdu ∷ srb_text keys cipher bearer count dir pdu)

-- the text of a PDU at a COUNT, where its MAC-I is right
unfoldable pub srb_opened_at : AsKeys (List ℕ) → Bool → Bearer → ℕ → Dir → List ℕ → Result PdcpOpened PdcpFault
srb_opened_at keys cipher bearer count dir pdu =
    if bytes_eq (srb_wanted keys cipher bearer count dir pdu) (srb_got keys cipher bearer count dir pdu)
    then Ok (record { count = count; text = srb_text keys cipher bearer count dir pdu })
    else Err (MacFails count (srb_wanted keys cipher bearer count dir pdu) (srb_got keys cipher bearer count dir pdu))

abbrev pub srb_opened_by : AsKeys (List ℕ) → Bool → Bearer → Dir → List ℕ → Result ℕ PdcpFault → Result PdcpOpened PdcpFault
srb_opened_by keys cipher bearer dir pdu (Ok count) = srb_opened_at keys cipher bearer count dir pdu
srb_opened_by keys cipher bearer dir pdu (Err fault) = Err fault

-- what a PDU opens to under these keys, where this COUNT is expected next
abbrev pub srb_opened : AsKeys (List ℕ) → Bool → Bearer → ℕ → Dir → List ℕ → Result PdcpOpened PdcpFault
srb_opened keys cipher bearer next dir pdu = srb_opened_by keys cipher bearer dir pdu (srb_count next pdu)

-- a PDU opens to this
pub record SrbOpens (keys : AsKeys (List ℕ)) (cipher : Bool) (bearer : Bearer) (next : ℕ) (dir : Dir) (pdu : List ℕ) (o : PdcpOpened) : Type 0 where
  pub long : 5 ≤ length pdu
  pub reserved : first_in pdu < 32
  pub count : o.count ≡ least next (srb_sn pdu) 32
  pub below : o.count < count_limit
  pub mac : srb_wanted keys cipher bearer o.count dir pdu ≡ srb_got keys cipher bearer o.count dir pdu
  pub text : o.text ≡ srb_text keys cipher bearer o.count dir pdu

-- a PDU has no COUNT for this reason, at most one of the three
abbrev pub SrbHasNoCount : ℕ → List ℕ → PdcpFault → Type 0
SrbHasNoCount next pdu Short = length pdu < 5
SrbHasNoCount next pdu (BadHeader octet) = (5 ≤ length pdu) × (octet ≡ first_in pdu) × (32 ≤ octet)
SrbHasNoCount next pdu CountSpent =
    (5 ≤ length pdu) × (first_in pdu < 32) × (count_limit ≤ least next (srb_sn pdu) 32)
SrbHasNoCount next pdu (MacFails count wanted got) = ⊥

-- a PDU is refused for this, at most one of the four
abbrev pub SrbRefuses : AsKeys (List ℕ) → Bool → Bearer → ℕ → Dir → List ℕ → PdcpFault → Type 0
SrbRefuses keys cipher bearer next dir pdu Short = SrbHasNoCount next pdu Short
SrbRefuses keys cipher bearer next dir pdu (BadHeader octet) = SrbHasNoCount next pdu (BadHeader octet)
SrbRefuses keys cipher bearer next dir pdu CountSpent = SrbHasNoCount next pdu CountSpent
SrbRefuses keys cipher bearer next dir pdu (MacFails count wanted got) =
    (5 ≤ length pdu) × (first_in pdu < 32) × (count ≡ least next (srb_sn pdu) 32) × (count < count_limit)
    × (wanted ≡ srb_wanted keys cipher bearer count dir pdu) × (got ≡ srb_got keys cipher bearer count dir pdu) × (wanted ≢ got)
