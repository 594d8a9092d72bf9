-- PDUs of data radio bearers with a sequence number of 12 bits (TS 36.323 5.6 and 6.2.3).
use Rattle.std.specs.Prelude.{◌≡◌, ℕ, ◌+◌, ◌*◌, ◌/◌, ◌%◌, ◌<◌, ◌≤◌, ◌==◌, nat_lt, if◌then◌else◌, List, ◌∷◌, drop, length, slice_index, Result, Ok, Err}
use Rattle.rec_base.specs.{Bearer.bearer5_of, declared.bearers.Bearer.Bearer, declared.uses.Dir.Dir}
use Rattle.key_model.specs.Least.{least}
use Rattle.nas_guard.specs.{Open.first_in, Cipher.ciphered}
use Rattle.pdcp_guard.specs.{declared.pdus.PdcpSent.PdcpSent, declared.pdus.PdcpOpened.PdcpOpened, declared.pdus.PdcpFault.PdcpFault, AsKeys.AsKeys, Counts.count_limit, Counts.in_32_bits}
use Rattle.pdcp_guard.specs.declared.pdus.PdcpFault.TheVariants.{CountSpent, Short, BadHeader, MacFails}

-- the first header octet: the bit D/C, which is 1, three zero bits, and the upper 4 bits of the sequence
-- number (6.2.3, 6.3.7)
abbrev pub drb_first_octet : ℕ → ℕ
drb_first_octet count = 128 + count / 256 % 16

-- the second: the lower 8 bits of the sequence number
abbrev pub drb_second_octet : ℕ → ℕ
drb_second_octet count = count % 256

-- a text as sent, and of a text as sent the text (5.6)
unfoldable pub drb_ciphered : AsKeys (List ℕ) → Bearer → ℕ → Dir → List ℕ → List ℕ
drb_ciphered keys bearer count dir text = ciphered keys.algs.eea keys.up_enc count (bearer5_of bearer) dir text

-- the PDU of a text: the two header octets and the ciphered text
unfoldable pub drb_sealed : AsKeys (List ℕ) → Bearer → ℕ → Dir → List ℕ → List ℕ
drb_sealed keys bearer count dir text =
    drb_first_octet count ∷ drb_second_octet count ∷ drb_ciphered keys bearer count dir text

-- the sending of a text under this COUNT, or its refusal
abbrev pub drb_sent_by : AsKeys (List ℕ) → Bearer → Dir → List ℕ → Result ℕ PdcpFault → Result PdcpSent PdcpFault
drb_sent_by keys bearer dir text (Ok count) = Ok (record { pdu = drb_sealed keys bearer count dir text; count = count })
drb_sent_by keys bearer dir text (Err fault) = Err fault

-- the sequence number of a PDU
abbrev pub drb_sn : List ℕ → ℕ
drb_sn pdu = 256 * (first_in pdu % 16) + slice_index pdu 1

-- the COUNT of a PDU where this one is expected next: the least with its sequence number (5.1.2.1.3)
unfoldable pub drb_count : ℕ → List ℕ → Result ℕ PdcpFault
drb_count next pdu =
    if nat_lt (length pdu) 2 then Err Short
    else (if first_in pdu / 16 == 8 then in_32_bits (least next (drb_sn pdu) 4096)
    else Err (BadHeader (first_in pdu)))

-- the text of a PDU at a COUNT
unfoldable pub drb_opened_at : AsKeys (List ℕ) → Bearer → ℕ → Dir → List ℕ → PdcpOpened
drb_opened_at keys bearer count dir pdu = record { count = count; text = drb_ciphered keys bearer count dir (drop 2 pdu) }

abbrev pub drb_opened_by : AsKeys (List ℕ) → Bearer → Dir → List ℕ → Result ℕ PdcpFault → Result PdcpOpened PdcpFault
drb_opened_by keys bearer dir pdu (Ok count) = Ok (drb_opened_at keys bearer count dir pdu)
drb_opened_by keys bearer dir pdu (Err fault) = Err fault

-- what a PDU opens to under these keys, where this COUNT is expected next
abbrev pub drb_opened : AsKeys (List ℕ) → Bearer → ℕ → Dir → List ℕ → Result PdcpOpened PdcpFault
drb_opened keys bearer next dir pdu = drb_opened_by keys bearer dir pdu (drb_count next pdu)

-- a PDU opens to this
pub record DrbOpens (keys : AsKeys (List ℕ)) (bearer : Bearer) (next : ℕ) (dir : Dir) (pdu : List ℕ) (o : PdcpOpened) : Type 0 where
  pub long : 2 ≤ length pdu
  pub first : first_in pdu / 16 ≡ 8
  pub count : o.count ≡ least next (drb_sn pdu) 4096
  pub below : o.count < count_limit
  pub text : o.text ≡ drb_ciphered keys bearer o.count dir (drop 2 pdu)

-- a PDU is refused for this, at most one of the three
abbrev pub DrbRefuses : ℕ → List ℕ → PdcpFault → Type 0
DrbRefuses next pdu Short = length pdu < 2
DrbRefuses next pdu (BadHeader octet) = (2 ≤ length pdu) × (octet ≡ first_in pdu) × (¬ (octet / 16 ≡ 8))
DrbRefuses next pdu CountSpent =
    (2 ≤ length pdu) × (first_in pdu / 16 ≡ 8) × (count_limit ≤ least next (drb_sn pdu) 4096)
DrbRefuses next pdu (MacFails count wanted got) = ⊥
