-- The opening of a security protected NAS message (TS 24.301 4.4).
use Rattle.std.specs.Prelude.{◌≡◌, ◌≢◌, ℕ, ◌/◌, ◌%◌, ◌<◌, ◌≤◌, ◌==◌, ◌&&◌, nat_le, nat_lt, Bool, if◌then◌else◌, List, drop, length, slice_index, take, Result, Ok, Err}
use Rattle.std.specs.Str.{bytes_eq}
use Rattle.key_model.specs.Least.{least}
use Rattle.nas_count.specs.{declared.sending.CountSpent.CountSpent, Estimate.nas_count_limit, Estimate.estimate_of}
use Rattle.rec_base.specs.declared.uses.Dir.{Dir}
use Rattle.nas_guard.specs.{declared.opening.Opened.Opened, declared.opening.OpenFault.OpenFault, Cipher.mac_of, Keys.Keys, Seal.nas_bearer, Seal.sent_text}
use Rattle.nas_guard.specs.declared.opening.OpenFault as faults
use Rattle.nas_guard.specs.declared.opening.OpenFault.TheVariants.{Short, BadHeader, MacFails}

-- the parts of the octets (9.1): the first octet with the header type in its high half, the MAC, the
-- sequence number, what the MAC covers, and the text as sent
abbrev pub first_in : List ℕ → ℕ
first_in pdu = slice_index pdu 0

abbrev pub header_in : List ℕ → ℕ
header_in pdu = first_in pdu / 16

abbrev pub mac_in : List ℕ → List ℕ
mac_in pdu = take 4 (drop 1 pdu)

abbrev pub sn_in : List ℕ → ℕ
sn_in pdu = slice_index pdu 5

abbrev pub covered_in : List ℕ → List ℕ
covered_in pdu = drop 5 pdu

abbrev pub sent_in : List ℕ → List ℕ
sent_in pdu = drop 6 pdu

-- whether a first octet is that of a protected message: protocol discriminator 7 and header type 1 to
-- 4 (9.2 and 9.3.1)
abbrev pub is_protected : ℕ → Bool
is_protected octet = (octet % 16 == 7) && (nat_le 1 (octet / 16) && nat_le (octet / 16) 4)

-- the MAC that a receiver computes at a COUNT (4.4.3.3)
abbrev pub mac_at : Keys (List ℕ) → Dir → List ℕ → ℕ → List ℕ
mac_at keys dir pdu count = mac_of keys.int count nas_bearer dir (covered_in pdu)

-- the text at a COUNT, where the MAC is right
abbrev pub opened_at : Keys (List ℕ) → Dir → List ℕ → ℕ → Result Opened OpenFault
opened_at keys dir pdu count =
    if bytes_eq (mac_at keys dir pdu count) (mac_in pdu)
    then Ok (record {
      header = header_in pdu;
      count = count;
      text = sent_text keys (header_in pdu) count dir (sent_in pdu);
    })
    else Err (MacFails count (mac_at keys dir pdu count) (mac_in pdu))

abbrev pub opened_by : Keys (List ℕ) → Dir → List ℕ → Result ℕ CountSpent → Result Opened OpenFault
opened_by keys dir pdu (Ok count) = opened_at keys dir pdu count
opened_by keys dir pdu (Err spent) = Err faults.TheVariants.CountSpent

-- what octets open to under these keys, where this COUNT comes next
unfoldable pub opened : Keys (List ℕ) → ℕ → Dir → List ℕ → Result Opened OpenFault
opened keys next dir pdu =
    if nat_lt (length pdu) 6 then Err Short
    else (if is_protected (first_in pdu) then opened_by keys dir pdu (estimate_of next (sn_in pdu))
    else Err (BadHeader (first_in pdu)))

-- a first octet of a protected message
abbrev pub IsProtected : ℕ → Type 0
IsProtected octet = (octet % 16 ≡ 7) × (1 ≤ octet / 16) × (octet / 16 ≤ 4)

-- octets open to this
pub record Opens (keys : Keys (List ℕ)) (next : ℕ) (dir : Dir) (pdu : List ℕ) (o : Opened) : Type 0 where
  pub long : 6 ≤ length pdu
  pub protected : IsProtected (first_in pdu)
  pub header : o.header ≡ header_in pdu
  pub count : o.count ≡ least next (sn_in pdu) 256
  pub below : o.count < nas_count_limit
  pub mac : mac_at keys dir pdu o.count ≡ mac_in pdu
  pub text : o.text ≡ sent_text keys o.header o.count dir (sent_in pdu)

-- octets are refused for this, at most one of the four
abbrev pub Refuses : Keys (List ℕ) → ℕ → Dir → List ℕ → OpenFault → Type 0
Refuses keys next dir pdu Short = length pdu < 6
Refuses keys next dir pdu (BadHeader octet) =
    (6 ≤ length pdu) × (octet ≡ first_in pdu) × (¬ IsProtected octet)
Refuses keys next dir pdu faults.TheVariants.CountSpent =
    (6 ≤ length pdu) × IsProtected (first_in pdu) × (nas_count_limit ≤ least next (sn_in pdu) 256)
Refuses keys next dir pdu (MacFails count wanted got) =
    (6 ≤ length pdu) × IsProtected (first_in pdu) × (count ≡ least next (sn_in pdu) 256) × (count < nas_count_limit)
    × (wanted ≡ mac_at keys dir pdu count) × (got ≡ mac_in pdu) × (wanted ≢ got)
