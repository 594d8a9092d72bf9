-- Security protected NAS messages over plain octets (TS 24.301 4.4 and 9.1), under any algorithms.
use Rattle.std.specs.Prelude.{ℕ, ◌%◌, nat_lt, Bool, if◌then◌else◌, List, ◌∷◌, ◌++◌, length, Result, Ok, Err}
use Rattle.alg_suite.specs.Suite.{ciphered_by, mac_by}
use Rattle.nas_count.specs.{declared.sending.CountSpent.CountSpent, Estimate.estimate_of}
use Rattle.rec_base.specs.declared.uses.Dir.{Dir}
use Rattle.nas_guard.specs.Open.{covered_in, first_in, header_in, is_protected, mac_in, sent_in, sn_in}
use Rattle.nas_guard.specs.Seal.{first_octet, is_ciphered, nas_bearer}
use Rattle.nas_guard.specs.declared.opening.OpenFault as faults
use Rattle.nas_guard.specs.declared.opening.OpenFault.{OpenFault}
use Rattle.nas_guard.specs.declared.opening.OpenFault.TheVariants.{Short, BadHeader, MacFails}
use Rattle.pdu_guard.specs.{Checks.is_checked, Checks.is_taken, declared.nas.NasHead.NasHead, declared.nas.NasKeys.NasKeys}

-- the text as sent of a text, and the text of a text as sent: ciphered at the header types 2 and 4 (4.4.5)
unfoldable pub nas_sent : NasKeys → ℕ → ℕ → Dir → List ℕ → List ℕ
nas_sent keys header count dir text =
    if is_ciphered header then ciphered_by keys.eea keys.enc count nas_bearer dir text else text

-- the MAC over the sequence number and the text as sent (4.4.3.3)
abbrev pub nas_mac_of : NasKeys → ℕ → Dir → List ℕ → List ℕ
nas_mac_of keys count dir covered = mac_by keys.eia keys.int count nas_bearer dir covered

-- what the MAC covers
abbrev pub nas_covered : NasKeys → ℕ → ℕ → Dir → List ℕ → List ℕ
nas_covered keys header count dir text = count % 256 ∷ nas_sent keys header count dir text

-- the message of a text: the first octet, the MAC, and what the MAC covers (9.1)
unfoldable pub nas_pdu : NasKeys → ℕ → ℕ → Dir → List ℕ → List ℕ
nas_pdu keys header count dir text =
    let message = nas_covered keys header count dir text in
    first_octet header ∷ nas_mac_of keys count dir message ++ message

abbrev pub nas_head_by : List ℕ → Result ℕ CountSpent → Result NasHead OpenFault
nas_head_by pdu (Ok count) = Ok (record { header = header_in pdu; count = count })
nas_head_by pdu (Err spent) = Err faults.TheVariants.CountSpent

-- the header type and the COUNT of a message where this COUNT comes next (4.4.3.1, 9.1, 9.3.1)
unfoldable pub nas_head_of : ℕ → List ℕ → Result NasHead OpenFault
nas_head_of next pdu =
    if nat_lt (length pdu) 6 then Err Short
    else (if is_protected (first_in pdu) then nas_head_by pdu (estimate_of next (sn_in pdu))
    else Err (BadHeader (first_in pdu)))

-- the MAC that a receiver computes at a COUNT
abbrev pub nas_wanted : NasKeys → ℕ → Dir → List ℕ → List ℕ
nas_wanted keys count dir pdu = nas_mac_of keys count dir (covered_in pdu)

-- whether the MAC of a message is right at a COUNT (4.4.3.3)
unfoldable pub mac_checked : NasKeys → ℕ → Dir → List ℕ → Result (Unit {0}) OpenFault
mac_checked keys count dir pdu =
    if is_taken keys.eia (nas_wanted keys count dir pdu) (mac_in pdu) then Ok tt
    else Err (MacFails count (nas_wanted keys count dir pdu) (mac_in pdu))

-- what a message opens to: `checked` says whether its MAC was compared
pub record NasOpening : Type 0 where
  pub header : ℕ
  pub count : ℕ
  pub checked : Bool
  pub text : List ℕ

abbrev pub opening_at : NasKeys → Dir → List ℕ → NasHead → NasOpening
opening_at keys dir pdu head = record {
  header = head.header;
  count = head.count;
  checked = is_checked keys.eia;
  text = nas_sent keys head.header head.count dir (sent_in pdu);
}

abbrev pub by_mac : NasOpening → Result (Unit {0}) OpenFault → Result NasOpening OpenFault
by_mac o (Ok right) = Ok o
by_mac o (Err fault) = Err fault

abbrev pub by_head : NasKeys → Dir → List ℕ → Result NasHead OpenFault → Result NasOpening OpenFault
by_head keys dir pdu (Ok head) = by_mac (opening_at keys dir pdu head) (mac_checked keys head.count dir pdu)
by_head keys dir pdu (Err fault) = Err fault

-- what a message opens to where this COUNT comes next: by its head, and then by its MAC
abbrev pub nas_opened : NasKeys → ℕ → Dir → List ℕ → Result NasOpening OpenFault
nas_opened keys next dir pdu = by_head keys dir pdu (nas_head_of next pdu)
