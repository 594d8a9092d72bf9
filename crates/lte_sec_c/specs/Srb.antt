-- PDUs of a signalling radio bearer that C holds (TS 36.323 5.6 and 5.7).
use Rattle.std.specs.Prelude.{ℕ, ◌+◌, ◌-◌, ◌==◌, ◌&&◌, nat_le, nat_lt, Bool, false, not, if◌then◌else◌, List, length, Result, Ok, Err}
use Rattle.pdcp_guard.specs.{Counts.count_limit, Srb.srb_count, declared.pdus.PdcpFault.PdcpFault}
use Rattle.pdu_guard.specs.{Nas.NasOpening, Srb.longest_sdu, Srb.srb_pdu_opened, declared.srb.SrbKeys.SrbKeys}
use Rattle.lte_sec_c.specs.{declared.fault.Fault.Fault, declared.srb.SrbContext.SrbContext, Found.srb_answer, Status.done, Status.status_of}
use Rattle.lte_sec_c.specs.declared.fault.Fault.TheVariants.{OutOfRange, CountSpent, NoRoom, OtherCount}
use Rattle.lte_sec_c.specs.Ranges.{dir_of, eea_of, eia_of, is_direction, is_identity}

-- a bearer in range
abbrev pub is_srb : SrbContext → Bool
is_srb c =
    is_identity c.eea
    && (is_identity c.eia && (nat_lt c.bearer 32 && (nat_le c.send count_limit && nat_le c.receive count_limit)))

-- its keys
abbrev pub srb_keys_in : SrbContext → SrbKeys
srb_keys_in c = record { enc = c.enc_key; int = c.int_key; eea = eea_of c.eea; eia = eia_of c.eia; bearer = c.bearer }

-- the bearer with this next COUNT to send, or to receive
abbrev pub srb_sends : SrbContext → ℕ → SrbContext
srb_sends c count = record {
  enc_key = c.enc_key;
  int_key = c.int_key;
  send = count;
  receive = c.receive;
  bearer = c.bearer;
  eea = c.eea;
  eia = c.eia;
}

abbrev pub srb_expects : SrbContext → ℕ → SrbContext
srb_expects c count = record {
  enc_key = c.enc_key;
  int_key = c.int_key;
  send = c.send;
  receive = count;
  bearer = c.bearer;
  eea = c.eea;
  eia = c.eia;
}

-- the status of sending a text, with so many octets of room
abbrev pub srb_send_status : SrbContext → ℕ → List ℕ → ℕ → ℕ
srb_send_status c direction text room =
    if is_srb c && (is_direction direction && nat_le (length text) longest_sdu)
    then (if c.send == count_limit then status_of CountSpent
    else (if nat_lt room (length text + 5) then status_of NoRoom
    else done))
    else status_of OutOfRange

-- what an opening needs: a bearer, a next COUNT, a DIRECTION and a PDU in range
abbrev pub is_srb_opening : SrbContext → ℕ → ℕ → List ℕ → Bool
is_srb_opening c next direction pdu =
    is_srb c && (nat_le next count_limit && (is_direction direction && nat_le (length pdu) (longest_sdu + 5)))

-- what a PDU opens to where this COUNT is expected next, with so many octets of room
abbrev pub srb_opens : SrbContext → ℕ → ℕ → List ℕ → ℕ → Result NasOpening Fault
srb_opens c next direction pdu room =
    if is_srb_opening c next direction pdu
    then (if nat_lt room (length pdu - 5) then Err NoRoom
    else srb_answer (srb_pdu_opened (srb_keys_in c) next (dir_of direction) pdu))
    else Err OutOfRange

-- whether a PDU has another COUNT than this one
abbrev pub is_other : ℕ → Result ℕ PdcpFault → Bool
is_other count (Ok found) = not (found == count)
is_other count (Err fault) = false

-- what a PDU opens to at this COUNT
abbrev pub srb_opens_at : SrbContext → ℕ → ℕ → List ℕ → ℕ → Result NasOpening Fault
srb_opens_at c count direction pdu room =
    if is_srb_opening c count direction pdu
    then (if is_other count (srb_count count pdu) then Err OtherCount else srb_opens c count direction pdu room)
    else Err OutOfRange
