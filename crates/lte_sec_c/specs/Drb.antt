-- PDUs of a data radio bearer that C holds (TS 36.323 5.6).
use Rattle.std.specs.Prelude.{ℕ, ◌+◌, ◌-◌, ◌==◌, ◌&&◌, ◌||◌, nat_le, nat_lt, Bool, if◌then◌else◌, List, length, Result, Ok, Err}
use Rattle.pdcp_guard.specs.Counts.{count_limit}
use Rattle.pdu_guard.specs.{Nas.NasOpening, declared.drb.DrbKeys.DrbKeys, declared.drb.Numbers.Numbers}
use Rattle.pdu_guard.specs.Drb.{drb_count_of, drb_pdu_opened, header_octets}
use Rattle.pdu_guard.specs.declared.drb.Numbers.TheVariants.{Seven, Twelve, Fifteen, Eighteen}
use Rattle.lte_sec_c.specs.{declared.fault.Fault.Fault, declared.drb.DrbContext.DrbContext, Found.drb_answer, Srb.is_other, Status.done, Status.status_of}
use Rattle.lte_sec_c.specs.declared.fault.Fault.TheVariants.{OutOfRange, CountSpent, NoRoom, OtherCount}
use Rattle.lte_sec_c.specs.Ranges.{dir_of, eea_of, is_direction, is_identity}

-- the bits of the sequence numbers (TS 36.323 6.3.2)
abbrev pub is_bits : ℕ → Bool
is_bits bits = (bits == 7) || ((bits == 12) || ((bits == 15) || (bits == 18)))

abbrev pub numbers_by : ℕ → Numbers
numbers_by bits =
    if bits == 7 then Seven else (if bits == 12 then Twelve else (if bits == 15 then Fifteen else Eighteen))

-- a bearer in range
abbrev pub is_drb : DrbContext → Bool
is_drb c =
    is_identity c.eea && (is_bits c.bits && (nat_lt c.bearer 32 && (nat_le c.send count_limit && nat_le c.receive count_limit)))

-- its keys
abbrev pub drb_keys_in : DrbContext → DrbKeys
drb_keys_in c = record { enc = c.enc_key; eea = eea_of c.eea; bearer = c.bearer; numbers = numbers_by c.bits }

-- how many octets its header has
abbrev pub drb_header : DrbContext → ℕ
drb_header c = header_octets (numbers_by c.bits)

-- the bearer with this next COUNT to send, or to receive
abbrev pub drb_sends : DrbContext → ℕ → DrbContext
drb_sends c count = record {
  enc_key = c.enc_key;
  send = count;
  receive = c.receive;
  bearer = c.bearer;
  eea = c.eea;
  bits = c.bits;
}

abbrev pub drb_expects : DrbContext → ℕ → DrbContext
drb_expects c count = record {
  enc_key = c.enc_key;
  send = c.send;
  receive = count;
  bearer = c.bearer;
  eea = c.eea;
  bits = c.bits;
}

-- the status of sending a text, with so many octets of room
abbrev pub drb_send_status : DrbContext → ℕ → List ℕ → ℕ → ℕ
drb_send_status c direction text room =
    if is_drb c && is_direction direction
    then (if c.send == count_limit then status_of CountSpent
    else (if nat_lt room (drb_header c + length text) then status_of NoRoom
    else done))
    else status_of OutOfRange

-- what an opening needs: a bearer, a next COUNT and a DIRECTION in range
abbrev pub is_drb_opening : DrbContext → ℕ → ℕ → Bool
is_drb_opening c next direction = is_drb c && (nat_le next count_limit && is_direction direction)

-- what a PDU opens to where this COUNT is expected next, with so many octets of room
abbrev pub drb_opens : DrbContext → ℕ → ℕ → List ℕ → ℕ → Result NasOpening Fault
drb_opens c next direction pdu room =
    if is_drb_opening c next direction
    then (if nat_lt room (length pdu - drb_header c) then Err NoRoom
    else drb_answer (drb_pdu_opened (drb_keys_in c) next (dir_of direction) pdu))
    else Err OutOfRange

-- what a PDU opens to at this COUNT
abbrev pub drb_opens_at : DrbContext → ℕ → ℕ → List ℕ → ℕ → Result NasOpening Fault
drb_opens_at c count direction pdu room =
    if is_drb_opening c count direction
    then (if is_other count (drb_count_of (numbers_by c.bits) count pdu) then Err OtherCount
    else drb_opens c count direction pdu room)
    else Err OutOfRange

-- the bearer after a PDU opened, or did not
abbrev pub drb_after : DrbContext → Result NasOpening Fault → DrbContext
drb_after c (Ok o) = drb_expects c (o.count + 1)
drb_after c (Err fault) = c
