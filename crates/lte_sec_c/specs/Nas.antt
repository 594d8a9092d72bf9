-- NAS messages under a context that C holds (TS 24.301 4.4).
use Rattle.std.specs.Prelude.{ℕ, ◌+◌, ◌-◌, ◌==◌, ◌&&◌, nat_le, nat_lt, Bool, false, not, if◌then◌else◌, List, length, Result, Ok, Err}
use Rattle.nas_count.specs.Estimate.{nas_count_limit}
use Rattle.nas_guard.specs.declared.opening.OpenFault.{OpenFault}
use Rattle.pdu_guard.specs.Nas.{NasOpening, nas_head_of, nas_opened}
use Rattle.pdu_guard.specs.{declared.nas.NasHead.NasHead, declared.nas.NasKeys.NasKeys}
use Rattle.lte_sec_c.specs.{declared.fault.Fault.Fault, declared.nas.NasContext.NasContext, Found.nas_answer, Status.done, Status.status_of}
use Rattle.lte_sec_c.specs.declared.fault.Fault.TheVariants.{OutOfRange, CountSpent, NoRoom, OtherCount}
use Rattle.lte_sec_c.specs.Ranges.{dir_of, eea_of, eia_of, is_direction, is_identity}

-- a context in range
abbrev pub is_nas : NasContext → Bool
is_nas c =
    is_identity c.eea && (is_identity c.eia && (nat_le c.send nas_count_limit && nat_le c.receive nas_count_limit))

-- its keys
abbrev pub nas_keys_in : NasContext → NasKeys
nas_keys_in c = record { enc = c.enc_key; int = c.int_key; eea = eea_of c.eea; eia = eia_of c.eia }

-- the context with this next COUNT to send, or to receive
abbrev pub nas_sends : NasContext → ℕ → NasContext
nas_sends c count = record { enc_key = c.enc_key; int_key = c.int_key; send = count; receive = c.receive; eea = c.eea; eia = c.eia }

abbrev pub nas_expects : NasContext → ℕ → NasContext
nas_expects c count = record { enc_key = c.enc_key; int_key = c.int_key; send = c.send; receive = count; eea = c.eea; eia = c.eia }

-- a security header type of a protected message (9.3.1)
abbrev pub is_header : ℕ → Bool
is_header header = nat_le 1 header && nat_le header 4

-- the status of sealing a text, with so many octets of room
abbrev pub nas_seal_status : NasContext → ℕ → ℕ → List ℕ → ℕ → ℕ
nas_seal_status c header direction text room =
    if is_nas c && (is_header header && is_direction direction)
    then (if c.send == nas_count_limit then status_of CountSpent
    else (if nat_lt room (length text + 6) then status_of NoRoom
    else done))
    else status_of OutOfRange

-- what an opening needs: a context, a next COUNT and a DIRECTION in range
abbrev pub is_nas_opening : NasContext → ℕ → ℕ → Bool
is_nas_opening c next direction = is_nas c && (nat_le next nas_count_limit && is_direction direction)

-- what a message opens to where this COUNT comes next, with so many octets of room
abbrev pub nas_opens : NasContext → ℕ → ℕ → List ℕ → ℕ → Result NasOpening Fault
nas_opens c next direction pdu room =
    if is_nas_opening c next direction
    then (if nat_lt room (length pdu - 6) then Err NoRoom
    else nas_answer (nas_opened (nas_keys_in c) next (dir_of direction) pdu))
    else Err OutOfRange

-- whether a message has another COUNT than this one
abbrev pub has_other : ℕ → Result NasHead OpenFault → Bool
has_other count (Ok head) = not (head.count == count)
has_other count (Err fault) = false

-- what a message opens to at this COUNT
abbrev pub nas_opens_at : NasContext → ℕ → ℕ → List ℕ → ℕ → Result NasOpening Fault
nas_opens_at c count direction pdu room =
    if nat_lt count nas_count_limit && is_nas_opening c count direction
    then (if has_other count (nas_head_of count pdu) then Err OtherCount else nas_opens c count direction pdu room)
    else Err OutOfRange
