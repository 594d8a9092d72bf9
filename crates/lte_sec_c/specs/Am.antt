-- PDUs of a data radio bearer on RLC AM (TS 36.323 5.1.2.1.2).
use Rattle.std.specs.Prelude.{ℕ, ◌+◌, ◌-◌, ◌==◌, ◌&&◌, nat_lt, Bool, not, false, if◌then◌else◌, List, length, Result, Ok, Err}
use Rattle.pdu_guard.specs.{Am.am_count_of, Drb.drb_pdu_text, Drb.values_of, Nas.NasOpening, declared.am.AmFate.AmFate, declared.am.AmFault.AmFault, declared.am.AmFound.AmFound}
use Rattle.pdu_guard.specs.declared.am.AmFate.TheVariants.{New, Late, Discarded}
use Rattle.lte_sec_c.specs.{declared.drb.DrbContext.DrbContext, declared.fault.Fault.Fault, Ranges.dir_of, Ranges.is_direction, Status.of_am}
use Rattle.lte_sec_c.specs.declared.fault.Fault.TheVariants.{OutOfRange, NoRoom}
use Rattle.lte_sec_c.specs.Drb.{drb_expects, drb_header, drb_keys_in, is_drb, numbers_by}

-- what a receiver needs: a bearer whose sequence numbers are of RLC AM, of more than 7 bits, and a Last_Submitted_PDCP_RX_SN
-- and a DIRECTION in range
abbrev pub is_am : DrbContext → ℕ → ℕ → Bool
is_am c last direction =
    is_drb c && (not (c.bits == 7) && (nat_lt last (values_of (numbers_by c.bits)) && is_direction direction))

abbrev pub am_answer : Result AmFound AmFault → Result AmFound Fault
am_answer (Ok found) = Ok found
am_answer (Err fault) = Err (of_am fault)

-- the COUNT and the fate of a PDU, with so many octets of room
abbrev pub am_found : DrbContext → ℕ → ℕ → List ℕ → ℕ → Result AmFound Fault
am_found c last direction pdu room =
    if is_am c last direction
    then (if nat_lt room (length pdu - drb_header c) then Err NoRoom
    else am_answer (am_count_of (numbers_by c.bits) last c.receive pdu))
    else Err OutOfRange

-- what it opens to
abbrev pub am_opens : DrbContext → ℕ → List ℕ → Result AmFound Fault → Result NasOpening Fault
am_opens c direction pdu (Ok found) = Ok (record {
  header = 0;
  count = found.count;
  checked = false;
  text = drb_pdu_text (drb_keys_in c) found.count (dir_of direction) pdu;
})
am_opens c direction pdu (Err fault) = Err fault

-- a fate as C has it
abbrev pub number_of : AmFate → ℕ
number_of New = 0
number_of Late = 1
number_of Discarded = 2

abbrev pub fate_after : ℕ → Result AmFound Fault → ℕ
fate_after old (Ok found) = number_of found.fate
fate_after old (Err fault) = old

-- the next COUNT after a PDU: only a new one moves it
abbrev pub next_after : ℕ → AmFound → ℕ
next_after next found = by_fate found.fate
  where
    by_fate : AmFate → ℕ
    by_fate New = found.count + 1
    by_fate Late = next
    by_fate Discarded = next

abbrev pub am_after : DrbContext → Result AmFound Fault → DrbContext
am_after c (Ok found) = drb_expects c (next_after c.receive found)
am_after c (Err fault) = c
