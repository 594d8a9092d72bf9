-- The COUNT of a PDU of a data radio bearer on RLC AM (TS 36.323 5.1.2.1.2), by the receiver's three variables (7.1): Next_PDCP_RX_SN and
-- RX_HFN, which are one COUNT here, the next one, and Last_Submitted_PDCP_RX_SN.
use Rattle.std.specs.Prelude.{ℕ, ◌+◌, ◌-◌, ◌*◌, ◌/◌, ◌%◌, ◌==◌, ◌&&◌, ◌||◌, nat_le, nat_lt, Bool, if◌then◌else◌, List, length, slice_index, Result, Ok, Err}
use Rattle.pdcp_guard.specs.Counts.{count_limit}
use Rattle.pdu_guard.specs.{declared.am.AmFate.AmFate, declared.am.AmFault.AmFault, declared.am.AmFound.AmFound, declared.am.Hfn.Hfn, declared.am.Place.Place, declared.drb.Numbers.Numbers}
use Rattle.pdu_guard.specs.declared.am.AmFate.TheVariants.{New, Late, Discarded}
use Rattle.pdu_guard.specs.declared.am.AmFault.TheVariants.{Short, BadHeader, CountSpent, BeforeFirst}
use Rattle.pdu_guard.specs.declared.am.Hfn.TheVariants.{Before, Same, After}
use Rattle.pdu_guard.specs.Drb.{header_octets, is_data, number_in, values_of}

-- Reordering_Window: half of the sequence numbers (7.3)
abbrev pub window_of : Numbers → ℕ
window_of numbers = values_of numbers / 2

-- outside the window: received SN - Last_Submitted > Reordering_Window, or 0 <= Last_Submitted - received SN < Reordering_Window
abbrev pub is_outside : ℕ → ℕ → ℕ → Bool
is_outside window last sn = nat_lt (last + window) sn || (nat_le sn last && nat_lt last (sn + window))

-- with which HFN a sequence number is taken, and what becomes of the PDU, row by row as the clause has them:
-- outside the window it is discarded, and its HFN is RX_HFN - 1 where received SN > Next_PDCP_RX_SN, and else RX_HFN;
-- Next_PDCP_RX_SN - received SN > Reordering_Window: RX_HFN + 1, and Next_PDCP_RX_SN moves behind it;
-- received SN - Next_PDCP_RX_SN >= Reordering_Window: RX_HFN - 1;
-- received SN >= Next_PDCP_RX_SN: RX_HFN, and Next_PDCP_RX_SN moves behind it;
-- received SN < Next_PDCP_RX_SN: RX_HFN
unfoldable pub place_of : ℕ → ℕ → ℕ → ℕ → Place
place_of window last next sn =
    if is_outside window last sn
    then (if nat_lt next sn then record { hfn = Before; fate = Discarded } else record { hfn = Same; fate = Discarded })
    else (if nat_lt (sn + window) next then record { hfn = After; fate = New }
    else (if nat_le (next + window) sn then record { hfn = Before; fate = Late }
    else (if nat_le next sn then record { hfn = Same; fate = New }
    else record { hfn = Same; fate = Late })))

-- COUNT is HFN and sequence number (6.3.5): of 32 bits, and there is none with an HFN before the first
abbrev pub counted : ℕ → AmFate → Result AmFound AmFault
counted count fate = if nat_lt count count_limit then Ok (record { count = count; fate = fate }) else Err CountSpent

abbrev pub count_at : ℕ → ℕ → ℕ → Place → Result AmFound AmFault
count_at values hfn sn place = by_hfn place.hfn
  where
    by_hfn : Hfn → Result AmFound AmFault
    by_hfn Before = if hfn == 0 then Err BeforeFirst else counted ((hfn - 1) * values + sn) place.fate
    by_hfn Same = counted (hfn * values + sn) place.fate
    by_hfn After = counted ((hfn + 1) * values + sn) place.fate

-- of a sequence number where this COUNT comes next
unfoldable pub am_count_at : Numbers → ℕ → ℕ → ℕ → Result AmFound AmFault
am_count_at numbers last next sn =
    count_at (values_of numbers) (next / values_of numbers) sn (place_of (window_of numbers) last (next % values_of numbers) sn)

-- of a PDU
unfoldable pub am_count_of : Numbers → ℕ → ℕ → List ℕ → Result AmFound AmFault
am_count_of numbers last next pdu =
    if nat_lt (length pdu) (header_octets numbers) then Err Short
    else (if is_data numbers (slice_index pdu 0) then am_count_at numbers last next (number_in numbers pdu)
    else Err (BadHeader (slice_index pdu 0)))

-- Last_Submitted_PDCP_RX_SN where this is the least COUNT that was not submitted: of the COUNT before, and at first
-- Maximum_PDCP_SN (7.1)
abbrev pub last_before : Numbers → ℕ → ℕ
last_before numbers first = (first + values_of numbers - 1) % values_of numbers
