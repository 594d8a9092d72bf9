-- The COUNT of a message of which the overflow is not known: the least with its sequence number at which its MAC is right.
use Rattle.std.specs.Prelude.{ℕ, zero, suc, ◌+◌, ◌*◌, ◌%◌, Bool, true, false, Option, Some, None, List, drop, slice_index}
use Rattle.std.specs.Option.{option_map}
use Rattle.alg_suite.specs.declared.integrity.Integrity.{Integrity}
use Rattle.nas_guard.specs.Open.{mac_in, sn_in}
use Rattle.rec_base.specs.declared.uses.Dir.{Dir}
use Rattle.pdu_guard.specs.{Checks.is_taken, Nas.nas_wanted, ShortMacs.service_wanted, declared.nas.NasKeys.NasKeys}

-- the first number below n at which a test is true
abbrev pub first_or : Option ℕ → Bool → ℕ → Option ℕ
first_or (Some found) here n = Some found
first_or None true n = Some n
first_or None false n = None

unfoldable pub first_true : (ℕ → Bool) → ℕ → Option ℕ
first_true test zero = None
first_true test (suc n) = first_or (first_true test n) (test n) n

-- of a NAS message, over the 2^16 overflows of its sequence number of 8 bits (TS 24.301 4.4.3.1)
abbrev pub nas_count_at : List ℕ → ℕ → ℕ
nas_count_at pdu overflow = 256 * overflow + sn_in pdu

abbrev pub nas_right : NasKeys → Dir → List ℕ → ℕ → Bool
nas_right keys dir pdu overflow = is_taken keys.eia (nas_wanted keys (nas_count_at pdu overflow) dir pdu) (mac_in pdu)

abbrev pub nas_search : NasKeys → Dir → List ℕ → Option ℕ
nas_search keys dir pdu = option_map (nas_count_at pdu) (first_true (nas_right keys dir pdu) 65536)

-- of a Service Request, over the 2^19 overflows of its 5 bits (9.9.3.19)
abbrev pub service_count_at : List ℕ → ℕ → ℕ
service_count_at request overflow = 32 * overflow + slice_index request 1 % 32

abbrev pub service_right : Integrity → List ℕ → List ℕ → ℕ → Bool
service_right eia int request overflow =
    is_taken eia (service_wanted eia int request (service_count_at request overflow)) (drop 2 request)

abbrev pub service_search : Integrity → List ℕ → List ℕ → Option ℕ
service_search eia int request = option_map (service_count_at request) (first_true (service_right eia int request) 524288)
