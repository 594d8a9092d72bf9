-- The short MACs of a Service Request (TS 24.301 8.2.25, 9.9.3.19 and 9.9.3.28) and of re-establishment (TS 36.331 5.3.7.4).
use Rattle.std.specs.Prelude.{ℕ, ◌+◌, ◌*◌, ◌%◌, ◌-◌, ◌^◌, ◌==◌, nat_lt, if◌then◌else◌, List, [], ◌∷◌, ◌++◌, drop, slice_index, take, Result, Ok, Err}
use Rattle.alg_suite.specs.{Suite.mac_by, declared.integrity.Integrity.Integrity}
use Rattle.key_model.specs.Least.{least}
use Rattle.nas_count.specs.Estimate.{nas_count_limit}
use Rattle.rec_base.specs.declared.uses.Dir.TheVariants.{Up, Down}
use Rattle.nas_guard.specs.Seal.{nas_bearer}
use Rattle.pdu_guard.specs.{Checks.is_checked, Checks.is_taken, declared.short_macs.ServiceFault.ServiceFault, declared.short_macs.ServiceFound.ServiceFound}
use Rattle.pdu_guard.specs.declared.short_macs.ServiceFault.TheVariants.{BadHeader, CountSpent, MacFails}

-- the first octet: the security header type of a Service Request, 12, and the protocol discriminator 7 (9.2 and 9.3.1)
abbrev pub service_first : ℕ
service_first = 0xc7

-- what the MAC covers: the first octet, and the KSI, of 3 bits, with the lowest 5 bits of COUNT (9.9.3.19)
abbrev pub service_front : ℕ → ℕ → List ℕ
service_front ksi count = service_first ∷ (32 * ksi + count % 32) ∷ []

-- the last two octets of the MAC over the first two of the message (9.9.3.28)
abbrev pub short_mac : Integrity → List ℕ → ℕ → List ℕ → List ℕ
short_mac eia int count front = drop 2 (mac_by eia int count nas_bearer Up front)

-- a Service Request at a COUNT: four octets (8.2.25)
unfoldable pub service_request_of : Integrity → List ℕ → ℕ → ℕ → List ℕ
service_request_of eia int ksi count = service_front ksi count ++ short_mac eia int count (service_front ksi count)

-- the short MAC that a receiver computes at a COUNT, and whether that received is taken
abbrev pub service_wanted : Integrity → List ℕ → List ℕ → ℕ → List ℕ
service_wanted eia int request count = short_mac eia int count (take 2 request)

-- the COUNT of a Service Request where its short MAC is right
abbrev pub service_at : Integrity → List ℕ → List ℕ → ℕ → Result ServiceFound ServiceFault
service_at eia int request count =
    if is_taken eia (service_wanted eia int request count) (drop 2 request)
    then Ok (record { count = count; checked = is_checked eia })
    else Err (MacFails count (service_wanted eia int request count) (drop 2 request))

-- the COUNT of four octets that are a Service Request where this COUNT comes next: the least with its 5 bits
unfoldable pub service_checked : Integrity → List ℕ → ℕ → List ℕ → Result ServiceFound ServiceFault
service_checked eia int next request =
    let count = least next (slice_index request 1 % 32) 32 in
    if slice_index request 0 == service_first
    then (if nat_lt count nas_count_limit then service_at eia int request count else Err CountSpent)
    else Err (BadHeader (slice_index request 0))

-- shortMAC-I: the last two octets of the MAC over the VarShortMAC-Input, where all bits of COUNT, BEARER and DIRECTION are
-- ones (TS 36.331 5.3.7.4)
unfoldable pub short_mac_i_of : Integrity → List ℕ → List ℕ → List ℕ
short_mac_i_of eia int input = drop 2 (mac_by eia int (2 ^ 32 - 1) 31 Down input)
