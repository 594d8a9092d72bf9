-- What a check of a Service Request comes to (TS 24.301 8.2.25).
use Rattle.std.specs.Prelude.{ℕ, ◌&&◌, nat_le, if◌then◌else◌, List, [], ◌∷◌, ◌++◌, Result, Ok, Err}
use Rattle.nas_count.specs.Estimate.{nas_count_limit}
use Rattle.pdu_guard.specs.{Nas.NasOpening, ShortMacs.service_checked, declared.short_macs.ServiceFound.ServiceFound, declared.short_macs.ServiceFault.ServiceFault}
use Rattle.pdu_guard.specs.declared.short_macs.ServiceFault as service
use Rattle.lte_sec_c.specs.{declared.fault.Fault.Fault, Ranges.eia_of, Ranges.is_identity}
use Rattle.lte_sec_c.specs.declared.fault.Fault.TheVariants.{OutOfRange, CountSpent, BadHeader, MacFails}

-- a short MAC of two octets, in the place of four
abbrev pub in_four : List ℕ → List ℕ
in_four mac = mac ++ 0 ∷ 0 ∷ []

abbrev pub service_fault : ServiceFault → Fault
service_fault (service.TheVariants.BadHeader octet) = BadHeader
service_fault service.TheVariants.CountSpent = CountSpent
service_fault (service.TheVariants.MacFails count wanted got) = MacFails count (in_four wanted) (in_four got)

-- the security header type of a Service Request is 12 (9.3.1), and it has no text
abbrev pub service_answer : Result ServiceFound ServiceFault → Result NasOpening Fault
service_answer (Ok found) = Ok (record { header = 12; count = found.count; checked = found.checked; text = [] })
service_answer (Err fault) = Err (service_fault fault)

-- what four octets are where this COUNT comes next
abbrev pub service_opens : ℕ → List ℕ → ℕ → List ℕ → Result NasOpening Fault
service_opens eia int next request =
    if is_identity eia && nat_le next nas_count_limit
    then service_answer (service_checked (eia_of eia) int next request)
    else Err OutOfRange
