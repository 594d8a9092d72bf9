-- The statuses of the calls.
use Rattle.std.specs.Prelude.{ℕ}
use Rattle.nas_guard.specs.declared.opening.OpenFault as nas
use Rattle.nas_guard.specs.declared.opening.OpenFault.{OpenFault}
use Rattle.pdcp_guard.specs.declared.pdus.PdcpFault as pdcp
use Rattle.pdcp_guard.specs.declared.pdus.PdcpFault.{PdcpFault}
use Rattle.pdu_guard.specs.declared.am.AmFault as am
use Rattle.pdu_guard.specs.declared.am.AmFault.{AmFault}
use Rattle.lte_sec_c.specs.declared.fault.Fault.{Fault}
use Rattle.lte_sec_c.specs.declared.fault.Fault.TheVariants.{OutOfRange, CountSpent, NoRoom, Short, BadHeader, MacFails, OtherCount, BeforeFirst}

-- a call did what it is for
abbrev pub done : ℕ
done = 0

-- or it did nothing
abbrev pub status_of : Fault → ℕ
status_of OutOfRange = 1
status_of CountSpent = 2
status_of NoRoom = 3
status_of Short = 4
status_of BadHeader = 5
status_of (MacFails count wanted got) = 6
status_of OtherCount = 7
status_of BeforeFirst = 8

-- why a NAS message or a PDCP PDU does not open
abbrev pub of_nas : OpenFault → Fault
of_nas nas.TheVariants.Short = Short
of_nas (nas.TheVariants.BadHeader octet) = BadHeader
of_nas nas.TheVariants.CountSpent = CountSpent
of_nas (nas.TheVariants.MacFails count wanted got) = MacFails count wanted got

abbrev pub of_pdcp : PdcpFault → Fault
of_pdcp pdcp.TheVariants.Short = Short
of_pdcp (pdcp.TheVariants.BadHeader octet) = BadHeader
of_pdcp pdcp.TheVariants.CountSpent = CountSpent
of_pdcp (pdcp.TheVariants.MacFails count wanted got) = MacFails count wanted got

abbrev pub of_am : AmFault → Fault
of_am am.TheVariants.Short = Short
of_am (am.TheVariants.BadHeader octet) = BadHeader
of_am am.TheVariants.CountSpent = CountSpent
of_am am.TheVariants.BeforeFirst = BeforeFirst

-- the version of the calls and structs: it grows with each change of one
abbrev pub version : ℕ
version = 2
