-- The exit status of the program, with the codes of `lte_sec_app`.
use Rattle.std.specs.Prelude.{ℕ}
use Rattle.lte_trace.specs.declared.answer.Ends.{Ends}
use Rattle.lte_trace.specs.declared.answer.Ends.TheVariants as ends
use Rattle.lte_trace.specs.declared.status.Status.{Status}
use Rattle.lte_trace.specs.declared.status.Status.TheVariants.{Done, Memory, BadWords, Refused, ReadFault, WriteFault, TooLong, TooMany}

abbrev pub code_of : Status → ℕ
code_of Done = 0
code_of Memory = 1
code_of BadWords = 2
code_of Refused = 3
code_of ReadFault = 4
code_of WriteFault = 5
code_of TooLong = 9
code_of TooMany = 12

-- by what became of the text
abbrev pub status_of : Ends → Status
status_of ends.Explained = Done
status_of ends.Refused = Refused
status_of ends.TooMany = TooMany
