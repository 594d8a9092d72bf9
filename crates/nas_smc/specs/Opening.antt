-- How a NAS message opens, by what the code has.
use Rattle.std.specs.Prelude.{ℕ, List, Result, Ok, Err}
use Rattle.lte_machine.specs.Opening.{Outcome, Opened, Differs}
use Rattle.nas_smc.specs.declared.opening.Macs.{Macs}

abbrev pub outcome_of : Result (List ℕ) Macs → Outcome
outcome_of (Ok text) = Opened text
outcome_of (Err macs) = Differs macs.wanted macs.got
