-- What a command writes for the text that it reads, and what holds of that text.
use Rattle.std.specs.Prelude.{ℕ, List}
use Rattle.edge_io.specs.Told.{Told}
use Rattle.lte_sec_app.specs.{declared.command.TextCommand.TextCommand, declared.status.Status.Status, Run.Output, Ladder.ladder_output, Scenario.run_output, Scenario.HasHeadline, Scenario.HoldsWhereRun, Fleet.fleet_output, Fleet.HasFleet, Two.two_output, Two.HasTwo, Audit.audit_output, Audit.HasAudit}
use Rattle.lte_sec_app.specs.declared.command.TextCommand.TheVariants.{Ladder, Run, Fleet, Two, Audit}

abbrev pub text_output : TextCommand → List ℕ → Output
text_output Ladder = ladder_output
text_output Run = run_output
text_output Fleet = fleet_output
text_output Two = two_output
text_output Audit = audit_output

-- what holds of a text where it is a scenario; a ladder text is none
abbrev pub Holds : TextCommand → List ℕ → Type 0
Holds Ladder octets = Unit {0}
Holds Run octets = HasHeadline octets
Holds Fleet octets = HasFleet octets
Holds Two octets = HasTwo octets
Holds Audit octets = HasAudit octets

-- of the text that an input held
abbrev pub HoldsOf : TextCommand → Status → Told → Type 0
HoldsOf command status input = HoldsWhereRun (Holds command) status input
