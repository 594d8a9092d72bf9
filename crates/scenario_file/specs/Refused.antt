-- The line for a text that is no scenario.
use Rattle.std.specs.Prelude.{ℕ, Option, Some, None, List, [], ◌++◌, codes}
use Rattle.std.specs.Fmt.{decimal}
use Rattle.scenario_file.specs.{declared.faults.ScenarioFault.ScenarioFault, Field.name_of}
use Rattle.scenario_file.specs.declared.faults.ScenarioFault.TheVariants.{Memory, NotToml, Missing, Wrong, Unknown, TooMany}

-- where the fault is: in a step, by its number, or before the steps
abbrev pub place_text : Option ℕ → List ℕ
place_text None = codes "setup"
place_text (Some step) = codes "step " ++ decimal step

-- and what it is, with the field if it is one of a field
abbrev pub fault_text : ScenarioFault → List ℕ
fault_text Memory = []
fault_text NotToml = codes "text"
fault_text TooMany = codes "steps"
fault_text (Missing step field) = place_text step ++ (codes " missing " ++ name_of field)
fault_text (Wrong step field) = place_text step ++ (codes " wrong " ++ name_of field)
fault_text (Unknown step) = place_text step ++ codes " unknown"

unfoldable pub refused_text : ScenarioFault → List ℕ
refused_text fault = codes "refused " ++ (fault_text fault ++ codes "\n")
