-- What the scenarios of each kind of system have beside what every scenario has.
use Rattle.std.specs.Prelude.{List, [], ◌∷◌}
use Rattle.scenario_file.specs.{declared.fields.Field.Field, declared.systems.System.System}
use Rattle.scenario_file.specs.declared.fields.Field.TheVariants as field
use Rattle.scenario_file.specs.declared.systems.System.TheVariants as system

-- at the top: how large a fleet is
abbrev pub more_at_top : System → List Field
more_at_top system.Single = []
more_at_top system.Fleet = field.Fleet ∷ []
more_at_top system.TwoCores = []

-- in a [[station]]: to which of two cores it belongs
abbrev pub more_of_station : System → List Field
more_of_station system.Single = []
more_of_station system.Fleet = []
more_of_station system.TwoCores = field.Core ∷ []

-- in a [[step]]: to which phone of a fleet it happens
abbrev pub more_of_step : System → List Field
more_of_step system.Single = []
more_of_step system.Fleet = field.Phone ∷ []
more_of_step system.TwoCores = []
