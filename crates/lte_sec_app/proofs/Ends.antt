-- Each line that the program writes by itself is a line.
use Rattle.std.proofs.Common.{◌≡◌, ℕ, true, Option, List}
use Rattle.std.specs.{Prelude.codes, Fmt.decimal}
use Rattle.hex.specs.Hex.{encode_lower}
use Rattle.edge_io.specs.Lines.{EndsLine, are_lines}
use Rattle.edge_io.proofs.Ending.{feed, is_lines, on}
use Rattle.scenario_file.specs.{declared.faults.ScenarioFault.ScenarioFault, Refused.fault_text, Refused.refused_text}
use Rattle.lte_sec_app.specs.{Drive.wanted_text, Drive.difference_text, Serve.bad_frame_text}

refused_ends : (fault : ScenarioFault) → EndsLine (refused_text fault)
unfolding refused_text
refused_ends fault = on (codes "refused ") _ (on (fault_text fault) _ feed)

pub refused_is : (fault : ScenarioFault) → are_lines (refused_text fault) ≡ true
refused_is fault = is_lines _ (refused_ends fault)

difference_ends : (step : Option ℕ) (wanted got : List ℕ) → EndsLine (difference_text step wanted got)
unfolding difference_text
difference_ends step wanted got =
    on (wanted_text step) _ (on (codes " differs ") _ (on (encode_lower wanted) _ (on (codes " ") _ (on (encode_lower got) _ feed))))

pub difference_is : (step : Option ℕ) (wanted got : List ℕ) → are_lines (difference_text step wanted got) ≡ true
difference_is step wanted got = is_lines _ (difference_ends step wanted got)

bad_frame_ends : (place number : ℕ) → EndsLine (bad_frame_text place number)
unfolding bad_frame_text
bad_frame_ends place number = on (codes "bad frame ") _ (on (decimal place) _ (on (codes " ") _ (on (decimal number) _ feed)))

pub bad_frame_is : (place number : ℕ) → are_lines (bad_frame_text place number) ≡ true
bad_frame_is place number = is_lines _ (bad_frame_ends place number)
