-- Each line that the program writes is a line.
use Rattle.std.proofs.Common.{◌≡◌, ℕ, ◌++◌, nat_lt, Bool, true, false, if◌then◌else◌, List}
use Rattle.std.specs.{Prelude.codes, Fmt.decimal}
use Rattle.edge_io.specs.Lines.{EndsLine, are_lines}
use Rattle.edge_io.proofs.Ending.{feed, is_lines, on}
use Rattle.item_faults.specs.{declared.changes.Fault.Fault, declared.messages.Message.Message}
use Rattle.item_outcomes.specs.{Outcomes.Verdict, declared.heals.Heals.Heals, declared.troubles.Trouble.Trouble}
use Rattle.item_outcomes.specs.declared.troubles.Trouble.TheVariants as trouble
use Rattle.scenario_file.specs.{Refused.fault_text, Refused.refused_text, declared.faults.ScenarioFault.ScenarioFault}
use Rattle.variant_text.specs.{Faults.faults_text, Healing.heals_name, Healing.heals_text, Messages.message_name, Outcomes.outcomes_text, Sent.sent_text}
use Rattle.variant_text.specs.Lines.{end_line, keys_line, lost_line, message_line, scenario_line, trouble_line, variant_line}

refused_ends : (fault : ScenarioFault) → EndsLine (refused_text fault)
unfolding refused_text
refused_ends fault = on (codes "refused ") _ (on (fault_text fault) _ feed)

pub refused_is : (fault : ScenarioFault) → are_lines (refused_text fault) ≡ true
refused_is fault = is_lines _ (refused_ends fault)

scenario_ends : (steps messages serving : ℕ) (heals : Heals) → EndsLine (scenario_line steps messages serving heals)
unfolding scenario_line
scenario_ends steps messages serving heals =
    on (codes "scenario ") _
    (on (decimal steps) _
    (on (codes " ") _
    (on (decimal messages) _
    (on (codes " serving ") _ (on (decimal serving) _ (on (codes " heals ") _ (on (heals_name heals) _ feed)))))))

pub scenario_is : (steps messages serving : ℕ) (heals : Heals) → are_lines (scenario_line steps messages serving heals) ≡ true
scenario_is steps messages serving heals = is_lines _ (scenario_ends steps messages serving heals)

keys_ends : (steps name : ℕ) → EndsLine (keys_line steps name)
unfolding keys_line
keys_ends steps name = by (nat_lt name steps)
  where
    by : (b : Bool) → EndsLine (if b then codes "keys differ " ++ (decimal name ++ codes "\n") else codes "keys differ probe\n")
    by true = on (codes "keys differ ") _ (on (decimal name) _ feed)
    by false = on (codes "keys differ probe") _ feed

lost_ends : (step : ℕ) → EndsLine (lost_line step)
unfolding lost_line
lost_ends step = on (codes "packet lost ") _ (on (decimal step) _ feed)

trouble_ends : (steps : ℕ) (t : Trouble) → EndsLine (trouble_line steps t)
unfolding trouble_line
trouble_ends steps (trouble.KeysDiffer name) = keys_ends steps name
trouble_ends steps trouble.Stuck = on (codes "stuck") _ feed
trouble_ends steps (trouble.PacketLost step) = lost_ends step

pub trouble_is : (steps : ℕ) (t : Trouble) → are_lines (trouble_line steps t) ≡ true
trouble_is steps t = is_lines _ (trouble_ends steps t)

message_ends : (number : ℕ) (message : Message) → EndsLine (message_line number message)
unfolding message_line
message_ends number message = on (codes "message ") _ (on (decimal number) _ (on (codes " ") _ (on (message_name message) _ feed)))

pub message_is : (number : ℕ) (message : Message) → are_lines (message_line number message) ≡ true
message_is number message = is_lines _ (message_ends number message)

pub variant_is : (sent : Bool) (faults : List Fault) (v : Verdict) → are_lines (variant_line sent faults v) ≡ true
variant_is sent faults v =
    is_lines _
    (on (faults_text faults) _ (on (codes ": ") _ (on (outcomes_text v.outcomes) _ (on (heals_text v.heals) _ (on (sent_text sent v) _ feed)))))

end_ends : (variants : ℕ) → EndsLine (end_line variants)
unfolding end_line
end_ends variants = on (codes "end ") _ (on (decimal variants) _ feed)

pub end_is : (variants : ℕ) → are_lines (end_line variants) ≡ true
end_is variants = is_lines _ (end_ends variants)
