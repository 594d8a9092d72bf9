-- The lines of the answer for a scenario.
use Rattle.std.specs.Prelude.{ℕ, nat_lt, if◌then◌else◌, Bool, List, ◌++◌, codes}
use Rattle.std.specs.Fmt.{decimal}
use Rattle.item_faults.specs.{declared.changes.Fault.Fault, declared.messages.Message.Message}
use Rattle.item_outcomes.specs.{Outcomes.Verdict, declared.heals.Heals.Heals, declared.troubles.Trouble.Trouble}
use Rattle.item_outcomes.specs.declared.troubles.Trouble.TheVariants as trouble
use Rattle.variant_text.specs.{Faults.faults_text, Healing.heals_name, Healing.heals_text, Messages.message_name, Outcomes.outcomes_text, Sent.sent_text}

-- `scenario 27 16 serving 1 heals reconnection`: how many steps and messages a scenario has, the station that serves its phone behind them,
-- and what heals it
unfoldable pub scenario_line : ℕ → ℕ → ℕ → Heals → List ℕ
scenario_line steps messages serving heals =
    codes "scenario "
    ++ (decimal steps
    ++ (codes " " ++ (decimal messages ++ (codes " serving " ++ (decimal serving ++ (codes " heals " ++ (heals_name heals ++ codes "\n")))))))

-- What is wrong in the scenario itself: `keys differ 33`, the step at which its phone takes another key than the station there made, or
-- `keys differ probe`, of the probe behind it; `stuck`; `packet lost 12`, the step that sends a text that comes and that nobody opens
unfoldable pub keys_line : ℕ → ℕ → List ℕ
keys_line steps name = if nat_lt name steps then codes "keys differ " ++ (decimal name ++ codes "\n") else codes "keys differ probe\n"

unfoldable pub lost_line : ℕ → List ℕ
lost_line step = codes "packet lost " ++ (decimal step ++ codes "\n")

unfoldable pub trouble_line : ℕ → Trouble → List ℕ
trouble_line steps (trouble.KeysDiffer name) = keys_line steps name
trouble_line steps trouble.Stuck = codes "stuck\n"
trouble_line steps (trouble.PacketLost step) = lost_line step

-- `message 9 X2 Handover Request`: the step that delivers a message
unfoldable pub message_line : ℕ → Message → List ℕ
message_line step message = codes "message " ++ (decimal step ++ (codes " " ++ (message_name message ++ codes "\n")))

-- `late 9 12: stuck; not made, heals authentication`: a variant by its faults, its outcomes, the worst first, and what heals it; and where
-- it is asked for, the station that serves and which lines sent
abbrev pub variant_line : Bool → List Fault → Verdict → List ℕ
variant_line asked faults v =
    faults_text faults ++ (codes ": " ++ (outcomes_text v.outcomes ++ (heals_text v.heals ++ (sent_text asked v ++ codes "\n"))))

-- `end 151`: how many variants there are
unfoldable pub end_line : ℕ → List ℕ
end_line variants = codes "end " ++ (decimal variants ++ codes "\n")
