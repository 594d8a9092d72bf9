-- The lines of the messages that an actor sends where one comes: what the receiver of each message answers it with, where it answers.
use Rattle.std.specs.Prelude.{ℕ, true, false, Some, List, [], ◌++◌, codes}
use Rattle.std.specs.List.{flat_map}
use Rattle.item_faults.specs.declared.messages.Message.{Message}
use Rattle.item_faults.specs.declared.messages.Message.TheVariants as message
use Rattle.item_steps.specs.Messages.{phone_answers, station_answers, core_answers}
use Rattle.variant_text.specs.Messages.{message_name}
use Rattle.lte_tables.specs.Outcomes.{messages}

-- `sends core, Handover Required, Handover Request`
abbrev pub sends_line : List ℕ → Message → Message → List ℕ
sends_line who came message.Unnamed = []
sends_line who came sent =
    codes "sends " ++ (who ++ (codes ", " ++ (message_name came ++ (codes ", " ++ (message_name sent ++ codes "\n")))))

-- of a phone that takes what comes, and of a station to which no handover over S1 came
unfoldable pub sends_lines : List ℕ
sends_lines =
    flat_map (λ m. sends_line (codes "phone") m (phone_answers true (Some m))) messages
    ++ (flat_map (λ m. sends_line (codes "station") m (station_answers false (Some m))) messages
    ++ flat_map (λ m. sends_line (codes "core") m (core_answers (Some m))) messages)
