-- What is told of a scenario: its messages, and what becomes of it with faults of them.
use Rattle.std.specs.Prelude.{ℕ, Bool, List, [], ◌++◌, length, Option, Some, None}
use Rattle.std.specs.{List.filter, List.flat_map, Option.is_some, Option.option_and_then}
use Rattle.item_faults.specs.{Faults.faults_of, declared.changes.Fault.Fault, declared.messages.Message.Message, declared.steps.Step.Step}
use Rattle.item_faults.specs.Steps.{delivered, messages_of, step_of}
use Rattle.item_outcomes.specs.{Heals.heals_of, Outcomes.Verdict, declared.troubles.Trouble.Trouble}
use Rattle.variant_runs.specs.{Judged.entries, Judged.judged, Original.Original, Troubles.troubles_of}
use Rattle.variant_text.specs.Lines.{end_line, message_line, scenario_line, trouble_line, variant_line}
use Rattle.fault_sets.specs.Sets.{sets_of}
use Rattle.lte_variants.specs.{Choices.in_share, Kinds.happening, Named.those_named, declared.request.Request.Request}

-- ITS MESSAGES: a line for each, by the step that delivers it
abbrev pub message_at : List Step → ℕ → Option Message
message_at steps number = option_and_then (λ s. delivered steps s.does) (step_of steps (Some number))

abbrev pub line_with : ℕ → Option Message → List ℕ
line_with number None = []
line_with number (Some message) = message_line number message

unfoldable pub line_at : List Step → ℕ → List ℕ
line_at steps number = line_with number (message_at steps number)

-- ITS VARIANTS: a line for each choice of faults that go together; where it is asked for, with the station that serves and which lines sent
abbrev pub line_told : Bool → List Fault → Option Verdict → List ℕ
line_told sent faults None = []
line_told sent faults (Some verdict) = variant_line sent faults verdict

unfoldable pub line_of : Bool → Original → List Fault → List ℕ
line_of sent o faults = line_told sent faults (judged o faults)

unfoldable pub is_variant : Original → List Fault → Bool
is_variant o faults = is_some (judged o faults)

-- THE REPORT: the scenario and its messages, those that are named where some are
abbrev pub messages_asked : Request → List Step → List ℕ
messages_asked r steps = those_named r.named (messages_of r.packets steps)

abbrev pub message_lines : Original → List ℕ → List ℕ
message_lines o messages = flat_map (line_at o.steps) messages

-- the scenario, with so many messages, and what is wrong in it without any fault
abbrev pub trouble_lines : Original → List Trouble → List ℕ
trouble_lines o troubles = flat_map (trouble_line (length o.steps)) troubles

abbrev pub scenario_with : Original → ℕ → List Trouble → List ℕ
scenario_with o messages troubles =
    scenario_line (length o.steps) messages o.usual.serving (heals_of o.usual.told) ++ trouble_lines o troubles

abbrev pub scenario_told : Original → ℕ → List ℕ
scenario_told o messages = scenario_with o messages (troubles_of o.usual o.acts o.steps)

abbrev pub messages_told : Original → List ℕ → List ℕ
messages_told o messages = scenario_told o (length messages) ++ message_lines o messages

-- the variants of these choices, and how many there are
abbrev pub variant_lines : Bool → Original → List (List Fault) → List ℕ
variant_lines sent o choices = flat_map (line_of sent o) choices

abbrev pub variants : Original → List (List Fault) → ℕ
variants o choices = length (filter (is_variant o) choices)

abbrev pub told_of : Bool → Original → List (List Fault) → List ℕ
told_of sent o choices = variant_lines sent o choices ++ end_line (variants o choices)

-- the choices of a share, of the faults of these messages that happen
abbrev pub asked : Request → Original → List ℕ → List (List Fault)
asked r o messages = in_share r.share (sets_of r.faults (happening r.kinds (faults_of (entries o) messages)))

-- both, by the messages
abbrev pub report_with : Request → Original → List ℕ → List ℕ
report_with r o messages = messages_told o messages ++ told_of r.sent o (asked r o messages)

unfoldable pub report_of : Request → Original → List ℕ
report_of r o = report_with r o (messages_asked r o.steps)
