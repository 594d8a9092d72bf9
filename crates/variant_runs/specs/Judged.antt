-- What becomes of a scenario with faults of its messages.
use Rattle.std.specs.Prelude.{ℕ, ◌&&◌, nat_lt, Bool, true, false, not, List, [], ◌∷◌, length, Option, Some, None, if◌then◌else◌}
use Rattle.std.specs.{List.list_all, Option.is_some, Option.option_and_then}
use Rattle.lte_events.specs.declared.lines.Line.{Line}
use Rattle.item_faults.specs.{AtOnce.items_of, Changes.variant, Entries.most_steps, declared.changes.Fault.Fault, declared.changes.Kind.Kind, declared.entries.Entry.Entry, declared.steps.Step.Step}
use Rattle.item_faults.specs.Steps.{entries_of, senders_of, source_of, step_of, with_number}
use Rattle.item_faults.specs.declared.changes.Kind.TheVariants as kind
use Rattle.item_lines.specs.{Lines.line_of, Same.same_who, declared.lines.Told.Told}
use Rattle.item_outcomes.specs.{Outcomes.Verdict, Outcomes.verdict_of, Standing.Standing}
use Rattle.item_runs.specs.Course.{Seen}
use Rattle.item_standing.specs.Standing.{standing_of}
use Rattle.variant_runs.specs.Original.{Original, run_of}

-- THE RUN OF A LIST OF ITEMS, and what the probe finds behind it
abbrev pub entries : Original → List Entry
entries o = entries_of (length o.steps) o.steps

abbrev pub run_with : Original → List Entry → Seen
run_with o list = run_of o.setup o.acts (items_of (senders_of o.steps) list)

abbrev pub standing_with : Original → List Entry → Standing
standing_with o list = standing_of o.acts (length o.steps) o.usual.serving (run_with o list)

-- WHAT IS OF THE FAULTS THEMSELVES: the messages that are lost, and the items that faults put in
abbrev pub is_lost : Kind → Bool
is_lost kind.Lost = true
is_lost other = false

abbrev pub is_put_in : Entry → Bool
is_put_in e = not (nat_lt e.name most_steps)

unfoldable pub lost_from : List ℕ → List Fault → List ℕ
lost_from names [] = names
lost_from names (f ∷ fs) = lost_from (with_number (is_lost f.kind) f.message names) fs

unfoldable pub put_in_from : List ℕ → List Entry → List ℕ
put_in_from names [] = names
put_in_from names (e ∷ es) = put_in_from (with_number (is_put_in e) e.name names) es

abbrev pub own_names : List Fault → List Entry → List ℕ
own_names faults list = put_in_from (lost_from [] faults) list

-- WHETHER WHAT IS SENT AGAIN WAS SENT, by the actor that sends it in the scenario
abbrev pub is_sent_by : Line → Line → Bool
is_sent_by usual here = is_some here.sent && same_who usual.who here.who

abbrev pub is_sent_in : Option Told → Option Told → Bool
is_sent_in (Some t) (Some u) = is_sent_by t.line u.line
is_sent_in one other = false

abbrev pub is_sent : List Told → List Told → Option ℕ → Bool
is_sent usual here None = false
is_sent usual here (Some sender) = is_sent_in (line_of sender usual) (line_of sender here)

-- the step that sends the message that this step delivers
abbrev pub sender_at : Option Step → Option ℕ
sender_at None = None
sender_at (Some s) = source_of s.does

abbrev pub sender_of : List Step → ℕ → Option ℕ
sender_of steps message = sender_at (step_of steps (Some message))

abbrev pub can_be_by : List Told → List Told → List Step → Kind → ℕ → Bool
can_be_by usual here steps kind.Again message = is_sent usual here (sender_of steps message)
can_be_by usual here steps other message = true

abbrev pub can_all_be : Original → List Fault → Standing → Bool
can_all_be o faults here = list_all (λ f. can_be_by o.usual.told here.told o.steps f.kind f.message) faults

-- WHAT BECOMES OF IT: nothing is told where the faults do not go together, or where what is sent again was not sent
abbrev pub judged_beside : Original → List Fault → List Entry → Standing → Option Verdict
judged_beside o faults list here = if can_all_be o faults here then Some (verdict_of (own_names faults list) o.usual here) else None

abbrev pub judged_with : Original → List Fault → List Entry → Option Verdict
judged_with o faults list = judged_beside o faults list (standing_with o list)

abbrev pub judged : Original → List Fault → Option Verdict
judged o faults = option_and_then (judged_with o faults) (variant faults (entries o))
