-- The items of a scenario, by its steps and what its run tells of them.
use Rattle.std.specs.Prelude.{ℕ, ◌+◌, ◌*◌, ◌==◌, ◌&&◌, Bool, true, false, List, [], ◌∷◌, ◌++◌, map, slice_get, Option, Some, None, if◌then◌else◌}
use Rattle.std.specs.Option.{is_some}
use Rattle.item_faults.specs.{declared.entries.Again.Again, declared.entries.Entry.Entry, declared.messages.Message.Message, declared.steps.Does.Does, declared.steps.Step.Step}
use Rattle.item_faults.specs.declared.entries.Again.TheVariants as again
use Rattle.items.specs.declared.Deed.{Deed}
use Rattle.items.specs.declared.Deed.TheVariants as deed
use Rattle.item_faults.specs.declared.messages.Message.TheVariants as message
use Rattle.item_faults.specs.declared.steps.Does.TheVariants as does

-- the step that sent what this one delivers
abbrev pub source_of : Does → Option ℕ
source_of (does.Delivers of) = Some of
source_of other = None

abbrev pub step_of : List Step → Option ℕ → Option Step
step_of steps None = None
step_of steps (Some number) = slice_get steps number

abbrev pub sent_by : Option Step → Option Message
sent_by None = None
sent_by (Some s) = s.sends

-- the message that a step delivers
abbrev pub delivered : List Step → Does → Option Message
delivered steps d = sent_by (step_of steps (source_of d))

-- WHAT MAKES AN ACT HAPPEN: a command, the answer that lets its station; a connection, the message that asks the core for it
abbrev pub is_answer : Option Message → Bool
is_answer (Some message.X2HandoverRequestAcknowledge) = true
is_answer (Some message.HandoverCommand) = true
is_answer other = false

abbrev pub asks : Option Message → Bool
asks (Some message.ServiceRequest) = true
asks (Some message.NasSecurityModeComplete) = true
asks other = false

-- what a station does about its attempt ends what an answer before lets it do; so does a connection
abbrev pub is_attempt : Does → Bool
is_attempt does.Command = true
is_attempt does.StartX2 = true
is_attempt does.Start = true
is_attempt does.Cancel = true
is_attempt other = false

abbrev pub is_connect : Does → Bool
is_connect does.Connect = true
is_connect other = false

abbrev pub is_number : ℕ → Option ℕ → Bool
is_number n None = false
is_number n (Some m) = m == n

abbrev pub is_same : Option ℕ → Option ℕ → Bool
is_same None o = false
is_same (Some n) o = is_number n o

-- whether this step lets an act of that kind and station happen, and whether it ends that
abbrev pub lets : List Step → Does → Option ℕ → Step → Bool
lets steps does.Command station t = is_same station t.station && is_answer (delivered steps t.does)
lets steps does.Connect station t = asks (delivered steps t.does)
lets steps other station t = false

abbrev pub ends : Does → Option ℕ → Step → Bool
ends does.Command station t = is_same station t.station && is_attempt t.does
ends does.Connect station t = is_connect t.does
ends other station t = false

abbrev pub cause : Bool → Bool → ℕ → Option ℕ → Option ℕ
cause true e number before = Some number
cause false true number before = None
cause false false number before = before

-- the last that makes it happen, of the steps before it
unfoldable pub cause_from : List Step → Step → Option ℕ → List Step → Option ℕ
cause_from steps s before [] = before
cause_from steps s before (t ∷ ts) =
    (if t.number == s.number then before
    else cause_from steps s (cause (lets steps s.does s.station t) (ends s.does s.station t) t.number before) ts)

-- a delivery moves with what sent it, and an act with what makes it happen
abbrev pub moves_with : List Step → Step → Does → Option ℕ
moves_with steps s (does.Delivers of) = Some of
moves_with steps s other = cause_from steps s None steps

-- WHAT SENDS A MESSAGE AGAIN: acts behind those of the scenario
abbrev pub resend : ℕ → ℕ
resend acts = acts

abbrev pub service : ℕ → ℕ
service acts = acts + 1

abbrev pub command : ℕ → ℕ → ℕ
command acts station = acts + 2 + 3 * station

abbrev pub ask : ℕ → ℕ → ℕ
ask acts station = acts + 3 + 3 * station

abbrev pub cancel : ℕ → ℕ → ℕ
cancel acts station = acts + 4 + 3 * station

abbrev pub by_command : ℕ → Option ℕ → Again
by_command acts None = again.Never
by_command acts (Some station) = again.Act (command acts station)

abbrev pub by_ask : ℕ → Option ℕ → Again
by_ask acts None = again.Never
by_ask acts (Some station) = again.Act (ask acts station)

-- an answer of the core comes again where its station asks again
abbrev pub answer_at : ℕ → Option ℕ → Again
answer_at acts None = again.Never
answer_at acts (Some station) = again.Answer (ask acts station)

abbrev pub answer_to : ℕ → Option Step → Again
answer_to acts None = again.Never
answer_to acts (Some asked) = answer_at acts asked.station

-- an attempt over X2 is cancelled and opened again
abbrev pub anew_at : ℕ → ℕ → Option ℕ → Again
anew_at acts number None = again.Never
anew_at acts number (Some station) = again.Anew (cancel acts station) number

abbrev pub anew : ℕ → Step → Does → Again
anew acts s does.StartX2 = anew_at acts s.number s.station
anew acts s other = again.Never

abbrev pub answered : Again → Again
answered (again.Anew a b) = again.AnewAnswer a b
answered other = again.Never

abbrev pub answer_anew : ℕ → Option Step → Again
answer_anew acts None = again.Never
answer_anew acts (Some opened) = answered (anew acts opened opened.does)

-- by the step that sent the message
abbrev pub again_by : ℕ → List Step → Step → Option Message → Again
again_by acts steps s (Some message.RrcReconfiguration) = by_command acts s.station
again_by acts steps s (Some message.RrcReconfigurationComplete) = again.Act (resend acts)
again_by acts steps s (Some message.PathSwitchRequest) = by_ask acts s.station
again_by acts steps s (Some message.ServiceRequest) = again.Act (service acts)
again_by acts steps s (Some message.PathSwitchRequestAcknowledge) = answer_to acts (step_of steps (source_of s.does))
again_by acts steps s (Some message.X2HandoverRequest) = anew acts s s.does
again_by acts steps s (Some message.X2HandoverRequestAcknowledge) = answer_anew acts (step_of steps (source_of s.does))
again_by acts steps s other = again.Never

abbrev pub again_of : ℕ → List Step → Option Step → Again
again_of acts steps None = again.Never
again_of acts steps (Some s) = again_by acts steps s s.sends

-- THE ITEMS: what delivers a record that is not there stays as it is
abbrev pub deed_of : ℕ → Does → Deed
deed_of number (does.Delivers of) = deed.Delivery of
deed_of number other = deed.Act number

abbrev pub entry_of : ℕ → List Step → Step → Entry
entry_of acts steps s = record {
  name = s.number;
  deed = deed_of s.number s.does;
  moves_with = moves_with steps s s.does;
  again = again_of acts steps (step_of steps (source_of s.does));
}

abbrev pub entries_of : ℕ → List Step → List Entry
entries_of acts steps = map (entry_of acts steps) steps

-- the messages that a fault may happen to: all that is delivered, user packets only if so chosen
abbrev pub counts : Bool → Option Message → Bool
counts packets None = false
counts packets (Some message.UserPacket) = packets
counts packets (Some other) = true

abbrev pub with_number : Bool → ℕ → List ℕ → List ℕ
with_number true number numbers = numbers ++ number ∷ []
with_number false number numbers = numbers

unfoldable pub messages_from : Bool → List Step → List ℕ → List Step → List ℕ
messages_from packets steps found [] = found
messages_from packets steps found (s ∷ ss) =
    messages_from packets steps (with_number (counts packets (delivered steps s.does)) s.number found) ss

abbrev pub messages_of : Bool → List Step → List ℕ
messages_of packets steps = messages_from packets steps [] steps

-- the steps that send
unfoldable pub senders_from : List ℕ → List Step → List ℕ
senders_from found [] = found
senders_from found (s ∷ ss) = senders_from (with_number (is_some s.sends) s.number found) ss

abbrev pub senders_of : List Step → List ℕ
senders_of steps = senders_from [] steps
