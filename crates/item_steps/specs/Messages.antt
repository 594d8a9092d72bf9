-- The message that a step sends: by its act, or by the message that it delivers and who takes that.
use Rattle.std.specs.Prelude.{ℕ, ◌&&◌, Bool, true, false, List, Option, Some, None, position}
use Rattle.lte_events.specs.{declared.acts.CoreAct.CoreAct, declared.acts.HoKind.HoKind, declared.acts.PhoneAct.PhoneAct, declared.acts.StationAct.StationAct, declared.classes.Class.Class, declared.events.Event.Event, declared.lines.Line.Line, declared.lines.Who.Who, declared.replies.KeyNote.KeyNote}
use Rattle.item_faults.specs.{declared.messages.Message.Message, declared.steps.Does.Does, declared.steps.Step.Step, Steps.delivered, Steps.step_of}
use Rattle.item_lines.specs.{Lines.is_done, Lines.is_key, Same.same_who, declared.lines.Told.Told}

-- ACTS

abbrev pub phone_sends : PhoneAct → Message
phone_sends PhoneAct.ServiceRequest = Message.ServiceRequest
phone_sends PhoneAct.ResendComplete = Message.RrcReconfigurationComplete
phone_sends (PhoneAct.SendUser bearer text) = Message.UserPacket
phone_sends (PhoneAct.SendRrc bearer text) = Message.RrcText
phone_sends (PhoneAct.SendNas text) = Message.NasText
phone_sends other = Message.Unnamed

-- a handover within a station begins with no message
abbrev pub begins_with : HoKind → Message
begins_with HoKind.X2 = Message.X2HandoverRequest
begins_with HoKind.S1 = Message.HandoverRequired
begins_with HoKind.Intra = Message.Unnamed

abbrev pub cancel_on : Class → Message
cancel_on Class.X2 = Message.X2HandoverCancel
cancel_on other = Message.HandoverCancel

abbrev pub station_sends : Class → StationAct → Message
station_sends class (StationAct.Start kind cell) = begins_with kind
station_sends class StationAct.Command = Message.RrcReconfiguration
station_sends class StationAct.Cancel = cancel_on class
station_sends class StationAct.Ask = Message.PathSwitchRequest
station_sends class (StationAct.SendUser bearer text) = Message.UserPacket
station_sends class (StationAct.SendRrc bearer text) = Message.RrcText
station_sends class other = Message.Unnamed

abbrev pub core_sends : CoreAct → Message
core_sends CoreAct.StartSmc = Message.NasSecurityModeCommand
core_sends (CoreAct.Connect cell) = Message.InitialContextSetupRequest
core_sends CoreAct.Release = Message.UeContextReleaseCommand
core_sends (CoreAct.SendNas text) = Message.NasText
core_sends other = Message.Unnamed

-- DELIVERIES

-- a phone that takes a NAS Security Mode Command completes it, and else rejects it (TS 24.301 5.4.3)
abbrev pub judged : Bool → Message
judged true = Message.NasSecurityModeComplete
judged false = Message.NasSecurityModeReject

abbrev pub phone_answers : Bool → Option Message → Message
phone_answers done (Some Message.NasSecurityModeCommand) = judged done
phone_answers done (Some Message.RrcSecurityModeCommand) = Message.RrcSecurityModeComplete
phone_answers done (Some Message.RrcReconfiguration) = Message.RrcReconfigurationComplete
phone_answers done other = Message.Unnamed

-- a handover that is complete: over S1 the core is notified, and else asked to switch the path
abbrev pub completed : Bool → Message
completed true = Message.HandoverNotify
completed false = Message.PathSwitchRequest

abbrev pub station_answers : Bool → Option Message → Message
station_answers over_s1 (Some Message.InitialContextSetupRequest) = Message.RrcSecurityModeCommand
station_answers over_s1 (Some Message.UeContextModificationRequest) = Message.RrcReconfiguration
station_answers over_s1 (Some Message.X2HandoverRequest) = Message.X2HandoverRequestAcknowledge
station_answers over_s1 (Some Message.HandoverRequest) = Message.HandoverRequestAcknowledge
station_answers over_s1 (Some Message.PathSwitchRequestAcknowledge) = Message.X2UeContextRelease
station_answers over_s1 (Some Message.RrcReconfigurationComplete) = completed over_s1
station_answers over_s1 other = Message.Unnamed

abbrev pub core_answers : Option Message → Message
core_answers (Some Message.NasSecurityModeComplete) = Message.UeContextModificationRequest
core_answers (Some Message.PathSwitchRequest) = Message.PathSwitchRequestAcknowledge
core_answers (Some Message.HandoverRequired) = Message.HandoverRequest
core_answers (Some Message.HandoverRequestAcknowledge) = Message.HandoverCommand
core_answers (Some Message.HandoverNotify) = Message.UeContextReleaseCommand
core_answers (Some Message.HandoverCancel) = Message.HandoverCancel
core_answers other = Message.Unnamed

-- WHETHER A HANDOVER CAME OVER S1: the station came by its key at a Handover Request

abbrev pub tells_key : Who → List ℕ → Told → Bool
tells_key who key t = same_who t.line.who who && is_key key t.line.note

-- the step at which an actor came by a key: the first of its own that tells it
abbrev pub came_by : List Told → Who → Option KeyNote → Option ℕ
came_by before who None = None
came_by before who (Some note) = position (tells_key who note.key) before

abbrev pub is_handover_request : Option Message → Bool
is_handover_request (Some Message.HandoverRequest) = true
is_handover_request other = false

abbrev pub takes_request : List Step → Option Step → Bool
takes_request steps None = false
takes_request steps (Some s) = is_handover_request (delivered steps s.does)

abbrev pub came_over_s1 : List Step → List Told → Line → Bool
came_over_s1 steps before l = takes_request steps (step_of steps (came_by before l.who l.note))

-- THE MESSAGE, behind these steps and their lines

abbrev pub answers_with : Who → Bool → Bool → Option Message → Message
answers_with Who.Phone done over_s1 came = phone_answers done came
answers_with Who.Core done over_s1 came = core_answers came
answers_with (Who.Station id) done over_s1 came = station_answers over_s1 came
answers_with other done over_s1 came = Message.Unnamed

abbrev pub message_of : List Step → List Told → Event → Does → Line → Class → Message
message_of steps before (Event.Phone act) d l class = phone_sends act
message_of steps before (Event.Station id act) d l class = station_sends class act
message_of steps before (Event.Core act) d l class = core_sends act
message_of steps before (Event.Deliver i) d l class =
    answers_with l.who (is_done l.answer) (came_over_s1 steps before l) (delivered steps d)
message_of steps before other d l class = Message.Unnamed
