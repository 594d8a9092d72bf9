-- The forms of the records of S1 and X2 (TS 36.413, TS 36.423, in short form).
use Rattle.std.specs.Prelude.{List, [], ◌∷◌}
use Rattle.rec_fields.specs.Name.{Connection, NextConnection, Request, Attempt, Air, Station, Source, Ncc, Cell, Algorithms, Capabilities, Kenb, Nh, Star}
use Rattle.rec_fields.specs.Form.{Form, form}
use Rattle.s1x2_rec.specs.declared.records.CoreRecord.{CoreRecord}
use Rattle.s1x2_rec.specs.declared.records.CoreRecord.TheVariants.{InitialContext, ContextRelease, PathSwitchRequest, PathSwitchAnswer, HandoverRequired, HandoverRequest, HandoverRequestAck, HandoverCommand, HandoverNotify, HandoverCancel, X2Request, X2Ack, X2Cancel, X2Release, ContextModification}

-- S1

abbrev pub initial_context : Form CoreRecord
initial_context = form 0x20 (Connection ∷ Cell ∷ Capabilities ∷ Kenb ∷ []) InitialContext

abbrev pub context_release : Form CoreRecord
context_release = form 0x21 (Connection ∷ []) ContextRelease

abbrev pub path_switch_request : Form CoreRecord
path_switch_request = form 0x22 (Connection ∷ Station ∷ Request ∷ Cell ∷ Capabilities ∷ []) PathSwitchRequest

abbrev pub path_switch_answer : Form CoreRecord
path_switch_answer = form 0x23 (Connection ∷ Request ∷ Ncc ∷ Nh ∷ []) PathSwitchAnswer

abbrev pub handover_required : Form CoreRecord
handover_required = form 0x24 (Connection ∷ Station ∷ Attempt ∷ Cell ∷ []) HandoverRequired

abbrev pub handover_request : Form CoreRecord
handover_request = form 0x25 (Connection ∷ Source ∷ Attempt ∷ Cell ∷ Capabilities ∷ Ncc ∷ Nh ∷ []) HandoverRequest

abbrev pub handover_request_ack : Form CoreRecord
handover_request_ack = form 0x26 (Connection ∷ Source ∷ Attempt ∷ Cell ∷ Ncc ∷ Algorithms ∷ Air ∷ []) HandoverRequestAck

abbrev pub handover_command : Form CoreRecord
handover_command = form 0x27 (Connection ∷ Attempt ∷ Cell ∷ Ncc ∷ Algorithms ∷ Air ∷ []) HandoverCommand

abbrev pub handover_notify : Form CoreRecord
handover_notify = form 0x28 (Connection ∷ Station ∷ Cell ∷ []) HandoverNotify

abbrev pub handover_cancel : Form CoreRecord
handover_cancel = form 0x29 (Connection ∷ Source ∷ Attempt ∷ Cell ∷ []) HandoverCancel

-- X2

abbrev pub x2_request : Form CoreRecord
x2_request = form 0x30 (Connection ∷ Source ∷ Attempt ∷ Cell ∷ Capabilities ∷ Ncc ∷ Star ∷ []) X2Request

abbrev pub x2_ack : Form CoreRecord
x2_ack = form 0x31 (Connection ∷ Attempt ∷ Cell ∷ Algorithms ∷ Air ∷ []) X2Ack

abbrev pub x2_cancel : Form CoreRecord
x2_cancel = form 0x32 (Connection ∷ Source ∷ Attempt ∷ []) X2Cancel

abbrev pub x2_release : Form CoreRecord
x2_release = form 0x33 (Connection ∷ Attempt ∷ []) X2Release

-- S1, a key change

abbrev pub context_modification : Form CoreRecord
context_modification = form 0x34 (Connection ∷ NextConnection ∷ Kenb ∷ []) ContextModification

-- all of them
abbrev pub core_forms : List (Form CoreRecord)
core_forms =
    initial_context ∷ context_release ∷ path_switch_request ∷ path_switch_answer ∷ handover_required
    ∷ handover_request ∷ handover_request_ack ∷ handover_command ∷ handover_notify ∷ handover_cancel
    ∷ x2_request ∷ x2_ack ∷ x2_cancel ∷ x2_release ∷ context_modification ∷ []
