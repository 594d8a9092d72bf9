-- The frame of a reply: kind 80, and then its parts in order.
use Rattle.std.specs.Prelude.{ℕ, Bool, true, false, List, [], ◌∷◌, ◌++◌, length, Option, Some, None}
use Rattle.std.specs.List.{flat_map}
use Rattle.rec_base.specs.{BigEndian.octets_of, Bearer.octet_of, declared.faults.RecFault.RecFault, declared.ways.Way.Way}
use Rattle.rec_base.specs.declared.ways.Way.TheVariants.{Initial, Horizontal, Vertical, Given, Completed, Chained}
use Rattle.rec_fields.specs.Spelled.{algs_octet}
use Rattle.annex_a_keys.specs.declared.derived.Derived.{Derived}
use Rattle.lte_events.specs.{declared.addresses.Address.Address, declared.answers.Answer.Answer, declared.replies.ActorOut.ActorOut, declared.replies.KeyNote.KeyNote, declared.replies.Record.Record, Answer.number_of}
use Rattle.role_wire.specs.Frame.{framed}

-- the number of a record's fault, and the place of a field
abbrev pub fault_octets : RecFault → List ℕ
fault_octets RecFault.Short = 1 ∷ 0 ∷ []
fault_octets RecFault.Long = 2 ∷ 0 ∷ []
fault_octets RecFault.BadKind = 3 ∷ 0 ∷ []
fault_octets (RecFault.BadField place) = 4 ∷ place ∷ []

-- the values that an answer keeps
abbrev pub details_octets : Answer → List ℕ
details_octets (Answer.WrongKsi held got) = held ∷ got ∷ []
details_octets (Answer.CapsMismatch own got) = own.eea ∷ own.eia ∷ got.eea ∷ got.eia ∷ []
details_octets (Answer.AlgUnsupported algs) = algs_octet algs ∷ []
details_octets (Answer.MacFails count wanted got) = octets_of 4 count ++ wanted ++ got
details_octets (Answer.BadRecord fault) = fault_octets fault
details_octets (Answer.BadHeader octet) = octet ∷ []
details_octets (Answer.WrongKind kind) = kind ∷ []
details_octets (Answer.Stale outstanding got) = octets_of 4 outstanding ++ octets_of 4 got
details_octets (Answer.OldConnection held got) = octets_of 4 held ++ octets_of 4 got
details_octets (Answer.AttemptOpen number) = octets_of 4 number
details_octets (Answer.Repeated seen got) = octets_of 4 seen ++ octets_of 4 got
details_octets _ = []

-- the answer, and these values behind their length
abbrev pub answer_octets : Answer → List ℕ
answer_octets answer = number_of answer ∷ length (details_octets answer) ∷ details_octets answer

-- where a record goes
abbrev pub address_octets : Address → List ℕ
address_octets (Address.Phone station air bearer) = 0x00 ∷ station ∷ octets_of 4 air ++ octet_of bearer ∷ []
address_octets Address.PhoneNas = 0x01 ∷ []
address_octets Address.CoreNas = 0x02 ∷ []
address_octets Address.CoreS1 = 0x03 ∷ []
address_octets (Address.StationAir station air bearer) = 0x04 ∷ station ∷ octets_of 4 air ++ octet_of bearer ∷ []
address_octets (Address.StationS1 station) = 0x05 ∷ station ∷ []
address_octets (Address.StationX2 station) = 0x06 ∷ station ∷ []

-- the record sent
abbrev pub sent_octets : Option Record → List ℕ
sent_octets None = 0x00 ∷ []
sent_octets (Some sent) = 0x01 ∷ address_octets sent.to ++ octets_of 2 (length sent.octets) ++ sent.octets

-- the text opened
abbrev pub opened_octets : Option (List ℕ) → List ℕ
opened_octets None = 0x00 ∷ []
opened_octets (Some text) = 0x01 ∷ octets_of 2 (length text) ++ text

-- the derivations, the output of each
abbrev pub derived_octets : List Derived → List ℕ
derived_octets derived = length derived ∷ flat_map (λ (d : Derived). d.out) derived

abbrev pub way_octet : Way → ℕ
way_octet Initial = 0
way_octet Horizontal = 1
way_octet Vertical = 2
way_octet Given = 3
way_octet Completed = 4
way_octet Chained = 5

-- what is told of a key
abbrev pub note_octets : Option KeyNote → List ℕ
note_octets None = 0x00 ∷ []
note_octets (Some note) = 0x01 ∷ note.ncc ∷ way_octet note.way ∷ note.key

-- the alarm
abbrev pub alarm_octets : Bool → List ℕ
alarm_octets false = 0x00 ∷ []
alarm_octets true = 0x01 ∷ []

-- the body of a reply
abbrev pub reply_octets : ActorOut → List ℕ
reply_octets reply =
    0x80 ∷ answer_octets reply.answer ++ sent_octets reply.sent ++ opened_octets reply.opened
    ++ derived_octets reply.derived ++ note_octets reply.note ++ alarm_octets reply.alarm

-- the octets of its frame
abbrev pub reply_spelling : ActorOut → List ℕ
reply_spelling reply = framed (reply_octets reply)
