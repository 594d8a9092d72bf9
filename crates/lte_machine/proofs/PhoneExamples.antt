-- Worked rows of the phone's table, over key terms.
use Rattle.std.proofs.Common.{◌≡◌, ℕ, List, [], ◌∷◌, ◌++◌, Option, Some, None, refl}
use Rattle.std.specs.Option.{option_and_then}
use Rattle.std.specs.Prelude.{map, option_map, replicate, length, ◌-◌, ◌^◌}
use Rattle.alg_choice.specs.{Bits.has_bit, Choice.are_supported, declared.algs.Eea.TheVariants.Eea2, declared.caps.Caps.Caps}
use Rattle.rec_base.specs.BigEndian.{number_of, field_at, number_at}
use Rattle.rec_base.specs.declared.bearers.Bearer.TheVariants.{Srb1, Srb2, Drb1}
use Rattle.rec_base.specs.declared.ways.Way.{Way}
use Rattle.rec_base.specs.declared.ways.Way.TheVariants.{Initial, Horizontal, Vertical}
use Rattle.rec_fields.specs.Field.{of_size, number_in, algs_at, caps_at, cell_at, rest_at}
use Rattle.rec_fields.specs.Form.{read_as}
use Rattle.key_model.specs.Term.{Term, Root, Kenb, Nh, Star, Alg, same_term}
use Rattle.key_model.specs.{Least.least, Reading.Reading, Reading.term_reading_by, Derivation.Derivation}
use Rattle.nas_count.specs.Estimate.{estimate_of}
use Rattle.nas_rec.specs.Reading.{read_nas}
use Rattle.nas_rec.specs.Spelling as nas_texts
use Rattle.rrc_rec.specs.Reading.{read_rrc}
use Rattle.rrc_rec.specs.Spelling as rrc_texts
use Rattle.pdcp_guard.specs.{Counts.in_32_bits, Srb.srb_count, Drb.drb_count}
use Rattle.lte_events.specs.{declared.acts.PhoneAct.PhoneAct, declared.answers.Answer.Answer}
use Rattle.lte_events.specs.declared.acts.PhoneAct.TheVariants.{ServiceRequest, ResendComplete, GoIdle, SendUser, SendRrc, SendNas, Skip}
use Rattle.lte_events.specs.declared.answers.Answer.TheVariants.{Done, NoContext, WrongKsi, CapsMismatch, AlgUnsupported, MacFails, CountSpent, BadRecord, Short, BadHeader, WrongKind, NotConnected, NotAddressed, NothingToResend, AlreadyConnected}
use Rattle.rec_base.specs.declared.faults.RecFault.TheVariants as faults
use Rattle.lte_machine.specs.Wire.{KeyUse, Outgoing, SealedNas, PlainNas, SealedRrc, UserPacket, Between, integrity_of}
use Rattle.lte_machine.specs.Opening.{Outcome, Opened, Differs}
use Rattle.lte_machine.specs.{Reply.Reply, Reply.Note, PhoneChoice.header_for_phone, PhoneStep.phone_step}
use Rattle.lte_machine.specs.PhoneState.{Phone, first_phone, PhoneInput, PhoneAuth, PhoneActs, PhoneNasPdu, PhoneAirPdu}

abbrev terms : Reading Term ℕ
terms = term_reading_by same_term

-- a phone of EEA0, EEA2 and EIA2, and one of EEA0 and EIA2
abbrev root : Term
root = Root 0 []

abbrev caps : Caps
caps = record { eea = 0xa0; eia = 0x20 }

abbrev new : Phone Term ℕ
new = first_phone caps

-- a NAS message and a PDU of an SRB, their MACs out of sight
abbrev message : ℕ → ℕ → List ℕ → List ℕ
message first sn text = first ∷ 0 ∷ 0 ∷ 0 ∷ 0 ∷ sn ∷ text

abbrev pdu : ℕ → List ℕ → List ℕ
pdu sn text = sn ∷ text ++ replicate 4 0

-- the texts of a SECURITY MODE COMMAND, an RRC SecurityModeCommand, and a handover command to cell (11, 101)
abbrev nas_command : ℕ → ℕ → ℕ → List ℕ
nas_command ksi algs eea = 0x01 ∷ ksi ∷ algs ∷ eea ∷ 0x20 ∷ []

abbrev rrc_command : ℕ → ℕ → List ℕ
rrc_command algs air = 0x01 ∷ algs ∷ 0 ∷ 0 ∷ 0 ∷ 0 ∷ air ∷ []

abbrev handover : ℕ → ℕ → List ℕ
handover ncc algs = 0x03 ∷ 0 ∷ 11 ∷ 0 ∷ 0 ∷ 0 ∷ 101 ∷ ncc ∷ algs ∷ 1 ∷ 0 ∷ 0 ∷ 0 ∷ 2 ∷ []

-- all that reads and counts is open where this is
computing : Unit {0}
unfolding least estimate_of has_bit are_supported number_of field_at number_at of_size number_in algs_at caps_at cell_at
    rest_at read_as read_nas
    nas_texts.spelling_of read_rrc rrc_texts.spelling_of in_32_bits srb_count drb_count header_for_phone
computing = tt

-- inputs, each with the outcome of its opening, and what is told of each step
abbrev Event : Type 0
Event = PhoneInput Term × Outcome

abbrev after : Phone Term ℕ → List Event → Phone Term ℕ
after s [] = s
after s (e ∷ es) = let t = (phone_step terms s e.0 e.1).0 in after t es

abbrev replies : Phone Term ℕ → List Event → List (Reply Term ℕ)
replies s [] = []
replies s (e ∷ es) = let done = phone_step terms s e.0 e.1 in done.1 ∷ replies done.0 es

abbrev outs : Reply Term ℕ → List Term
outs x = map (λ (d : Derivation Term). d.out) x.derived

abbrev note_of : Reply Term ℕ → Option (ℕ × Way × Term)
note_of x = option_map (λ (n : Note Term). (n.ncc, n.way, n.key)) x.note

-- the text of a record, if it has one
abbrev text_in : Outgoing Term ℕ → List ℕ
text_in (SealedNas dir header u e text) = text
text_in (PlainNas octets) = octets
text_in (SealedRrc dir station air srb u e text) = text
text_in (UserPacket dir station air drb e text) = text
text_in (Between to fields key) = []

abbrev text_sent : Reply Term ℕ → Option (List ℕ)
text_sent x = option_map (λ (o : Outgoing Term ℕ). text_in o) x.sent

-- nothing is opened
abbrev closed : Outcome
closed = Opened []

abbrev authentication : Event
authentication = (PhoneAuth 0 root, closed)

abbrev command : Event
command = (PhoneNasPdu (message 0x37 0 (nas_command 0 0x22 0xa0)), closed)

abbrev start : Event
start = (PhoneAirPdu 0 1 Srb1 (pdu 0 (rrc_command 0x22 1)), closed)

abbrev handed_over : ℕ → Event
handed_over ncc = (PhoneAirPdu 0 1 Srb1 (pdu 1 []), Opened (handover ncc 0x22))

abbrev secured : Phone Term ℕ
secured = after new (authentication ∷ command ∷ [])

abbrev linked : Phone Term ℕ
linked = after new (authentication ∷ command ∷ start ∷ [])

-- what is told of a step: answer, text sent, keys derived, note
abbrev Told : Type 0
Told = Answer × Option (List ℕ) × List Term × Option (ℕ × Way × Term)

abbrev told : Phone Term ℕ → List Event → List Told
told s es = map (λ (x : Reply Term ℕ). (x.answer, text_sent x, outs x, note_of x)) (replies s es)

abbrev kenb : Term
kenb = Kenb root 0

abbrev as_keys : Term → List Term
as_keys key = Alg key 3 2 ∷ Alg key 4 2 ∷ Alg key 5 2 ∷ []

-- from an authentication to a handover within the chain number
abbrev ordinary : List Told
ordinary =
    (Done, None, [], None)
    ∷ (Done, Some (2 ∷ []), kenb ∷ Alg root 1 2 ∷ Alg root 2 2 ∷ [], None)
    ∷ (Done, Some (2 ∷ []), as_keys kenb, Some (0, Initial, kenb))
    ∷ (Done, Some (4 ∷ []), Star kenb 11 101 ∷ as_keys (Star kenb 11 101), Some (0, Horizontal, Star kenb 11 101))
    ∷ []

ordinary_steps : told new (authentication ∷ command ∷ start ∷ handed_over 0 ∷ []) ≡ ordinary
unfolding computing
ordinary_steps = refl

-- a handover command two steps ahead: each NH, KeNB* and the keys of it
abbrev second : Term
second = Nh root (Nh root kenb)

abbrev vertical : Told
vertical =
    (Done, Some (4 ∷ []), Nh root kenb ∷ second ∷ Star second 11 101 ∷ as_keys (Star second 11 101), Some (2, Vertical, Star second 11 101))

two_ahead : told linked (handed_over 2 ∷ []) ≡ (vertical ∷ [])
unfolding computing
two_ahead = refl

-- a new context on a connection: no KeNB
new_context : map (λ (x : Reply Term ℕ). outs x) (replies linked (authentication ∷ command ∷ [])) ≡ ([] ∷ (Alg root 1 2 ∷ Alg root 2 2 ∷ []) ∷ [])
unfolding computing
new_context = refl

-- inputs one after the other, each with its answer and the text that is sent
abbrev Case : Type 0
Case = Event × Answer × Option (List ℕ)

abbrev Brief : Type 0
Brief = Answer × Option (List ℕ)

abbrev wanted : List Case → List Brief
wanted cases = map (λ (x : Case). let brief : Brief = (x.1, x.2) in brief) cases

abbrev given : Phone Term ℕ → List Case → List Brief
given s cases = map (λ (x : Reply Term ℕ). let brief : Brief = (x.answer, text_sent x) in brief) (replies s (map (λ (x : Case). x.0) cases))

abbrev nas : ℕ → ℕ → List ℕ → Event
nas first sn text = (PhoneNasPdu (message first sn text), closed)

abbrev act : PhoneAct → Event
act a = (PhoneActs a, closed)

-- a phone that was never authenticated
abbrev unknown : List Case
unknown =
    ((PhoneNasPdu [], closed), Short, None)
    ∷ ((PhoneNasPdu (0x00 ∷ []), closed), BadHeader 0x00, None)
    ∷ ((PhoneNasPdu (0x47 ∷ []), closed), BadHeader 0x47, None)
    ∷ ((PhoneNasPdu (0x37 ∷ []), closed), Short, None)
    ∷ (command, NoContext, None)
    ∷ (nas 0x27 0 [], NoContext, None)
    ∷ (start, NotConnected, None)
    ∷ (act ServiceRequest, NoContext, None)
    ∷ (act ResendComplete, NotConnected, None)
    ∷ (act GoIdle, NotConnected, None)
    ∷ (act (SendNas []), NoContext, None)
    ∷ (act (Skip None 1), NoContext, None)
    ∷ []

unknown_phone : given new unknown ≡ wanted unknown
unfolding computing
unknown_phone = refl

-- commands that are refused, by a phone without EEA2
abbrev macs_differ : Outcome
macs_differ = Differs (1 ∷ 1 ∷ 1 ∷ 1 ∷ []) (0 ∷ 0 ∷ 0 ∷ 0 ∷ [])

abbrev mac_fails : ℕ → Answer
mac_fails count = MacFails count (1 ∷ 1 ∷ 1 ∷ 1 ∷ []) (0 ∷ 0 ∷ 0 ∷ 0 ∷ [])

abbrev own : Caps
own = record { eea = 0x80; eia = 0x20 }

abbrev plain_reject : ℕ → Option (List ℕ)
plain_reject cause = Some (7 ∷ 3 ∷ cause ∷ [])

abbrev commands : List Case
commands =
    (nas 0x37 0 [], BadRecord faults.Short, None)
    ∷ (nas 0x37 0 (2 ∷ []), WrongKind 2, None)
    ∷ (nas 0x37 0 (nas_command 1 0x22 0xa0), WrongKsi 0 1, plain_reject 24)
    ∷ (nas 0x37 0 (nas_command 0 0x22 0xa0), AlgUnsupported (record { eea = Eea2 }), plain_reject 24)
    ∷ ((PhoneNasPdu (message 0x37 9 (nas_command 0 0x02 0xa0)), macs_differ), mac_fails 9, plain_reject 24)
    ∷ (nas 0x37 0 (nas_command 0 0x02 0xa0), CapsMismatch own caps, plain_reject 23)
    ∷ (nas 0x37 0 (nas_command 0 0x02 0x80), Done, Some (2 ∷ []))
    ∷ []

refused_commands : given (after (first_phone own) (authentication ∷ [])) commands ≡ wanted commands
unfolding computing
refused_commands = refl

-- under a context a SECURITY MODE REJECT takes its COUNT, until none is left
abbrev under_context : List Case
under_context =
    (nas 0x37 0 (nas_command 1 0x22 0xa0), WrongKsi 0 1, Some (3 ∷ 24 ∷ []))
    ∷ (act (Skip None (2 ^ 32 - 1)), Done, None)
    ∷ (nas 0x37 0 (nas_command 1 0x22 0xa0), WrongKsi 0 1, None)
    ∷ (act ServiceRequest, CountSpent, None)
    ∷ (act (SendNas []), CountSpent, None)
    ∷ ((PhoneNasPdu (message 0x27 3 []), macs_differ), mac_fails 259, None)
    ∷ ((PhoneNasPdu (message 0x27 3 []), Opened (3 ∷ 24 ∷ [])), WrongKind 3, None)
    ∷ ((PhoneNasPdu (message 0x27 3 []), Opened (5 ∷ 9 ∷ [])), Done, None)
    ∷ []

rejects_under_context : given
    (after new
    (authentication ∷ (PhoneNasPdu (message 0x37 4 (nas_command 0 0x22 0xa0)), closed) ∷ authentication ∷ []))
    under_context
    ≡ wanted under_context
unfolding computing
rejects_under_context = refl

-- a phone that waits for the security of its connection
abbrev on_srb1 : List ℕ → Outcome → Event
on_srb1 octets outcome = (PhoneAirPdu 0 1 Srb1 octets, outcome)

abbrev waiting : List Case
waiting =
    ((PhoneAirPdu 0 1 Srb2 (pdu 0 []), closed), NotConnected, None)
    ∷ ((PhoneAirPdu 0 1 Drb1 (pdu 0 []), closed), NotConnected, None)
    ∷ (on_srb1 (0 ∷ []) closed, Short, None)
    ∷ (on_srb1 (pdu 32 []) closed, BadHeader 32, None)
    ∷ (on_srb1 (pdu 0 []) closed, BadRecord faults.Short, None)
    ∷ (on_srb1 (pdu 0 (2 ∷ [])) closed, WrongKind 2, None)
    ∷ (on_srb1 (pdu 5 (rrc_command 0x22 1)) macs_differ, mac_fails 5, None)
    ∷ (on_srb1 (pdu 0 (rrc_command 0x22 2)) closed, NotAddressed, None)
    ∷ (act (SendUser Drb1 []), NotConnected, None)
    ∷ (act (Skip (Some Srb1) 1), NotConnected, None)
    ∷ (act ServiceRequest, Done, Some (4 ∷ []))
    ∷ (act GoIdle, Done, None)
    ∷ []

waiting_phone : given secured waiting ≡ wanted waiting
unfolding computing
waiting_phone = refl

-- a phone with a connection
abbrev connected : List Case
connected =
    (act ServiceRequest, AlreadyConnected, None)
    ∷ (act ResendComplete, NothingToResend, None)
    ∷ ((PhoneAirPdu 1 1 Drb1 [], closed), NotAddressed, None)
    ∷ ((PhoneAirPdu 0 2 Srb1 [], closed), NotAddressed, None)
    ∷ ((PhoneAirPdu 0 1 Drb1 (0 ∷ 0 ∷ []), closed), BadHeader 0, None)
    ∷ (on_srb1 (pdu 1 []) macs_differ, mac_fails 1, None)
    ∷ (on_srb1 (pdu 0 []) macs_differ, mac_fails 32, None)
    ∷ (on_srb1 (pdu 1 []) closed, BadRecord faults.Short, None)
    ∷ (on_srb1 (pdu 1 []) (Opened (2 ∷ [])), WrongKind 2, None)
    ∷ ((PhoneAirPdu 0 1 Srb2 (pdu 0 []), Opened (handover 0 0x22)), WrongKind 3, None)
    ∷ (act (SendUser Srb1 (9 ∷ [])), Done, None)
    ∷ (act (SendRrc Drb1 (9 ∷ [])), Done, None)
    ∷ (act (SendRrc Srb2 (9 ∷ [])), Done, Some (5 ∷ 9 ∷ []))
    ∷ (act (Skip (Some Drb1) (2 ^ 32 - 1)), Done, None)
    ∷ (act (SendUser Drb1 (9 ∷ [])), Done, Some (9 ∷ []))
    ∷ (act (SendUser Drb1 (9 ∷ [])), CountSpent, None)
    ∷ []

connected_phone : given linked connected ≡ wanted connected
unfolding computing
connected_phone = refl

-- a completion that is sent again takes the next COUNT of SRB1
abbrev count_sent : Reply Term ℕ → Option ℕ
count_sent x = option_and_then (λ o. option_map (λ (u : KeyUse Term). u.count) (integrity_of o)) x.sent

sent_again : map count_sent (replies linked (handed_over 0 ∷ act ResendComplete ∷ [])) ≡ (Some 0 ∷ Some 1 ∷ [])
unfolding computing
sent_again = refl

-- a long packet is cut
long_packet : map (λ (x : Reply Term ℕ). option_map length x.opened)
    (replies linked ((PhoneAirPdu 0 1 Drb1 (128 ∷ 0 ∷ []), Opened (replicate 1501 7)) ∷ []))
    ≡ (Some 1500 ∷ [])
unfolding computing
long_packet = refl
