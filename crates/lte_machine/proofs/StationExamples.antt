-- Short runs of one station in terms, input by input: what it answers, and the key of each note.
use Rattle.std.specs.Prelude.{◌≡◌, ℕ, ◌+◌, ◌-◌, zero, suc, List, [], ◌∷◌, ◌++◌, Option, Some, None, option_map, Ok}
use Rattle.std.proofs.Common.{refl}
use Rattle.alg_choice.specs.{declared.algs.Algs.Algs, declared.caps.Caps.Caps, Bits.has_bit, Choice.choice_of}
use Rattle.alg_choice.specs.declared.algs.Eea.TheVariants.{Eea0, Eea2}
use Rattle.annex_a_keys.specs.Cell.{Place}
use Rattle.rec_base.specs.declared.bearers.Bearer.TheVariants.{Srb1, Srb2, Drb1}
use Rattle.rec_base.specs.declared.ways.Way.{Way}
use Rattle.rec_base.specs.declared.ways.Way.TheVariants.{Given, Horizontal, Vertical, Completed}
use Rattle.rec_base.specs.BigEndian.{number_at, number_of, field_at}
use Rattle.rec_fields.specs.Field.{of_size, rest_at}
use Rattle.rec_fields.specs.Form.{read_as}
use Rattle.lte_events.specs.{declared.acts.HoKind.HoKind, declared.acts.StationAct.StationAct, declared.answers.Answer.Answer, Site.Site}
use Rattle.lte_events.specs.declared.acts.StationAct.TheVariants.{Start, Command, Cancel, Ask, SendUser, SendRrc, Skip}
use Rattle.lte_events.specs.declared.answers.Answer.TheVariants.{Done, BadHeader, MacFails, CountSpent, NoAlgorithm, WrongKind, NotAddressed, NoUe, Stale, OldConnection, NotActive, UnknownCell, NoPathSwitch, AttemptOpen, NoAttempt, CommandSent, Repeated, PrepFull, NotReady, NumberSpent}
use Rattle.key_model.specs.{Least.least, Reading.term_reading}
use Rattle.key_model.specs.Term.{Term, Root, Kenb, Nh, Star}
use Rattle.pdcp_guard.specs.{Counts.in_32_bits, Drb.drb_count, Srb.srb_count}
use Rattle.rrc_rec.specs.Reading.{read_rrc}
use Rattle.s1x2_rec.specs.Fields.{Fields, InitialContext, ContextRelease, PathSwitchAnswer, HandoverRequest, HandoverCommand, HandoverCancel, X2Request, X2Ack, X2Cancel, X2Release}
use Rattle.lte_machine.specs.Opening.{Outcome, Opened, Differs}
use Rattle.lte_machine.specs.StationState.{Station, StationInput, StationActs, AirPdu, StationRecord, Interface, OnS1, OnX2, first_station}
use Rattle.lte_machine.specs.StationStep.{station_step}

-- two stations, each with one cell
abbrev place : ℕ → Place
place id = record { pci = 10 + id; earfcn = 100 + id }

abbrev table : List Site
table = record { station = 0; cell = place 0 } ∷ record { station = 1; cell = place 1 } ∷ []

abbrev caps : Caps
caps = record { eea = 0xa0; eia = 0x20 }

abbrev none : Caps
none = record { eea = 0xa0; eia = 0 }

abbrev second : Algs
second = record { eea = Eea2 }

abbrev first_of : ℕ → ℕ → Station Term ℕ
first_of id next = first_station id table (Eea2 ∷ Eea0 ∷ []) next

-- the chain of one connection
abbrev root : Term
root = Root 0 []

abbrev kenb : Term
kenb = Kenb root 0

abbrev nh1 : Term
nh1 = Nh root kenb

abbrev nh2 : Term
nh2 = Nh root nh1

-- inputs, each with how its opening comes out
abbrev Input : Type 0
Input = StationInput Term ℕ × Outcome

abbrev bare_record : Interface → Fields → Input
bare_record on fields = (StationRecord on (Ok (record { fields = fields; key = None })), Opened [])

abbrev keyed : Interface → Fields → Term → ℕ → Input
keyed on fields key number =
    (StationRecord on (Ok (record { fields = fields; key = Some (record { key = key; number = number }) })), Opened [])

abbrev act : StationAct → Input
act a = (StationActs a, Opened [])

-- an SRB PDU of this sequence number that opens to this text
abbrev rrc : ℕ → ℕ → List ℕ → Input
rrc air number text = (AirPdu air Srb1 (number ∷ 0 ∷ 0 ∷ 0 ∷ 0 ∷ []), Opened text)

-- the answers, with NCC, way and key of each note
abbrev Told : Type 0
Told = Answer × Option (ℕ × Way × Term)

abbrev run : Station Term ℕ → List Input → List Told
run s [] = []
run s (x ∷ xs) =
    let d = station_step term_reading s x.0 x.1 in
    (d.1.answer, option_map (λ n. (n.ncc, n.way, n.key)) d.1.note) ∷ run d.0 xs

abbrev says : Answer → Told
says answer = (answer, None)

abbrev notes : ℕ → Way → Term → Told
notes ncc way key = (Done, Some (ncc, way, key))

-- a source over X2: no handover before its security runs, one attempt, the command again, the release by its number
abbrev source : List Input
source =
    keyed OnS1 (InitialContext 1 (place 1) caps) kenb 0 ∷ keyed OnS1 (InitialContext 1 (place 0) none) kenb 0
    ∷ keyed OnS1 (InitialContext 1 (place 0) caps) kenb 0 ∷ keyed OnS1 (InitialContext 1 (place 0) caps) kenb 0
    ∷ (AirPdu 1 Srb2 (0 ∷ 0 ∷ 0 ∷ 0 ∷ 0 ∷ []), Opened (2 ∷ [])) ∷ act (Start HoKind.X2 (place 1)) ∷ rrc 1 0 (4 ∷ [])
    ∷ (AirPdu 1 Srb1 (0 ∷ 0 ∷ 0 ∷ 0 ∷ 0 ∷ []), Differs (1 ∷ []) (2 ∷ [])) ∷ rrc 1 0 (2 ∷ []) ∷ rrc 1 1 (2 ∷ [])
    ∷ act (Start HoKind.X2 (place 0)) ∷ act (Start HoKind.Intra (place 1)) ∷ act (Start HoKind.S1 (place 2))
    ∷ act Command ∷ act (Start HoKind.X2 (place 1)) ∷ act (Start HoKind.S1 (place 1)) ∷ act Command
    ∷ bare_record OnX2 (X2Ack 1 3 (place 1) second 1) ∷ bare_record OnX2 (X2Ack 1 2 (place 1) second 1)
    ∷ bare_record OnX2 (X2Ack 1 2 (place 1) second 1) ∷ bare_record OnX2 (X2Release 1 2) ∷ act (Skip Srb1 4294967290)
    ∷ act Command ∷ act Command ∷ act (Skip Srb1 9) ∷ act Command ∷ act Cancel ∷ act Ask
    ∷ bare_record OnX2 (X2Release 1 2) ∷ act Command ∷ rrc 1 2 (5 ∷ []) ∷ []

source_runs : run (first_of 0 1) source ≡
    says UnknownCell ∷ says NoAlgorithm
    ∷ notes 0 Given kenb ∷ says (OldConnection 1 1)
    ∷ says NotActive ∷ says NotActive ∷ says (WrongKind 4)
    ∷ says (MacFails 0 (1 ∷ []) (2 ∷ [])) ∷ says Done ∷ says (WrongKind 2)
    ∷ says UnknownCell ∷ says UnknownCell ∷ says UnknownCell
    ∷ says NoAttempt ∷ notes 0 Horizontal (Star kenb 11 101) ∷ says (AttemptOpen 2) ∷ says NotReady
    ∷ says NoAttempt ∷ says Done
    ∷ says (Repeated 2 2) ∷ says NoAttempt ∷ says Done
    ∷ says Done ∷ says Done ∷ says Done ∷ says CountSpent ∷ says CommandSent ∷ says NoPathSwitch
    ∷ says Done ∷ says NoUe ∷ says NotAddressed ∷ []
unfolding read_rrc read_as of_size rest_at number_at number_of field_at srb_count in_32_bits least choice_of has_bit
source_runs = refl

-- a target over X2 with the answer to its path switch request: the pair is used vertically within the station, goes back
-- with the attempt, and is used again; then a horizontal handover of what it gave
abbrev target : List Input
target =
    keyed OnX2 (X2Request 1 0 2 (place 1) caps) (Star kenb 11 101) 0
    ∷ keyed OnX2 (X2Request 1 0 2 (place 1) caps) (Star kenb 11 101) 0
    ∷ (AirPdu 1 Srb2 (0 ∷ 0 ∷ 0 ∷ 0 ∷ 0 ∷ []), Opened (4 ∷ [])) ∷ rrc 1 0 (5 ∷ []) ∷ rrc 1 0 (4 ∷ []) ∷ rrc 1 1 (4 ∷ [])
    ∷ keyed OnS1 (PathSwitchAnswer 1 1) nh1 1 ∷ act Ask ∷ keyed OnS1 (PathSwitchAnswer 1 2) nh1 1
    ∷ keyed OnS1 (PathSwitchAnswer 1 3) nh2 2 ∷ keyed OnS1 (PathSwitchAnswer 1 3) nh2 2
    ∷ act (Start HoKind.Intra (place 1)) ∷ act Cancel ∷ rrc 5 0 (4 ∷ []) ∷ act (Start HoKind.Intra (place 1))
    ∷ bare_record OnX2 (X2Ack 1 6 (place 1) second 7) ∷ act Command ∷ rrc 7 0 (4 ∷ []) ∷ rrc 1 2 (5 ∷ []) ∷ act Ask
    ∷ act (Start HoKind.X2 (place 0)) ∷ keyed OnX2 (X2Request 0 0 3 (place 1) caps) kenb 0
    ∷ bare_record OnS1 (ContextRelease 2) ∷ bare_record OnS1 (ContextRelease 1) ∷ bare_record OnS1 (ContextRelease 1) ∷ []

target_runs : run (first_of 1 1) target ≡
    notes 0 Given (Star kenb 11 101)
    ∷ says (Repeated 2 2)
    ∷ says NotActive ∷ says NotActive ∷ notes 0 Completed (Star kenb 11 101) ∷ says Done
    ∷ says (Stale 2 1) ∷ says Done ∷ says (Stale 3 2)
    ∷ says Done ∷ says (Stale 0 3)
    ∷ notes 2 Vertical (Star nh2 11 101) ∷ says Done ∷ says NotAddressed ∷ notes 2 Vertical (Star nh2 11 101)
    ∷ says NoAttempt ∷ says Done ∷ notes 2 Completed (Star nh2 11 101) ∷ says NotAddressed ∷ says Done
    ∷ notes 2 Horizontal (Star (Star nh2 11 101) 10 100) ∷ says (OldConnection 1 0)
    ∷ says (OldConnection 1 2) ∷ says Done ∷ says NoUe ∷ []
unfolding read_rrc read_as of_size rest_at number_at number_of field_at srb_count in_32_bits least choice_of has_bit
target_runs = refl

-- an S1 handover at its source, where the stored pair stays, and at its target; cancels
abbrev over_s1 : List Input
over_s1 =
    keyed OnS1 (InitialContext 1 (place 0) caps) kenb 0 ∷ rrc 1 0 (2 ∷ []) ∷ act (Start HoKind.S1 (place 1))
    ∷ bare_record OnX2 (X2Ack 1 2 (place 1) second 1) ∷ act Cancel ∷ act (Start HoKind.S1 (place 1))
    ∷ bare_record OnS1 (HandoverCommand 1 3 (place 1) 1 second 1) ∷ act Command
    ∷ bare_record OnS1 (HandoverCommand 1 3 (place 1) 1 second 1) ∷ bare_record OnX2 (X2Release 1 3)
    ∷ keyed OnS1 (HandoverRequest 1 1 4 (place 0) caps) nh1 1 ∷ keyed OnX2 (X2Request 1 1 4 (place 0) caps) nh1 1
    ∷ bare_record OnX2 (X2Cancel 1 1 5) ∷ bare_record OnX2 (HandoverCancel 1 1 4 (place 0))
    ∷ bare_record OnS1 (HandoverCancel 1 1 4 (place 0)) ∷ keyed OnS1 (HandoverRequest 1 1 5 (place 0) caps) nh2 2
    ∷ rrc 5 0 (4 ∷ []) ∷ act Ask ∷ keyed OnS1 (PathSwitchAnswer 1 1) nh2 2 ∷ []

over_s1_runs : run (first_of 0 1) over_s1 ≡
    notes 0 Given kenb ∷ says Done ∷ says Done
    ∷ says NoAttempt ∷ says Done ∷ says Done
    ∷ says Done ∷ says Done
    ∷ says (Repeated 3 3) ∷ says NoAttempt
    ∷ notes 1 Vertical (Star nh1 10 100) ∷ says (Repeated 4 4)
    ∷ says NoAttempt ∷ says (WrongKind 0x29)
    ∷ says Done ∷ notes 2 Vertical (Star nh2 10 100)
    ∷ notes 2 Completed (Star nh2 10 100) ∷ says NoPathSwitch ∷ says (Stale 0 1) ∷ []
unfolding read_rrc read_as of_size rest_at number_at number_of field_at srb_count in_32_bits least choice_of has_bit
over_s1_runs = refl

-- the last two numbers: a handover within the station draws two or none; a preparation by X2 needs one more to complete
abbrev last_numbers : List Input
last_numbers =
    keyed OnS1 (InitialContext 1 (place 0) caps) kenb 0 ∷ rrc 4294967294 0 (2 ∷ []) ∷ act (Start HoKind.Intra (place 0))
    ∷ keyed OnX2 (X2Request 1 1 1 (place 0) caps) kenb 0 ∷ keyed OnX2 (X2Request 1 1 2 (place 0) caps) kenb 0
    ∷ rrc 4294967295 0 (4 ∷ []) ∷ rrc 4294967295 0 (4 ∷ []) ∷ act (Start HoKind.X2 (place 1))
    ∷ act (SendUser Drb1 (1 ∷ [])) ∷ act (SendUser Srb1 (1 ∷ [])) ∷ act (SendRrc Srb1 (1 ∷ []))
    ∷ (AirPdu 4294967294 Drb1 (0 ∷ 0 ∷ []), Opened []) ∷ (AirPdu 4294967294 Drb1 (128 ∷ 9 ∷ []), Opened []) ∷ []

last_numbers_run : run (first_of 0 4294967294) last_numbers ≡
    notes 0 Given kenb ∷ says Done ∷ says NumberSpent
    ∷ notes 0 Given kenb ∷ says NumberSpent
    ∷ says NumberSpent ∷ says NumberSpent ∷ says NumberSpent
    ∷ says Done ∷ says Done ∷ says Done
    ∷ says (BadHeader 0) ∷ says Done ∷ []
unfolding read_rrc read_as of_size rest_at number_at number_of field_at srb_count
    drb_count in_32_bits least choice_of has_bit
last_numbers_run = refl

-- eight preparations of the last connection
abbrev requests : ℕ → List Input
requests zero = []
requests (suc n) = keyed OnX2 (X2Request 1 1 (9 - n) (place 0) caps) kenb 0 ∷ requests n

abbrev full : List Input
full =
    requests 9 ++ keyed OnX2 (X2Request 2 1 9 (place 0) caps) kenb 0
    ∷ keyed OnS1 (HandoverRequest 1 2 1 (place 0) caps) nh1 1 ∷ rrc 8 0 (4 ∷ []) ∷ rrc 9 0 (4 ∷ []) ∷ []

full_runs : run (first_of 0 1) full ≡
    notes 0 Given kenb ∷ notes 0 Given kenb ∷ notes 0 Given kenb ∷ notes 0 Given kenb
    ∷ notes 0 Given kenb ∷ notes 0 Given kenb ∷ notes 0 Given kenb ∷ notes 0 Given kenb ∷ says PrepFull
    ∷ notes 0 Given kenb ∷ says (OldConnection 2 1) ∷ says NotAddressed ∷ notes 0 Completed kenb ∷ []
unfolding read_rrc read_as of_size rest_at number_at number_of field_at srb_count in_32_bits least choice_of has_bit
full_runs = refl

-- a preparation that becomes the context, over S1 and within the station, leaves no other
abbrev beside_s1 : List Input
beside_s1 =
    keyed OnX2 (X2Request 1 0 2 (place 1) caps) (Star kenb 11 101) 0
    ∷ keyed OnS1 (HandoverRequest 1 0 3 (place 1) caps) nh1 1
    ∷ keyed OnX2 (X2Request 1 0 4 (place 1) caps) (Star kenb 11 101) 0
    ∷ rrc 2 0 (4 ∷ []) ∷ rrc 1 0 (4 ∷ []) ∷ rrc 3 0 (4 ∷ []) ∷ []

beside_s1_runs : run (first_of 1 1) beside_s1 ≡
    notes 0 Given (Star kenb 11 101) ∷ notes 1 Vertical (Star nh1 11 101) ∷ notes 0 Given (Star kenb 11 101)
    ∷ notes 1 Completed (Star nh1 11 101) ∷ says NotAddressed ∷ says NotAddressed ∷ []
unfolding read_rrc read_as of_size rest_at number_at number_of field_at srb_count in_32_bits least choice_of has_bit
beside_s1_runs = refl

abbrev within : List Input → List Input
within more =
    keyed OnS1 (InitialContext 1 (place 0) caps) kenb 0 ∷ rrc 1 0 (2 ∷ [])
    ∷ keyed OnX2 (X2Request 1 1 4 (place 0) caps) kenb 0 ∷ act (Start HoKind.Intra (place 0)) ∷ more

beside_within_runs : run (first_of 0 1) (within (act Command ∷ rrc 4 0 (4 ∷ []) ∷ rrc 2 0 (4 ∷ []) ∷ [])) ≡
    notes 0 Given kenb ∷ says Done ∷ notes 0 Given kenb ∷ notes 0 Horizontal (Star kenb 10 100)
    ∷ says Done ∷ notes 0 Completed (Star kenb 10 100) ∷ says NotAddressed ∷ []
unfolding read_rrc read_as of_size rest_at number_at number_of field_at srb_count in_32_bits least choice_of has_bit
beside_within_runs = refl

-- a cancel within the station drops its own preparation and no other
cancelled_within_runs : run (first_of 0 1) (within (act Cancel ∷ rrc 4 0 (4 ∷ []) ∷ rrc 2 0 (4 ∷ []) ∷ [])) ≡
    notes 0 Given kenb ∷ says Done ∷ notes 0 Given kenb ∷ notes 0 Horizontal (Star kenb 10 100)
    ∷ says Done ∷ says NotAddressed ∷ notes 0 Completed kenb ∷ []
unfolding read_rrc read_as of_size rest_at number_at number_of field_at srb_count in_32_bits least choice_of has_bit
cancelled_within_runs = refl
