-- Worked steps of the core, in terms.
use Rattle.std.proofs.Common.{◌≡◌, ℕ, List, [], ◌∷◌, refl}
use Rattle.std.specs.Prelude.{Bool, false, true, Option, Some, None, Ok, Err}
use Rattle.alg_choice.specs.declared.algs.Eea.TheVariants.{Eea0, Eea2}
use Rattle.alg_choice.specs.{declared.caps.Caps.Caps, Bits.has_bit, Choice.choice_of}
use Rattle.annex_a_keys.specs.Cell.{Place}
use Rattle.key_model.specs.{Reading.Reading, Reading.term_reading_by, Least.least}
use Rattle.key_model.specs.Term.{Term, Root, Kenb, Nh, Alg, same_term}
use Rattle.lte_events.specs.declared.acts.CoreAct.TheVariants.{StartSmc, Connect, Release, SendNas, Skip}
use Rattle.lte_events.specs.{declared.addresses.Address.TheVariants.StationS1, declared.answers.Answer.Answer, declared.setups.FirstNcc.FirstNcc}
use Rattle.lte_events.specs.declared.answers.Answer.TheVariants.{Done, NoContext, MacFails, CountSpent, SmcOpen, NoAlgorithm, BadRecord, Short, BadHeader, WrongKind, NoUe, OldConnection, UnknownCell, Repeated, NumberSpent, NoTrigger, NoSmc}
use Rattle.nas_count.specs.Estimate.{estimate_of}
use Rattle.nas_rec.specs.Reading.{read_nas}
use Rattle.rec_base.specs.BigEndian.{number_of, number_at, field_at}
use Rattle.rec_base.specs.{declared.faults.RecFault.RecFault, declared.ways.Way.TheVariants.Chained}
use Rattle.rec_base.specs.declared.faults.RecFault as faults
use Rattle.rec_fields.specs.Field.{of_size, number_in, algs_at, caps_at, rest_at}
use Rattle.rec_fields.specs.Form.{read_as}
use Rattle.s1x2_rec.specs.Fields.{Fields, InitialContext, ContextRelease, PathSwitchRequest, PathSwitchAnswer, HandoverRequired, HandoverRequest, HandoverRequestAck, HandoverCommand, HandoverNotify, HandoverCancel}
use Rattle.lte_machine.specs.{CoreChoice.core_header, CoreStep.core_step, Reply.Note, Wire.Outgoing, Wire.Between}
use Rattle.lte_machine.specs.CoreState.{Core, CoreInput, CoreAuth, CoreActs, CoreNasPdu, CoreRecord, first_core}
use Rattle.lte_machine.specs.Opening.{Outcome, Opened, Differs}

abbrev reading : Reading Term ℕ
reading = term_reading_by same_term

-- an input, with what it opens to
abbrev Given : Type 0
Given = CoreInput Term ℕ × Outcome

-- an input that opens nothing
abbrev settles : CoreInput Term ℕ → Given
settles i = (i, Opened [])

-- a NAS message by its first octet, with what it opens to
abbrev nas : ℕ → Outcome → Given
nas first outcome = (CoreNasPdu (first ∷ 0 ∷ 0 ∷ 0 ∷ 0 ∷ 0 ∷ []), outcome)

abbrev on_s1 : Fields → Given
on_s1 fields = settles (CoreRecord (Ok (record { fields = fields; key = None })))

abbrev answers : Core Term ℕ → List Given → List Answer
answers s [] = []
answers s (given ∷ rest) = let d = core_step reading s given.0 given.1 in d.1.answer ∷ answers d.0 rest

abbrev after : Core Term ℕ → List Given → Core Term ℕ
after s [] = s
after s (given ∷ rest) = after (core_step reading s given.0 given.1).0 rest

abbrev sent_of : Core Term ℕ → List Given → List (Option (Outgoing Term ℕ))
sent_of s [] = []
sent_of s (given ∷ rest) = let d = core_step reading s given.0 given.1 in d.1.sent ∷ sent_of d.0 rest

abbrev notes : Core Term ℕ → List Given → List (Option (Note Term))
notes s [] = []
notes s (given ∷ rest) = let d = core_step reading s given.0 given.1 in d.1.note ∷ notes d.0 rest

abbrev alarms : Core Term ℕ → List Given → List Bool
alarms s [] = []
alarms s (given ∷ rest) = let d = core_step reading s given.0 given.1 in d.1.alarm ∷ alarms d.0 rest

-- two stations with a cell each, and a phone with EEA0, 128-EEA2 and 128-EIA2

abbrev cell0 : Place
cell0 = record { pci = 10; earfcn = 100 }

abbrev cell1 : Place
cell1 = record { pci = 11; earfcn = 101 }

abbrev caps : Caps
caps = record { eea = 0xa0; eia = 0x20 }

abbrev root : Term
root = Root 0 []

abbrev start : Core Term ℕ
start = first_core (record { station = 0; cell = cell0 } ∷ record { station = 1; cell = cell1 } ∷ []) (Eea2 ∷ Eea0 ∷ []) 1 FirstNcc.One

abbrev elsewhere : Place
elsewhere = record { pci = 12; earfcn = 102 }

-- before an authentication all is refused
abbrev early : List Given
early =
    settles (CoreActs StartSmc) ∷ settles (CoreActs (Connect elsewhere)) ∷ settles (CoreActs (Connect cell0))
    ∷ settles (CoreActs Release) ∷ settles (CoreActs (SendNas [])) ∷ settles (CoreActs (Skip 1))
    ∷ settles (CoreNasPdu []) ∷ settles (CoreNasPdu (0x37 ∷ [])) ∷ settles (CoreNasPdu (0x18 ∷ []))
    ∷ settles (CoreNasPdu (0x07 ∷ [])) ∷ settles (CoreNasPdu (0x47 ∷ [])) ∷ nas 0x47 (Opened [])
    ∷ settles (CoreNasPdu (0x17 ∷ [])) ∷ nas 0x27 (Opened [])
    ∷ settles (CoreRecord (Err faults.TheVariants.Long)) ∷ on_s1 (InitialContext 1 cell0 caps)
    ∷ on_s1 (PathSwitchRequest 1 0 1 cell0 caps) ∷ []

refused_early : answers start early ≡
    (NoContext ∷ UnknownCell ∷ NoContext ∷ NoUe ∷ NoContext ∷ NoContext ∷ Short ∷ BadHeader 0x37 ∷ BadHeader 0x18
    ∷ NoSmc ∷ Short ∷ NoSmc ∷ Short ∷ NoContext ∷ BadRecord faults.TheVariants.Long ∷ WrongKind 0x20 ∷ OldConnection 0 1 ∷ [])
unfolding core_header
refused_early = refl

-- the Security Mode procedure, rejected once, to a context in use
abbrev secured : List Given
secured =
    settles (CoreAuth 0 root caps) ∷ settles (CoreActs StartSmc) ∷ settles (CoreActs StartSmc)
    ∷ settles (CoreNasPdu (0x07 ∷ 0x02 ∷ [])) ∷ settles (CoreNasPdu (0x07 ∷ 0x03 ∷ 25 ∷ []))
    ∷ settles (CoreNasPdu (0x07 ∷ 0x03 ∷ 23 ∷ [])) ∷ settles (CoreActs StartSmc)
    ∷ nas 0x47 (Differs (1 ∷ []) (2 ∷ [])) ∷ nas 0x47 (Opened (0x04 ∷ [])) ∷ nas 0x47 (Opened []) ∷ nas 0x47 (Opened (0x02 ∷ [])) ∷ []

answers_secured : answers start secured ≡
    (Done ∷ Done ∷ SmcOpen ∷ WrongKind 0x02 ∷ BadRecord (faults.TheVariants.BadField 1) ∷ Done ∷ Done ∷ MacFails 0 (1 ∷ []) (2 ∷ [])
    ∷ WrongKind 0x04 ∷ BadRecord faults.TheVariants.Short ∷ Done ∷ [])
unfolding core_header estimate_of least choice_of has_bit read_nas number_at number_of field_at
    read_as of_size number_in algs_at caps_at rest_at
answers_secured = refl

-- the core then: its context, whose COUNTs go on behind the two Commands and the Complete, and the trigger
abbrev with_context : Core Term ℕ
with_context = after start secured

context_secured : with_context ≡ record start {
  latest = caps;
  context = Some (record {
    nas = record {
      root = root;
      keys = record { enc = Alg root 1 2; int = Alg root 2 2; algs = record { eea = Eea2 } };
      send = 2;
      receive = 1;
    };
    caps = caps;
  });
  trigger = Some 0;
}
unfolding core_header estimate_of least choice_of has_bit read_nas number_at number_of field_at
    read_as of_size number_in algs_at caps_at rest_at
context_secured = refl

-- NAS messages under the context, and a connection for a Service Request
abbrev connected : List Given
connected =
    settles (CoreActs (Connect cell0)) ∷ settles (CoreActs (Connect cell0))
    ∷ nas 0x17 (Differs (1 ∷ []) (2 ∷ [])) ∷ nas 0x17 (Opened (0x02 ∷ [])) ∷ nas 0x27 (Opened (0x03 ∷ 24 ∷ []))
    ∷ nas 0x27 (Opened (0x05 ∷ 7 ∷ [])) ∷ nas 0x17 (Opened (0x04 ∷ [])) ∷ settles (CoreNasPdu (0x07 ∷ 0x03 ∷ 23 ∷ []))
    ∷ settles (CoreActs (Connect cell0)) ∷ []

answers_connected : answers with_context connected ≡
    (Done ∷ NoTrigger ∷ MacFails 256 (1 ∷ []) (2 ∷ []) ∷ WrongKind 0x02 ∷ NoSmc ∷ Done ∷ Done ∷ NoSmc ∷ Done ∷ [])
unfolding core_header estimate_of least choice_of has_bit read_nas number_at number_of field_at
    read_as of_size number_in algs_at caps_at rest_at
answers_connected = refl

-- connection 2, whose KeNB has the COUNT of the Service Request; a path switch, and a handover through the core
abbrev moved : List Given
moved =
    on_s1 (PathSwitchRequest 1 1 2 cell1 caps) ∷ on_s1 (PathSwitchRequest 2 1 2 cell1 (record { eea = 0x80; eia = 0x20 }))
    ∷ on_s1 (PathSwitchRequest 2 1 2 cell1 caps) ∷ on_s1 (HandoverRequired 2 1 1 elsewhere) ∷ on_s1 (HandoverRequired 2 1 1 cell0)
    ∷ on_s1 (HandoverRequired 2 1 1 cell0) ∷ on_s1 (HandoverRequestAck 2 1 1 cell0 2 (record { eea = Eea2 }) 9)
    ∷ on_s1 (HandoverCancel 2 1 1 elsewhere) ∷ on_s1 (HandoverCancel 2 1 1 cell0) ∷ on_s1 (HandoverNotify 2 0 cell0)
    ∷ settles (CoreActs Release) ∷ settles (CoreActs Release) ∷ []

abbrev with_connection : Core Term ℕ
with_connection = after with_context connected

abbrev kenb : Term
kenb = Kenb root 512

told_moved :
    (answers with_connection moved ≡
    (OldConnection 2 1 ∷ Done ∷ Repeated 2 2 ∷ UnknownCell ∷ Done ∷ Repeated 1 1 ∷ Done ∷ UnknownCell ∷ Done ∷ Done ∷ Done ∷ NoUe ∷ []))
    × (sent_of with_connection moved ≡
    (None ∷ Some (Between (StationS1 1) (PathSwitchAnswer 2 2) (Some (record { key = Nh root kenb; number = 1 })))
    ∷ None ∷ None
    ∷ Some (Between (StationS1 0) (HandoverRequest 2 1 1 cell0 caps) (Some (record { key = Nh root (Nh root kenb); number = 2 })))
    ∷ None ∷ Some (Between (StationS1 1) (HandoverCommand 2 1 cell0 2 (record { eea = Eea2 }) 9) None)
    ∷ None ∷ Some (Between (StationS1 0) (HandoverCancel 2 1 1 cell0) None) ∷ None
    ∷ Some (Between (StationS1 0) (ContextRelease 2) None) ∷ None ∷ []))
    × (notes with_connection moved ≡
    (None ∷ Some (record { ncc = 1; way = Chained; key = Nh root kenb }) ∷ None ∷ None
    ∷ Some (record { ncc = 2; way = Chained; key = Nh root (Nh root kenb) })
    ∷ None ∷ None ∷ None ∷ None ∷ None ∷ None ∷ None ∷ []))
    × (alarms with_connection moved ≡
    (false ∷ true ∷ false ∷ false ∷ false ∷ false ∷ false ∷ false ∷ false ∷ false ∷ false ∷ false ∷ []))
unfolding core_header estimate_of least choice_of has_bit read_nas number_at number_of field_at
    read_as of_size number_in algs_at caps_at rest_at
told_moved = (refl, refl, refl, refl)

-- the last number of a connection, and the end of the downlink COUNTs
abbrev at_the_end : List Given
at_the_end =
    settles (CoreActs (Skip 0xffffffff)) ∷ settles (CoreActs (SendNas [])) ∷ settles (CoreActs (Connect cell0)) ∷ nas 0x17 (Opened (0x04 ∷ []))
    ∷ settles (CoreActs (Connect cell0)) ∷ settles (CoreAuth 1 (Root 1 []) (record { eea = 0x40; eia = 0x20 })) ∷ settles (CoreActs StartSmc) ∷ []

answers_at_the_end : answers (record with_context { next = 0xffffffff }) at_the_end ≡
    (Done ∷ CountSpent ∷ Done ∷ Done ∷ NumberSpent ∷ Done ∷ NoAlgorithm ∷ [])
unfolding core_header estimate_of least choice_of has_bit read_nas number_at number_of field_at
    read_as of_size number_in algs_at caps_at rest_at
answers_at_the_end = refl
