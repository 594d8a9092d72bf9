-- What a NAS message comes to, as the core's table has it (TS 24.301 4.4.3 to 4.4.5 and 5.4.3).
use Rattle.std.specs.Prelude.{◌≡◌, ℕ, ◌<◌, ◌≤◌, Bool, true, false, List, Option, Some, None, option_map, Result}
use Rattle.lte_events.specs.{declared.answers.Answer.Answer, declared.replies.ActorOut.ActorOut}
use Rattle.key_model.specs.Reading.{octet_reading}
use Rattle.nas_count.specs.Estimate.{nas_count_limit}
use Rattle.nas_guard.specs.Keys.{Keys, map_keys}
use Rattle.lte_machine.specs.{Calls.actor_out, Calls.use_out, Ciphers.annex_b, CoreKeys.core_nas_expects, CoreKeys.core_does_nas, Reply.unseen}
use Rattle.lte_machine.specs.CoreChoice.{CoreNasFront, core_nas_front, core_nas_row, completed_row}
use Rattle.lte_machine.specs.CoreRows.{CoreNasRow, NasRefused, PlainReject, ServiceAsked, NasOpened, SealedReject}
use Rattle.lte_machine.specs.CoreState.{Core, CoreContext, CoreLink, map_core_context, map_core_link}
use Rattle.lte_machine.specs.Opening.{Opening, Outcome, accepted_of, open_octets}
use Rattle.rec_base.specs.declared.uses.Use.{Use}
use Rattle.nas_smc.specs.declared.core_judging.CoreVerdict.{CoreVerdict}
use Rattle.nas_smc.specs.declared.core_judging.CoreVerdict as verdicts
use Rattle.nas_smc.specs.CoreNas.{CorePart, CoreRest, core_of, procedure_in}

-- the procedure, the context and the connection without their keys
abbrev pub plain_procedure : CorePart → Option (Keys (Unit {0}))
plain_procedure s = option_map (map_keys unseen) (procedure_in s.left)

abbrev pub plain_context : CorePart → Option (CoreContext (Unit {0}))
plain_context s = option_map (map_core_context unseen) s.context

abbrev pub plain_link : CoreRest → Option (CoreLink (Unit {0}) ℕ)
plain_link rest = option_map (map_core_link unseen octet_reading.ncc) rest.link

-- the row of the table for a verdict
abbrev pub row_of : CoreRest → CoreVerdict → CoreNasRow
row_of rest (verdicts.TheVariants.Refused answer) = NasRefused answer
row_of rest verdicts.TheVariants.Closed = PlainReject
row_of rest (verdicts.TheVariants.Completed count) = completed_row count rest.next (plain_link rest)
row_of rest (verdicts.TheVariants.Asked count) = ServiceAsked count
row_of rest (verdicts.TheVariants.Opened count text) = NasOpened count text
row_of rest (verdicts.TheVariants.Rejected count) = SealedReject count

-- a COUNT that was found is one of 24 bits; under the context in use it is at or above the next one, and a new context comes
-- with the procedure that is open
abbrev pub FitsContext : Option (CoreContext (List ℕ)) → ℕ → Type 0
FitsContext None count = ⊥
FitsContext (Some c) count = (c.nas.receive ≤ count) × (count < nas_count_limit)

abbrev pub IsOpen : Option (Keys (List ℕ)) → Type 0
IsOpen None = ⊥
IsOpen (Some keys) = Unit {0}

abbrev pub CountFits : CorePart → CoreVerdict → Type 0
CountFits s (verdicts.TheVariants.Completed count) = (count < nas_count_limit) × IsOpen (procedure_in s.left)
CountFits s (verdicts.TheVariants.Asked count) = FitsContext s.context count
CountFits s (verdicts.TheVariants.Opened count text) = FitsContext s.context count
CountFits s (verdicts.TheVariants.Rejected count) = FitsContext s.context count
CountFits s other = Unit {0}

-- which verdicts there are on a message with a new context, and which on others
abbrev pub IsOfKind : Bool → CoreVerdict → Type 0
IsOfKind new (verdicts.TheVariants.Completed count) = new ≡ true
IsOfKind new (verdicts.TheVariants.Asked count) = new ≡ false
IsOfKind new other = Unit {0}

-- how far a message is looked at before it is opened, what would be opened, and how that comes out
abbrev pub front_of : CorePart → List ℕ → Result ℕ Answer → CoreNasFront
front_of s pdu header = core_nas_front (plain_procedure s) (plain_context s) pdu header

abbrev pub opening_at : CorePart → CoreRest → CoreNasFront → Opening (List ℕ)
opening_at s rest front = core_nas_expects front (core_of s rest)

abbrev pub outcome_at : CorePart → CoreRest → CoreNasFront → List ℕ → Outcome
outcome_at s rest front pdu = open_octets annex_b (opening_at s rest front) pdu

-- the row of a message
abbrev pub row_at : CorePart → CoreRest → CoreNasFront → List ℕ → CoreNasRow
row_at s rest front pdu = core_nas_row (plain_procedure s) rest.next (plain_link rest) front (outcome_at s rest front pdu)

-- the integrity use of a message whose MAC was right
abbrev pub accepted_at : CorePart → CoreRest → CoreNasFront → List ℕ → Option Use
accepted_at s rest front pdu = option_map use_out (accepted_of (opening_at s rest front) (outcome_at s rest front pdu))

-- the core after a row, and its reply
abbrev pub done_by : CorePart → CoreRest → CoreNasRow → Option Use → Core (List ℕ) ℕ × ActorOut
done_by s rest row accepted =
    let done = core_does_nas octet_reading row (core_of s rest) in
    (done.0, record (actor_out done.1) { received = None; accepted = accepted })
