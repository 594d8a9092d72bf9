-- What a NAS message comes to, as the phone's table has it (TS 24.301 4.4.3 to 4.4.5 and 5.4.3).
use Rattle.std.specs.Prelude.{ℕ, ◌<◌, ◌≤◌, List, Option, Some, None, option_map, Result}
use Rattle.lte_events.specs.{declared.answers.Answer.Answer, declared.answers.Answer.TheVariants.CapsMismatch, declared.replies.ActorOut.ActorOut}
use Rattle.key_model.specs.Reading.{octet_reading}
use Rattle.nas_count.specs.Estimate.{nas_count_limit}
use Rattle.lte_machine.specs.{Calls.actor_out, Calls.use_out, Ciphers.annex_b, PhoneKeys.nas_expects, PhoneKeys.nas_does, Reply.unseen}
use Rattle.lte_machine.specs.Opening.{Opening, Outcome, accepted_of, open_octets}
use Rattle.lte_machine.specs.PhoneState.{Partial, NasContext, Radio, Phone, map_partial, map_context, map_radio}
use Rattle.lte_machine.specs.PhoneRows.{NasRow, NasRefused, NasOpened}
use Rattle.lte_machine.specs.PhoneChoice.{NasFront, nas_row, rejected, context_row, nas_by_header, capabilities_mismatch, rejected_unspecified}
use Rattle.rec_base.specs.declared.uses.Use.{Use}
use Rattle.nas_smc.specs.{declared.judging.Judged.Judged, declared.judging.Verdict.Verdict, PhoneNas.NasPart, PhoneNas.phone_of}
use Rattle.nas_smc.specs.declared.judging.Verdict as verdicts

-- the contexts without their keys
abbrev pub plain_partial : NasPart → Option (Partial (Unit {0}))
plain_partial s = option_map (map_partial unseen) s.partial

abbrev pub plain_context : NasPart → Option (NasContext (Unit {0}))
plain_context s = option_map (map_context unseen) s.context

-- the radio part without its keys
abbrev pub plain_radio : Radio (List ℕ) ℕ → Radio (Unit {0}) ℕ
plain_radio radio = map_radio unseen octet_reading.ncc radio

-- the cause of a SECURITY MODE REJECT (9.9.3.9)
abbrev pub cause_of : Answer → ℕ
cause_of (CapsMismatch own got) = capabilities_mismatch
cause_of other = rejected_unspecified

-- the row of the table for a verdict
abbrev pub row_of : Option (NasContext (Unit {0})) → Radio (Unit {0}) ℕ → Verdict → NasRow
row_of context radio (verdicts.TheVariants.Refused answer) = NasRefused answer
row_of context radio (verdicts.TheVariants.Rejected answer) = rejected answer (cause_of answer) context
row_of context radio (verdicts.TheVariants.Taken algs count) = context_row algs count radio
row_of context radio (verdicts.TheVariants.Opened count text) = NasOpened count text

-- a COUNT that was found is one of 24 bits, at or above the next one
abbrev pub CountFits : Option (NasContext (List ℕ)) → Verdict → Type 0
CountFits context (verdicts.TheVariants.Taken algs count) = count < nas_count_limit
CountFits (Some c) (verdicts.TheVariants.Opened count text) = (c.receive ≤ count) × (count < nas_count_limit)
CountFits context other = Unit {0}

-- how far a message is looked at before it is opened, what would be opened, and how that comes out
abbrev pub front_of : NasPart → List ℕ → Result ℕ Answer → NasFront
front_of s pdu header = nas_by_header s.caps (plain_partial s) (plain_context s) pdu header

abbrev pub opening_at : NasPart → Radio (List ℕ) ℕ → NasFront → Opening (List ℕ)
opening_at s radio front = nas_expects octet_reading front (phone_of s radio)

abbrev pub outcome_at : NasPart → Radio (List ℕ) ℕ → NasFront → List ℕ → Outcome
outcome_at s radio front pdu = open_octets annex_b (opening_at s radio front) pdu

-- the row of a message
abbrev pub row_at : NasPart → Radio (List ℕ) ℕ → NasFront → List ℕ → NasRow
row_at s radio front pdu = nas_row s.caps (plain_context s) (plain_radio radio) front (outcome_at s radio front pdu)

-- the integrity use of a message whose MAC was right
abbrev pub accepted_at : NasPart → Radio (List ℕ) ℕ → NasFront → List ℕ → Option Use
accepted_at s radio front pdu = option_map use_out (accepted_of (opening_at s radio front) (outcome_at s radio front pdu))

-- the phone after a verdict, and its reply
abbrev pub done_by : NasPart → Radio (List ℕ) ℕ → Judged → Phone (List ℕ) ℕ × ActorOut
done_by s radio j =
    let done = nas_does octet_reading (row_of (plain_context s) (plain_radio radio) j.verdict) (phone_of s radio) in
    (done.0, record (actor_out done.1) { received = None; accepted = j.accepted })
