-- The numbers that a refusal of the core tells.
use Rattle.std.proofs.Common.{◌≡◌, ℕ, List, sym, ap, subst}
use Rattle.std.specs.Prelude.{Ok, Err}
use Rattle.key_model.specs.Reading.{octet_reading}
use Rattle.lte_events.specs.{declared.answers.Answer.Answer, declared.inputs.CoreIn.CoreIn, declared.replies.ActorOut.ActorOut}
use Rattle.lte_machine.specs.{Calls.core_call, Calls.core_input, Ciphers.annex_b, CoreChoice.core_fields_row, CoreChoice.core_act_row, Opening.Outcome, Opening.open_octets}
use Rattle.lte_machine.specs.CoreRows.{NasRefused, RecordRefused, ActRefused}
use Rattle.lte_machine.specs.CoreState.{Core, CoreInput, CoreAuth, CoreActs, CoreNasPdu, CoreRecord}
use Rattle.lte_machine.specs.CoreStep.{plain_core, core_opens, core_pdu_in, core_step}
use Rattle.lte_machine.proofs.{ActFacts.ActHas, ActFacts.act_has, S1Facts.RecordHas, S1Facts.record_has}
use Rattle.lte_machine.proofs.CoreRefused.{Ends, IsRefused, IsDone, nas_ends, record_ends, act_ends}
use Rattle.lte_machine.proofs.NasFacts.{NasHas, nas_row, nas_has}
use Rattle.mme_context.specs.Numbers.{Tells}

module _ (s : Core (List ℕ) ℕ) where
  -- a row that is done tells no number, and of a refused one it is known what it tells
  ended : {Row : Type 0} (refused : Answer → Row) (Has : Row → Type 0) (i : CoreInput (List ℕ) ℕ)
      → ((answer : Answer) → Has (refused answer) → Tells s i answer)
      → (row : Row) → Has row → (answer : Answer) → Ends refused row answer → Tells s i answer
  ended refused Has i tells row f answer (IsRefused e) = tells answer (subst Has e f)
  ended refused Has i tells row f answer (IsDone e) = subst (Tells s i) (sym e) tt

  step_tells : (i : CoreInput (List ℕ) ℕ) (outcome : Outcome) → Tells s i (core_step octet_reading s i outcome).1.answer
  step_tells (CoreAuth ksi root caps) outcome = tt
  step_tells (CoreActs act) outcome =
      let row = core_act_row (plain_core octet_reading s) act in
      ended ActRefused (ActHas s act) (CoreActs act) (λ answer f. f) row (act_has octet_reading s act) _ (act_ends octet_reading s row)
  step_tells (CoreNasPdu pdu) outcome =
      let row = nas_row octet_reading s pdu outcome in
      ended NasRefused (NasHas octet_reading s pdu outcome) (CoreNasPdu pdu) (λ answer f. f) row (nas_has octet_reading s pdu outcome) _
      (nas_ends octet_reading s row)
  step_tells (CoreRecord (Err fault)) outcome = tt
  step_tells (CoreRecord (Ok content)) outcome =
      let row = core_fields_row (plain_core octet_reading s) content.fields in
      ended RecordRefused (RecordHas s content.fields) (CoreRecord (Ok content)) (λ answer f. f) row (record_has octet_reading s content.fields) _
      (record_ends octet_reading s row)

pub call_tells : (s t : Core (List ℕ) ℕ) (i : CoreIn) (out : ActorOut) → (t, out) ≡ core_call s i → Tells s (core_input i) out.answer
call_tells s t i out e =
    let input = core_input i in
    let outcome = open_octets annex_b (core_opens octet_reading s input) (core_pdu_in input) in
    subst (Tells s input) (sym (ap (λ d. d.1.answer) e)) (step_tells s input outcome)
