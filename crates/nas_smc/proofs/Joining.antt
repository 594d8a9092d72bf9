-- A verdict and what is done by it are the phone's step.
use Rattle.std.proofs.Common.{◌≡◌, ℕ, List, Option, None, ap, sym, ◌∙◌}
use Rattle.std.specs.Prelude.{Result}
use Rattle.rec_base.specs.declared.uses.Use.{Use}
use Rattle.lte_events.specs.{declared.answers.Answer.Answer, declared.inputs.PhoneIn.TheVariants.Nas}
use Rattle.lte_machine.specs.{PhoneRows.NasRow, Calls.actor_out, Calls.phone_call, PhoneChoice.header_for_phone, PhoneKeys.nas_does, PhoneState.Radio}
use Rattle.key_model.specs.Reading.{octet_reading}
use Rattle.nas_smc.specs.{declared.judging.Judged.Judged, PhoneNas.NasPart, PhoneNas.phone_of}
use Rattle.nas_smc.specs.Judging.{plain_context, plain_radio, front_of, row_at, accepted_at, row_of, done_by}

pub joins : (s : NasPart) (pdu : List ℕ) (j : Judged) (radio : Radio (List ℕ) ℕ)
    → row_at s radio (front_of s pdu (header_for_phone pdu)) pdu ≡ row_of (plain_context s) (plain_radio radio) j.verdict
    → j.accepted ≡ accepted_at s radio (front_of s pdu (header_for_phone pdu)) pdu
    → phone_call (phone_of s radio) (Nas pdu) ≡ done_by s radio j
joins s pdu j radio row accepted = λ i.
    let done = nas_does octet_reading (row i) (phone_of s radio) in
    (done.0, record (actor_out done.1) { received = None; accepted = sym accepted i })

-- what is so of a header type is so of the message that has it
module _ (s : NasPart) (pdu : List ℕ) (header : Result ℕ Answer) (same : header_for_phone pdu ≡ header) (radio : Radio (List ℕ) ℕ) where
  pub row_by : (row : NasRow) → row_at s radio (front_of s pdu header) pdu ≡ row → row_at s radio (front_of s pdu (header_for_phone pdu)) pdu ≡ row
  row_by row h = ap (λ x. row_at s radio (front_of s pdu x) pdu) same ∙ h

  pub accepted_by : (accepted : Option Use)
      → accepted ≡ accepted_at s radio (front_of s pdu header) pdu
      → accepted ≡ accepted_at s radio (front_of s pdu (header_for_phone pdu)) pdu
  accepted_by accepted h = h ∙ ap (λ x. accepted_at s radio (front_of s pdu x) pdu) (sym same)
