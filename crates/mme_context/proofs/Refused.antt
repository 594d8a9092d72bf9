-- A refused call leaves the core as it was.
use Rattle.std.proofs.Common.{◌≡◌, ℕ, List, ◌∙◌, ap}
use Rattle.std.specs.Prelude.{◌≢◌}
use Rattle.lte_events.specs.{declared.answers.Answer.TheVariants.Done, declared.inputs.CoreIn.CoreIn, declared.replies.ActorOut.ActorOut}
use Rattle.key_model.specs.Reading.{octet_reading}
use Rattle.lte_machine.specs.{Calls.core_call, Calls.core_input, Ciphers.annex_b, CoreState.Core, CoreStep.core_opens, CoreStep.core_pdu_in, Opening.open_octets}
use Rattle.lte_machine.proofs.CoreRefused.{core_refused}

pub refused_stays : (s t : Core (List ℕ) ℕ) (i : CoreIn) (out : ActorOut) → (t, out) ≡ core_call s i → out.answer ≢ Done → t ≡ s
refused_stays s t i out e h =
    ap (λ d. d.0) e
    ∙ core_refused octet_reading s (core_input i) (open_octets annex_b (core_opens octet_reading s (core_input i)) (core_pdu_in (core_input i)))
    (λ done. h (ap (λ d. d.1.answer) e ∙ done))
