-- A verdict and what is done by it are the core's step.
use Rattle.std.proofs.Common.{◌≡◌, List, None, ℕ, sym}
use Rattle.key_model.specs.Reading.{octet_reading}
use Rattle.lte_events.specs.declared.inputs.CoreIn.TheVariants.{Nas}
use Rattle.lte_machine.specs.{Calls.actor_out, Calls.core_call, CoreChoice.core_header, CoreKeys.core_does_nas}
use Rattle.nas_smc.specs.declared.core_judging.CoreJudged.{CoreJudged}
use Rattle.nas_smc.specs.CoreNas.{CorePart, CoreRest, core_of}
use Rattle.nas_smc.specs.CoreJudging.{front_of, row_at, accepted_at, row_of, done_by}

pub joins : (s : CorePart) (pdu : List ℕ) (j : CoreJudged) (rest : CoreRest)
    → row_at s rest (front_of s pdu (core_header pdu)) pdu ≡ row_of rest j.verdict
    → j.accepted ≡ accepted_at s rest (front_of s pdu (core_header pdu)) pdu
    → core_call (core_of s rest) (Nas pdu) ≡ done_by s rest (row_of rest j.verdict) j.accepted
joins s pdu j rest row accepted = λ i.
    let done = core_does_nas octet_reading (row i) (core_of s rest) in
    (done.0, record (actor_out done.1) { received = None; accepted = sym accepted i })
