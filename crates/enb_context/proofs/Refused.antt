-- A refused call leaves the station as it was.
use Rattle.std.proofs.Common.{◌≡◌, ℕ, List, ◌∙◌, ap}
use Rattle.std.specs.Prelude.{◌≢◌}
use Rattle.lte_events.specs.{declared.answers.Answer.TheVariants.Done, declared.inputs.StationIn.StationIn, declared.replies.ActorOut.ActorOut}
use Rattle.key_model.specs.Reading.{octet_reading}
use Rattle.lte_machine.specs.{Calls.station_call, Calls.station_input, Ciphers.annex_b, Opening.open_octets, StationState.Station, StationStep.station_opens, StationStep.station_pdu_in}
use Rattle.lte_machine.proofs.StationRefused.{station_refused}

pub refused_stays : (s t : Station (List ℕ) ℕ) (i : StationIn) (out : ActorOut) → (t, out) ≡ station_call s i → out.answer ≢ Done → t ≡ s
refused_stays s t i out e h =
    ap (λ d. d.0) e
    ∙ station_refused octet_reading s (station_input i)
    (open_octets annex_b (station_opens octet_reading s (station_input i)) (station_pdu_in (station_input i)))
    (λ done. h (ap (λ d. d.1.answer) e ∙ done))
