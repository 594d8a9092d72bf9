-- What is so of a command that reads nothing, at each status.
use Rattle.std.proofs.Common.{ℕ, inl, inr, refl, sym}
use Rattle.edge_io.specs.Told.{Told}
use Rattle.lte_events.proofs.InRange.{in_range}
use Rattle.lte_properties.specs.Headline.{Headline}
use Rattle.lte_properties.proofs.HeadlineHolds.{headline}
use Rattle.scenario_file.specs.Draws.{generated_setup, generated}
use Rattle.scenario_file.proofs.GeneratedFits.{can_start, can_happen}
use Rattle.lte_sec_app.specs.{declared.status.Status.Status, Run.Output, Run.WritesAt, Generated.WritingIsComplete}
use Rattle.lte_sec_app.specs.declared.status.Status.TheVariants.{Done, Memory, Refused, WriteFault, Coincidence}

pub writing_is_complete : (output : Output) (status : Status) (out out' : Told) → WritesAt output status out out' → WritingIsComplete output status out out'
writing_is_complete output Memory out out' at write = inr refl
writing_is_complete output WriteFault out out' at write = absurd (write at.0)
writing_is_complete output Done out out' at write = inl (sym at.0, at.1)
writing_is_complete output Refused out out' at write = inl (sym at.0, at.1)
writing_is_complete output Coincidence out out' at write = inl (sym at.0, at.1)
writing_is_complete output status out out' at write = absurd at

-- the headline holds of a generated scenario
pub generated_headline : (steps seed : ℕ) → Headline generated_setup (generated steps seed)
generated_headline steps seed =
    let events = generated steps seed in
    headline generated_setup events can_start (in_range generated_setup events (can_happen steps seed))
