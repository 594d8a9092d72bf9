-- No choice of faults is told twice.
use Rattle.std.specs.Prelude.{ℕ, List, IfOk}
use Rattle.item_faults.specs.Once.{Once}
use Rattle.scenario_file.specs.Reading.{reading_of}
use Rattle.variant_runs.specs.Original.{Original, original_of}
use Rattle.lte_variants.specs.{Report.asked, Report.messages_asked, declared.request.Request.Request}

-- of the choices that a request asks for, none stands twice
pub record AsksOnce (r : Request) (o : Original) : Type 0 where
  pub choices : Once (asked r o (messages_asked r o.steps))

-- so of each text that is a scenario
abbrev pub ChoicesOnce : Request → List ℕ → Type 0
ChoicesOnce r octets = IfOk (reading_of octets) (λ s. AsksOnce r (original_of s.0 s.1))
