-- Which core acted.
use Rattle.std.specs.Prelude.{ℕ, Option, Some, None}
use Rattle.lte_events.specs.declared.lines.Who.{Who}

-- the core that acts in an event, where it is a core alone that acts
abbrev pub acted : Who → ℕ → Option ℕ
acted Who.Core core = Some core
acted other core = None
