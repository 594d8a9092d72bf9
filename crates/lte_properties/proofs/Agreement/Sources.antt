-- What a source keeps for an attempt, and what was told of its start.
use Rattle.std.specs.Prelude.{ℕ, Option, Some, None, ⊤}
use Rattle.key_model.specs.Term.{Term}
use Rattle.lte_machine.specs.Reply.{Handover, BySource, ByTarget}
use Rattle.lte_machine.specs.StationState.{Via, OverX2, SourceKeys}

-- what was told of the start of an attempt
abbrev pub handover_by : Option (SourceKeys Term ℕ) → Handover Term ℕ
handover_by None = ByTarget
handover_by (Some keys) = BySource keys.star

-- an open attempt over X2 has a KeNB*
abbrev pub HasStar : Via → Option (SourceKeys Term ℕ) → Type 0
HasStar OverX2 None = ⊥
HasStar other keys = ⊤
