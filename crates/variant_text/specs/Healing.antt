-- What heals a phone as a text.
use Rattle.std.specs.Prelude.{ℕ, List, [], ◌++◌, Option, Some, None, codes}
use Rattle.item_outcomes.specs.declared.heals.Heals.{Heals}
use Rattle.item_outcomes.specs.declared.heals.Heals.TheVariants as heals

abbrev pub heals_name : Heals → List ℕ
heals_name heals.Reconnection = codes "reconnection"
heals_name heals.Authentication = codes "authentication"
heals_name heals.Nothing = codes "nothing"

-- behind outcomes, where it is told
abbrev pub heals_text : Option Heals → List ℕ
heals_text None = []
heals_text (Some h) = codes ", heals " ++ heals_name h
