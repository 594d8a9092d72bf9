-- Outcomes of a variant as a text: their words, with a semicolon between.
use Rattle.std.specs.Prelude.{ℕ, List, [], ◌∷◌, codes}
use Rattle.item_outcomes.specs.{Outcomes.word_of, declared.judging.Outcome.Outcome}
use Rattle.variant_text.specs.Joined.{joined}

unfoldable pub outcomes_from : List ℕ → List Outcome → List ℕ
outcomes_from text [] = text
outcomes_from text (o ∷ os) = outcomes_from (joined (codes "; ") text (word_of o)) os

abbrev pub outcomes_text : List Outcome → List ℕ
outcomes_text outcomes = outcomes_from [] outcomes
