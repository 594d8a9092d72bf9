-- The outcomes of a variant beside its scenario.
use Rattle.std.specs.Prelude.{ℕ, ◌==◌, Bool, true, false, if◌then◌else◌, List, [], ◌∷◌, ◌++◌, length, map, Option, Some, None, is_some, codes}
use Rattle.item_lines.specs.declared.lines.Told.{Told}
use Rattle.item_outcomes.specs.Handovers.{context_left, misrouted, no_handover}
use Rattle.item_outcomes.specs.Keys.{keys_differ, not_made, weaker_key}
use Rattle.item_outcomes.specs.Packets.{better, counts_apart, cut_off, fates, nas_apart, packet_lost, stuck}
use Rattle.item_outcomes.specs.{Heals.heals_of, Same.same, Standing.Standing, declared.heals.Heals.Heals, declared.judging.Outcome.Outcome}
use Rattle.item_outcomes.specs.declared.judging.Outcome.TheVariants as outcome

-- its word
abbrev pub word_of : Outcome → List ℕ
word_of outcome.Same = codes "same"
word_of outcome.Better = codes "better"
word_of outcome.GoesOn = codes "goes on"
word_of outcome.ContextLeft = codes "context left"
word_of outcome.PacketLost = codes "packet lost"
word_of outcome.WeakerKey = codes "weaker key"
word_of outcome.NotMade = codes "not made"
word_of outcome.NoHandover = codes "no handover"
word_of outcome.Misrouted = codes "misrouted"
word_of outcome.NasApart = codes "NAS apart"
word_of outcome.CountsApart = codes "COUNTs apart"
word_of outcome.CutOff = codes "cut off"
word_of outcome.Stuck = codes "stuck"
word_of outcome.KeysDiffer = codes "keys differ"
word_of outcome.Coincidence = codes "coincidence"

-- whether an outcome is told of a variant, with the names of its fault's own items, beside the scenario
unfoldable pub is_told : List ℕ → Standing → Standing → Outcome → Bool
is_told own usual here outcome.Coincidence = here.over
is_told own usual here outcome.KeysDiffer = keys_differ usual.told here.told
is_told own usual here outcome.Stuck = stuck (fates usual) (fates here)
is_told own usual here outcome.CutOff = cut_off (fates usual) (fates here)
is_told own usual here outcome.CountsApart = counts_apart (fates usual) (fates here)
is_told own usual here outcome.NasApart = nas_apart (fates usual) (fates here)
is_told own usual here outcome.Misrouted = misrouted usual here
is_told own usual here outcome.NoHandover = no_handover usual.told here.told
is_told own usual here outcome.NotMade = not_made usual.told here.told
is_told own usual here outcome.WeakerKey = weaker_key usual here
is_told own usual here outcome.PacketLost = packet_lost own usual.told here.told
is_told own usual here outcome.ContextLeft = context_left usual here
is_told own usual here outcome.Better = better (fates usual) (fates here)
is_told own usual here outcome.Same = same own usual.told here.told
is_told own usual here outcome.GoesOn = true

-- those that are told beside one another, the worst first
abbrev pub worst_first : List Outcome
worst_first =
    outcome.KeysDiffer ∷ outcome.Stuck ∷ outcome.CutOff ∷ outcome.CountsApart ∷ outcome.NasApart ∷ outcome.Misrouted
    ∷ outcome.NoHandover ∷ outcome.NotMade ∷ outcome.WeakerKey ∷ outcome.PacketLost ∷ outcome.ContextLeft ∷ outcome.Better ∷ []

abbrev pub with_if : Bool → Outcome → List Outcome → List Outcome
with_if true o found = found ++ o ∷ []
with_if false o found = found

unfoldable pub told_from : List ℕ → Standing → Standing → List Outcome → List Outcome → List Outcome
told_from own usual here [] found = found
told_from own usual here (o ∷ os) found = told_from own usual here os (with_if (is_told own usual here o) o found)

unfoldable pub worse : List ℕ → Standing → Standing → List Outcome
worse own usual here = told_from own usual here worst_first []

-- and what is told where none of them is
abbrev pub best : Bool → Outcome
best true = outcome.Same
best false = outcome.GoesOn

-- ALL OUTCOMES, the worst first: at a coincidence nothing else is told
abbrev pub outcomes : List ℕ → Standing → Standing → List Outcome
outcomes own usual here =
    if here.over then outcome.Coincidence ∷ []
    else (if length (worse own usual here) == 0 then best (same own usual.told here.told) ∷ [] else worse own usual here)

-- WHAT SENT: of each line, in order, whether a record was sent
abbrev pub sends : Told → Bool
sends t = is_some t.line.sent

abbrev pub sent_of : List Told → List Bool
sent_of told = map sends told

-- WHAT IS TOLD OF A VARIANT
pub record Verdict : Type 0 where
  -- its outcomes
  pub outcomes : List Outcome
  -- what heals it; at a coincidence nothing is told
  pub heals : Option Heals
  -- the station that serves its phone
  pub serving : ℕ
  -- of each of its lines, and of those of the probe behind them, whether a record was sent
  pub sent : List Bool

abbrev pub verdict_of : List ℕ → Standing → Standing → Verdict
verdict_of own usual here = record {
  outcomes = outcomes own usual here;
  heals = if here.over then None else Some (heals_of here.told);
  serving = here.serving;
  sent = sent_of here.told;
}
