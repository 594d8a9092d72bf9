-- The items of a scenario: as many as its steps, each of so many acts; and its first station.
use Rattle.std.proofs.Common.{◌≡◌, ℕ, zero, suc, ◌+◌, ◌<◌, ◌≤◌, List, [], ◌∷◌, ◌++◌, length, All, refl, ap, arith, length-append}
use Rattle.std.proofs.lemmas.List.Elements.{All-head, All-nil, All-push}
use Rattle.lte_events.specs.{Ranges.IsStation, declared.setups.StationSetup.StationSetup}
use Rattle.items.specs.Items.{IsItemOf}
use Rattle.variant_runs.specs.Original.{first_station, item_at, own_items}

pub one_more : (steps step : ℕ) → steps ≡ step + 1 → own_items steps ≡ own_items step ++ item_at step ∷ []
unfolding own_items
one_more zero step is = absurd (omega (arith, is))
one_more (suc before) step is =
    let same : before ≡ step = omega (arith, is) in ap (λ k. own_items k ++ item_at k ∷ []) same

pub as_many : (steps : ℕ) → length (own_items steps) ≡ steps
unfolding own_items
as_many zero = refl
as_many (suc step) =
    let rest = as_many step in let sum = length-append (own_items step) (item_at step ∷ []) in omega (arith, rest, sum)

pub are_items : (acts steps : ℕ) → steps ≤ acts → All (IsItemOf acts) (own_items steps)
unfolding own_items
are_items acts zero within = All-nil (IsItemOf acts)
are_items acts (suc step) within =
    All-push (IsItemOf acts) (own_items step) (item_at step) (are_items acts step (omega (arith, within))) (omega (arith, within), omega arith)

pub first_low : (stations : List StationSetup) → All IsStation stations → first_station stations ≤ 7
first_low [] all = omega arith
first_low (s ∷ ss) all = (All-head IsStation s ss all).0
