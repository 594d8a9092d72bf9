-- There are as many steps as events, and each is one of so many, by no station or by one of eight.
use Rattle.std.proofs.Common.{◌≡◌, ℕ, ◌+◌, ◌<◌, ◌≤◌, nat_lt, Bool, true, false, List, [], ◌∷◌, ◌++◌, length, All, Some, None, if◌then◌else◌, refl, rules, arith, length-append}
use Rattle.std.proofs.lemmas.List.Elements.{All-nil, All-push}
use Rattle.lte_events.specs.{declared.events.Event.Event, declared.lines.Who.Who}
use Rattle.item_faults.specs.{declared.steps.Step.Step, Laws.IsStationOf, Laws.IsStep}
use Rattle.item_lines.specs.declared.lines.Told.{Told}
use Rattle.item_steps.specs.Steps.{next_step, station_in, steps_from, steps_of}

length-from : (steps : List Step) (before : List Told) (events : List Event) (told : List Told)
    → length told ≡ length events
    → length (steps_from steps before events told) ≡ length steps + length events
unfolding steps_from
length-from steps before [] told same = omega arith
length-from steps before (e ∷ es) [] same = omega (arith, same)
length-from steps before (e ∷ es) (t ∷ ts) same =
    let more = length-append steps (next_step steps before e t ∷ []) in
    let rest = length-from (steps ++ next_step steps before e t ∷ []) (before ++ t ∷ []) es ts (omega (arith, same)) in
    omega (arith, more, rest)

pub length-steps : (events : List Event) (told : List Told) → length told ≡ length events
    → length (steps_of events told) ≡ length events
length-steps events told same = let all = length-from [] [] events told same in omega (arith, all)

by_test : (b : Bool) (id : ℕ) → b ≡ nat_lt id 8 → IsStationOf (if b then Some id else None)
by_test true id low = search rules
by_test false id high = tt

station_is : (who : Who) → IsStationOf (station_in who)
station_is (Who.Station id) = by_test (nat_lt id 8) id refl
station_is _ = tt

step_is : (acts : ℕ) (steps : List Step) (before : List Told) (e : Event) (t : Told) → length steps < acts
    → IsStep acts (next_step steps before e t)
step_is acts steps before e t low = record { number = low; station = station_is t.line.who }

all-from : (acts : ℕ) (steps : List Step) (before : List Told) (events : List Event) (told : List Told)
    → length steps + length events ≤ acts
    → All (IsStep acts) steps
    → All (IsStep acts) (steps_from steps before events told)
unfolding steps_from
all-from acts steps before [] told few all = all
all-from acts steps before (e ∷ es) [] few all = all
all-from acts steps before (e ∷ es) (t ∷ ts) few all =
    let next = next_step steps before e t in
    let more = length-append steps (next ∷ []) in
    all-from acts (steps ++ next ∷ []) (before ++ t ∷ []) es ts (omega (arith, few, more))
    (All-push (IsStep acts) steps next all (step_is acts steps before e t (omega (arith, few))))

pub are_steps : (events : List Event) (told : List Told) → All (IsStep (length events)) (steps_of events told)
are_steps events told = all-from (length events) [] [] events told (omega arith) (All-nil (IsStep (length events)))
