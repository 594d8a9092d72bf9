-- Items of the probe: which acts they name, and how many they are.
use Rattle.std.proofs.Common.{◌≡◌, ℕ, zero, suc, ◌+◌, ◌-◌, ◌*◌, ◌<◌, ◌≤◌, List, [], ◌∷◌, ◌++◌, length, All, Option, Some, None, Result, Ok, Err, OnOk, refl, ap, sym, ◌∙◌, arith, append_assoc, length-append}
use Rattle.std.specs.List.{flat_map}
use Rattle.std.proofs.lemmas.List.Elements.{All-nil, All-cons, All-head, All-tail, All-append}
use Rattle.annex_a_keys.specs.Cell.{Place}
use Rattle.lte_events.specs.{Ranges.IsSetup, Ranges.IsStation, declared.setups.Setup.Setup, declared.setups.StationSetup.StationSetup}
use Rattle.items.specs.Items.{IsDeedOf, IsItemOf, most_at_once}
use Rattle.items.specs.{declared.Deed.Deed, declared.Item.Item}
use Rattle.items.specs.declared.Deed.TheVariants as deed
use Rattle.item_faults.specs.Steps.{cancel, command, service}
use Rattle.item_outcomes.specs.Probe as probe
use Rattle.item_probe.specs.Acts.{other_cell}
use Rattle.item_probe.specs.Parts.{act, chain, down_from, first_part, hands_over, second_part, third_part}
use Rattle.item_probe.specs.Places.{authenticates, begins_at, begins_security, connects_at, go_idle, more_acts, send_again, send_anew, send_down, send_nas_down, send_nas_up, send_up}

-- a chain goes on
pub chain_more : (name : ℕ) (d : Deed) (times : ℕ) → 0 < times →
    chain name d times ≡ record { name = name; deed = d; at_once = 0 } ∷ chain (name + 1) (deed.Delivery name) (times - 1)
unfolding chain
chain_more name d zero h = absurd (omega arith)
chain_more name d (suc times) h =
    let same : times ≡ suc times - 1 = omega arith in
    ap (λ n. record { name = name; deed = d; at_once = 0 } ∷ chain (name + 1) (deed.Delivery name) n) same

-- WHICH ACTS THEY NAME

chain_is : (acts name : ℕ) (d : Deed) (times : ℕ) → IsDeedOf acts d → All (IsItemOf acts) (chain name d times)
unfolding chain
chain_is acts name d zero h = All-cons (IsItemOf acts) _ [] (h, omega arith) (All-nil (IsItemOf acts))
chain_is acts name d (suc times) h =
    All-cons (IsItemOf acts) _ (chain (name + 1) (deed.Delivery name) times) (h, omega arith)
    (chain_is acts (name + 1) (deed.Delivery name) times tt)

act_is : (acts name place times : ℕ) → place < acts → All (IsItemOf acts) (act name place times)
act_is acts name place times h = chain_is acts name (deed.Act place) times h

down_is : (acts steps : ℕ) (stations : List StationSetup) → steps + more_acts ≤ acts → All IsStation stations →
    All (IsItemOf acts) (flat_map (down_from steps) stations)
down_is acts steps [] room all = All-nil (IsItemOf acts)
down_is acts steps (s ∷ ss) room all =
    let one = All-head IsStation s ss all in
    All-append (IsItemOf acts) (down_from steps s) (flat_map (down_from steps) ss)
    (act_is acts (probe.down s.id) (send_down steps s.id) 1 (omega (arith, one.0)))
    (down_is acts steps ss room (All-tail IsStation s ss all))

pub first_is : (acts : ℕ) (setup : Setup) (steps : ℕ) → steps + more_acts ≤ acts → IsSetup setup →
    All (IsItemOf acts) (first_part setup steps)
first_is acts setup steps room is =
    let P : Item → Type 0 = IsItemOf acts in
    All-append P (act probe.up (send_up steps) 1) _ (act_is acts probe.up (send_up steps) 1 (omega arith))
    (All-append P (flat_map (down_from steps) setup.stations) _ (down_is acts steps setup.stations room is.stations)
    (All-append P (act probe.nas_up (send_nas_up steps) 1) _ (act_is acts probe.nas_up (send_nas_up steps) 1 (omega arith))
    (act_is acts probe.nas_down (send_nas_down steps) 1 (omega arith))))

hands_over_is : (acts steps serving : ℕ) (other : Option Place) → steps + more_acts ≤ acts → serving ≤ 7 →
    All (IsItemOf acts) (hands_over steps serving other)
hands_over_is acts steps serving (Some other) room low =
    All-append (IsItemOf acts) (act probe.begin (begins_at steps serving) 2) _
    (act_is acts probe.begin (begins_at steps serving) 2 (omega arith)) (act_is acts probe.command (command steps serving) 5 (omega arith))
hands_over_is acts steps serving None room low =
    All-append (IsItemOf acts) (act probe.begin (begins_at steps serving) 0) _
    (act_is acts probe.begin (begins_at steps serving) 0 (omega arith)) (act_is acts probe.command (command steps serving) 2 (omega arith))

pub second_is : (acts : ℕ) (setup : Setup) (steps serving : ℕ) → steps + more_acts ≤ acts → serving ≤ 7 →
    All (IsItemOf acts) (second_part setup steps serving)
second_is acts setup steps serving room low =
    let P : Item → Type 0 = IsItemOf acts in
    let other : Option Place = other_cell setup.cells serving in
    All-append P (act probe.cancel (cancel steps serving) 2) _ (act_is acts probe.cancel (cancel steps serving) 2 (omega arith))
    (All-append P (hands_over steps serving other) _ (hands_over_is acts steps serving other room low)
    (All-append P (act probe.idle (go_idle steps) 0) _ (act_is acts probe.idle (go_idle steps) 0 (omega arith))
    (All-append P (act probe.service (service steps) 1) _ (act_is acts probe.service (service steps) 1 (omega arith))
    (All-append P (act probe.connect (connects_at steps serving) 3) _ (act_is acts probe.connect (connects_at steps serving) 3 (omega arith))
    (act_is acts probe.again (send_again steps) 1 (omega arith))))))

pub third_is : (acts steps serving : ℕ) → steps + more_acts ≤ acts → serving ≤ 7 → All (IsItemOf acts) (third_part steps serving)
third_is acts steps serving room low =
    let P : Item → Type 0 = IsItemOf acts in
    All-append P (act probe.renew (authenticates steps) 0) _ (act_is acts probe.renew (authenticates steps) 0 (omega arith))
    (All-append P (act probe.command_anew (begins_security steps) 2) _ (act_is acts probe.command_anew (begins_security steps) 2 (omega arith))
    (All-append P (act probe.idle_anew (go_idle steps) 0) _ (act_is acts probe.idle_anew (go_idle steps) 0 (omega arith))
    (All-append P (act probe.service_anew (service steps) 1) _ (act_is acts probe.service_anew (service steps) 1 (omega arith))
    (All-append P (act probe.connect_anew (connects_at steps serving) 3) _ (act_is acts probe.connect_anew (connects_at steps serving) 3 (omega arith))
    (act_is acts probe.anew (send_anew steps) 1 (omega arith))))))

-- HOW MANY THEY ARE

length-chain : (name : ℕ) (d : Deed) (times : ℕ) → length (chain name d times) ≡ times + 1
unfolding chain
length-chain name d zero = refl
length-chain name d (suc times) = let rest = length-chain (name + 1) (deed.Delivery name) times in omega arith

length-act : (name place times : ℕ) → length (act name place times) ≡ times + 1
length-act name place times = length-chain name (deed.Act place) times

length-down : (steps : ℕ) (stations : List StationSetup) → length (flat_map (down_from steps) stations) ≡ 2 * length stations
length-down steps [] = refl
length-down steps (s ∷ ss) =
    let one = length-act (probe.down s.id) (send_down steps s.id) 1 in
    let rest = length-down steps ss in
    let both = length-append (down_from steps s) (flat_map (down_from steps) ss) in
    omega arith

pub length-first : (setup : Setup) (steps : ℕ) → length (first_part setup steps) ≡ 2 * length setup.stations + 6
length-first setup steps =
    let up = act probe.up (send_up steps) 1 in
    let down = flat_map (down_from steps) setup.stations in
    let nas_up = act probe.nas_up (send_nas_up steps) 1 in
    let nas_down = act probe.nas_down (send_nas_down steps) 1 in
    let a = length-append up (down ++ (nas_up ++ nas_down)) in
    let b = length-append down (nas_up ++ nas_down) in
    let c = length-append nas_up nas_down in
    let one = length-act probe.up (send_up steps) 1 in
    let two = length-down steps setup.stations in
    let three = length-act probe.nas_up (send_nas_up steps) 1 in
    let four = length-act probe.nas_down (send_nas_down steps) 1 in
    omega arith

length-hands_over : (steps serving : ℕ) (other : Option Place) → length (hands_over steps serving other) ≤ 9
length-hands_over steps serving (Some other) =
    let both = length-append (act probe.begin (begins_at steps serving) 2) (act probe.command (command steps serving) 5) in
    let one = length-act probe.begin (begins_at steps serving) 2 in
    let two = length-act probe.command (command steps serving) 5 in
    omega arith
length-hands_over steps serving None =
    let both = length-append (act probe.begin (begins_at steps serving) 0) (act probe.command (command steps serving) 2) in
    let one = length-act probe.begin (begins_at steps serving) 0 in
    let two = length-act probe.command (command steps serving) 2 in
    omega arith

pub length-second : (setup : Setup) (steps serving : ℕ) → length (second_part setup steps serving) ≤ 21
length-second setup steps serving =
    let other = other_cell setup.cells serving in
    let idle = act probe.idle (go_idle steps) 0 in
    let asks = act probe.service (service steps) 1 in
    let connects = act probe.connect (connects_at steps serving) 3 in
    let again = act probe.again (send_again steps) 1 in
    let a = length-append (act probe.cancel (cancel steps serving) 2) (hands_over steps serving other ++ (idle ++ (asks ++ (connects ++ again)))) in
    let b = length-append (hands_over steps serving other) (idle ++ (asks ++ (connects ++ again))) in
    let c = length-append idle (asks ++ (connects ++ again)) in
    let d = length-append asks (connects ++ again) in
    let e = length-append connects again in
    let one = length-act probe.cancel (cancel steps serving) 2 in
    let two = length-hands_over steps serving other in
    let three = length-act probe.idle (go_idle steps) 0 in
    let four = length-act probe.service (service steps) 1 in
    let five = length-act probe.connect (connects_at steps serving) 3 in
    let six = length-act probe.again (send_again steps) 1 in
    omega arith

pub length-third : (steps serving : ℕ) → length (third_part steps serving) ≤ 13
length-third steps serving =
    let begins = act probe.command_anew (begins_security steps) 2 in
    let idle = act probe.idle_anew (go_idle steps) 0 in
    let asks = act probe.service_anew (service steps) 1 in
    let connects = act probe.connect_anew (connects_at steps serving) 3 in
    let anew = act probe.anew (send_anew steps) 1 in
    let a = length-append (act probe.renew (authenticates steps) 0) (begins ++ (idle ++ (asks ++ (connects ++ anew)))) in
    let b = length-append begins (idle ++ (asks ++ (connects ++ anew))) in
    let c = length-append idle (asks ++ (connects ++ anew)) in
    let d = length-append asks (connects ++ anew) in
    let e = length-append connects anew in
    let one = length-act probe.renew (authenticates steps) 0 in
    let two = length-act probe.command_anew (begins_security steps) 2 in
    let three = length-act probe.idle_anew (go_idle steps) 0 in
    let four = length-act probe.service_anew (service steps) 1 in
    let five = length-act probe.connect_anew (connects_at steps serving) 3 in
    let six = length-act probe.anew (send_anew steps) 1 in
    omega arith

-- IN CODE

-- what holds where a call succeeds
pub on_ok : {T E P Q : Type 0} (r : Result T E) → OnOk r P → (P → Q) → OnOk r Q
on_ok (Ok t) h f = f h
on_ok (Err e) h f = tt

-- the last of a chain, and one more before the others
pub ends : (old new : List Item) (name : ℕ) (d : Deed) (times : ℕ) → times ≡ 0 →
    new ≡ old ++ record { name = name; deed = d; at_once = most_at_once } ∷ [] → new ≡ old ++ chain name d times
unfolding chain
ends old new name d zero h is = is
ends old new name d (suc times) h is = absurd cc

pub goes_on : (old one new : List Item) (name : ℕ) (d : Deed) (times : ℕ) → 0 < times →
    one ≡ old ++ record { name = name; deed = d; at_once = 0 } ∷ [] →
    new ≡ one ++ chain (name + 1) (deed.Delivery name) (times - 1) → new ≡ old ++ chain name d times
goes_on old one new name d times h first is =
    let item : Item = record { name = name; deed = d; at_once = 0 } in
    let rest = chain (name + 1) (deed.Delivery name) (times - 1) in
    is ∙ ap (λ xs. xs ++ rest) first ∙ append_assoc old (item ∷ []) rest ∙ ap (λ xs. old ++ xs) (sym (chain_more name d times h))
