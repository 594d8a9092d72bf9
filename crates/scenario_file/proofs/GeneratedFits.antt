-- A generated scenario is one that a system can start with, and each of its steps can happen.
use Rattle.std.proofs.Common.{ℕ, zero, suc, ◌==◌, ◌<◌, ◌≤◌, Bool, true, false, List, [], ◌∷◌, ◌++◌, map, negsuc, All, refl, arith}
use Rattle.std.specs.{Prelude.IsTrue, Prelude.if◌then◌else◌, List.range_with_len, List.IsDistinct}
use Rattle.std.proofs.lemmas.List.FromFn.{get_or-range_with_len}
use Rattle.std.proofs.lemmas.List.Elements.{All-append, All-cons, All-nil, All-replicate, All-take}
use Rattle.rec_base.specs.{Lengths.longest_packet, declared.bearers.Bearer.TheVariants.Drb1, Ranges.IsText}
use Rattle.rec_base.proofs.Numbers.{length-octets_of, octets_of-lt}
use Rattle.lte_events.specs.Ranges.{has_station, IsStation, IsSiteOf, IsSetup}
use Rattle.lte_events.specs.{Scenario.CanHappen, Scenario.IsScenario, declared.acts.HoKind.HoKind, declared.events.Event.Event}
use Rattle.lte_events.specs.declared.acts.CoreAct.TheVariants as core
use Rattle.lte_events.specs.declared.acts.PhoneAct.TheVariants as phone
use Rattle.lte_events.specs.declared.acts.StationAct.TheVariants as station
use Rattle.lte_events.specs.declared.events.Event.TheVariants as event
use Rattle.scenario_file.specs.{declared.journey.Journey.Journey, declared.turns.Turn.Turn}
use Rattle.scenario_file.specs.declared.turns.Turn.TheVariants.{Uplink, Downlink, OverX2, OverS1, Within}
use Rattle.scenario_file.specs.Draws.{cell_of, generated_caps, station_setup, site_of, generated_setup, next, drawn, draws_on, text_of, target_of, turn_for, moved, turn_of, after, arrivals, handover, steps_of, opening, journey_at, steps_up_to, generated}
use Rattle.scenario_file.proofs.{Generated.generated_length, Ranges.bytes_are_octets}

-- THE SETUP

four : {X : Type 0} (P : X → Type 0) (f : ℕ → X) → ((s : ℕ) → s < 4 → P (f s)) → All P (map f (range_with_len 0 4))
four P f each =
    All-cons P (f 0) (f 1 ∷ f 2 ∷ f 3 ∷ []) (each 0 (omega arith)) (All-cons P (f 1) (f 2 ∷ f 3 ∷ []) (each 1 (omega arith))
    (All-cons P (f 2) (f 3 ∷ []) (each 2 (omega arith)) (All-cons P (f 3) [] (each 3 (omega arith)) (All-nil P))))

stands : (s : ℕ) → s < 4 → IsTrue (has_station generated_setup.stations s)
unfolding generated_setup
stands zero below = refl
stands (suc zero) below = refl
stands (suc (suc zero)) below = refl
stands (suc (suc (suc zero))) below = refl
stands (suc (suc (suc (suc s)))) below = absurd (omega (arith, below))

pub can_start : IsSetup generated_setup
unfolding generated_setup IsDistinct
can_start = record {
  caps = (omega arith, omega arith);
  core_first = (omega arith, omega arith);
  stations = four IsStation station_setup (λ s below. (omega (arith, below), (omega arith, omega arith)));
  ids_differ = ((refl, (refl, (refl, tt))), ((refl, (refl, tt)), ((refl, tt), (tt, tt))));
  sites = four (IsSiteOf generated_setup.stations) site_of (λ s below. ((omega (arith, below), omega (arith, below)), stands s below));
}

-- THE TURNS: stations 0 to 3, and texts of eight octets

IsGood : Event → Type 0
IsGood e = CanHappen generated_setup e

IsPacket : List ℕ → Type 0
IsPacket text = IsText longest_packet text

abbrev GoodTurn : Turn → Type 0
GoodTurn (Uplink text) = IsPacket text
GoodTurn (Downlink s text) = (s < 4) × IsPacket text
GoodTurn (OverX2 from to answered) = (from < 4) × (to < 4)
GoodTurn (OverS1 from to) = (from < 4) × (to < 4)
GoodTurn (Within s) = s < 4

good_text : (j : Journey) → IsPacket (text_of j)
unfolding IsPacket
good_text j = (bytes_are_octets (text_of j) (octets_of-lt 8 (next j.state)), omega (arith, length-octets_of 8 (next j.state)))

good_if : (b : Bool) (x y : Turn) → GoodTurn x → GoodTurn y → GoodTurn (if b then x else y)
good_if true x y good other = good
good_if false x y other good = good

good_choice : (choice : ℕ) (j : Journey) → j.serving < 4 → GoodTurn (turn_for choice j)
unfolding turn_for
good_choice choice j serving =
    let target : target_of j < 4 = omega arith in
    good_if (choice == 0) _ _ (good_text j)
    (good_if (choice == 1) _ _ (serving, good_text j)
    (good_if (choice == 2) _ _ (serving, target)
    (good_if (choice == 3) _ _ (serving, target)
    (good_if (choice == 4) _ _ (serving, target) serving))))

-- the station that serves is always one of them
good_move : (j : Journey) (turn : Turn) → j.serving < 4 → GoodTurn turn → (moved j turn).serving < 4
good_move j (Uplink text) serving good = serving
good_move j (Downlink s text) serving good = serving
good_move j (OverX2 from to answered) serving good = good.1
good_move j (OverS1 from to) serving good = good.1
good_move j (Within s) serving good = serving

good_turn : (j : Journey) → j.serving < 4 → GoodTurn (turn_of j)
unfolding turn_of
good_turn j serving = good_choice (drawn 6 (next j.state)) (draws_on j) serving

served : (seed k : ℕ) → (journey_at seed k).serving < 4
unfolding after
served seed zero = omega arith
served seed (suc k) =
    let j = journey_at seed k in good_move (draws_on j) (turn_of j) (served seed k) (good_turn j (served seed k))

-- THE STEPS

good_arrivals : (n : ℕ) → All IsGood (arrivals n)
unfolding IsGood
good_arrivals n = All-replicate IsGood n (event.Deliver (negsuc 0)) (tt, tt)

good_handover : (kind : HoKind) (from to before behind : ℕ) → from < 4 → to < 4 → All IsGood (handover kind from to before behind)
unfolding IsGood
good_handover kind from to before behind source target =
    All-cons IsGood _ _ ((omega (arith, target), omega (arith, target)), (stands from source, tt))
    (All-append IsGood (arrivals before) _ (good_arrivals before)
    (All-cons IsGood _ _ (tt, (stands from source, tt)) (good_arrivals behind)))

good_steps : (turn : Turn) → GoodTurn turn → All IsGood (steps_of turn)
unfolding IsGood IsPacket
good_steps (Uplink text) good = All-cons IsGood (event.Phone (phone.SendUser Drb1 text)) (arrivals 1) (good, tt) (good_arrivals 1)
good_steps (Downlink s text) good =
    All-cons IsGood (event.Station s (station.SendUser Drb1 text)) (arrivals 1) (good.1, (stands s good.0, tt)) (good_arrivals 1)
good_steps (OverX2 from to answered) good = good_handover _ from to 2 (if answered then 5 else 3) good.0 good.1
good_steps (OverS1 from to) good = good_handover _ from to 4 3 good.0 good.1
good_steps (Within s) good = good_handover _ s s 0 2 good good

kasme_octets : All (λ octet. octet < 256) (range_with_len 0 32)
kasme_octets k d below = rw (get_or-range_with_len 0 32 k d below) (omega (arith, below))

good_opening : All IsGood opening
unfolding IsGood opening
good_opening =
    let authenticates = event.Auth 0 (range_with_len 0 32) generated_caps in
    let commands = event.Core core.StartSmc in
    let connects = event.Core (core.Connect (cell_of 0)) in
    All-cons IsGood authenticates (commands ∷ (arrivals 2 ++ (connects ∷ arrivals 3))) ((omega arith, (kasme_octets, refl), (omega arith, omega arith)), tt)
    (All-cons IsGood commands (arrivals 2 ++ (connects ∷ arrivals 3)) (tt, tt) (All-append IsGood (arrivals 2) (connects ∷ arrivals 3) (good_arrivals 2)
    (All-cons IsGood connects (arrivals 3) ((omega arith, omega arith), tt) (good_arrivals 3))))

all_good : (seed k : ℕ) → All IsGood (steps_up_to seed k)
all_good seed zero = good_opening
all_good seed (suc k) =
    All-append IsGood (steps_up_to seed k) _ (all_good seed k) (good_steps (turn_of (journey_at seed k)) (good_turn (journey_at seed k) (served seed k)))

pub can_happen : (n seed : ℕ) → All (CanHappen generated_setup) (generated n seed)
unfolding IsGood generated
can_happen n seed = All-take IsGood n (steps_up_to seed n) (all_good seed n)

pub is_scenario : (n seed : ℕ) → n ≤ 100000 → IsScenario generated_setup (generated n seed)
is_scenario n seed few = record { can_start = can_start; can_happen = can_happen n seed; few = omega (arith, generated_length n seed, few) }
