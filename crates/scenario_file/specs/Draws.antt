-- A generated scenario: what it starts with, and the draws that choose its steps. All can be done by hand.
use Rattle.std.specs.Prelude.{ℕ, zero, suc, ◌+◌, ◌*◌, ◌/◌, ◌%◌, ◌^◌, ◌==◌, true, false, not, if◌then◌else◌, List, ◌∷◌, ◌++◌, map, take, replicate, negsuc}
use Rattle.std.specs.List.{range_with_len}
use Rattle.annex_a_keys.specs.Cell.{Place}
use Rattle.alg_choice.specs.declared.caps.Caps.{Caps}
use Rattle.rec_base.specs.{BigEndian.octets_of, declared.bearers.Bearer.TheVariants.Drb1}
use Rattle.lte_events.specs.{Site.Site, declared.acts.HoKind.HoKind, declared.events.Event.Event, declared.setups.FirstNcc.TheVariants.One, declared.setups.Setup.Setup, declared.setups.StationSetup.StationSetup}
use Rattle.lte_events.specs.declared.acts.HoKind.TheVariants as kind
use Rattle.lte_events.specs.declared.acts.PhoneAct.TheVariants as phone
use Rattle.lte_events.specs.declared.acts.CoreAct.TheVariants as core
use Rattle.lte_events.specs.declared.acts.StationAct.TheVariants as station
use Rattle.lte_events.specs.declared.events.Event.TheVariants as event
use Rattle.scenario_file.specs.{declared.journey.Journey.Journey, declared.turns.Turn.Turn, Setup.usual_priority}
use Rattle.scenario_file.specs.declared.turns.Turn.TheVariants.{Uplink, Downlink, OverX2, OverS1, Within}

-- WHAT IT STARTS WITH: stations 0 to 3, station s with the one cell of PCI 10 + s and EARFCN 100 + s

abbrev pub cell_of : ℕ → Place
cell_of s = record { pci = 10 + s; earfcn = 100 + s }

abbrev pub station_setup : ℕ → StationSetup
station_setup s = record { id = s; priority = usual_priority; first = 1 }

abbrev pub site_of : ℕ → Site
site_of s = record { station = s; cell = cell_of s }

-- EEA0 and EEA2, EIA2
abbrev pub generated_caps : Caps
generated_caps = record { eea = 160; eia = 32 }

unfoldable pub generated_setup : Setup
generated_setup = record {
  caps = generated_caps;
  core_priority = usual_priority;
  core_first = 1;
  core_first_ncc = One;
  stations = map station_setup (range_with_len 0 4);
  cells = map site_of (range_with_len 0 4);
}

-- THE DRAWS

-- the state after one draw more, of 64 bits
unfoldable pub next : ℕ → ℕ
next x = (x * 6364136223846793005 + 1442695040888963407) % 2 ^ 64

-- the number below m that a draw gives, by its state
unfoldable pub drawn : ℕ → ℕ → ℕ
drawn m x = x / 2 ^ 33 % m

-- THE TURNS, each of a few steps. A journey is the state of the draws, the station that serves the phone, and whether the
-- answer to the last change of station was left undelivered.

abbrev pub draws_on : Journey → Journey
draws_on j = record j { state = next j.state }

-- the text of a packet: the octets of the state after a draw of two
abbrev pub text_of : Journey → List ℕ
text_of j = octets_of 8 (next j.state)

-- another station, by a draw of three
abbrev pub target_of : Journey → ℕ
target_of j = (j.serving + 1 + drawn 3 (next j.state)) % 4

-- the turn for a draw of six. Where an answer was left undelivered at the last change of station, it is not at this one.
unfoldable pub turn_for : ℕ → Journey → Turn
turn_for choice j =
    if choice == 0 then Uplink (text_of j)
    else (if choice == 1 then Downlink j.serving (text_of j)
    else (if choice == 2 then OverX2 j.serving (target_of j) true
    else (if choice == 3 then OverX2 j.serving (target_of j) j.unanswered
    else (if choice == 4 then OverS1 j.serving (target_of j)
    else Within j.serving))))

-- the journey after a turn
abbrev pub moved : Journey → Turn → Journey
moved j (Uplink text) = draws_on j
moved j (Downlink s text) = draws_on j
moved j (OverX2 from to answered) = record { state = next j.state; serving = to; unanswered = not answered }
moved j (OverS1 from to) = record { state = next j.state; serving = to; unanswered = false }
moved j (Within s) = j

unfoldable pub turn_of : Journey → Turn
turn_of j = turn_for (drawn 6 (next j.state)) (draws_on j)

unfoldable pub after : Journey → Journey
after j = moved (draws_on j) (turn_of j)

-- THE STEPS

-- the newest record arrives, so many times in a row
abbrev pub arrivals : ℕ → List Event
arrivals n = replicate n (event.Deliver (negsuc 0))

-- a station opens a handover; so many records arrive; the command; so many arrive
abbrev pub handover : HoKind → ℕ → ℕ → ℕ → ℕ → List Event
handover kind from to before behind =
    event.Station from (station.Start kind (cell_of to)) ∷ (arrivals before ++ (event.Station from station.Command ∷ arrivals behind))

abbrev pub steps_of : Turn → List Event
steps_of (Uplink text) = event.Phone (phone.SendUser Drb1 text) ∷ arrivals 1
steps_of (Downlink s text) = event.Station s (station.SendUser Drb1 text) ∷ arrivals 1
steps_of (OverX2 from to answered) = handover kind.X2 from to 2 (if answered then 5 else 3)
steps_of (OverS1 from to) = handover kind.S1 from to 4 3
steps_of (Within s) = handover kind.Intra s s 0 2

-- authentication, the Security Mode of NAS, and a connection at station 0
unfoldable pub opening : List Event
opening =
    event.Auth 0 (range_with_len 0 32) generated_caps ∷ (event.Core core.StartSmc ∷ (arrivals 2
    ++ (event.Core (core.Connect (cell_of 0)) ∷ arrivals 3)))

-- the journey after so many turns, and all steps up to there
abbrev pub journey_at : ℕ → ℕ → Journey
journey_at seed zero = record { state = seed; serving = 0; unanswered = false }
journey_at seed (suc k) = after (journey_at seed k)

abbrev pub steps_up_to : ℕ → ℕ → List Event
steps_up_to seed zero = opening
steps_up_to seed (suc k) = steps_up_to seed k ++ steps_of (turn_of (journey_at seed k))

-- the first n steps, which stand within n turns
unfoldable pub generated : ℕ → ℕ → List Event
generated n seed = take n (steps_up_to seed n)
