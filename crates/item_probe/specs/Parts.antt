-- The items of the probe, behind a scenario of so many steps or a variant of it.
use Rattle.std.specs.Prelude.{ℕ, zero, suc, ◌+◌, List, [], ◌∷◌, ◌++◌, Option, Some, None}
use Rattle.std.specs.List.{flat_map}
use Rattle.annex_a_keys.specs.Cell.{Place}
use Rattle.lte_events.specs.{declared.setups.Setup.Setup, declared.setups.StationSetup.StationSetup}
use Rattle.items.specs.{Items.most_at_once, declared.Deed.Deed, declared.Item.Item}
use Rattle.items.specs.declared.Deed.TheVariants as deed
use Rattle.item_faults.specs.Steps.{cancel, command, service}
use Rattle.item_outcomes.specs.Probe as probe
use Rattle.item_probe.specs.Acts.{other_cell}
use Rattle.item_probe.specs.Places.{authenticates, begins_at, begins_security, connects_at, go_idle, send_again, send_anew, send_down, send_nas_down, send_nas_up, send_up}

-- an act or a delivery, and so many deliveries behind it, each of what the one before sent. What the last one sends is delivered at once
unfoldable pub chain : ℕ → Deed → ℕ → List Item
chain name d zero = record { name = name; deed = d; at_once = most_at_once } ∷ []
chain name d (suc times) = record { name = name; deed = d; at_once = 0 } ∷ chain (name + 1) (deed.Delivery name) times

abbrev pub act : ℕ → ℕ → ℕ → List Item
act name place times = chain name (deed.Act place) times

-- THE FIRST PART: a user packet up, one down from each station, a NAS text up and one down
abbrev pub down_from : ℕ → StationSetup → List Item
down_from steps s = act (probe.down s.id) (send_down steps s.id) 1

abbrev pub first_part : Setup → ℕ → List Item
first_part setup steps =
    act probe.up (send_up steps) 1
    ++ (flat_map (down_from steps) setup.stations
    ++ (act probe.nas_up (send_nas_up steps) 1
    ++ act probe.nas_down (send_nas_down steps) 1))

-- THE SECOND PART, where this station serves: its timer, a handover with its path switch, or within the station where there is no other;
-- idle, a Service Request, a connection with its security, and a user packet
abbrev pub hands_over : ℕ → ℕ → Option Place → List Item
hands_over steps serving (Some other) = act probe.begin (begins_at steps serving) 2 ++ act probe.command (command steps serving) 5
hands_over steps serving None = act probe.begin (begins_at steps serving) 0 ++ act probe.command (command steps serving) 2

abbrev pub second_part : Setup → ℕ → ℕ → List Item
second_part setup steps serving =
    act probe.cancel (cancel steps serving) 2
    ++ (hands_over steps serving (other_cell setup.cells serving)
    ++ (act probe.idle (go_idle steps) 0
    ++ (act probe.service (service steps) 1
    ++ (act probe.connect (connects_at steps serving) 3
    ++ act probe.again (send_again steps) 1))))

-- THE THIRD PART, where the second one's connection does not heal: an authentication and its Security Mode; then idle, a Service Request, a
-- connection and a user packet as before
abbrev pub third_part : ℕ → ℕ → List Item
third_part steps serving =
    act probe.renew (authenticates steps) 0
    ++ (act probe.command_anew (begins_security steps) 2
    ++ (act probe.idle_anew (go_idle steps) 0
    ++ (act probe.service_anew (service steps) 1
    ++ (act probe.connect_anew (connects_at steps serving) 3
    ++ act probe.anew (send_anew steps) 1))))

-- so many items each part has at most
abbrev pub most_first : ℕ
most_first = 22

abbrev pub most_second : ℕ
most_second = 21

abbrev pub most_third : ℕ
most_third = 13
