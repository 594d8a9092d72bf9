-- What the probe finds at stations and core.
use Rattle.std.specs.Prelude.{ℕ, ◌==◌, ◌&&◌, Bool, false, not, List, [], ◌∷◌, Option, Some, None}
use Rattle.std.specs.List.{list_any}
use Rattle.item_lines.specs.declared.lines.Told.{Told}
use Rattle.item_lines.specs.Lines.{line_of, is_done, is_no_ue, answers}
use Rattle.item_outcomes.specs.{Packets.fates, Packets.passes, Probe.down, Probe.handover, Standing.Standing}

-- CONTEXT LEFT: a station other than the serving one answers the probe's packet down otherwise than NoUe, and in the scenario NoUe
abbrev pub has_no_ue : List Told → ℕ → Bool
has_no_ue told station = answers is_no_ue (line_of (down station) told)

abbrev pub is_left : Standing → Standing → ℕ → Bool
is_left usual here station = not (station == here.serving) && (has_no_ue usual.told station && not (has_no_ue here.told station))

abbrev pub all_stations : List ℕ
all_stations = 0 ∷ 1 ∷ 2 ∷ 3 ∷ 4 ∷ 5 ∷ 6 ∷ 7 ∷ []

abbrev pub context_left : Standing → Standing → Bool
context_left usual here = list_any (is_left usual here) all_stations

-- NO HANDOVER: a step of the probe's handover or of its path switch is done in the scenario and not here
abbrev pub is_done_at : List Told → ℕ → Bool
is_done_at told name = answers is_done (line_of name told)

abbrev pub is_undone : List Told → List Told → ℕ → Bool
is_undone usual here name = is_done_at usual name && not (is_done_at here name)

abbrev pub no_handover : List Told → List Told → Bool
no_handover usual here = list_any (is_undone usual here) handover

-- MISROUTED: packets pass, and the core has the phone elsewhere than at the serving station; in the scenario it has it there
abbrev pub is_at : ℕ → Option ℕ → Bool
is_at station None = false
is_at station (Some other) = other == station

abbrev pub is_routed : Standing → Bool
is_routed s = is_at s.serving s.core

abbrev pub misrouted : Standing → Standing → Bool
misrouted usual here = passes (fates here) && (not (is_routed here) && is_routed usual)
