-- The packets and texts of the probe, and those of the scenario.
use Rattle.std.specs.Prelude.{ℕ, ◌&&◌, ◌||◌, nat_lt, Bool, true, false, not, if◌then◌else◌, List, Option, Some, None}
use Rattle.std.specs.List.{list_any}
use Rattle.lte_events.specs.declared.lines.Line.{Line}
use Rattle.item_lines.specs.declared.lines.Told.{Told}
use Rattle.item_lines.specs.Lines.{line_of, is_done, is_text, opened_in}
use Rattle.item_outcomes.specs.Probe.{is_among, probe, up_arrives, down_arrives, nas_up_arrives, nas_down_arrives, again_arrives, text_up, text_down, text_nas_up, text_nas_down, text_again}
use Rattle.item_outcomes.specs.{Standing.Standing, declared.packets.Fate.Fate, declared.packets.Fates.Fates}
use Rattle.item_outcomes.specs.declared.packets.Fate.TheVariants.{Fails, Garbled, Arrives}

-- what becomes of a text by the line of the item that is to bring it, and where there is no such line
abbrev pub fate_in : List ℕ → Line → Fate
fate_in text line = if is_done line.answer then (if is_text text line.opened then Arrives else Garbled) else Fails

abbrev pub fate_by : List ℕ → Option Told → Fate
fate_by text None = Fails
fate_by text (Some t) = fate_in text t.line

abbrev pub fate_of : List Told → ℕ → List ℕ → Fate
fate_of told name text = fate_by text (line_of name told)

abbrev pub fates_of : List Told → ℕ → Fates
fates_of told serving = record {
  up = fate_of told up_arrives text_up;
  down = fate_of told (down_arrives serving) text_down;
  nas_up = fate_of told nas_up_arrives text_nas_up;
  nas_down = fate_of told nas_down_arrives text_nas_down;
  again = fate_of told again_arrives text_again;
}

abbrev pub fates : Standing → Fates
fates s = fates_of s.told s.serving

abbrev pub arrives : Fate → Bool
arrives Arrives = true
arrives other = false

abbrev pub is_garbled : Fate → Bool
is_garbled Garbled = true
is_garbled other = false

abbrev pub failed : Fate → Bool
failed Fails = true
failed other = false

-- packets pass: the one up and the one down from the serving station open to what was sent
abbrev pub passes : Fates → Bool
passes f = arrives f.up && arrives f.down

abbrev pub fails : Fates → Bool
fails f = failed f.up || failed f.down

-- BETTER: packets pass here, and not in the scenario
abbrev pub better : Fates → Fates → Bool
better usual here = passes here && not (passes usual)

-- COUNTS APART: packets pass in the scenario; here one of them is done and opens to other octets
abbrev pub counts_apart : Fates → Fates → Bool
counts_apart usual here = passes usual && (is_garbled here.up || is_garbled here.down)

-- CUT OFF: packets pass in the scenario, and one fails here; the packet after the Service Request arrives
abbrev pub cut_off : Fates → Fates → Bool
cut_off usual here = passes usual && (fails here && arrives here.again)

-- STUCK: the same, and that packet does not arrive
abbrev pub is_stuck : Fates → Bool
is_stuck here = fails here && not (arrives here.again)

abbrev pub stuck : Fates → Fates → Bool
stuck usual here = passes usual && is_stuck here

-- NAS APART: a NAS text of the probe, or its packet after the Service Request, arrives in the scenario and not here
abbrev pub is_lost_on_way : Fate → Fate → Bool
is_lost_on_way usual here = arrives usual && not (arrives here)

abbrev pub nas_apart : Fates → Fates → Bool
nas_apart usual here =
    is_lost_on_way usual.nas_up here.nas_up || (is_lost_on_way usual.nas_down here.nas_down || is_lost_on_way usual.again here.again)

-- PACKET LOST: a text that an item opens in the scenario, not one of the fault's own, is not opened by it here, or to other octets
abbrev pub opens_same : List Told → ℕ → Option (List ℕ) → Bool
opens_same here name None = true
opens_same here name (Some text) = is_text text (opened_in (line_of name here))

abbrev pub is_lost : List ℕ → List Told → Told → Bool
is_lost own here t = not (opens_same here t.name t.line.opened) && (nat_lt t.name probe && not (is_among own t.name))

abbrev pub packet_lost : List ℕ → List Told → List Told → Bool
packet_lost own usual here = list_any (is_lost own here) usual
