-- What is wrong in the scenario itself, without any fault.
use Rattle.std.specs.Prelude.{ℕ, zero, suc, ◌&&◌, Bool, true, false, not, List, [], ◌∷◌, ◌++◌, length, slice_get, Option, Some, None}
use Rattle.std.specs.List.{list_any}
use Rattle.lte_events.specs.{declared.acts.CoreAct.CoreAct, declared.acts.PhoneAct.PhoneAct, declared.acts.StationAct.StationAct, declared.events.Event.Event}
use Rattle.item_faults.specs.{Steps.is_number, Steps.source_of, declared.steps.Step.Step}
use Rattle.item_lines.specs.Lines.{is_text, line_of, opened_in}
use Rattle.item_lines.specs.declared.lines.Told.{Told}
use Rattle.item_outcomes.specs.{Keys.parted, Packets.fates, Packets.is_stuck, Standing.Standing, declared.troubles.Trouble.Trouble}
use Rattle.item_outcomes.specs.declared.troubles.Trouble.TheVariants as trouble

abbrev pub with_if : Bool → Trouble → List Trouble → List Trouble
with_if true t found = found ++ t ∷ []
with_if false t found = found

-- KEYS DIFFER at these items
unfoldable pub keys_from : List Trouble → List ℕ → List Trouble
keys_from found [] = found
keys_from found (n ∷ ns) = keys_from (found ++ trouble.KeysDiffer n ∷ []) ns

-- A PACKET IS LOST: the text that a step sends comes, and no step that delivers it opens it to these octets
abbrev pub phone_text : PhoneAct → Option (List ℕ)
phone_text (PhoneAct.SendUser bearer text) = Some text
phone_text (PhoneAct.SendRrc bearer text) = Some text
phone_text (PhoneAct.SendNas text) = Some text
phone_text other = None

abbrev pub station_text : StationAct → Option (List ℕ)
station_text (StationAct.SendUser bearer text) = Some text
station_text (StationAct.SendRrc bearer text) = Some text
station_text other = None

abbrev pub core_text : CoreAct → Option (List ℕ)
core_text (CoreAct.SendNas text) = Some text
core_text other = None

abbrev pub text_of : Event → Option (List ℕ)
text_of (Event.Phone act) = phone_text act
text_of (Event.Station id act) = station_text act
text_of (Event.Core act) = core_text act
text_of other = None

abbrev pub delivers : ℕ → Step → Bool
delivers number s = is_number number (source_of s.does)

abbrev pub opens : List Told → List ℕ → ℕ → Step → Bool
opens told text number s = delivers number s && is_text text (opened_in (line_of s.number told))

abbrev pub is_unopened : List Told → List Step → ℕ → List ℕ → Bool
is_unopened told steps number text = list_any (delivers number) steps && not (list_any (opens told text number) steps)

abbrev pub is_lost_in : List Told → List Step → ℕ → Option (List ℕ) → Bool
is_lost_in told steps number None = false
is_lost_in told steps number (Some text) = is_unopened told steps number text

abbrev pub text_at : Option Event → Option (List ℕ)
text_at None = None
text_at (Some e) = text_of e

abbrev pub is_lost : List Told → List Event → List Step → ℕ → Bool
is_lost told acts steps number = is_lost_in told steps number (text_at (slice_get acts number))

-- of the first so many steps
unfoldable pub lost_before : List Told → List Event → List Step → List Trouble → ℕ → List Trouble
lost_before told acts steps found zero = found
lost_before told acts steps found (suc number) =
    with_if (is_lost told acts steps number) (trouble.PacketLost number) (lost_before told acts steps found number)

-- ALL OF IT
abbrev pub troubles_of : Standing → List Event → List Step → List Trouble
troubles_of usual acts steps =
    lost_before usual.told acts steps (with_if (is_stuck (fates usual)) trouble.Stuck (keys_from [] (parted usual.told))) (length steps)
