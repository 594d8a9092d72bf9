-- The event of two parts, what it is besides its text and the octets of the text; and how long that text can be.
use Rattle.std.specs.Prelude.{ℕ, List}
use Rattle.rec_base.specs.Lengths.{longest_packet, longest_text, longest_record}
use Rattle.lte_events.specs.{declared.acts.PhoneAct.PhoneAct, declared.acts.StationAct.StationAct, declared.acts.CoreAct.CoreAct, declared.events.Event.Event, declared.heads.PhoneHead.PhoneHead, declared.heads.StationHead.StationHead, declared.heads.CoreHead.CoreHead, declared.heads.Head.Head}
use Rattle.lte_events.specs.declared.acts.PhoneAct.TheVariants as phone
use Rattle.lte_events.specs.declared.acts.StationAct.TheVariants as station
use Rattle.lte_events.specs.declared.acts.CoreAct.TheVariants as core
use Rattle.lte_events.specs.declared.events.Event.TheVariants as event
use Rattle.lte_events.specs.declared.heads.PhoneHead.TheVariants as phone_head
use Rattle.lte_events.specs.declared.heads.StationHead.TheVariants as station_head
use Rattle.lte_events.specs.declared.heads.CoreHead.TheVariants as core_head
use Rattle.lte_events.specs.declared.heads.Head.TheVariants as head

-- the act of a phone
abbrev pub phone_joined : PhoneHead → List ℕ → PhoneAct
phone_joined phone_head.ServiceRequest text = phone.ServiceRequest
phone_joined phone_head.ResendComplete text = phone.ResendComplete
phone_joined phone_head.GoIdle text = phone.GoIdle
phone_joined (phone_head.SendUser bearer) text = phone.SendUser bearer text
phone_joined (phone_head.SendRrc bearer) text = phone.SendRrc bearer text
phone_joined phone_head.SendNas text = phone.SendNas text
phone_joined (phone_head.Skip bearer n) text = phone.Skip bearer n

-- the act of a station
abbrev pub station_joined : StationHead → List ℕ → StationAct
station_joined (station_head.Start kind cell) text = station.Start kind cell
station_joined station_head.Command text = station.Command
station_joined station_head.Cancel text = station.Cancel
station_joined station_head.Ask text = station.Ask
station_joined (station_head.SendUser bearer) text = station.SendUser bearer text
station_joined (station_head.SendRrc bearer) text = station.SendRrc bearer text
station_joined (station_head.Skip bearer n) text = station.Skip bearer n

-- the act of the core
abbrev pub core_joined : CoreHead → List ℕ → CoreAct
core_joined core_head.StartSmc text = core.StartSmc
core_joined (core_head.Connect cell) text = core.Connect cell
core_joined core_head.Release text = core.Release
core_joined core_head.SendNas text = core.SendNas text
core_joined (core_head.Skip n) text = core.Skip n

-- the event
abbrev pub joined : Head → List ℕ → Event
joined (head.Auth ksi kasme caps) text = event.Auth ksi kasme caps
joined (head.Phone act) text = event.Phone (phone_joined act text)
joined (head.Station id act) text = event.Station id (station_joined act text)
joined (head.Core act) text = event.Core (core_joined act text)
joined (head.Deliver number) text = event.Deliver number
joined (head.Inject to) text = event.Inject to text

-- the greatest length of the text of such an act, and of such an event
abbrev pub most_of_phone : PhoneHead → ℕ
most_of_phone (phone_head.SendUser bearer) = longest_packet
most_of_phone (phone_head.SendRrc bearer) = longest_text
most_of_phone phone_head.SendNas = longest_text
most_of_phone other = 0

abbrev pub most_of_station : StationHead → ℕ
most_of_station (station_head.SendUser bearer) = longest_packet
most_of_station (station_head.SendRrc bearer) = longest_text
most_of_station other = 0

abbrev pub most_of_core : CoreHead → ℕ
most_of_core core_head.SendNas = longest_text
most_of_core other = 0

abbrev pub most : Head → ℕ
most (head.Phone act) = most_of_phone act
most (head.Station id act) = most_of_station act
most (head.Core act) = most_of_core act
most (head.Inject to) = longest_record
most other = 0
