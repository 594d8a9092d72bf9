-- Which setups, events and inputs there are: each value in its range.
use Rattle.std.specs.Prelude.{ℕ, ◌≤◌, ◌==◌, Bool, IsTrue, List, All}
use Rattle.std.specs.List.{list_any, IsDistinct}
use Rattle.alg_choice.specs.Caps.{IsCaps}
use Rattle.annex_a_keys.specs.Cell.{IsCell}
use Rattle.rec_base.specs.Bearer.{IsSrb, IsDrb}
use Rattle.rec_base.specs.Lengths.{longest_packet, longest_text, longest_record}
use Rattle.rec_base.specs.Ranges.{IsNumber, IsText, IsKey}
use Rattle.lte_events.specs.{Site.Site, declared.acts.PhoneAct.PhoneAct, declared.acts.CoreAct.CoreAct, declared.acts.StationAct.StationAct, declared.addresses.Address.Address, declared.events.Event.Event, declared.inputs.PhoneIn.PhoneIn, declared.inputs.StationIn.StationIn, declared.inputs.CoreIn.CoreIn, declared.setups.Setup.Setup, declared.setups.StationSetup.StationSetup}

-- SETUPS

-- whether one of the stations has this number
abbrev pub has_station : List StationSetup → ℕ → Bool
has_station stations id = list_any (λ s. s.id == id) stations

-- a station: its number is 0 to 7, and it draws from 1 on
abbrev pub IsStation : StationSetup → Type 0
IsStation s = (s.id ≤ 7) × IsNumber s.first

-- a cell of one of the stations
abbrev pub IsSiteOf : List StationSetup → Site → Type 0
IsSiteOf stations site = IsCell site.cell × IsTrue (has_station stations site.station)

-- a setup, whose stations have different numbers
pub record IsSetup (setup : Setup) : Type 0 where
  pub caps : IsCaps setup.caps
  pub core_first : IsNumber setup.core_first
  pub stations : All IsStation setup.stations
  pub ids_differ : IsDistinct (λ s t. s.id == t.id) setup.stations
  pub sites : All (IsSiteOf setup.stations) setup.cells

-- EVENTS

-- the texts and cells of an act
abbrev pub IsPhoneAct : PhoneAct → Type 0
IsPhoneAct (PhoneAct.SendUser bearer text) = IsText longest_packet text
IsPhoneAct (PhoneAct.SendRrc bearer text) = IsText longest_text text
IsPhoneAct (PhoneAct.SendNas text) = IsText longest_text text
IsPhoneAct other = Unit {0}

abbrev pub IsStationAct : StationAct → Type 0
IsStationAct (StationAct.Start kind cell) = IsCell cell
IsStationAct (StationAct.SendUser bearer text) = IsText longest_packet text
IsStationAct (StationAct.SendRrc bearer text) = IsText longest_text text
IsStationAct other = Unit {0}

abbrev pub IsCoreAct : CoreAct → Type 0
IsCoreAct (CoreAct.Connect cell) = IsCell cell
IsCoreAct (CoreAct.SendNas text) = IsText longest_text text
IsCoreAct other = Unit {0}

-- where octets can be injected: at the phone and the core on NAS, and on the radio interface
abbrev pub TakesInjected : Address → Type 0
TakesInjected Address.CoreS1 = ⊥
TakesInjected (Address.StationS1 station) = ⊥
TakesInjected (Address.StationX2 station) = ⊥
TakesInjected other = Unit {0}

-- an event: a KSI is 0 to 6 (TS 24.301 9.9.3.21)
abbrev pub IsEvent : Event → Type 0
IsEvent (Event.Auth ksi kasme caps) = (ksi ≤ 6) × IsKey kasme × IsCaps caps
IsEvent (Event.Phone act) = IsPhoneAct act
IsEvent (Event.Station id act) = IsStationAct act
IsEvent (Event.Core act) = IsCoreAct act
IsEvent (Event.Deliver i) = Unit {0}
IsEvent (Event.Inject to octets) = TakesInjected to × IsText longest_record octets

-- WHAT ACTORS TAKE

-- user data goes on a DRB, and RRC on an SRB (TS 36.331 4.2.2)
abbrev pub PhoneDoes : PhoneAct → Type 0
PhoneDoes (PhoneAct.SendUser bearer text) = IsDrb bearer
PhoneDoes (PhoneAct.SendRrc bearer text) = IsSrb bearer
PhoneDoes other = Unit {0}

abbrev pub StationDoes : StationAct → Type 0
StationDoes (StationAct.SendUser bearer text) = IsDrb bearer
StationDoes (StationAct.SendRrc bearer text) = IsSrb bearer
StationDoes other = Unit {0}

-- the inputs of a phone, a station and the core
abbrev pub PhoneTakes : PhoneIn → Type 0
PhoneTakes (PhoneIn.Auth ksi root) = ksi ≤ 6
PhoneTakes (PhoneIn.Act act) = PhoneDoes act
PhoneTakes other = Unit {0}

abbrev pub StationTakes : StationIn → Type 0
StationTakes (StationIn.Act act) = StationDoes act
StationTakes other = Unit {0}

abbrev pub CoreTakes : CoreIn → Type 0
CoreTakes (CoreIn.Auth ksi root caps) = ksi ≤ 6
CoreTakes other = Unit {0}
