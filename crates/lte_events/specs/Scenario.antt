-- A scenario: what a system starts with, and the events that then happen to it.
use Rattle.std.specs.Prelude.{ℕ, ◌≤◌, IsTrue, List, length, All}
use Rattle.lte_events.specs.Ranges.{has_station, PhoneDoes, StationDoes, IsEvent, IsSetup}
use Rattle.lte_events.specs.{declared.addresses.Address.Address, declared.events.Event.Event, declared.setups.Setup.Setup}
use Rattle.lte_events.specs.declared.addresses.Address.TheVariants as address
use Rattle.lte_events.specs.declared.events.Event.TheVariants as event

-- how many events there can be
abbrev pub most_events : ℕ
most_events = 200000

-- the station of a place on the radio interface is one of the setup
abbrev pub IsThere : Setup → Address → Type 0
IsThere setup (address.Phone id air bearer) = IsTrue (has_station setup.stations id)
IsThere setup (address.StationAir id air bearer) = IsTrue (has_station setup.stations id)
IsThere setup other = Unit {0}

-- an event names only stations of the setup, and user data goes on a DRB and RRC on an SRB
abbrev pub Suits : Setup → Event → Type 0
Suits setup (event.Phone act) = PhoneDoes act
Suits setup (event.Station id act) = IsTrue (has_station setup.stations id) × StationDoes act
Suits setup (event.Inject to octets) = IsThere setup to
Suits setup other = Unit {0}

-- what can happen to a system with this setup
abbrev pub CanHappen : Setup → Event → Type 0
CanHappen setup e = IsEvent e × Suits setup e

-- a setup with its events; `event_of` tells the event of an item, where the item names its phone too
pub record IsScenarioBy {A : Type 0} (event_of : A → Event) (setup : Setup) (items : List A) : Type 0 where
  -- the numbers of the setup are in their ranges, those of its stations differ, and each cell is of one of its stations
  pub can_start : IsSetup setup
  -- each event is in its range, and can happen to a system with this setup
  pub can_happen : All (λ x. CanHappen setup (event_of x)) items
  -- and there are at most 200,000
  pub few : length items ≤ most_events

-- a scenario of one phone, with one core or with two
abbrev pub IsScenario : Setup → List Event → Type 0
IsScenario setup events = IsScenarioBy (λ e. e) setup events
