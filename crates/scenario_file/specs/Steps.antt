-- The steps of a scenario: for each word of `do` the other fields, in their order, and the event.
use Rattle.std.specs.Prelude.{ℕ, ◌-◌, List, [], ◌∷◌, ◌++◌, Option, Some, None, Result, Ok}
use Rattle.toml.specs.Data.{Members}
use Rattle.rec_base.specs.declared.bearers.Bearer.{Bearer}
use Rattle.rec_base.specs.Lengths.{longest_packet, longest_text, longest_record}
use Rattle.lte_events.specs.{declared.acts.HoKind.HoKind, declared.acts.StationAct.StationAct, declared.events.Event.Event, declared.setups.Setup.Setup}
use Rattle.lte_events.specs.declared.acts.HoKind.TheVariants as kind
use Rattle.lte_events.specs.declared.acts.PhoneAct.TheVariants as phone
use Rattle.lte_events.specs.declared.acts.StationAct.TheVariants as station
use Rattle.lte_events.specs.declared.acts.CoreAct.TheVariants as core
use Rattle.lte_events.specs.declared.addresses.Address.TheVariants as address
use Rattle.lte_events.specs.declared.events.Event.TheVariants as event
use Rattle.scenario_file.specs.{declared.fields.Field.Field, declared.faults.Refusal.Refusal, declared.words.Act.Act, declared.words.Actor.Actor, declared.words.RadioEnd.RadioEnd, declared.words.NasEnd.NasEnd, declared.steps.Target.Target, declared.kept.Step.Step, declared.setup.Start.Start, declared.systems.System.System, Systems.more_of_step, Keys.only_in}
use Rattle.scenario_file.specs.declared.fields.Field.TheVariants.{Phone, Station, Caps, Do, Ksi, Kasme, Cell, Record, From, Bearer as BearerField, Text, Who, N, To, Air, Octets}
use Rattle.scenario_file.specs.declared.words.Act.TheVariants as act
use Rattle.scenario_file.specs.declared.words.Actor.TheVariants as actor
use Rattle.scenario_file.specs.declared.words.RadioEnd.TheVariants as radio
use Rattle.scenario_file.specs.declared.words.NasEnd.TheVariants as nas
use Rattle.scenario_file.specs.declared.steps.Target.TheVariants as target
use Rattle.scenario_file.specs.Values.{◌>>=◌, or_default, number_in, any_number_in, integer_in, station_in, act_in, actor_in, radio_end_in, nas_end_in, srb_in, drb_in, bearer_in, nas_in, path_in, caps_in, key_in, octets_in, cell_in}

-- auth: phone and core authenticate; the capabilities are the phone's where none are given
unfoldable pub auth_of : Setup → Members → Result Event Refusal
auth_of setup table = do
  ksi ← number_in 0 6 Ksi table
  kasme ← key_in Kasme table
  caps ← or_default setup.caps caps_in Caps table
  Ok (event.Auth ksi kasme caps)

-- connect
unfoldable pub connect_of : Members → Result Event Refusal
connect_of table = do
  cell ← cell_in Cell table
  Ok (event.Core (core.Connect cell))

-- x2, s1, intra
unfoldable pub start_of : HoKind → Setup → Members → Result Event Refusal
start_of kind setup table = do
  id ← station_in setup table
  cell ← cell_in Cell table
  Ok (event.Station id (station.Start kind cell))

-- command, cancel, ask
unfoldable pub station_act_of : StationAct → Setup → Members → Result Event Refusal
station_act_of does setup table = do
  id ← station_in setup table
  Ok (event.Station id does)

-- deliver
unfoldable pub deliver_of : Members → Result Event Refusal
deliver_of table = do
  record_number ← integer_in Record table
  Ok (event.Deliver record_number)

-- `station` is a field where the sender is a station, and is not unknown where the sender does not read
abbrev pub if_station : Result RadioEnd Refusal → List Field → List Field
if_station (Ok radio.Phone) fields = fields
if_station other fields = Station ∷ fields

-- user
abbrev pub user_from : RadioEnd → Setup → Members → Result Event Refusal
user_from radio.Phone setup table = do
  bearer ← drb_in BearerField table
  text ← octets_in longest_packet Text table
  Ok (event.Phone (phone.SendUser bearer text))
user_from radio.Station setup table = do
  id ← station_in setup table
  bearer ← drb_in BearerField table
  text ← octets_in longest_packet Text table
  Ok (event.Station id (station.SendUser bearer text))

unfoldable pub user_of : Setup → Members → Result Event Refusal
user_of setup table = do
  from ← radio_end_in From table
  user_from from setup table

-- rrc
abbrev pub rrc_from : RadioEnd → Setup → Members → Result Event Refusal
rrc_from radio.Phone setup table = do
  bearer ← srb_in BearerField table
  text ← octets_in longest_text Text table
  Ok (event.Phone (phone.SendRrc bearer text))
rrc_from radio.Station setup table = do
  id ← station_in setup table
  bearer ← srb_in BearerField table
  text ← octets_in longest_text Text table
  Ok (event.Station id (station.SendRrc bearer text))

unfoldable pub rrc_of : Setup → Members → Result Event Refusal
rrc_of setup table = do
  from ← radio_end_in From table
  rrc_from from setup table

-- nas
abbrev pub nas_from : NasEnd → List ℕ → Event
nas_from nas.Phone text = event.Phone (phone.SendNas text)
nas_from nas.Core text = event.Core (core.SendNas text)

unfoldable pub nas_event_of : Members → Result Event Refusal
nas_event_of table = do
  from ← nas_end_in From table
  text ← octets_in longest_text Text table
  Ok (nas_from from text)

-- skip
abbrev pub if_at_station : Result Actor Refusal → List Field → List Field
if_at_station (Ok actor.Phone) fields = fields
if_at_station (Ok actor.Core) fields = fields
if_at_station other fields = Station ∷ fields

abbrev pub skip_at : Actor → Setup → Members → Result Event Refusal
skip_at actor.Phone setup table = do
  path ← path_in BearerField table
  n ← any_number_in N table
  Ok (event.Phone (phone.Skip path n))
skip_at actor.Station setup table = do
  id ← station_in setup table
  bearer ← bearer_in BearerField table
  n ← any_number_in N table
  Ok (event.Station id (station.Skip bearer n))
skip_at actor.Core setup table = do
  path ← nas_in BearerField table
  n ← any_number_in N table
  Ok (event.Core (core.Skip n))

unfoldable pub skip_of : Setup → Members → Result Event Refusal
skip_of setup table = do
  who ← actor_in Who table
  skip_at who setup table

-- inject: where the octets go, by `to` and then `bearer`
abbrev pub phone_target : Option Bearer → Target
phone_target None = target.PhoneNas
phone_target (Some bearer) = target.PhoneAir bearer

abbrev pub target_at : Actor → Members → Result Target Refusal
target_at actor.Phone table = do
  path ← path_in BearerField table
  Ok (phone_target path)
target_at actor.Station table = do
  bearer ← bearer_in BearerField table
  Ok (target.StationAir bearer)
target_at actor.Core table = do
  path ← nas_in BearerField table
  Ok target.CoreNas

unfoldable pub target_in : Members → Result Target Refusal
target_in table = do
  to ← actor_in To table
  target_at to table

-- `station` and `air` are fields where the bearer is not `nas`, and are not unknown where `to` or
-- `bearer` does not read
abbrev pub if_air : Result Target Refusal → List Field → List Field
if_air (Ok target.PhoneNas) fields = fields
if_air (Ok target.CoreNas) fields = fields
if_air other fields = Station ∷ Air ∷ fields

abbrev pub inject_at : Target → Setup → Members → Result Event Refusal
inject_at target.PhoneNas setup table = do
  octets ← octets_in longest_record Octets table
  Ok (event.Inject address.PhoneNas octets)
inject_at target.CoreNas setup table = do
  octets ← octets_in longest_record Octets table
  Ok (event.Inject address.CoreNas octets)
inject_at (target.PhoneAir bearer) setup table = do
  id ← station_in setup table
  air ← any_number_in Air table
  octets ← octets_in longest_record Octets table
  Ok (event.Inject (address.Phone id air bearer) octets)
inject_at (target.StationAir bearer) setup table = do
  id ← station_in setup table
  air ← any_number_in Air table
  octets ← octets_in longest_record Octets table
  Ok (event.Inject (address.StationAir id air bearer) octets)

unfoldable pub inject_of : Setup → Members → Result Event Refusal
inject_of setup table = do
  place ← target_in table
  inject_at place setup table

-- what happens in a [[step]], by `do`; smc, release, service, resend and idle have no other field
abbrev pub event_by : Act → Setup → Members → Result Event Refusal
event_by act.Auth setup table = auth_of setup table
event_by act.Smc setup table = Ok (event.Core core.StartSmc)
event_by act.Release setup table = Ok (event.Core core.Release)
event_by act.Service setup table = Ok (event.Phone phone.ServiceRequest)
event_by act.Resend setup table = Ok (event.Phone phone.ResendComplete)
event_by act.Idle setup table = Ok (event.Phone phone.GoIdle)
event_by act.Connect setup table = connect_of table
event_by act.X2 setup table = start_of kind.X2 setup table
event_by act.S1 setup table = start_of kind.S1 setup table
event_by act.Intra setup table = start_of kind.Intra setup table
event_by act.Command setup table = station_act_of station.Command setup table
event_by act.Cancel setup table = station_act_of station.Cancel setup table
event_by act.Ask setup table = station_act_of station.Ask setup table
event_by act.Deliver setup table = deliver_of table
event_by act.User setup table = user_of setup table
event_by act.Rrc setup table = rrc_of setup table
event_by act.Nas setup table = nas_event_of table
event_by act.Skip setup table = skip_of setup table
event_by act.Inject setup table = inject_of setup table

-- its fields by `do`, in the order in which they are read
abbrev pub fields_of : Act → Members → List Field
fields_of act.Auth table = Do ∷ Ksi ∷ Kasme ∷ Caps ∷ []
fields_of act.Smc table = Do ∷ []
fields_of act.Release table = Do ∷ []
fields_of act.Service table = Do ∷ []
fields_of act.Resend table = Do ∷ []
fields_of act.Idle table = Do ∷ []
fields_of act.Connect table = Do ∷ Cell ∷ []
fields_of act.X2 table = Do ∷ Station ∷ Cell ∷ []
fields_of act.S1 table = Do ∷ Station ∷ Cell ∷ []
fields_of act.Intra table = Do ∷ Station ∷ Cell ∷ []
fields_of act.Command table = Do ∷ Station ∷ []
fields_of act.Cancel table = Do ∷ Station ∷ []
fields_of act.Ask table = Do ∷ Station ∷ []
fields_of act.Deliver table = Do ∷ Record ∷ []
fields_of act.User table = Do ∷ From ∷ if_station (radio_end_in From table) (BearerField ∷ Text ∷ [])
fields_of act.Rrc table = Do ∷ From ∷ if_station (radio_end_in From table) (BearerField ∷ Text ∷ [])
fields_of act.Nas table = Do ∷ From ∷ Text ∷ []
fields_of act.Skip table = Do ∷ Who ∷ if_at_station (actor_in Who table) (BearerField ∷ N ∷ [])
fields_of act.Inject table = Do ∷ To ∷ BearerField ∷ if_air (target_in table) (Octets ∷ [])

-- to which of so many phones it happens; to the first one where none is given
abbrev pub phone_in : ℕ → Members → Result ℕ Refusal
phone_in phones table = or_default 0 (number_in 0 (phones - 1)) Phone table

-- a [[step]]: `do` is read first, and then the phone
unfoldable pub step_of : System → Start → Members → Result Step Refusal
step_of system start table = do
  does ← act_in Do table
  known ← only_in (fields_of does table ++ more_of_step system) table
  phone ← phone_in start.phones table
  happens ← event_by does start.setup table
  Ok (record { phone = phone; event = happens })
