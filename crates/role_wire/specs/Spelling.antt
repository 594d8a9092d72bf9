-- The body of each frame: the kind, and then the fields in order.
use Rattle.std.specs.Prelude.{ℕ, List, [], ◌∷◌, ◌++◌, length, map}
use Rattle.std.specs.List.{flat_map}
use Rattle.rec_base.specs.{BigEndian.octets_of, Bearer.octet_of}
use Rattle.alg_choice.specs.{declared.algs.Eea.Eea, Algs.identity_of}
use Rattle.rec_fields.specs.{Spelled.cell_octets, Layout.spelled_by}
use Rattle.lte_events.specs.{Site.Site, declared.acts.PhoneAct.PhoneAct, declared.acts.StationAct.StationAct, declared.acts.CoreAct.CoreAct, declared.inputs.PhoneIn.PhoneIn, declared.inputs.StationIn.StationIn, declared.inputs.CoreIn.CoreIn, declared.inputs.ActorIn.ActorIn}
use Rattle.role_wire.specs.{declared.frames.FrameIn.FrameIn, declared.frames.RoleSetup.RoleSetup}
use Rattle.role_wire.specs.declared.frames.FrameIn.TheVariants.{Setup, Input}
use Rattle.role_wire.specs.Codes.{bearers, nas_alone, nas_octet, nas_or_bearer, skip_octet}
use Rattle.role_wire.specs.Body.{caps_body, auth_body, auth_caps_body, pdu_body, air_body, station_air_body, user_body, rrc_body, nas_body, skip_body, connect_body, start_body}

-- a station and its cell
abbrev pub site_octets : Site → List ℕ
site_octets site = site.station ∷ cell_octets site.cell

-- priority, first number and cells, the two lists each behind its count
abbrev pub first_octets : List Eea → ℕ → List Site → List ℕ
first_octets order first cells =
    length order ∷ map identity_of order ++ octets_of 4 first ++ length cells ∷ flat_map site_octets cells

abbrev pub setup_octets : RoleSetup → List ℕ
setup_octets (RoleSetup.Phone caps) = 0x00 ∷ spelled_by caps_body caps
setup_octets (RoleSetup.Station order first cells) = 0x00 ∷ first_octets order first cells
setup_octets (RoleSetup.Core order first cells) = 0x00 ∷ first_octets order first cells
setup_octets (RoleSetup.StandardCore order first cells) = 0x06 ∷ first_octets order first cells

abbrev pub phone_act_octets : PhoneAct → List ℕ
phone_act_octets PhoneAct.ServiceRequest = 0x10 ∷ []
phone_act_octets PhoneAct.ResendComplete = 0x11 ∷ []
phone_act_octets PhoneAct.GoIdle = 0x12 ∷ []
phone_act_octets (PhoneAct.SendUser bearer text) = 0x13 ∷ spelled_by user_body (bearer, text)
phone_act_octets (PhoneAct.SendRrc bearer text) = 0x14 ∷ spelled_by rrc_body (bearer, text)
phone_act_octets (PhoneAct.SendNas text) = 0x15 ∷ spelled_by nas_body text
phone_act_octets (PhoneAct.Skip bearer n) = 0x16 ∷ spelled_by (skip_body skip_octet nas_or_bearer) (bearer, n)

abbrev pub phone_octets : PhoneIn → List ℕ
phone_octets (PhoneIn.Auth ksi kasme) = 0x01 ∷ spelled_by auth_body (ksi, kasme)
phone_octets (PhoneIn.Act act) = phone_act_octets act
phone_octets (PhoneIn.Nas pdu) = 0x02 ∷ spelled_by pdu_body pdu
phone_octets (PhoneIn.Air station air bearer pdu) = 0x03 ∷ spelled_by station_air_body (station, (air, (bearer, pdu)))

abbrev pub station_act_octets : StationAct → List ℕ
station_act_octets (StationAct.Start kind cell) = 0x30 ∷ spelled_by start_body (kind, cell)
station_act_octets StationAct.Command = 0x31 ∷ []
station_act_octets StationAct.Cancel = 0x32 ∷ []
station_act_octets StationAct.Ask = 0x33 ∷ []
station_act_octets (StationAct.SendUser bearer text) = 0x13 ∷ spelled_by user_body (bearer, text)
station_act_octets (StationAct.SendRrc bearer text) = 0x14 ∷ spelled_by rrc_body (bearer, text)
station_act_octets (StationAct.Skip bearer n) = 0x16 ∷ spelled_by (skip_body octet_of bearers) (bearer, n)

abbrev pub station_octets : StationIn → List ℕ
station_octets (StationIn.Act act) = station_act_octets act
station_octets (StationIn.Air air bearer pdu) = 0x03 ∷ spelled_by air_body (air, (bearer, pdu))
station_octets (StationIn.S1 pdu) = 0x04 ∷ spelled_by pdu_body pdu
station_octets (StationIn.X2 pdu) = 0x05 ∷ spelled_by pdu_body pdu

abbrev pub core_act_octets : CoreAct → List ℕ
core_act_octets CoreAct.StartSmc = 0x20 ∷ []
core_act_octets (CoreAct.Connect cell) = 0x21 ∷ spelled_by connect_body cell
core_act_octets CoreAct.Release = 0x22 ∷ []
core_act_octets (CoreAct.SendNas text) = 0x15 ∷ spelled_by nas_body text
core_act_octets (CoreAct.Skip n) = 0x16 ∷ spelled_by (skip_body nas_octet nas_alone) (tt, n)

abbrev pub core_octets : CoreIn → List ℕ
core_octets (CoreIn.Auth ksi kasme caps) = 0x01 ∷ spelled_by auth_caps_body (ksi, (kasme, caps))
core_octets (CoreIn.Act act) = core_act_octets act
core_octets (CoreIn.Nas pdu) = 0x02 ∷ spelled_by pdu_body pdu
core_octets (CoreIn.S1 pdu) = 0x04 ∷ spelled_by pdu_body pdu

abbrev pub input_octets : ActorIn → List ℕ
input_octets (ActorIn.Phone input) = phone_octets input
input_octets (ActorIn.Station id input) = station_octets input
input_octets (ActorIn.Core input) = core_octets input

-- the body of a frame
unfoldable pub body_spelling : FrameIn → List ℕ
body_spelling (Setup setup) = setup_octets setup
body_spelling (Input input) = input_octets input
