-- Reading a body: by the role, by whether its frame is the first of the session, and by the kind.
use Rattle.std.specs.Prelude.{ℕ, Bool, true, false, List, [], ◌∷◌, Result, Ok}
use Rattle.rec_base.specs.Bearer.{octet_of}
use Rattle.edge_io.specs.declared.peers.Role.{Role}
use Rattle.lte_events.specs.{declared.acts.PhoneAct.PhoneAct, declared.acts.StationAct.StationAct, declared.acts.CoreAct.CoreAct, declared.inputs.PhoneIn.PhoneIn, declared.inputs.StationIn.StationIn, declared.inputs.CoreIn.CoreIn, declared.inputs.ActorIn.ActorIn}
use Rattle.role_wire.specs.{declared.frames.FrameIn.FrameIn, declared.frames.RoleSetup.RoleSetup}
use Rattle.role_wire.specs.declared.frames.FrameIn.TheVariants.{Setup, Input}
use Rattle.role_wire.specs.Codes.{bearers, nas_alone, nas_octet, nas_or_bearer, skip_octet}
use Rattle.rec_fields.specs.{Field.◌>>=◌, Layout.Readers, Layout.read_rows}
use Rattle.role_wire.specs.Body.{nothing_of, caps_of, auth_of, auth_caps_of, pdu_of, air_of, station_air_of, user_of, rrc_of, nas_of, skip_of, connect_of, start_of, first_of}

-- by the kind; another kind is bad at place 0, and so is no octet
unfoldable pub body_by : {A : Type 0} → Readers ℕ A → List ℕ → Result A ℕ
body_by rows octets = read_rows 0 0 rows octets

-- an act of the phone
abbrev pub phone_act_rows : Readers ℕ PhoneIn
phone_act_rows =
    (0x10, λ octets. nothing_of octets >>= λ none. Ok (PhoneIn.Act PhoneAct.ServiceRequest))
    ∷ (0x11, λ octets. nothing_of octets >>= λ none. Ok (PhoneIn.Act PhoneAct.ResendComplete))
    ∷ (0x12, λ octets. nothing_of octets >>= λ none. Ok (PhoneIn.Act PhoneAct.GoIdle))
    ∷ (0x13, λ octets. user_of octets >>= λ u. Ok (PhoneIn.Act (PhoneAct.SendUser u.0 u.1)))
    ∷ (0x14, λ octets. rrc_of octets >>= λ r. Ok (PhoneIn.Act (PhoneAct.SendRrc r.0 r.1)))
    ∷ (0x15, λ octets. nas_of octets >>= λ text. Ok (PhoneIn.Act (PhoneAct.SendNas text)))
    ∷ (0x16, λ octets. skip_of skip_octet nas_or_bearer octets >>= λ s. Ok (PhoneIn.Act (PhoneAct.Skip s.0 s.1)))
    ∷ []

-- an input of the phone
abbrev pub phone_rows : Readers ℕ PhoneIn
phone_rows =
    (0x01, λ octets. auth_of octets >>= λ a. Ok (PhoneIn.Auth a.0 a.1))
    ∷ (0x02, λ octets. pdu_of octets >>= λ pdu. Ok (PhoneIn.Nas pdu))
    ∷ (0x03, λ octets. station_air_of octets >>= λ a. Ok (PhoneIn.Air a.0 a.1 a.2 a.3))
    ∷ phone_act_rows

-- an act of a station
abbrev pub station_act_rows : Readers ℕ StationIn
station_act_rows =
    (0x13, λ octets. user_of octets >>= λ u. Ok (StationIn.Act (StationAct.SendUser u.0 u.1)))
    ∷ (0x14, λ octets. rrc_of octets >>= λ r. Ok (StationIn.Act (StationAct.SendRrc r.0 r.1)))
    ∷ (0x16, λ octets. skip_of octet_of bearers octets >>= λ s. Ok (StationIn.Act (StationAct.Skip s.0 s.1)))
    ∷ (0x30, λ octets. start_of octets >>= λ s. Ok (StationIn.Act (StationAct.Start s.0 s.1)))
    ∷ (0x31, λ octets. nothing_of octets >>= λ none. Ok (StationIn.Act StationAct.Command))
    ∷ (0x32, λ octets. nothing_of octets >>= λ none. Ok (StationIn.Act StationAct.Cancel))
    ∷ (0x33, λ octets. nothing_of octets >>= λ none. Ok (StationIn.Act StationAct.Ask))
    ∷ []

-- an input of a station
abbrev pub station_rows : Readers ℕ StationIn
station_rows =
    (0x03, λ octets. air_of octets >>= λ a. Ok (StationIn.Air a.0 a.1 a.2))
    ∷ (0x04, λ octets. pdu_of octets >>= λ pdu. Ok (StationIn.S1 pdu))
    ∷ (0x05, λ octets. pdu_of octets >>= λ pdu. Ok (StationIn.X2 pdu))
    ∷ station_act_rows

-- an act of the core
abbrev pub core_act_rows : Readers ℕ CoreIn
core_act_rows =
    (0x15, λ octets. nas_of octets >>= λ text. Ok (CoreIn.Act (CoreAct.SendNas text)))
    ∷ (0x16, λ octets. skip_of nas_octet nas_alone octets >>= λ s. Ok (CoreIn.Act (CoreAct.Skip s.1)))
    ∷ (0x20, λ octets. nothing_of octets >>= λ none. Ok (CoreIn.Act CoreAct.StartSmc))
    ∷ (0x21, λ octets. connect_of octets >>= λ cell. Ok (CoreIn.Act (CoreAct.Connect cell)))
    ∷ (0x22, λ octets. nothing_of octets >>= λ none. Ok (CoreIn.Act CoreAct.Release))
    ∷ []

-- an input of the core
abbrev pub core_rows : Readers ℕ CoreIn
core_rows =
    (0x01, λ octets. auth_caps_of octets >>= λ a. Ok (CoreIn.Auth a.0 a.1 a.2))
    ∷ (0x02, λ octets. pdu_of octets >>= λ pdu. Ok (CoreIn.Nas pdu))
    ∷ (0x04, λ octets. pdu_of octets >>= λ pdu. Ok (CoreIn.S1 pdu))
    ∷ core_act_rows

-- what the actor of a role starts with
abbrev pub setup_rows : Role → Readers ℕ RoleSetup
setup_rows Role.Phone = (0x00, λ octets. caps_of octets >>= λ caps. Ok (RoleSetup.Phone caps)) ∷ []
setup_rows (Role.Station id) = (0x00, λ octets. first_of octets >>= λ f. Ok (RoleSetup.Station f.0 f.1 f.2)) ∷ []
setup_rows Role.Core =
    (0x00, λ octets. first_of octets >>= λ f. Ok (RoleSetup.Core f.0 f.1 f.2))
    ∷ (0x06, λ octets. first_of octets >>= λ f. Ok (RoleSetup.StandardCore f.0 f.1 f.2))
    ∷ []

-- an input of the actor of a role; a station's number is that of the role
abbrev pub input_of : Role → List ℕ → Result ActorIn ℕ
input_of Role.Phone octets = body_by phone_rows octets >>= λ input. Ok (ActorIn.Phone input)
input_of (Role.Station id) octets = body_by station_rows octets >>= λ input. Ok (ActorIn.Station id input)
input_of Role.Core octets = body_by core_rows octets >>= λ input. Ok (ActorIn.Core input)

-- the first frame of a session is a Setup, and no later one is
unfoldable pub body_of : Role → Bool → List ℕ → Result FrameIn ℕ
body_of role true octets = body_by (setup_rows role) octets >>= λ setup. Ok (Setup setup)
body_of role false octets = input_of role octets >>= λ input. Ok (Input input)
