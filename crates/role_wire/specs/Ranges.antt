-- Which frames there are: for each role, the fields in their ranges.
use Rattle.std.specs.Prelude.{◌≡◌, ◌≢◌, ℕ, Bool, true, false, ◌≤◌, List, [], ◌∷◌, length, All}
use Rattle.alg_choice.specs.{declared.algs.Eea.Eea, Caps.IsCaps}
use Rattle.annex_a_keys.specs.Cell.{IsCell}
use Rattle.rec_base.specs.Lengths.{longest_packet, longest_text, longest_record}
use Rattle.rec_base.specs.Ranges.{Is32Bits}
use Rattle.edge_io.specs.declared.peers.Role.{Role}
use Rattle.lte_events.specs.Ranges.{PhoneTakes, StationTakes, CoreTakes}
use Rattle.lte_events.specs.{Site.Site, Site.IsCellTable, declared.acts.PhoneAct.PhoneAct, declared.acts.StationAct.StationAct, declared.acts.CoreAct.CoreAct, declared.inputs.PhoneIn.PhoneIn, declared.inputs.StationIn.StationIn, declared.inputs.CoreIn.CoreIn, declared.inputs.ActorIn.ActorIn}
use Rattle.role_wire.specs.{declared.frames.FrameIn.FrameIn, declared.frames.RoleSetup.RoleSetup}
use Rattle.role_wire.specs.declared.frames.FrameIn.TheVariants.{Setup, Input}

-- What the types of the program leave open: a KSI is 0 to 6 (TS 24.301 9.9.3.21), a station 0 to 7; user
-- text goes on a DRB and RRC text on an SRB; first numbers begin at 1, and there is a cell.
abbrev pub IsSetup : RoleSetup → Type 0
IsSetup (RoleSetup.Phone caps) = Unit {0}
IsSetup (RoleSetup.Station order first cells) = (1 ≤ first) × (1 ≤ length cells)
IsSetup (RoleSetup.Core order first cells) = (1 ≤ first) × (1 ≤ length cells)
IsSetup (RoleSetup.StandardCore order first cells) = (1 ≤ first) × (1 ≤ length cells)

abbrev pub IsPhoneIn : PhoneIn → Type 0
IsPhoneIn (PhoneIn.Air station air bearer pdu) = station ≤ 7
IsPhoneIn other = PhoneTakes other

abbrev pub IsInput : ActorIn → Type 0
IsInput (ActorIn.Phone input) = IsPhoneIn input
IsInput (ActorIn.Station id input) = (id ≤ 7) × StationTakes input
IsInput (ActorIn.Core input) = CoreTakes input

abbrev pub IsFrameIn : FrameIn → Type 0
IsFrameIn (Setup setup) = IsSetup setup
IsFrameIn (Input input) = IsInput input

-- What the types of the program say: the sizes of texts, keys and lists, and the ranges of numbers.
-- one algorithm, or two different ones
abbrev pub IsOrder : List Eea → Type 0
IsOrder [] = ⊥
IsOrder (first ∷ []) = Unit {0}
IsOrder (first ∷ second ∷ []) = second ≢ first
IsOrder (first ∷ second ∷ third ∷ rest) = ⊥

pub record IsFirst (order : List Eea) (first : ℕ) (cells : List Site) : Type 0 where
  pub is_order : IsOrder order
  pub is_number : Is32Bits first
  pub is_table : IsCellTable cells
  pub are_cells : All (λ (s : Site). IsCell s.cell) cells

abbrev pub SetupSized : RoleSetup → Type 0
SetupSized (RoleSetup.Phone caps) = IsCaps caps
SetupSized (RoleSetup.Station order first cells) = IsFirst order first cells
SetupSized (RoleSetup.Core order first cells) = IsFirst order first cells
SetupSized (RoleSetup.StandardCore order first cells) = IsFirst order first cells

abbrev pub PhoneActSized : PhoneAct → Type 0
PhoneActSized (PhoneAct.SendUser bearer text) = length text ≤ longest_packet
PhoneActSized (PhoneAct.SendRrc bearer text) = length text ≤ longest_text
PhoneActSized (PhoneAct.SendNas text) = length text ≤ longest_text
PhoneActSized (PhoneAct.Skip bearer n) = Is32Bits n
PhoneActSized _ = Unit {0}

abbrev pub PhoneInSized : PhoneIn → Type 0
PhoneInSized (PhoneIn.Auth ksi kasme) = length kasme ≡ 32
PhoneInSized (PhoneIn.Act act) = PhoneActSized act
PhoneInSized (PhoneIn.Nas pdu) = length pdu ≤ longest_record
PhoneInSized (PhoneIn.Air station air bearer pdu) = Is32Bits air × (length pdu ≤ longest_record)

abbrev pub StationActSized : StationAct → Type 0
StationActSized (StationAct.Start kind cell) = IsCell cell
StationActSized (StationAct.SendUser bearer text) = length text ≤ longest_packet
StationActSized (StationAct.SendRrc bearer text) = length text ≤ longest_text
StationActSized (StationAct.Skip bearer n) = Is32Bits n
StationActSized _ = Unit {0}

abbrev pub StationInSized : StationIn → Type 0
StationInSized (StationIn.Act act) = StationActSized act
StationInSized (StationIn.Air air bearer pdu) = Is32Bits air × (length pdu ≤ longest_record)
StationInSized (StationIn.S1 pdu) = length pdu ≤ longest_record
StationInSized (StationIn.X2 pdu) = length pdu ≤ longest_record

abbrev pub CoreActSized : CoreAct → Type 0
CoreActSized (CoreAct.Connect cell) = IsCell cell
CoreActSized (CoreAct.SendNas text) = length text ≤ longest_text
CoreActSized (CoreAct.Skip n) = Is32Bits n
CoreActSized _ = Unit {0}

abbrev pub CoreInSized : CoreIn → Type 0
CoreInSized (CoreIn.Auth ksi kasme caps) = (length kasme ≡ 32) × IsCaps caps
CoreInSized (CoreIn.Act act) = CoreActSized act
CoreInSized (CoreIn.Nas pdu) = length pdu ≤ longest_record
CoreInSized (CoreIn.S1 pdu) = length pdu ≤ longest_record

abbrev pub InputSized : ActorIn → Type 0
InputSized (ActorIn.Phone input) = PhoneInSized input
InputSized (ActorIn.Station id input) = StationInSized input
InputSized (ActorIn.Core input) = CoreInSized input

abbrev pub IsSized : FrameIn → Type 0
IsSized (Setup setup) = SetupSized setup
IsSized (Input input) = InputSized input

-- whose frame it is: a station's input names the station of the role
abbrev pub IsOf : Role → Bool → FrameIn → Type 0
IsOf Role.Phone true (Setup (RoleSetup.Phone caps)) = Unit {0}
IsOf (Role.Station id) true (Setup (RoleSetup.Station order first cells)) = Unit {0}
IsOf Role.Core true (Setup (RoleSetup.Core order first cells)) = Unit {0}
IsOf Role.Core true (Setup (RoleSetup.StandardCore order first cells)) = Unit {0}
IsOf Role.Phone false (Input (ActorIn.Phone input)) = Unit {0}
IsOf (Role.Station id) false (Input (ActorIn.Station named input)) = named ≡ id
IsOf Role.Core false (Input (ActorIn.Core input)) = Unit {0}
IsOf _ _ _ = ⊥

-- A frame for this role, the first of a session or a later one.
pub record IsFrame (role : Role) (first : Bool) (frame : FrameIn) : Type 0 where
  pub of : IsOf role first frame
  pub input : IsFrameIn frame
  pub sized : IsSized frame

-- a role of the system: a station is 0 to 7
abbrev pub IsRole : Role → Type 0
IsRole (Role.Station id) = id ≤ 7
IsRole _ = Unit {0}
