-- What is so of `drive` at each status, by the input, the output and the peers before and after.
use Rattle.std.specs.Prelude.{◌≡◌, ◌≢◌, ◌⊎◌, ℕ, ◌+◌, ◌<◌, ◌≤◌, ◌++◌, Option, Some, None, List, length, codes, Result, Ok, Err, IfSome}
use Rattle.std.specs.Fmt.{decimal}
use Rattle.hex.specs.Hex.{encode_lower}
use Rattle.edge_io.specs.{Told.Told, Told.HasEnded, Cause.Rose, Peers.PeersTold}
use Rattle.edge_io.specs.Octets.{Grows, GrowsByPrefix, GrowsByProperPrefix, LosesWithin}
use Rattle.lte_events.specs.{declared.events.Event.Event, declared.setups.Setup.Setup}
use Rattle.hub_drive.specs.{declared.faults.DriveFault.DriveFault, Acts.Call, Acts.calls, Outside.outside, Peerwise.Made, Plan.plan_of}
use Rattle.hub_drive.specs.declared.faults.DriveFault.TheVariants as fault
use Rattle.hub_drive.specs.Driven.{AllStopped, Driven, WhereTold, FailedNext, GivesAll}
use Rattle.run_report.specs.{declared.endings.Ending.Ending, Report.report_of}
use Rattle.run_report.specs.declared.endings.Ending.TheVariants as ending
use Rattle.scenario_file.specs.{declared.faults.ScenarioFault.ScenarioFault, Reading.reading_of, Refused.refused_text}
use Rattle.lte_sec_app.specs.{declared.status.Status.Status, Run.most_octets, Run.WritesAt, Scenario.report_status}
use Rattle.lte_sec_app.specs.declared.status.Status.TheVariants.{Done, Memory, Refused, ReadFault, WriteFault, PeerFault, Coincidence, Differs, TooLong}

-- where a reply was wanted: at the event with this number, or where a peer was set up
abbrev pub wanted_text : Option ℕ → List ℕ
wanted_text (Some step) = decimal step
wanted_text None = codes "setup"

-- the line for a reply that differs: where, the wanted reply, and what came of it
unfoldable pub difference_text : Option ℕ → List ℕ → List ℕ → List ℕ
difference_text step wanted got =
    wanted_text step ++ (codes " differs " ++ (encode_lower wanted ++ (codes " " ++ (encode_lower got ++ codes "\n"))))

-- what was written of this line at the status with which it was written; no other status comes
abbrev pub LineAt : List ℕ → Status → Told → Told → Type 0
LineAt text Differs out out' = Grows out.written out'.written text
LineAt text Memory out out' = out'.written ≡ out.written
LineAt text WriteFault out out' = GrowsByProperPrefix out.written out'.written text
LineAt text other out out' = ⊥

-- What a call did with the peers, by the status that it came to: all that were started are stopped, and one failed exactly where it says so.
pub record UsesPeers (status : Status) (peers' : Option PeersTold) (faults faults' : ℕ) : Type 0 where
  pub stopped : IfSome peers' AllStopped
  pub cause : status ≡ PeerFault → Rose faults faults'
  pub no_fault : status ≢ PeerFault → faults' ≡ faults

-- the plan of a scenario was gone through as far as the answer says, and then all peers that were started were stopped
abbrev pub WasDriven : Setup → List Event → Result Ending DriveFault → Told → Told → Option PeersTold → Option PeersTold → Type 0
WasDriven setup events answer out out' peers peers' =
    Driven (plan_of setup events) answer (outside out.written peers) (outside out'.written peers')

-- the calls on peers that a scenario makes, in order
abbrev pub calls_of : Setup → List Event → List Call
calls_of setup events = calls (plan_of setup events).acts

-- All was done: the report is written, and it ends so. The peers were started, were sent and gave what the scenario says.
pub record AllDriven (setup : Setup) (events : List Event) (ended : Ending) (out out' : Told) (peers peers' : Option PeersTold) : Type 0 where
  pub driven : WasDriven setup events (Ok ended) out out' peers peers'
  pub report : Grows out.written out'.written (report_of setup events).text
  pub ends : ended ≡ (report_of setup events).ends
  pub made : WhereTold (Made (calls_of setup events)) peers peers'

-- how far a report was written that a fault cut: where the output failed, something was still to be written
abbrev pub CutText : DriveFault → List ℕ → Told → Told → Type 0
CutText fault.WriteFault text out out' = GrowsByProperPrefix out.written out'.written text
CutText other text out out' = GrowsByPrefix out.written out'.written text

-- a fault cut it: a prefix of the report is written
pub record CutShort (setup : Setup) (events : List Event) (fault : DriveFault) (out out' : Told) (peers peers' : Option PeersTold) : Type 0 where
  pub driven : WasDriven setup events (Err fault) out out' peers peers'
  pub report : CutText fault (report_of setup events).text out out'

-- a call on a peer failed, which is the next one of the scenario
pub record CallFailed (setup : Setup) (events : List Event) (out out' : Told) (peers peers' : Option PeersTold) : Type 0 where
  pub cut : CutShort setup events fault.PeerFault out out' peers peers'
  pub failed : WhereTold (FailedNext (calls_of setup events)) peers peers'

-- A reply differs from the wanted one: a prefix of the report is written, and then of the line as much as the status says.
pub record ReplyDiffers (setup : Setup) (events : List Event) (status : Status) (out out' : Told) (peers peers' : Option PeersTold) : Type 0 where
  pub step : Option ℕ
  pub wanted : List ℕ
  pub got : List ℕ
  pub between : Told
  pub cut : CutShort setup events (fault.Differs step wanted got) out between peers peers'
  pub line : LineAt (difference_text step wanted got) status between out'

-- memory or the output failed, at the report or at the line for a reply that differs
abbrev pub CutOrDiffers : Setup → List Event → DriveFault → Status → Told → Told → Option PeersTold → Option PeersTold → Type 0
CutOrDiffers setup events fault status out out' peers peers' =
    CutShort setup events fault out out' peers peers' ⊎ ReplyDiffers setup events status out out' peers peers'

-- nothing was written, and no peer was asked
abbrev pub Untouched : Told → Told → Option PeersTold → Option PeersTold → Type 0
Untouched out out' peers peers' = (out' ≡ out) × (peers' ≡ peers)

-- what is so of a scenario at each status; no other status comes
abbrev pub ScenarioAt : Setup → List Event → Status → Told → Told → Option PeersTold → Option PeersTold → Type 0
ScenarioAt setup events Done out out' peers peers' = AllDriven setup events ending.Done out out' peers peers'
ScenarioAt setup events Coincidence out out' peers peers' = AllDriven setup events ending.Chance out out' peers peers'
ScenarioAt setup events PeerFault out out' peers peers' = CallFailed setup events out out' peers peers'
ScenarioAt setup events Differs out out' peers peers' = ReplyDiffers setup events Differs out out' peers peers'
ScenarioAt setup events Memory out out' peers peers' = Untouched out out' peers peers' ⊎ CutOrDiffers setup events fault.Memory Memory out out' peers peers'
ScenarioAt setup events WriteFault out out' peers peers' = CutOrDiffers setup events fault.WriteFault WriteFault out out' peers peers'
ScenarioAt setup events other out out' peers peers' = ⊥

-- what is so of a text, which is a scenario, or of which the refusal is written and no peer asked
abbrev pub TextAt : Result (Setup × List Event) ScenarioFault → Status → Told → Told → Option PeersTold → Option PeersTold → Type 0
TextAt (Ok scenario) status out out' peers peers' = ScenarioAt scenario.0 scenario.1 status out out' peers peers'
TextAt (Err fault) status out out' peers peers' =
    WritesAt (record { text = refused_text fault; ends = Refused }) status out out' × (peers' ≡ peers)

-- the input was read to its end, and the text that it held, within the limit, came to this status
pub record TextDriven (status : Status) (octets : List ℕ) (out out' : Told) (peers peers' : Option PeersTold) : Type 0 where
  pub within : length octets ≤ most_octets
  pub at : TextAt (reading_of octets) status out out' peers peers'

abbrev pub ReadToEnd : Status → Told → Told → Told → Told → Option PeersTold → Option PeersTold → Type 0
ReadToEnd status input input' out out' peers peers' =
    HasEnded input' × IfSome input.left (λ octets. TextDriven status octets out out' peers peers')

-- what is so of `drive` at each status; no other status comes
abbrev pub DriveAt : Status → Told → Told → Told → Told → Option PeersTold → Option PeersTold → Type 0
DriveAt Done input input' out out' peers peers' = ReadToEnd Done input input' out out' peers peers'
DriveAt Refused input input' out out' peers peers' = ReadToEnd Refused input input' out out' peers peers'
DriveAt WriteFault input input' out out' peers peers' = Rose out.write_faults out'.write_faults × ReadToEnd WriteFault input input' out out' peers peers'
DriveAt PeerFault input input' out out' peers peers' = ReadToEnd PeerFault input input' out out' peers peers'
DriveAt Coincidence input input' out out' peers peers' = ReadToEnd Coincidence input input' out out' peers peers'
DriveAt Differs input input' out out' peers peers' = ReadToEnd Differs input input' out out' peers peers'
DriveAt Memory input input' out out' peers peers' = Untouched out out' peers peers' ⊎ ReadToEnd Memory input input' out out' peers peers'
DriveAt ReadFault input input' out out' peers peers' =
    Rose input.read_faults input'.read_faults × LosesWithin most_octets input.left input'.left × (input'.ended ≡ input.ended)
    × Untouched out out' peers peers'
DriveAt TooLong input input' out out' peers peers' =
    (input'.most + most_octets < input.most) × IfSome input.left (λ octets. most_octets < length octets) × Untouched out out' peers peers'
DriveAt other input input' out out' peers peers' = ⊥

-- the statuses at which an input was not read
abbrev pub IsUnread : Status → Type 0
IsUnread Memory = Unit {0}
IsUnread ReadFault = Unit {0}
IsUnread TooLong = Unit {0}
IsUnread other = ⊥

-- Where each peer gives the local replies first and no count rose, the status is that of the report, unless memory ran out.
abbrev pub AllGoes : Setup → List Event → Status → Told → Told → Option PeersTold → ℕ → ℕ → Type 0
AllGoes setup events status out out' peers faults faults' =
    IfSome peers (λ told. GivesAll (calls_of setup events) told → ¬ (Rose faults faults') → ¬ (Rose out.write_faults out'.write_faults)
    → (status ≡ report_status (report_of setup events).ends) ⊎ (status ≡ Memory))

abbrev pub TextGoes : Result (Setup × List Event) ScenarioFault → Status → Told → Told → Option PeersTold → ℕ → ℕ → Type 0
TextGoes (Ok scenario) status out out' peers faults faults' = AllGoes scenario.0 scenario.1 status out out' peers faults faults'
TextGoes (Err fault) status out out' peers faults faults' = ¬ (Rose out.write_faults out'.write_faults) → (status ≡ Refused) ⊎ (status ≡ Memory)

abbrev pub DriveIsComplete : Status → Told → Told → Told → Told → Option PeersTold → ℕ → ℕ → Type 0
DriveIsComplete status input input' out out' peers faults faults' =
    (octets : List ℕ) → input.left ≡ Some octets → length octets ≤ most_octets → ¬ (Rose input.read_faults input'.read_faults)
    → TextGoes (reading_of octets) status out out' peers faults faults'
