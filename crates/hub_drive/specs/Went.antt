-- How far acts went: all were done, or they were cut at one.
use Rattle.std.specs.Prelude.{◌≡◌, ◌≢◌, ℕ, Option, List, ◌∷◌, ◌++◌, length, take, Result, Ok, Err, IfSome}
use Rattle.std.specs.Option.{option_map}
use Rattle.edge_io.specs.{Octets.GrowsByPrefix, Octets.GrowsByProperPrefix, declared.peers.PeerCall.TheVariants.Start}
use Rattle.edge_io.specs.Peers.{PeersTold, SendFailed, ReceiveFailed, failed_at, taken_from, to_give_of}
use Rattle.run_report.specs.declared.unwritten.Unwritten.{Unwritten}
use Rattle.run_report.specs.declared.unwritten.Unwritten.TheVariants as unwritten
use Rattle.hub_drive.specs.{declared.faults.DriveFault.DriveFault, Outside.Outside, Outside.AllDone}
use Rattle.hub_drive.specs.declared.faults.DriveFault.TheVariants.{Memory, PeerFault, Differs, WriteFault}
use Rattle.hub_drive.specs.Acts.{Wanted, Call, Starting, Sending, Receiving, Act, Writing, Calling}

-- why a text was not written to its end
abbrev pub fault_of : Unwritten → DriveFault
fault_of unwritten.Memory = Memory
fault_of unwritten.WriteFault = WriteFault

-- a call that failed, which may have sent or taken a prefix of its octets
abbrev pub CallFails : Call → Option PeersTold → Option PeersTold → Type 0
CallFails (Starting role) old new = new ≡ option_map (failed_at (Start role)) old
CallFails (Sending peer octets) old new = SendFailed peer octets old new
CallFails (Receiving peer w) old new = ReceiveFailed peer (length w.octets) old new

-- a part of a reply that is not the wanted one: which reply was wanted, and what of it came
pub record Differed (peer : ℕ) (w : Wanted) (step : Option ℕ) (wanted got : List ℕ) (old new : Option PeersTold) : Type 0 where
  pub received : List ℕ
  pub size : length received ≡ length w.octets
  pub other : received ≢ w.octets
  pub step_is : step ≡ w.step
  pub wanted_is : wanted ≡ w.before ++ (w.octets ++ w.behind)
  pub got_is : got ≡ w.before ++ received
  pub told : new ≡ option_map (taken_from peer (length w.octets)) old
  pub gave : IfSome old (λ t. take (length w.octets) (to_give_of peer t.peers) ≡ received)

-- the act at which it was cut, by the fault
abbrev pub ActFails : Act → DriveFault → Outside → Outside → Type 0
ActFails (Writing text) Memory before after = GrowsByPrefix before.written after.written text × (after.peers ≡ before.peers)
ActFails (Writing text) WriteFault before after = GrowsByProperPrefix before.written after.written text × (after.peers ≡ before.peers)
ActFails (Calling call) Memory before after = after ≡ before
ActFails (Calling call) PeerFault before after = (after.written ≡ before.written) × CallFails call before.peers after.peers
ActFails (Calling (Receiving peer w)) (Differs step wanted got) before after =
    (after.written ≡ before.written) × Differed peer w step wanted got before.peers after.peers
ActFails other fault before after = ⊥

-- all acts before one were done, and that one was not
pub record CutAt (acts : List Act) (fault : DriveFault) (before after : Outside) : Type 0 where
  pub made : List Act
  pub next : Act
  pub more : List Act
  pub is : acts ≡ made ++ next ∷ more
  pub between : Outside
  pub did : AllDone made before between
  pub fails : ActFails next fault between after

abbrev pub Went : {A : Type 0} → List Act → Result A DriveFault → Outside → Outside → Type 0
Went acts (Ok done) before after = AllDone acts before after
Went acts (Err fault) before after = CutAt acts fault before after
