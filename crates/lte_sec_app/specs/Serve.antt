-- What is so of `serve` at each status, by the port and the output before and after.
use Rattle.std.specs.Prelude.{◌≡◌, ◌⊎◌, ℕ, ◌++◌, true, Some, List, codes}
use Rattle.std.specs.Fmt.{decimal}
use Rattle.edge_io.specs.{Told.Told, Cause.Rose, Octets.Grows, Octets.GrowsByProperPrefix, declared.peers.Role.Role}
use Rattle.role_wire.specs.{declared.frames.FrameIn.FrameIn, declared.frames.FrameFault.FrameFault, Frame.frame_fault_number}
use Rattle.role_node.specs.{declared.serving.ServeEnd.ServeEnd, Actor.replies}
use Rattle.role_node.specs.Session.{AreFrames, spelled, Session}
use Rattle.lte_sec_app.specs.declared.status.Status.{Status}
use Rattle.lte_sec_app.specs.declared.status.Status.TheVariants.{Done, WriteFault, PeerFault, BadFrame}

-- the line for a frame that is none, by its place in octets and the number of its fault
unfoldable pub bad_frame_text : ℕ → ℕ → List ℕ
bad_frame_text place number = codes "bad frame " ++ (decimal place ++ (codes " " ++ (decimal number ++ codes "\n")))

-- what is so of such a line at the status with which it was written; no other status comes
abbrev pub SaidAt : List ℕ → Status → Told → Told → Type 0
SaidAt text BadFrame out out' = Grows out.written out'.written text
SaidAt text WriteFault out out' = Rose out.write_faults out'.write_faults × GrowsByProperPrefix out.written out'.written text
SaidAt text other out out' = ⊥

-- a session that ended at a frame that is none, and what is so of the line for it
pub record EndsBad (role : Role) (port port' : Told) (Said : List ℕ → Type 0) : Type 0 where
  pub place : ℕ
  pub fault : FrameFault
  pub session : Session role (ServeEnd.BadFrame place fault) port port'
  pub said : Said (bad_frame_text place (frame_fault_number fault))

-- the port did not open, and nothing was read or written
pub record NotOpened (port port' : Told) : Type 0 where
  pub fault : Rose port.open_faults port'.open_faults
  pub left : port'.left ≡ port.left
  pub written : port'.written ≡ port.written

-- a count of faults of the port rose: at its opening, or at a read or a write of the session
abbrev pub PortFailed : Role → Told → Told → Type 0
PortFailed role port port' = NotOpened port port' ⊎ (Session role ServeEnd.ReadFault port port' ⊎ Session role ServeEnd.WriteFault port port')

-- what is so at each status; no other status comes
abbrev pub ServeAt : Role → Status → Told → Told → Told → Told → Type 0
ServeAt role Done port port' out out' = Session role ServeEnd.Done port port' × (out' ≡ out)
ServeAt role BadFrame port port' out out' = EndsBad role port port' (Grows out.written out'.written)
ServeAt role WriteFault port port' out out' = Rose out.write_faults out'.write_faults × EndsBad role port port' (GrowsByProperPrefix out.written out'.written)
ServeAt role PeerFault port port' out out' = PortFailed role port port' × (out' ≡ out)
ServeAt role other port port' out out' = ⊥

-- Where the port has the octets of good frames and no more, and none of its counts rose, the status is Done and each frame
-- has its reply.
abbrev pub ServeIsComplete : Role → Status → Told → Told → Type 0
ServeIsComplete role status port port' =
    (frames : List FrameIn) → AreFrames role true frames → port.left ≡ Some (spelled frames)
    → ¬ (Rose port.read_faults port'.read_faults) → ¬ (Rose port.write_faults port'.write_faults) → ¬ (Rose port.open_faults port'.open_faults)
    → (status ≡ Done) × Grows port.written port'.written (replies role frames)
