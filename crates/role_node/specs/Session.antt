-- A session: which frames were read, what was written, and how it ended.
use Rattle.std.specs.Prelude.{◌≡◌, ℕ, ◌-◌, ◌^◌, Bool, true, false, min, Some, List, [], ◌∷◌, ◌++◌, length, Err}
use Rattle.std.specs.List.{flat_map}
use Rattle.edge_io.specs.{Told.Told, Told.HasEnded, Cause.Rose, declared.peers.Role.Role}
use Rattle.edge_io.specs.Octets.{Gives, Grows, GrowsByProperPrefix}
use Rattle.role_wire.specs.{declared.frames.FrameIn.FrameIn, declared.frames.FrameFault.FrameFault, Ranges.IsFrame}
use Rattle.role_wire.specs.declared.frames.FrameFault.TheVariants.{Ended, Truncated, TooLong, BadBody}
use Rattle.role_wire.specs.declared.frames.FrameFault.TheVariants as faults
use Rattle.role_wire.specs.Frame.{frame_spelling, IsLess, IsTaken, MetEnd}
use Rattle.role_node.specs.{Actor.replies, declared.serving.ServeEnd.ServeEnd}
use Rattle.role_node.specs.declared.serving.ServeEnd.TheVariants.{Done, BadFrame, ReadFault, WriteFault}

-- frames of this role in its ranges; of a whole session the first is a Setup, and no later one is
abbrev pub AreFrames : Role → Bool → List FrameIn → Type 0
AreFrames role first [] = Unit {0}
AreFrames role first (frame ∷ frames) = IsFrame role first frame × AreFrames role false frames

-- their octets
abbrev pub spelled : List FrameIn → List ℕ
spelled frames = flat_map frame_spelling frames

-- whether the frame behind these is the first of the session
abbrev pub opens : List FrameIn → Bool
opens [] = true
opens _ = false

-- the place behind these frames, in octets. It is a number of 64 bits, and stops at the greatest.
abbrev pub place_behind : List FrameIn → ℕ
place_behind frames = min (length (spelled frames)) (2 ^ 64 - 1)

-- the faults of what is no frame
abbrev pub IsBad : FrameFault → Type 0
IsBad Ended = ⊥
IsBad faults.ReadFault = ⊥
IsBad _ = Unit {0}

-- the end of a session at a frame that is not read
abbrev pub end_of : ℕ → FrameFault → ServeEnd
end_of place Ended = Done
end_of place faults.ReadFault = ReadFault
end_of place fault = BadFrame place fault

-- What is so of a session at each end, by the frames read and what was taken behind them.
abbrev pub SessionAt : Role → ServeEnd → List FrameIn → List ℕ → Told → Told → Type 0
-- the input was read to its end, and each frame has its reply
SessionAt role Done frames rest before after =
    (rest ≡ []) × HasEnded after × Grows before.written after.written (replies role frames)
-- the next frame is none, and each frame before it has its reply
SessionAt role (BadFrame place fault) frames rest before after =
    IsBad fault
    × (place ≡ place_behind frames)
    × IsTaken role (opens frames) (Err fault) rest after.left
    × Grows before.written after.written (replies role frames)
    × MetEnd (Err fault) before.ended after.ended
-- a read failed before the end was met: less than a frame was taken of the next one, and each frame before it has its reply
SessionAt role ReadFault frames rest before after =
    Rose before.read_faults after.read_faults × IsLess rest × (after.ended ≡ before.ended) × Grows before.written after.written (replies role frames)
-- a write failed: of the replies a prefix is written, and something of them was still to be written
SessionAt role WriteFault frames rest before after =
    Rose before.write_faults after.write_faults
    × (rest ≡ [])
    × (after.ended ≡ before.ended)
    × GrowsByProperPrefix before.written after.written (replies role frames)

-- A session of this role with this end: the octets left begin with those of good frames and then the rest that was taken.
pub record Session (role : Role) (end : ServeEnd) (before after : Told) : Type 0 where
  pub frames : List FrameIn
  pub rest : List ℕ
  pub good : AreFrames role true frames
  pub gives : Gives before.left after.left (spelled frames ++ rest)
  pub ends : SessionAt role end frames rest before after

-- Where an input has the octets of good frames and no more, and no count of reads or writes rose, the session is done and each
-- frame has its reply.
abbrev pub SessionIsComplete : Role → ServeEnd → Told → Told → Type 0
SessionIsComplete role end before after =
    (frames : List FrameIn) → AreFrames role true frames → before.left ≡ Some (spelled frames)
    → ¬ (Rose before.read_faults after.read_faults) → ¬ (Rose before.write_faults after.write_faults)
    → (end ≡ Done) × Grows before.written after.written (replies role frames)
