-- A frame: the length of its body in two octets, and the body of at most 4,096. And what reading one takes of an input.
use Rattle.std.specs.Prelude.{◌≡◌, ℕ, Bool, IsTrue, ◌+◌, ◌<◌, ◌≤◌, ◌==◌, nat_lt, if◌then◌else◌, ◌⊎◌, List, [], ◌++◌, length, drop, Option, Result, Ok, Err}
use Rattle.std.specs.Io.KnownBytes.{IsAtEnd}
use Rattle.rec_base.specs.BigEndian.{number_at, field_at, octets_of}
use Rattle.edge_io.specs.{Octets.Gives, declared.peers.Role.Role}
use Rattle.role_wire.specs.{declared.frames.FrameIn.FrameIn, declared.frames.FrameFault.FrameFault, Spelling.body_spelling, Reading.body_of, Ranges.IsFrame}
use Rattle.role_wire.specs.declared.frames.FrameFault.TheVariants.{Ended, Truncated, TooLong, BadBody, ReadFault}

-- the greatest length of a body, in octets
abbrev pub body_limit : ℕ
body_limit = 4096

-- a body behind its length
unfoldable pub framed : List ℕ → List ℕ
framed body = octets_of 2 (length body) ++ body

-- the octets of a frame
abbrev pub frame_spelling : FrameIn → List ℕ
frame_spelling frame = framed (body_spelling frame)

-- the number of a fault
abbrev pub frame_fault_number : FrameFault → ℕ
frame_fault_number Ended = 1
frame_fault_number Truncated = 2
frame_fault_number (TooLong size) = 3
frame_fault_number (BadBody place) = 4
frame_fault_number ReadFault = 5

-- the length that octets begin with
abbrev pub size_of : List ℕ → ℕ
size_of octets = number_at octets 0 2

-- what a body answers
abbrev pub of_body : Result FrameIn ℕ → Result FrameIn FrameFault
of_body (Ok frame) = Ok frame
of_body (Err place) = Err (BadBody place)

-- the next frame of an input that has these octets and no more
unfoldable pub frame_at : Role → Bool → List ℕ → Result FrameIn FrameFault
frame_at role first octets =
    if length octets == 0 then Err Ended
    else (if nat_lt (length octets) 2 then Err Truncated
    else (if nat_lt body_limit (size_of octets) then Err (TooLong (size_of octets))
    else (if nat_lt (length octets) (2 + size_of octets) then Err Truncated
    else of_body (body_of role first (field_at octets 2 (size_of octets))))))

-- a length that is allowed, and a body of that length
pub record IsWhole (octets : List ℕ) : Type 0 where
  pub has_length : 2 ≤ length octets
  pub allowed : size_of octets ≤ body_limit
  pub whole : length octets ≡ 2 + size_of octets

-- one octet of a length, or a length that is allowed and fewer octets behind it
abbrev pub IsCut : List ℕ → Type 0
IsCut octets = (length octets ≡ 1) ⊎ ((2 ≤ length octets) × (size_of octets ≤ body_limit) × (length octets < 2 + size_of octets))

-- less than a frame: no octet, or those of one that is cut
abbrev pub IsLess : List ℕ → Type 0
IsLess octets = (length octets ≡ 0) ⊎ IsCut octets

-- which octets were taken, by the answer, and whether the input has ended behind them
abbrev pub IsTaken : Role → Bool → Result FrameIn FrameFault → List ℕ → Option (List ℕ) → Type 0
IsTaken role first (Ok frame) taken left = (taken ≡ frame_spelling frame) × IsFrame role first frame × IsWhole taken
IsTaken role first (Err Ended) taken left = (taken ≡ []) × IsAtEnd left
IsTaken role first (Err Truncated) taken left = IsCut taken × IsAtEnd left
IsTaken role first (Err (TooLong size)) taken left = (length taken ≡ 2) × (size_of taken ≡ size) × (body_limit < size)
IsTaken role first (Err (BadBody place)) taken left = IsWhole taken × (body_of role first (drop 2 taken) ≡ Err place)
IsTaken role first (Err ReadFault) taken left = IsLess taken

-- whether a read of a frame met the end of the input: where it ended before the frame or inside it
abbrev pub MetEnd : Result FrameIn FrameFault → Bool → Bool → Type 0
MetEnd (Err Ended) before after = IsTrue after
MetEnd (Err Truncated) before after = IsTrue after
MetEnd other before after = after ≡ before

-- What a read of a frame took of the octets left, where they are told; where they are not, of some octets.
pub record FrameRead (role : Role) (first : Bool) (result : Result FrameIn FrameFault) (old new : Option (List ℕ)) : Type 0 where
  pub taken : List ℕ
  pub gives : Gives old new taken
  pub is : IsTaken role first result taken new

-- the same of what stands behind a length that is allowed
abbrev pub IsBodyTaken : Role → Bool → ℕ → Result FrameIn FrameFault → List ℕ → Option (List ℕ) → Type 0
IsBodyTaken role first size (Ok frame) taken left = (taken ≡ body_spelling frame) × IsFrame role first frame × (length taken ≡ size)
IsBodyTaken role first size (Err Ended) taken left = ⊥
IsBodyTaken role first size (Err Truncated) taken left = (length taken < size) × IsAtEnd left
IsBodyTaken role first size (Err (TooLong _)) taken left = ⊥
IsBodyTaken role first size (Err (BadBody place)) taken left = (length taken ≡ size) × (body_of role first taken ≡ Err place)
IsBodyTaken role first size (Err ReadFault) taken left = length taken < size

pub record BodyRead (role : Role) (first : Bool) (size : ℕ) (result : Result FrameIn FrameFault) (old new : Option (List ℕ)) : Type 0 where
  pub taken : List ℕ
  pub gives : Gives old new taken
  pub is : IsBodyTaken role first size result taken new
