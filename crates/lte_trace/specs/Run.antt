-- What is so of a run of the program at each status.
use Rattle.std.specs.Prelude.{◌≡◌, ℕ, ◌+◌, ◌<◌, ◌≤◌, List, length, IfSome}
use Rattle.edge_io.specs.{Told.Told, Told.HasEnded, Cause.Rose}
use Rattle.edge_io.specs.Octets.{Grows, GrowsByProperPrefix, LosesWithin}
use Rattle.lte_trace.specs.{Answer.IsAnswer, declared.answer.Ends.Ends}
use Rattle.lte_trace.specs.declared.answer.Ends.TheVariants as ends
use Rattle.lte_trace.specs.declared.status.Status.{Status}
use Rattle.lte_trace.specs.declared.status.Status.TheVariants.{Done, Memory, Refused, ReadFault, WriteFault, TooLong, TooMany}

-- the greatest number of octets of an input
abbrev pub most_octets : ℕ
most_octets = 1048576

-- an answer to a text was written whole
pub record WritesAnswer (octets : List ℕ) (end : Ends) (out out' : Told) : Type 0 where
  pub text : List ℕ
  pub is : IsAnswer octets end text
  pub written : Grows out.written out'.written text

-- an answer was written in part
pub record CutsAnswer (octets : List ℕ) (out out' : Told) : Type 0 where
  pub end : Ends
  pub text : List ℕ
  pub is : IsAnswer octets end text
  pub written : GrowsByProperPrefix out.written out'.written text

-- what was written for a text, at each status
abbrev pub WritesAt : Status → List ℕ → Told → Told → Type 0
WritesAt Done octets out out' = WritesAnswer octets ends.Explained out out'
WritesAt Refused octets out out' = WritesAnswer octets ends.Refused out out'
WritesAt TooMany octets out out' = WritesAnswer octets ends.TooMany out out'
WritesAt WriteFault octets out out' = CutsAnswer octets out out'
WritesAt Memory octets out out' = out' ≡ out
WritesAt other octets out out' = ⊥

-- the input was read to its end, and the text that it held was answered so
abbrev pub Answered : Status → Told → Told → Told → Told → Type 0
Answered status input input' out out' =
    HasEnded input' × IfSome input.left (λ octets. (length octets ≤ most_octets) × WritesAt status octets out out')

-- What is so at each status; no other comes. A read fails before the end of the input was met.
abbrev pub RunAt : Status → Told → Told → Told → Told → Type 0
RunAt Done input input' out out' = Answered Done input input' out out'
RunAt Refused input input' out out' = Answered Refused input input' out out'
RunAt TooMany input input' out out' = Answered TooMany input input' out out'
RunAt WriteFault input input' out out' = Rose out.write_faults out'.write_faults × Answered WriteFault input input' out out'
-- the input may not have been read to its end
RunAt Memory input input' out out' = out' ≡ out
RunAt ReadFault input input' out out' =
    Rose input.read_faults input'.read_faults × LosesWithin most_octets input.left input'.left × (input'.ended ≡ input.ended) × (out' ≡ out)
RunAt TooLong input input' out out' =
    (input'.most + most_octets < input.most) × IfSome input.left (λ octets. most_octets < length octets) × (out' ≡ out)
RunAt other input input' out out' = ⊥
