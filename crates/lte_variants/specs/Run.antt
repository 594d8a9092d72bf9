-- What is so of a run of the program at each status.
use Rattle.std.specs.Prelude.{◌≡◌, ◌⊎◌, ℕ, ◌+◌, ◌<◌, ◌≤◌, Some, List, length, IfSome}
use Rattle.edge_io.specs.{Told.Told, Told.HasEnded, Cause.Rose}
use Rattle.edge_io.specs.Octets.{Grows, GrowsByPrefix, GrowsByProperPrefix, LosesWithin}
use Rattle.lte_variants.specs.{declared.request.Request.Request, declared.status.Status.Status, Output.Output, Output.output_of}
use Rattle.lte_variants.specs.declared.status.Status.TheVariants.{Done, Memory, Refused, ReadFault, WriteFault, Coincidence, TooLong, TooManySteps}

-- the greatest number of octets of an input
abbrev pub most_octets : ℕ
most_octets = 16777216

-- it is the output's status, and all of it was written
abbrev pub WritesAll : Output → Status → Told → Told → Type 0
WritesAll output status out out' = (output.ends ≡ status) × Grows out.written out'.written output.text

-- What was written of an output at each status: all of it, or as far as memory and the sink went. Memory ran out before anything
-- was written, or in a report. Where the sink failed, something was still to be written.
abbrev pub WritesAt : Output → Status → Told → Told → Type 0
WritesAt output Done out out' = WritesAll output Done out out'
WritesAt output Refused out out' = WritesAll output Refused out out'
WritesAt output Coincidence out out' = WritesAll output Coincidence out out'
WritesAt output TooManySteps out out' = WritesAll output TooManySteps out out'
WritesAt output Memory out out' = (out' ≡ out) ⊎ ((output.ends ≡ Done) × GrowsByPrefix out.written out'.written output.text)
WritesAt output WriteFault out out' = GrowsByProperPrefix out.written out'.written output.text
WritesAt output other out out' = ⊥

-- of a text within the limit, so much of its output was written as the status says
pub record Answers (r : Request) (status : Status) (octets : List ℕ) (out out' : Told) : Type 0 where
  pub within : length octets ≤ most_octets
  pub written : WritesAt (output_of r octets) status out out'

-- the input was read to its end, and the text that it held was answered so
abbrev pub Answered : Request → Status → Told → Told → Told → Told → Type 0
Answered r status input input' out out' = HasEnded input' × IfSome input.left (λ octets. Answers r status octets out out')

-- What is so at each status; no other comes. A read fails before the end of the input was met.
abbrev pub RunAt : Request → Status → Told → Told → Told → Told → Type 0
RunAt r Done input input' out out' = Answered r Done input input' out out'
RunAt r Refused input input' out out' = Answered r Refused input input' out out'
RunAt r Coincidence input input' out out' = Answered r Coincidence input input' out out'
RunAt r TooManySteps input input' out out' = Answered r TooManySteps input input' out out'
RunAt r WriteFault input input' out out' = Rose out.write_faults out'.write_faults × Answered r WriteFault input input' out out'
-- the input may not have been read to its end: then nothing was written
RunAt r Memory input input' out out' = (out' ≡ out) ⊎ Answered r Memory input input' out out'
RunAt r ReadFault input input' out out' =
    Rose input.read_faults input'.read_faults × LosesWithin most_octets input.left input'.left × (input'.ended ≡ input.ended) × (out' ≡ out)
RunAt r TooLong input input' out out' =
    (input'.most + most_octets < input.most) × IfSome input.left (λ octets. most_octets < length octets) × (out' ≡ out)
RunAt r other input input' out out' = ⊥

-- Of a text within the limit, where no count rose, the whole output is written and the status is that of the output, unless
-- memory ran out.
abbrev pub RunIsComplete : Request → Status → Told → Told → Told → Told → Type 0
RunIsComplete r status input input' out out' =
    (octets : List ℕ) → input.left ≡ Some octets → length octets ≤ most_octets → ¬ (Rose input.read_faults input'.read_faults)
    → ¬ (Rose out.write_faults out'.write_faults)
    → ((status ≡ (output_of r octets).ends) × Grows out.written out'.written (output_of r octets).text) ⊎ (status ≡ Memory)
