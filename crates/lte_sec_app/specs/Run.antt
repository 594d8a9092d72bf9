-- What is so of a command that reads a text and writes its output, at each status of the program.
use Rattle.std.specs.Prelude.{◌≡◌, ◌≢◌, ◌⊎◌, ℕ, ◌+◌, ◌<◌, ◌≤◌, Some, IfSome, List, length}
use Rattle.edge_io.specs.{Told.Told, Told.HasEnded, Cause.NoFault, Cause.Rose, Used.UsedAsSink}
use Rattle.edge_io.specs.Octets.{Grows, GrowsByPrefix, GrowsByProperPrefix, LosesWithin}
use Rattle.growth.specs.Growth.{WasRefused}
use Rattle.lte_sec_app.specs.declared.status.Status.{Status}
use Rattle.lte_sec_app.specs.declared.status.Status.TheVariants.{Done, Memory, Refused, ReadFault, WriteFault, Coincidence, TooLong}

-- the greatest number of octets of an input
abbrev pub most_octets : ℕ
most_octets = 16777216

-- what a command writes for a text, and the status with which it ends then
pub record Output : Type 0 where
  pub text : List ℕ
  pub ends : Status

-- what is so at the statuses at which a scenario was read and ran, to its end or to a coincidence
abbrev pub WhereRun : Type 0 → Status → Type 0
WhereRun holds Done = holds
WhereRun holds Coincidence = holds
WhereRun holds other = Unit {0}

-- What was written of an output at each status: all of it, or as far as memory and the sink went. Where the sink failed,
-- something was still to be written.
abbrev pub WritesAt : Output → Status → Told → Told → Type 0
WritesAt output Memory out out' = GrowsByPrefix out.written out'.written output.text
WritesAt output WriteFault out out' = Rose out.write_faults out'.write_faults × GrowsByProperPrefix out.written out'.written output.text
WritesAt output Done out out' = (output.ends ≡ Done) × Grows out.written out'.written output.text
WritesAt output Refused out out' = (output.ends ≡ Refused) × Grows out.written out'.written output.text
WritesAt output Coincidence out out' = (output.ends ≡ Coincidence) × Grows out.written out'.written output.text
WritesAt output other out out' = ⊥

-- What a call did with its sink, by the status that it came to. Where memory is wanted std refused it, and the sink failed exactly where it says so.
pub record UsesSink (status : Status) (out out' : Told) : Type 0 where
  pub memory : status ≡ Memory → WasRefused
  pub cause : status ≡ WriteFault → Rose out.write_faults out'.write_faults
  pub no_fault : status ≢ WriteFault → NoFault out out'
  pub used : UsedAsSink out out'

-- And one that writes an output. A refusal takes no memory: where it was wanted nothing of one was written.
pub record WritesOutput {S : Type 0} (told : S → Told) (output : Output) (status : Status) (out out' : S) : Type 0 where
  pub text : WritesAt output status (told out) (told out')
  pub no_refusal : status ≡ Memory → output.ends ≡ Refused → out' ≡ out
  pub sink : UsesSink status (told out) (told out')

-- a text within the limit, whose output ends with this status and was written whole
pub record Answers (output : List ℕ → Output) (ends : Status) (octets : List ℕ) (out out' : Told) : Type 0 where
  pub within : length octets ≤ most_octets
  pub status : (output octets).ends ≡ ends
  pub written : Grows out.written out'.written (output octets).text

-- the input was read to its end, and the text that it held has its answer
abbrev pub Answered : (List ℕ → Output) → Status → Told → Told → Told → Told → Type 0
Answered output ends input input' out out' = HasEnded input' × IfSome input.left (λ octets. Answers output ends octets out out')

-- what is written is a prefix of the output for a text within the limit, or nothing
abbrev pub WritesPrefix : (List ℕ → Output) → Told → Told → Told → Type 0
WritesPrefix output input out out' =
    (out'.written ≡ out.written) ⊎ IfSome input.left (λ octets. (length octets ≤ most_octets) × GrowsByPrefix out.written out'.written (output octets).text)

-- it is a prefix of that for a text within the limit, and something of it was still to be written
abbrev pub WritesShort : (List ℕ → Output) → Told → Told → Told → Type 0
WritesShort output input out out' = IfSome input.left
    (λ octets. (length octets ≤ most_octets) × GrowsByProperPrefix out.written out'.written (output octets).text)

-- What is so of such a command at each status, by the input and the output before and after; no other status comes. A read
-- fails before the end of the input was met, and a write before all was written.
abbrev pub CommandAt : (List ℕ → Output) → Status → Told → Told → Told → Told → Type 0
CommandAt output Done input input' out out' = Answered output Done input input' out out'
CommandAt output Refused input input' out out' = Answered output Refused input input' out out'
CommandAt output Coincidence input input' out out' = Answered output Coincidence input input' out out'
CommandAt output Memory input input' out out' = WritesPrefix output input out out'
CommandAt output ReadFault input input' out out' =
    Rose input.read_faults input'.read_faults × LosesWithin most_octets input.left input'.left × (input'.ended ≡ input.ended)
CommandAt output TooLong input input' out out' = (input'.most + most_octets < input.most) × IfSome input.left (λ octets. most_octets < length octets)
CommandAt output WriteFault input input' out out' = Rose out.write_faults out'.write_faults × HasEnded input' × WritesShort output input out out'
CommandAt output other input input' out out' = ⊥

-- For a text within the limit, where no count rose, the whole output is written and the status is that of the output, unless
-- memory ran out.
abbrev pub CommandIsComplete : (List ℕ → Output) → Status → Told → Told → Told → Told → Type 0
CommandIsComplete output status input input' out out' =
    (octets : List ℕ) → input.left ≡ Some octets → length octets ≤ most_octets → ¬ (Rose input.read_faults input'.read_faults)
    → ¬ (Rose out.write_faults out'.write_faults)
    → ((status ≡ (output octets).ends) × Grows out.written out'.written (output octets).text) ⊎ (status ≡ Memory)
