-- What is so of a run at each status.
use Rattle.std.proofs.Common.{◌≡◌, ◌∙◌, ℕ, ◌<◌, ◌≤◌, nat_lt, false, if◌then◌else◌, Some, Result, Ok, Err, List, length, inl, inr, refl, sym, ap, subst, arith}
use Rattle.std.specs.Option.{IfSome}
use Rattle.std.proofs.{lemmas.Bool.eq-eqb, lemmas.Bool.Decides.nat_tests}
use Rattle.edge_io.specs.{Told.Told, Octets.Grows}
use Rattle.item_faults.specs.Entries.{most_steps}
use Rattle.lte_events.specs.{declared.events.Event.Event, declared.setups.Setup.Setup}
use Rattle.run_report.specs.{Written.WritesText, declared.unwritten.Unwritten.Unwritten}
use Rattle.run_report.specs.declared.unwritten.Unwritten.TheVariants as unwritten
use Rattle.variant_runs.specs.Original.{Original, original_of, own_lines}
use Rattle.lte_variants.specs.Output.{Output, few_output, nothing, output_of, scenario_output, status_of}
use Rattle.lte_variants.specs.{Report.report_of, declared.request.Request.Request, declared.status.Status.Status}
use Rattle.lte_variants.specs.Run.{Answers, RunAt, RunIsComplete, WritesAll, WritesAt, most_octets}
use Rattle.lte_variants.specs.declared.status.Status.TheVariants.{Done, Memory, Refused, ReadFault, WriteFault, Coincidence, TooLong, TooManySteps}

-- A SCENARIO

abbrev whole : List ℕ → Output
whole text = record { text = text; ends = Done }

-- of a few steps, whose own run ends at no coincidence
told_whole : (r : Request) (setup : Setup) (events : List Event) → length events ≤ most_steps
    → length (own_lines setup events) ≡ length events
    → scenario_output r setup events ≡ whole (report_of r (original_of setup events))
told_whole r setup events few all =
    let low : nat_lt most_steps (length events) ≡ false = grind (arith, nat_tests, few) in
    let same = eq-eqb (length (own_lines setup events)) (length events) all in
    ap (λ b. if b then nothing TooManySteps else few_output r setup events) low
    ∙ ap (λ b. if b then whole (report_of r (original_of setup events)) else nothing Coincidence) same

ends_so : (text : List ℕ) (result : Result (Unit {0}) Unwritten) (out out' : Told) → WritesText text result out out'
    → WritesAt (whole text) (status_of result) out out'
ends_so text (Ok done) out out' w = (refl, w.written)
ends_so text (Err unwritten.Memory) out out' w = inr (refl, w.written)
ends_so text (Err unwritten.WriteFault) out out' w = w.written.1

pub report_told : (r : Request) (setup : Setup) (events : List Event) (o : Original) (result : Result (Unit {0}) Unwritten)
    (status : Status) (out out' : Told)
    → length events ≤ most_steps
    → length (own_lines setup events) ≡ length events
    → o ≡ original_of setup events
    → status ≡ status_of result
    → WritesText (report_of r o) result out out'
    → WritesAt (scenario_output r setup events) status out out'
report_told r setup events o result status out out' few all is ends w =
    let text : whole (report_of r o) ≡ scenario_output r setup events =
    ap (λ p. whole (report_of r p)) is ∙ sym (told_whole r setup events few all) in
    subst (λ s. WritesAt (scenario_output r setup events) s out out') (sym ends)
    (subst (λ p. WritesAt p (status_of result) out out') text (ends_so (report_of r o) result out out' w))

-- A TEXT

-- the answer to known octets
known : (r : Request) (status : Status) (octets : List ℕ) (input out out' : Told)
    → input.left ≡ Some octets
    → IfSome input.left (λ o. Answers r status o out out')
    → Answers r status octets out out'
known r status octets input out out' left answers = subst (λ o. IfSome o (λ o'. Answers r status o' out out')) left answers

is_whole : (r : Request) (status : Status) (octets : List ℕ) (out out' : Told) → WritesAll (output_of r octets) status out out'
    → (status ≡ (output_of r octets).ends) × Grows out.written out'.written (output_of r octets).text
is_whole r status octets out out' written = (sym written.0, written.1)

pub complete : (r : Request) (status : Status) (input input' out out' : Told)
    → RunAt r status input input' out out'
    → RunIsComplete r status input input' out out'
complete r Done input input' out out' at octets left within read write =
    inl (is_whole r Done octets out out' (known r Done octets input out out' left at.1).written)
complete r Refused input input' out out' at octets left within read write =
    inl (is_whole r Refused octets out out' (known r Refused octets input out out' left at.1).written)
complete r Coincidence input input' out out' at octets left within read write =
    inl (is_whole r Coincidence octets out out' (known r Coincidence octets input out out' left at.1).written)
complete r TooManySteps input input' out out' at octets left within read write =
    inl (is_whole r TooManySteps octets out out' (known r TooManySteps octets input out out' left at.1).written)
complete r Memory input input' out out' at octets left within read write = inr refl
complete r ReadFault input input' out out' at octets left within read write = absurd (read at.0)
complete r WriteFault input input' out out' at octets left within read write = absurd (write at.0)
complete r TooLong input input' out out' at octets left within read write =
    let long = subst (λ o. IfSome o (λ o'. most_octets < length o')) left at.1 in absurd (omega (arith, long, within))
complete r status input input' out out' at octets left within read write = absurd at
