-- The output of lines, and of a bad line.
use Rattle.std.proofs.Common.{◌≡◌, ◌≢◌, ℕ, ◌+◌, Result, Ok, Err, List, [], ◌∷◌, refl, sym, ap, subst}
use Rattle.edge_io.specs.Told.{Told}
use Rattle.edge_io.proofs.Known.{none_of}
use Rattle.ladder_text.specs.{declared.line.LadderLine.LadderLine, declared.ending.Ending.Ending, declared.text.TextFault.TextFault, Text.reading_of}
use Rattle.ladder_text.specs.declared.ending.Ending.TheVariants.{Memory, Refused}
use Rattle.ladder_text.specs.declared.text.TextFault.TheVariants as fault
use Rattle.ladder_text.specs.Report.{KeyRow, Output, Place, Again, Anew, Taken, output_of, output_from, place_in, rows_after, then_rest, Refuses, Writes}

-- the output of lines, and of a bad line
pub lines_output : (octets : List ℕ) (lines : List LadderLine) (ending : Ending) (out out' : Told) → reading_of octets ≡ Ok lines
    → Writes (output_from [] 1 lines) ending out out' → Writes (output_of (reading_of octets)) ending out out'
unfolding output_of
lines_output octets lines ending out out' reading written = subst (λ o. Writes o ending out out') (sym (ap output_of reading)) written

pub refused_output : {A : Type 0} (reading : Result A TextFault) (octets : List ℕ) (ending : Ending) (out out' : Told)
    → ((k : ℕ) → reading ≡ Err (fault.BadLine k) → reading_of octets ≡ Err k)
    → Refuses reading ending out out'
    → Writes (output_of (reading_of octets)) ending out out'
unfolding output_of
refused_output (Ok lines) octets ending out out' bad refused = absurd refused
refused_output (Err fault.Memory) octets ending out out' bad refused =
    let nothing : Writes (output_of (reading_of octets)) Memory out out = none_of out.written (output_of (reading_of octets)).text in
    subst (λ e. Writes (output_of (reading_of octets)) e out out') (sym refused.0)
    (subst (Writes (output_of (reading_of octets)) Memory out) (sym refused.1) nothing)
refused_output (Err (fault.BadLine k)) octets ending out out' bad refused =
    subst (λ o. Writes o ending out out') (sym (ap output_of (bad k refl))) refused.1

-- lines that were read are not refused
never_refused : (place : Place) (text : List ℕ) (rest : Output) → rest.ends ≢ Refused → (then_rest place text rest).ends ≢ Refused
never_refused (Again k) text rest never = never
never_refused Anew text rest never = never
never_refused (Taken k) text rest never = λ ends. cc

lines_never_refused : (rows : List KeyRow) (n : ℕ) (lines : List LadderLine) → (output_from rows n lines).ends ≢ Refused
lines_never_refused rows n [] = λ ends. cc
lines_never_refused rows n (line ∷ lines) =
    never_refused (place_in rows line) _ _ (lines_never_refused (rows_after (place_in rows line) rows line) (n + 1) lines)

pub read_never_refused : (octets : List ℕ) (lines : List LadderLine) → reading_of octets ≡ Ok lines → (output_of (reading_of octets)).ends ≢ Refused
unfolding output_of
read_never_refused octets lines reading =
    subst (λ o. o.ends ≢ Refused) (sym (ap output_of reading)) (lines_never_refused [] 1 lines)
