-- How far a text was written.
use Rattle.std.specs.Prelude.{◌≡◌, ◌≢◌, ℕ, List, Result, Ok, Err, IfOk}
use Rattle.edge_io.specs.{Told.Told, Cause.NoFault, Cause.Rose, Used.UsedAsSink}
use Rattle.edge_io.specs.Octets.{Grows, GrowsByPrefix, GrowsByProperPrefix}
use Rattle.growth.specs.Growth.{WasRefused}
use Rattle.run_report.specs.{declared.endings.Ending.Ending, declared.unwritten.Unwritten.Unwritten, Report.Report}
use Rattle.run_report.specs.declared.unwritten.Unwritten.TheVariants.{Memory, WriteFault}

-- Whole, or as far as memory and the sink went: where the sink failed, something was still to be written.
abbrev pub Written : {A : Type 0} → List ℕ → Result A Unwritten → Told → Told → Type 0
Written text (Ok done) out out' = Grows out.written out'.written text
Written text (Err Memory) out out' = GrowsByPrefix out.written out'.written text
Written text (Err WriteFault) out out' = Rose out.write_faults out'.write_faults × GrowsByProperPrefix out.written out'.written text

-- What a call did that writes a text to a sink. Only where it answers so did the sink fail, or std refuse memory.
pub record WritesText {A : Type 0} (text : List ℕ) (result : Result A Unwritten) (out out' : Told) : Type 0 where
  pub written : Written text result out out'
  pub no_fault : result ≢ Err WriteFault → NoFault out out'
  pub refused : result ≡ Err Memory → WasRefused
  pub used : UsedAsSink out out'

-- And one that writes a report: its answer is how it ends.
pub record WritesReport (report : Report) (result : Result Ending Unwritten) (out out' : Told) : Type 0 where
  pub text : WritesText report.text result out out'
  pub ends : IfOk result (λ ending. ending ≡ report.ends)
