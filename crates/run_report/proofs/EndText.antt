-- The end of a report.
use Rattle.std.proofs.Common.{◌≡◌, sym, ap, ◌∙◌, ℕ, List, ◌++◌, length}
use Rattle.key_terms.specs.declared.row.LadderRow.{LadderRow}
use Rattle.lte_machine.specs.Machines.{Kept}
use Rattle.lte_machine.specs.Run.{RunState, Running, Stopped, GoesOn}
use Rattle.lte_world.specs.Whole.{InRun}
use Rattle.report_text.specs.{End.end_text, Ladder.ladder_text}
use Rattle.store_laws.specs.Rows.{world_rows}
use Rattle.run_report.specs.Report.{end_of}

-- its text, by the rows and the number of records that a caller is told
pub end_is : (events records : ℕ) (rows : List LadderRow) (run : RunState (List ℕ) ℕ Kept)
    → GoesOn run
    → InRun (λ w. rows ≡ world_rows w) run
    → InRun (λ w. records ≡ length w.sent) run
    → end_of events run ≡ end_text events records (length rows) ++ ladder_text rows
end_is events records rows (Running w) goes are few =
    ap (λ n. end_text events n (length (world_rows w)) ++ ladder_text (world_rows w)) (sym few)
    ∙ ap (λ rs. end_text events records (length rs) ++ ladder_text rs) (sym are)
end_is events records rows (Stopped coincidence) goes are few = absurd goes
