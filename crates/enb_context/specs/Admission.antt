-- Whether a request is admitted, as the choice of a row has it.
use Rattle.std.specs.Prelude.{ℕ, Result, Ok, Err}
use Rattle.alg_choice.specs.{declared.algs.Algs.Algs, declared.caps.Caps.Caps}
use Rattle.annex_a_keys.specs.Cell.{Place}
use Rattle.lte_events.specs.{declared.answers.Answer.Answer, declared.acts.HoKind.HoKind}
use Rattle.lte_machine.specs.{Reply.Origin, StationChoice.PlainStation, StationChoice.begun_row}
use Rattle.lte_machine.specs.StationRows.{RecordRow, RecordRefused, ContextGiven, Admitted, ActRow, ActRefused}

-- the row of a handover request: refused, or taken with the algorithms chosen and the air address drawn
abbrev pub taken_row : (Admitted → RecordRow) → ℕ → Origin → Place → Caps → Result (Algs × ℕ) Answer → RecordRow
taken_row row conn from cell caps (Ok taken) =
    row (record { conn = conn; from = from; cell = cell; caps = caps; algs = taken.0; air = taken.1 })
taken_row row conn from cell caps (Err answer) = RecordRefused answer

-- and that of a context setup
abbrev pub given_row : ℕ → Place → Caps → Result (Algs × ℕ) Answer → RecordRow
given_row conn cell caps (Ok taken) = ContextGiven conn cell caps taken.0 taken.1
given_row conn cell caps (Err answer) = RecordRefused answer

-- and that of a handover that begins: refused, or by what its kind still asks
abbrev pub started_row : PlainStation → HoKind → Place → Result ℕ Answer → ActRow
started_row s kind cell (Ok target) = begun_row s target cell kind
started_row s kind cell (Err answer) = ActRefused answer
