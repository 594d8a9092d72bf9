-- One line of a ladder text after another.
use Rattle.std.proofs.Common.{◌≡◌, ℕ, ◌+◌, ◌<◌, ◌<◌, ltb, Bool, true, false, cond, Option, Some, None, Ok, Err, List, [], ◌∷◌, ◌++◌, length, sym, refl, ap, subst, ◌∙◌, arith}
use Rattle.std.proofs.{lemmas.Bool.ltb-true, lemmas.Option.none-some}
use Rattle.std.specs.{List.fold, Option.option_map_or, Option.option_and_then}
use Rattle.ladder_text.specs.declared.line.LadderLine.{LadderLine}
use Rattle.text_lines.specs.{Lines.lines_of, Words.words_of}
use Rattle.ladder_text.specs.Text.{line_of, meets, with_row, rows_of, next_line, reading_from, reading_of, AreGood}

pub reading_begins : (text : List ℕ) (lines : List LadderLine) → lines ≡ [] → reading_of text ≡ reading_from lines (lines_of text)
unfolding reading_of
reading_begins text lines none = ap (λ ls. reading_from ls (lines_of text)) (sym none)

-- a good line goes to the lines so far
pub reading_next : (text rest line behind : List ℕ) (lines after : List LadderLine) (read : LadderLine)
    → reading_of text ≡ reading_from lines (lines_of rest)
    → lines_of rest ≡ line ∷ lines_of behind
    → next_line lines (words_of line) ≡ Some read
    → after ≡ lines ++ read ∷ []
    → reading_of text ≡ reading_from after (lines_of behind)
reading_next text rest line behind lines after read so_far cut next put =
    so_far ∙ ap (reading_from lines) cut ∙ ap (λ o. option_map_or (λ l. reading_from (lines ++ l ∷ []) (lines_of behind)) o (Err (length lines + 1))) next
    ∙ ap (λ ls. reading_from ls (lines_of behind)) (sym put)

-- at the end the lines so far are all
pub reading_ends : (text rest : List ℕ) (lines : List LadderLine)
    → reading_of text ≡ reading_from lines (lines_of rest)
    → length rest ≡ 0
    → reading_of text ≡ Ok lines
unfolding lines_of
reading_ends text [] lines so_far none = so_far
reading_ends text (octet ∷ octets) lines so_far none = absurd (omega arith)

-- what the next line meets
kept : (test : Bool) (read line : LadderLine) → cond test (Some line) None ≡ Some read → (test ≡ true) × (line ≡ read)
kept true read line e = (refl, cc)
kept false read line e = absurd (none-some read e)

kept_line : (rows : List LadderLine) (spelled : Option LadderLine) (read : LadderLine)
    → option_and_then (λ line. cond (meets rows line) (Some line) None) spelled ≡ Some read
    → meets rows read ≡ true
kept_line rows None read e = absurd (none-some read e)
kept_line rows (Some line) read e = let k = kept (meets rows line) read line e in subst (λ l. meets rows l ≡ true) k.1 k.0

few_lines : (test : Bool) (o : Option LadderLine) (read : LadderLine) → cond test o None ≡ Some read → (test ≡ true) × (o ≡ Some read)
few_lines true o read e = (refl, e)
few_lines false o read e = absurd (none-some read e)

pub next_meets : (lines : List LadderLine) (words : List (List ℕ)) (read : LadderLine)
    → next_line lines words ≡ Some read
    → (meets (rows_of lines) read ≡ true) × (length lines < 4096)
next_meets lines words read e =
    let few = few_lines (ltb (length lines) 4096) _ read e in
    (kept_line (rows_of lines) (line_of words) read few.1, ltb-true (length lines) 4096 few.0)

pub rows_next : (rows : List LadderLine) (lines : List LadderLine) (line : LadderLine)
    → fold with_row rows (lines ++ line ∷ []) ≡ with_row (fold with_row rows lines) line
rows_next rows [] line = refl
rows_next rows (first ∷ lines) line = rows_next (with_row rows first) lines line

pub good_next : (rows lines : List LadderLine) (line : LadderLine)
    → AreGood rows lines
    → meets (fold with_row rows lines) line ≡ true
    → AreGood rows (lines ++ line ∷ [])
good_next rows [] line good need = (need, tt)
good_next rows (first ∷ lines) line good need = (good.0, good_next (with_row rows first) lines line good.1 need)
