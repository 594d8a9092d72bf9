-- Each answer is lines, or nothing.
use Rattle.std.proofs.Common.{◌≡◌, ℕ, length, Bool, true, List, [], ◌∷◌, refl, subst, sym}
use Rattle.std.specs.{Prelude.codes, Fmt.decimal}
use Rattle.edge_io.specs.Lines.{EndsLine, are_lines}
use Rattle.edge_io.proofs.Ending.{feed, is_lines, lines_both, on}
use Rattle.trace_rules.specs.Told.{Told}
use Rattle.trace_keys.specs.declared.moves.Move.{Move}
use Rattle.lte_trace.specs.Moves.{seen_word, move_text, told_text, moves_text}
use Rattle.lte_trace.specs.{declared.answer.Ends.Ends, declared.answer.Never.Never, Answer.IsAnswer, Answer.explained_text, Answer.bad_text, Answer.word_if}
use Rattle.lte_trace.specs.declared.answer.Ends.TheVariants.{Explained, Refused, TooMany}

explained_ends : (n all : ℕ) (closed : Bool) (never : Never) → EndsLine (explained_text n all closed never)
unfolding explained_text
explained_ends n all closed never =
    on (codes "explained ") _ (on (decimal n) _ (on (codes " of ") _ (on (decimal all) _ (on (word_if closed _) _ (on (word_if never.unordered _) _ (on (word_if never.misplaced _) _ (on (word_if never.beyond _) _ (on (word_if never.foreign _) _ feed))))))))

bad_ends : (line : ℕ) → EndsLine (bad_text line)
unfolding bad_text
bad_ends line = on (codes "bad line ") _ (on (decimal line) _ feed)

told_ends : (one : Told Move) → EndsLine (told_text one)
unfolding told_text
told_ends one = on (seen_word one.seen) _ (on (move_text one.move) _ feed)

moves_end : (told : List (Told Move)) → are_lines (moves_text told) ≡ true
moves_end [] = refl
moves_end (one ∷ told) = lines_both (told_text one) (moves_text told) (is_lines _ (told_ends one)) (moves_end told)

pub answer_is : (octets : List ℕ) (end : Ends) (text : List ℕ) → IsAnswer octets end text → are_lines text ≡ true
answer_is octets Explained text is =
    let found = is.found in
    let all = length is.question.capture in
    let line = explained_text found.count all found.closed found.never in
    subst (λ t. are_lines t ≡ true) (sym found.told)
    (lines_both line (moves_text found.moves) (is_lines line (explained_ends found.count all found.closed found.never)) (moves_end found.moves))
answer_is octets Refused text is = subst (λ t. are_lines t ≡ true) (sym is.told) (is_lines _ (bad_ends is.line))
answer_is octets TooMany text is = subst (λ t. are_lines t ≡ true) (sym is.told) refl
