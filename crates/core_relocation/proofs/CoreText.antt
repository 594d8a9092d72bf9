-- The line of a core is that of the system, with the number of the core behind its name.
use Rattle.std.proofs.Common.{◌≡◌, refl, sym, ap, ◌∙◌, ℕ, List, [], ◌∷◌, ◌++◌, ◌≤◌, length, length-append, drop, append_assoc, arith}
use Rattle.std.specs.{Prelude.codes, Fmt.decimal}
use Rattle.lte_events.specs.{declared.lines.Line.Line, declared.lines.Who.Who}
use Rattle.report_text.specs.Line.{line_text}
use Rattle.core_relocation.specs.Report.{core_text, rest_text}

-- without the number
pub unnumbered : (line : Line) → line_text (record line { who = Who.Core }) ≡ (decimal line.step ++ codes " core") ++ (codes " " ++ rest_text line)
unfolding line_text
unnumbered line = sym (append_assoc (decimal line.step) (codes " core") (codes " " ++ rest_text line))

drop_front : (xs ys : List ℕ) → drop (length xs) (xs ++ ys) ≡ ys
drop_front [] ys = refl
drop_front (x ∷ xs) ys = drop_front xs ys

-- with it
pub numbered : (line : Line) (core : ℕ) (head text whole : List ℕ)
    → head ≡ decimal line.step ++ codes " core"
    → text ≡ decimal line.step ++ (codes " core " ++ decimal core)
    → whole ≡ line_text (record line { who = Who.Core })
    → text ++ drop (length head) whole ≡ core_text line core
unfolding core_text
numbered line core head text whole front numbered_front is =
    ap (λ t. t ++ drop (length head) whole) numbered_front
    ∙ ap (λ w. (decimal line.step ++ (codes " core " ++ decimal core)) ++ drop (length head) w)
    (is ∙ unnumbered line ∙ ap (λ h. h ++ (codes " " ++ rest_text line)) (sym front))
    ∙ ap (λ t. (decimal line.step ++ (codes " core " ++ decimal core)) ++ t) (drop_front head (codes " " ++ rest_text line))
    ∙ append_assoc (decimal line.step) (codes " core " ++ decimal core) (codes " " ++ rest_text line)

pub fits : (line : Line) (head whole : List ℕ)
    → head ≡ decimal line.step ++ codes " core"
    → whole ≡ line_text (record line { who = Who.Core })
    → length head ≤ length whole
fits line head whole front is =
    omega (arith, ap length (is ∙ unnumbered line ∙ ap (λ h. h ++ (codes " " ++ rest_text line)) (sym front)), length-append head (codes " " ++ rest_text line))
