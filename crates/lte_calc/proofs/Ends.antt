-- Each answer is a line, or nothing.
use Rattle.std.proofs.Common.{◌≡◌, ℕ, Bool, true, false, cond, List, [], Result, Ok, Err, refl}
use Rattle.edge_io.specs.Lines.{are_lines}
use Rattle.edge_io.proofs.Ending.{feed, is_lines, on}
use Rattle.text_lines.specs.Words.{words_of}
use Rattle.calc_text.specs.{declared.fields.Field.Field, declared.requests.Request.Request, Reading.request_of}
use Rattle.calc_text.specs.Answer.{gives, bad_text, answered, is_silent, answer_to}

answered_is_line : (r : Result Request Field) → are_lines (answered r).text ≡ true
answered_is_line (Ok request) = is_lines _ (on (gives request) _ feed)
answered_is_line (Err field) = is_lines _ (on (bad_text field) _ feed)

pub answer_is_line : (octets : List ℕ) → are_lines (answer_to octets).text ≡ true
unfolding answer_to
answer_is_line octets = by_test (is_silent octets)
  where
    by_test : (b : Bool) → are_lines (cond b (record { text = []; good = true }) (answered (request_of (words_of octets)))).text ≡ true
    by_test true = refl
    by_test false = answered_is_line (request_of (words_of octets))
