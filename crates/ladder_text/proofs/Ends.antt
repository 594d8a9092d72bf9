-- Each text that is written for a ladder text is a line.
use Rattle.std.proofs.Common.{◌≡◌, ℕ, true, List}
use Rattle.std.specs.{Prelude.codes, Fmt.decimal}
use Rattle.hex.specs.Hex.{encode_lower}
use Rattle.hmac_kdf.specs.{declared.input.KdfInput.KdfInput, Kdf.kdf_string}
use Rattle.edge_io.specs.Lines.{EndsLine, are_lines}
use Rattle.edge_io.proofs.Ending.{feed, is_lines, on}
use Rattle.ladder_text.specs.Report.{row_text, root_coincidence_text, rows_coincidence_text, refusal_text}

pub row_ends : (k : ℕ) (kind octets : List ℕ) → EndsLine (row_text k kind octets)
unfolding row_text
row_ends k kind octets = on (decimal k) _ (on (codes " ") _ (on kind _ (on (codes " ") _ (on (encode_lower octets) _ feed))))

pub root_ends : (n k : ℕ) → EndsLine (root_coincidence_text n k)
unfolding root_coincidence_text
root_ends n k = on (decimal n) _ (on (codes " coincidence root ") _ (on (decimal k) _ feed))

pub rows_end : (n k : ℕ) (key : List ℕ) (input : KdfInput) → EndsLine (rows_coincidence_text n k key input)
unfolding rows_coincidence_text
rows_end n k key input =
    on (decimal n) _ (on (codes " coincidence rows ") _
    (on (decimal k) _
    (on (codes " ") _ (on (encode_lower key) _ (on (codes " ") _ (on (encode_lower (kdf_string input)) _ feed))))))

refusal_ends : (k : ℕ) → EndsLine (refusal_text k)
unfolding refusal_text
refusal_ends k = on (codes "refused line ") _ (on (decimal k) _ feed)

pub refusal_is : (k : ℕ) → are_lines (refusal_text k) ≡ true
refusal_is k = is_lines _ (refusal_ends k)
