-- The document that a text is.
use Rattle.std.proofs.Common.{◌≡◌, refl, true, false, List, ℕ, Some, None, ⊎_elim}
use Rattle.std.specs.Str.{IsUtf8, is_utf8}
use Rattle.std.proofs.{lemmas.Bool.cases_Bool, lemmas.Str.is_utf8-from_IsUtf8, lemmas.Str.IsUtf8-from_is_utf8}
use Rattle.toml.specs.{Data.Members, Parse.parse_document}
use Rattle.scenario_file.specs.Reading.{document_of}

-- a text that is read
pub document_of-read : (text : List ℕ) (document : Members) → IsUtf8 text → parse_document text ≡ Some document → document_of text ≡ Some document
unfolding document_of
document_of-read text document utf8 parsed = rw (is_utf8-from_IsUtf8 text utf8) parsed

-- a text that is none
pub no_document : (text : List ℕ) → (IsUtf8 text → parse_document text ≡ None) → document_of text ≡ None
unfolding document_of
no_document text none = ⊎_elim
    (λ (yes : is_utf8 text ≡ true). rw yes (none (IsUtf8-from_is_utf8 text yes)))
    (λ (no : is_utf8 text ≡ false). rw no refl)
    (cases_Bool (is_utf8 text))
