-- The lines of a text.
use Rattle.std.specs.Prelude.{ℕ, ◌==◌, Bool, if◌then◌else◌, List, [], ◌∷◌, ◌++◌}
use Rattle.std.specs.List.{list_any, onto_first}

abbrev pub is_feed : ℕ → Bool
is_feed octet = octet == 10

-- the lines of a text: each ends with a line feed, which the last may lack
unfoldable pub lines_of : List ℕ → List (List ℕ)
lines_of [] = []
lines_of (octet ∷ octets) = if is_feed octet then [] ∷ lines_of octets else onto_first octet (lines_of octets)

-- whether some octet is a line feed
abbrev pub has_feed : List ℕ → Bool
has_feed octets = list_any is_feed octets

-- lines, each with a line feed behind it
unfoldable pub ended : List (List ℕ) → List ℕ
ended [] = []
ended (line ∷ lines) = line ++ (10 ∷ ended lines)

-- the line that octets with no line feed are, if there are any
abbrev pub last_line : List ℕ → List (List ℕ)
last_line [] = []
last_line octets = octets ∷ []
