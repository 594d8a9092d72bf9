-- The text of an audit: who can derive each row of the ladder, and on which way.
use Rattle.std.specs.Prelude.{ℕ, zero, suc, ◌==◌, if◌then◌else◌, List, [], ◌∷◌, ◌++◌, Option, Some, None, codes, length, reverse}
use Rattle.std.specs.Fmt.{decimal}
use Rattle.key_terms.specs.declared.row.LadderRow.{LadderRow}
use Rattle.report_text.specs.Ladder.{form_at, without_comma}
use Rattle.key_audit.specs.{Derives.key_row, Local.exact_mark}

-- the rows from a row up to another, each but the first that of the key of the one before, in at most so many steps
abbrev pub on_from : (ℕ → List ℕ) → Option ℕ → List ℕ
on_from way None = []
on_from way (Some key) = way key

abbrev pub way_within : ℕ → List LadderRow → ℕ → ℕ → List ℕ
way_within zero rows to k = []
way_within (suc steps) rows to k = k ∷ (if k == to then [] else on_from (way_within steps rows to) (key_row rows k))

unfoldable pub way_up : List LadderRow → ℕ → ℕ → List ℕ
way_up rows to k = way_within (suc k) rows to k

-- the numbers, joined by `>`
abbrev pub further : List ℕ → List ℕ
further [] = []
further (k ∷ path) = (codes ">" ++ decimal k) ++ further path

abbrev pub joined : List ℕ → List ℕ
joined [] = []
joined (k ∷ path) = decimal k ++ further path

-- the path down, from a row that a station holds to row k
unfoldable pub path_text : List LadderRow → ℕ → ℕ → List ℕ
path_text rows from k = joined (reverse (way_up rows from k))

-- what is written for each of these stations
abbrev pub for_each : (ℕ → List ℕ) → List ℕ → List ℕ
for_each text [] = []
for_each text (station ∷ stations) = text station ++ for_each text stations

abbrev pub stations : List ℕ
stations = 0 ∷ 1 ∷ 2 ∷ 3 ∷ 4 ∷ 5 ∷ 6 ∷ 7 ∷ []

-- the name of a station that can derive row k, behind a comma, and the path on which it does
unfoldable pub name_text : ℕ → List ℕ
name_text station = codes ",S" ++ decimal station

unfoldable pub by_head : ℕ → List ℕ
by_head station = codes " by S" ++ (decimal station ++ codes " ")

abbrev pub by_text : List LadderRow → ℕ → ℕ → ℕ → List ℕ
by_text rows k station from = by_head station ++ path_text rows from k

abbrev pub name_if : Option ℕ → ℕ → List ℕ
name_if None station = []
name_if (Some from) station = name_text station

abbrev pub by_if : List LadderRow → ℕ → Option ℕ → ℕ → List ℕ
by_if rows k None station = []
by_if rows k (Some from) station = by_text rows k station from

-- who can derive row k, or `-`, and on which path each can: by the mark of each station
abbrev pub names_text : (ℕ → Option ℕ) → List ℕ
names_text mark = for_each (λ station. name_if (mark station) station) stations

abbrev pub paths_text : List LadderRow → ℕ → (ℕ → Option ℕ) → List ℕ
paths_text rows k mark = for_each (λ station. by_if rows k (mark station) station) stations

-- the line of row k
unfoldable pub row_head : ℕ → List ℕ
row_head k = codes "row " ++ (decimal k ++ codes " ")

abbrev pub line_of : ℕ → List ℕ → List ℕ → List ℕ → List ℕ
line_of k form names paths = row_head k ++ (form ++ (codes " " ++ (without_comma names ++ (paths ++ codes "\n"))))

abbrev pub row_line : List LadderRow → (ℕ → ℕ → Option ℕ) → ℕ → List ℕ
row_line rows marks k =
    line_of k (form_at rows k) (names_text (λ station. marks station k)) (paths_text rows k (λ station. marks station k))

-- of so many rows from row k on
abbrev pub row_lines : List LadderRow → (ℕ → ℕ → Option ℕ) → ℕ → ℕ → List ℕ
row_lines rows marks k zero = []
row_lines rows marks k (suc more) = row_line rows marks k ++ row_lines rows marks (suc k) more

-- how many rows there are
unfoldable pub first_line : ℕ → List ℕ
first_line rows = codes "audit " ++ (decimal rows ++ codes "\n")

-- that the audit was checked
abbrev pub last_line : List ℕ
last_line = codes "checked\n"

-- the text of the exact audit
abbrev pub audit_text : List LadderRow → List ℕ
audit_text rows = first_line (length rows) ++ (row_lines rows (exact_mark rows) 0 (length rows) ++ last_line)
