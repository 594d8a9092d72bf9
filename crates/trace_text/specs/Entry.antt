-- What a line of a question says: its first word says which line it is, and the number of its words too.
use Rattle.std.specs.Prelude.{ℕ, ◌^◌, ◌==◌, nat_lt, nat_le, ◌&&◌, true, false, if◌then◌else◌, Option, Some, None, List, [], ◌∷◌, codes}
use Rattle.std.specs.{Str.bytes_eq, Option.option_map, Option.option_and_then}
use Rattle.annex_a_keys.specs.Cell.{Place, greatest_pci, greatest_earfcn}
use Rattle.key_model.specs.HandoverTable.{NumberedKey}
use Rattle.text_lines.specs.Words.{number_of, hex_octets}
use Rattle.trace_keys.specs.{declared.moves.Where.Where}
use Rattle.trace_keys.specs.declared.moves.Where.TheVariants.{Setup, Change, Took, Answer, Asked, Request, Over}
use Rattle.trace_order.specs.declared.{known.Known.Known}
use Rattle.trace_order.specs.declared.clues.Clue.TheVariants.{Chain, Star}
use Rattle.trace_text.specs.declared.{entries.Entry.Entry}
use Rattle.trace_text.specs.declared.entries.Entry.TheVariants.{Air, Moves, Bound, First, Kasme, Count, Cell, Covers, Clue, Seen}

-- a number below a limit
abbrev pub below : ℕ → List ℕ → Option ℕ
below limit word = option_and_then (λ n. if nat_lt n limit then Some n else None) (number_of word)

-- a cell: a PCI up to 503 and an EARFCN-DL up to 262143 (TS 36.331 6.3.4 and 6.4)
abbrev pub cell_of : List ℕ → List ℕ → Option Place
cell_of pci earfcn = option_and_then (λ p. option_and_then (λ e.
    if nat_le p greatest_pci && nat_le e greatest_earfcn then Some (record { pci = p; earfcn = e }) else None) (number_of earfcn)) (number_of pci)

-- a key of a chain: its KASME by its place, the COUNT of its KeNB, and its number
abbrev pub known_of : List ℕ → List ℕ → List ℕ → Option Known
known_of kasme count number = option_and_then (λ k. option_and_then (λ c. option_map (λ n. record { kasme = k; count = c; number = n })
    (below 256 number)) (below (2 ^ 24) count)) (below 256 kasme)

-- a key that goes without an NCC, and one with it
abbrev pub kenb_of : List ℕ → Option (NumberedKey (List ℕ) ℕ)
kenb_of key = option_map (λ k. record { key = k; number = 0 }) (hex_octets 32 key)

abbrev pub pair_of : List ℕ → List ℕ → Option (NumberedKey (List ℕ) ℕ)
pair_of key ncc = option_and_then (λ k. option_map (λ n. record { key = k; number = n }) (below 8 ncc)) (hex_octets 32 key)

-- a message to a station or from one, by its word
unfoldable pub at_station : List ℕ → ℕ → Option Where
at_station name station =
    if bytes_eq name (codes "setup") then Some (Setup station)
    else if bytes_eq name (codes "change") then Some (Change station)
    else if bytes_eq name (codes "took") then Some (Took station)
    else if bytes_eq name (codes "answer") then Some (Answer station)
    else if bytes_eq name (codes "asked") then Some (Asked station)
    else if bytes_eq name (codes "request") then Some (Request station)
    else None

abbrev pub place_in : List ℕ → List ℕ → Option Where
place_in name station = option_and_then (at_station name) (below 256 station)

-- a message over X2
abbrev pub over_in : List ℕ → List ℕ → List ℕ → Option Where
over_in name from to =
    if bytes_eq name (codes "over") then option_and_then (λ a. option_map (λ b. Over a b) (below 256 to)) (below 256 from) else None

-- what a tap has there, whatever its key is, or this key
abbrev pub any_at : Where → Entry
any_at at = Seen (record { at = at; pair = None })

abbrev pub seen_at : Where → NumberedKey (List ℕ) ℕ → Entry
seen_at at pair = Seen (record { at = at; pair = Some pair })

-- by the digit: the first NCC that a core sends
unfoldable pub first_of : List ℕ → Option Entry
first_of word = option_and_then (λ n. if n == 1 then Some (First false) else if n == 2 then Some (First true) else None) (number_of word)

-- the line of so many words
unfoldable pub of_one : List ℕ → Option Entry
of_one name =
    if bytes_eq name (codes "air") then Some Air
    else if bytes_eq name (codes "moves") then Some Moves
    else None

unfoldable pub of_two : List ℕ → List ℕ → Option Entry
of_two name word =
    if bytes_eq name (codes "kasme") then option_map Kasme (hex_octets 32 word)
    else if bytes_eq name (codes "bound") then option_map Bound (below 9 word)
    else if bytes_eq name (codes "first") then first_of word
    else if bytes_eq name (codes "took") then option_map (λ s. any_at (Took s)) (below 256 word)
    else if bytes_eq name (codes "asked") then option_map (λ s. any_at (Asked s)) (below 256 word)
    else None

unfoldable pub of_three : List ℕ → List ℕ → List ℕ → Option Entry
of_three name first second =
    if bytes_eq name (codes "count") then
    option_and_then (λ k. option_map (λ n. Count (record { kasme = k; count = n })) (below (2 ^ 24) second)) (below 256 first)
    else if bytes_eq name (codes "covers") then option_map Covers (place_in first second)
    else if bytes_eq name (codes "any") then option_map any_at (place_in first second)
    else if bytes_eq name (codes "star") then option_map (λ c. Clue (Star c)) (cell_of first second)
    else if bytes_eq name (codes "setup") then
    option_and_then (λ s. option_map (seen_at (Setup s)) (kenb_of second)) (below 256 first)
    else if bytes_eq name (codes "change") then
    option_and_then (λ s. option_map (seen_at (Change s)) (kenb_of second)) (below 256 first)
    else None

unfoldable pub of_four : List ℕ → List ℕ → List ℕ → List ℕ → Option Entry
of_four name first second third =
    if bytes_eq name (codes "cell") then
    option_and_then (λ s. option_map (λ c. Cell (record { station = s; cell = c })) (cell_of second third)) (below 256 first)
    else if bytes_eq name (codes "covers") then option_map Covers (over_in first second third)
    else if bytes_eq name (codes "any") then option_map any_at (over_in first second third)
    else if bytes_eq name (codes "key") then option_map (λ k. Clue (Chain k)) (known_of first second third)
    else if bytes_eq name (codes "answer") then
    option_and_then (λ s. option_map (seen_at (Answer s)) (pair_of second third)) (below 256 first)
    else if bytes_eq name (codes "request") then
    option_and_then (λ s. option_map (seen_at (Request s)) (pair_of second third)) (below 256 first)
    else None

unfoldable pub of_five : List ℕ → List ℕ → List ℕ → List ℕ → List ℕ → Option Entry
of_five name first second third fourth =
    option_and_then (λ at. option_map (seen_at at) (pair_of third fourth)) (over_in name first second)

-- the line that these words are
abbrev pub entry_of : List (List ℕ) → Option Entry
entry_of (name ∷ []) = of_one name
entry_of (name ∷ first ∷ []) = of_two name first
entry_of (name ∷ first ∷ second ∷ []) = of_three name first second
entry_of (name ∷ first ∷ second ∷ third ∷ []) = of_four name first second third
entry_of (name ∷ first ∷ second ∷ third ∷ fourth ∷ []) = of_five name first second third fourth
entry_of other = None
