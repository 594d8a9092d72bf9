-- The lines of a history, a move each.
use Rattle.std.specs.Prelude.{ℕ, Bool, true, false, List, ◌++◌, flat_map, codes}
use Rattle.std.specs.Fmt.{decimal}
use Rattle.annex_a_keys.specs.Cell.{Place}
use Rattle.trace_keys.specs.declared.{moves.Move.Move, moves.Unanswered.Unanswered}
use Rattle.trace_keys.specs.declared.moves.Unanswered.TheVariants.{Refused, Lost, Given}
use Rattle.trace_keys.specs.declared.moves.Move.TheVariants.{Renew, Offer, Take, Switch, Ask, Prepare, Require, Arrive, Cancel, Refresh, Leave}
use Rattle.trace_rules.specs.Told.{Told}

-- the first NCC that a core sends
abbrev pub first_word : Bool → List ℕ
first_word true = codes "2"
first_word false = codes "1"

abbrev pub taken_word : Bool → List ℕ
taken_word true = codes "taken"
taken_word false = codes "refused"

-- whether the phone may come there, or another target stays
abbrev pub goes_word : Bool → List ℕ
goes_word true = codes "last"
goes_word false = codes "besides"

abbrev pub unanswered_word : Unanswered → List ℕ
unanswered_word Refused = codes "refused"
unanswered_word Lost = codes "lost"
unanswered_word Given = codes "given"

unfoldable pub cell_text : Place → List ℕ
cell_text cell = decimal cell.pci ++ (codes " " ++ decimal cell.earfcn)

unfoldable pub site_text : ℕ → Place → List ℕ
site_text station cell = decimal station ++ (codes " " ++ cell_text cell)

unfoldable pub due_text : ℕ → ℕ → Bool → List ℕ
due_text kasme count early = decimal kasme ++ (codes " " ++ (decimal count ++ (codes " " ++ first_word early)))

unfoldable pub renew_text : List ℕ → List ℕ → List ℕ → List ℕ
renew_text due site taken = codes "renew " ++ (due ++ (codes " " ++ (site ++ (codes " " ++ taken))))

unfoldable pub handover_text : List ℕ → List ℕ → List ℕ → List ℕ
handover_text name site goes = name ++ (codes " " ++ (site ++ (codes " " ++ goes)))

unfoldable pub named_text : List ℕ → List ℕ → List ℕ
named_text name rest = name ++ (codes " " ++ rest)

-- a move: its word, and its choices
abbrev pub move_text : Move → List ℕ
move_text (Renew kasme count station cell early taken) = renew_text (due_text kasme count early) (site_text station cell) (taken_word taken)
move_text (Offer kasme count early) = named_text (codes "offer") (due_text kasme count early)
move_text Take = codes "take"
move_text Switch = codes "switch"
move_text (Ask what) = named_text (codes "ask") (unanswered_word what)
move_text (Prepare station cell goes) = handover_text (codes "prepare") (site_text station cell) (goes_word goes)
move_text (Require station cell goes) = handover_text (codes "require") (site_text station cell) (goes_word goes)
move_text Arrive = codes "arrive"
move_text Cancel = codes "cancel"
move_text (Refresh station cell) = named_text (codes "refresh") (cell_text cell)
move_text Leave = codes "leave"

-- whether a tap has its message
abbrev pub seen_word : Bool → List ℕ
seen_word true = codes "seen "
seen_word false = codes "unseen "

unfoldable pub told_text : Told Move → List ℕ
told_text one = seen_word one.seen ++ (move_text one.move ++ codes "\n")

abbrev pub moves_text : List (Told Move) → List ℕ
moves_text told = flat_map told_text told
