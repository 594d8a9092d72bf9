-- A question: what a capture shows of the keys of one phone, and which moves may have been.
use Rattle.std.specs.Prelude.{ℕ, Bool, true, false, if◌then◌else◌, List, [], ◌∷◌, ◌++◌, flat_map}
use Rattle.trace_keys.specs.declared.{moves.Where.Where, moves.Move.Move}
use Rattle.trace_keys.specs.declared.moves.Unanswered.TheVariants.{Refused, Lost, Given}
use Rattle.trace_keys.specs.declared.moves.Move.TheVariants.{Renew, Offer, Take, Switch, Ask, Prepare, Require, Arrive, Cancel, Refresh, Leave}
use Rattle.trace_keys.specs.Net.{Sight}
use Rattle.trace_order.specs.declared.clues.Clue.{Clue as OneClue}
use Rattle.trace_text.specs.declared.{entries.Site.Site, entries.Due.Due, entries.Entry.Entry}
use Rattle.trace_text.specs.declared.entries.Entry.TheVariants.{Air, Moves, Bound, First, Kasme, Count, Cell, Covers, Clue, Seen}

-- the KASMEs, the cells, the COUNTs at which a KeNB may be made, whether a core may step at once, where taps are, which keys are known, and what
-- taps have; how many moves may go unseen between two sightings, whether moves over the air may, and whether the moves that explain are to be told
pub record Question : Type 0 where
  pub kasmes : List (List ℕ)
  pub sites : List Site
  pub dues : List Due
  pub firsts : List Bool
  pub covered : List Where
  pub clues : List OneClue
  pub capture : List (Sight (List ℕ))
  pub bound : ℕ
  pub air : Bool
  pub moves : Bool

-- a question of nothing
abbrev pub nothing : Question
nothing = record { kasmes = []; sites = []; dues = []; firsts = []; covered = []; clues = []; capture = []; bound = 0; air = false; moves = false }

-- with one line more
abbrev pub with_entry : Question → Entry → Question
with_entry q Air = record q { air = true }
with_entry q Moves = record q { moves = true }
with_entry q (Bound bound) = record q { bound = bound }
with_entry q (First early) = record q { firsts = q.firsts ++ early ∷ [] }
with_entry q (Kasme key) = record q { kasmes = q.kasmes ++ key ∷ [] }
with_entry q (Count due) = record q { dues = q.dues ++ due ∷ [] }
with_entry q (Cell site) = record q { sites = q.sites ++ site ∷ [] }
with_entry q (Covers at) = record q { covered = q.covered ++ at ∷ [] }
with_entry q (Clue clue) = record q { clues = q.clues ++ clue ∷ [] }
with_entry q (Seen sight) = record q { capture = q.capture ++ sight ∷ [] }

-- the moves of a cell: a handover to it, over X2 or S1, where the phone may come or another target stays; and over the air
abbrev pub moves_to : Bool → Site → List Move
moves_to air site =
    Prepare site.station site.cell true ∷ Prepare site.station site.cell false ∷ Require site.station site.cell true ∷ Require site.station site.cell false
    ∷ (if air then Refresh site.station site.cell ∷ [] else [])

-- a KeNB for a cell, which is taken into use or not
abbrev pub renewals : Due → Bool → Site → List Move
renewals due early site =
    Renew due.kasme due.count site.station site.cell early true ∷ Renew due.kasme due.count site.station site.cell early false ∷ []

-- the moves of a COUNT: a key change, and a KeNB for each cell
abbrev pub begun_at : List Site → Due → Bool → List Move
begun_at sites due early = Offer due.kasme due.count early ∷ flat_map (renewals due early) sites

abbrev pub moves_at : List Site → List Bool → Due → List Move
moves_at sites firsts due = flat_map (begun_at sites due) firsts

-- the moves that name nothing
abbrev pub other_moves : List Move
other_moves = Switch ∷ Ask Refused ∷ Ask Lost ∷ Ask Given ∷ Arrive ∷ Cancel ∷ Leave ∷ Take ∷ []

-- all moves that may have been
abbrev pub moves_of : Question → List Move
moves_of q = (other_moves ++ flat_map (moves_to q.air) q.sites) ++ flat_map (moves_at q.sites q.firsts) q.dues
