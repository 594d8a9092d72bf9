-- The answer to a question.
use Rattle.std.specs.Prelude.{◌≡◌, ℕ, ◌+◌, ◌<◌, Bool, true, false, None, Ok, Err, List, [], ◌++◌, length, take, codes}
use Rattle.std.specs.Fmt.{decimal}
use Rattle.key_model.specs.Reading.{octet_reading}
use Rattle.trace_keys.specs.{declared.moves.Move.Move, Moved.moved, Net.Net, Same.same_net}
use Rattle.trace_rules.specs.{Rules.AreIn, History.History, Told.Told, Told.moves_told, Told.tells}
use Rattle.trace_plain.specs.{Explained.ExplainedTo, Kept.TooManyNets, Sights.fits, Sights.is_covered, Sights.leads}
use Rattle.trace_order.specs.Order.{Coincidence}
use Rattle.trace_text.specs.{Question.Question, Question.moves_of, Text.reading_of}
use Rattle.lte_trace.specs.Moves.{moves_text}
use Rattle.lte_trace.specs.declared.{answer.Ends.Ends, answer.Never.Never}
use Rattle.lte_trace.specs.declared.answer.Ends.TheVariants.{Explained, Refused, TooMany}

-- a phone that is not connected, and no KeNB was made
abbrev pub before_all : Net (List ℕ) ℕ
before_all = record { kasme = 0; count = 0; serving = None }

-- so many sightings of a question are explained, and whether one more is explained by no number of unseen moves
abbrev pub Finds : Question → ℕ → Bool → Type 0
Finds q n closed = ExplainedTo (moved octet_reading q.kasmes) fits (is_covered q.covered) (moves_of q) q.bound before_all q.capture n closed

-- so many sightings of a question have a lawful history
abbrev pub HasHistory : Question → ℕ → Type 0
HasHistory q n =
    (moves : List Move) × AreIn moves (moves_of q)
    × History (moved octet_reading q.kasmes) fits (is_covered q.covered) q.bound q.bound before_all moves (take n q.capture)

-- no history of these moves, of however many, shows one sighting more, but where two terms have one value
abbrev pub IsNeverMore : Question → ℕ → Type 0
IsNeverMore q n =
    (n < length q.capture)
    × ((bound left : ℕ) (moves : List Move)
    → AreIn moves (moves_of q)
    → History (moved octet_reading q.kasmes) fits (is_covered q.covered) bound left before_all moves (take (n + 1) q.capture)
    → Coincidence)

-- before one of its sightings more nets are possible than are kept
abbrev pub IsTooLarge : Question → Type 0
IsTooLarge q = TooManyNets (moved octet_reading q.kasmes) fits (is_covered q.covered) (moves_of q) q.bound same_net leads before_all q.capture

-- moves of a lawful history that shows so many sightings of a question, each marked by whether a tap has its message
pub record IsWitness (q : Question) (n : ℕ) (told : List (Told Move)) : Type 0 where
  pub history : History (moved octet_reading q.kasmes) fits (is_covered q.covered) q.bound q.bound before_all (moves_told told) (take n q.capture)
  pub marks : tells (moved octet_reading q.kasmes) fits (is_covered q.covered) q.bound before_all (take n q.capture) told ≡ true

-- they are told if they are asked for
abbrev pub TellsIf : Bool → Question → ℕ → List (Told Move) → Type 0
TellsIf true q n told = IsWitness q n told
TellsIf false q n told = told ≡ []

-- a word that is told only if something is so
abbrev pub word_if : Bool → List ℕ → List ℕ
word_if true word = word
word_if false word = []

-- the words of what is so, one behind the other
abbrev pub words_of : Bool → Never → List ℕ → List ℕ
words_of closed never rest =
    word_if closed (codes " closed")
    ++ (word_if never.unordered (codes " out-of-order")
    ++ (word_if never.misplaced (codes " out-of-place")
    ++ (word_if never.beyond (codes " out-of-reach") ++ (word_if never.foreign (codes " out-of-chain") ++ rest))))

-- the line that tells how far a question is explained
unfoldable pub explained_text : ℕ → ℕ → Bool → Never → List ℕ
explained_text n all closed never =
    codes "explained " ++ (decimal n ++ (codes " of " ++ (decimal all ++ words_of closed never (codes "\n"))))

-- the line of a text that is no question
unfoldable pub bad_text : ℕ → List ℕ
bad_text line = codes "bad line " ++ (decimal line ++ codes "\n")

-- how far a question is explained, and what is told of it
pub record IsFound (question : Question) (text : List ℕ) : Type 0 where
  pub count : ℕ
  pub closed : Bool
  pub finds : Finds question count closed
  pub never : Never
  pub by_order : never.unordered ≡ true → IsNeverMore question count
  pub by_place : never.misplaced ≡ true → IsNeverMore question count
  pub by_reach : never.beyond ≡ true → IsNeverMore question count
  pub by_chain : never.foreign ≡ true → IsNeverMore question count
  pub moves : List (Told Move)
  pub tells : TellsIf question.moves question count moves
  pub told : text ≡ explained_text count (length question.capture) closed never ++ moves_text moves

-- a question that was searched
pub record IsExplained (octets text : List ℕ) : Type 0 where
  pub question : Question
  pub reads : reading_of octets ≡ Ok question
  pub found : IsFound question text

-- a text that is no question
pub record IsRefused (octets text : List ℕ) : Type 0 where
  pub line : ℕ
  pub reads : reading_of octets ≡ Err line
  pub told : text ≡ bad_text line

-- a question whose search was given up, since it is too large: nothing is told
pub record IsCut (octets text : List ℕ) : Type 0 where
  pub question : Question
  pub reads : reading_of octets ≡ Ok question
  pub large : IsTooLarge question
  pub told : text ≡ []

abbrev pub IsAnswer : List ℕ → Ends → List ℕ → Type 0
IsAnswer octets Explained text = IsExplained octets text
IsAnswer octets Refused text = IsRefused octets text
IsAnswer octets TooMany text = IsCut octets text
