-- NHs in order: what a capture has of the chains of a phone, whatever goes unseen.
use Rattle.std.specs.Prelude.{◌≡◌, ◌≢◌, ◌⊎◌, ℕ, ◌<◌, Bool, true, Option, None, Some, List, [], ◌∷◌}
use Rattle.key_model.specs.{Term.Term, Chain.nh, Value.value_of, HandoverTable.NumberedKey}
use Rattle.trace_rules.specs.Rules.{IsIn}
use Rattle.trace_keys.specs.declared.{moves.Where.Where, moves.Move.Move}
use Rattle.trace_keys.specs.declared.moves.Move.TheVariants.{Renew, Prepare, Require}
use Rattle.trace_keys.specs.declared.moves.Where.TheVariants.{Setup, Change, Took, Answer, Asked, Request, Over}
use Rattle.trace_keys.specs.Net.{Sight}

-- a key of a chain, and one further on: NH of the same KASME and KeNB, of a greater number (TS 33.401 7.2.8.1.1)
pub record Follows (before after : Term) : Type 0 where
  pub root : Term
  pub count : ℕ
  pub low : ℕ
  pub high : ℕ
  pub first : before ≡ nh root count low
  pub next : after ≡ nh root count high
  pub up : low < high

-- a key of some chain
pub record IsOfChain (key : Term) : Type 0 where
  pub root : Term
  pub count : ℕ
  pub number : ℕ
  pub is : key ≡ nh root count number

-- behind the last NH of this connection, if there was one
abbrev pub Comes : Option Term → Term → Type 0
Comes None key = IsOfChain key
Comes (Some before) key = Follows before key

-- an NH as it was captured is this term's value, and comes behind the last one
pub record IsNext (last : Option Term) (pair : NumberedKey (List ℕ) ℕ) (rest : Option Term → Type 0) : Type 0 where
  pub key : Term
  pub value : value_of key ≡ pair.key
  pub comes : Comes last key
  pub then : rest (Some key)

-- A message, by its place: where a connection begins or a key change was taken, the chain is another. A path switch's answer and a
-- handover's request bring the next NH, unless it is not looked at. No other message tells of the chain.
abbrev pub OrderAt : Option Term → Where → Option (NumberedKey (List ℕ) ℕ) → (Option Term → Type 0) → Type 0
OrderAt last (Setup station) pair rest = rest None
OrderAt last (Took station) pair rest = rest None
OrderAt last (Answer station) (Some pair) rest = IsNext last pair rest
OrderAt last (Request station) (Some pair) rest = IsNext last pair rest
OrderAt last (Answer station) None rest = rest last
OrderAt last (Request station) None rest = rest last
OrderAt last (Change station) pair rest = rest last
OrderAt last (Asked station) pair rest = rest last
OrderAt last (Over source target) pair rest = rest last

-- the NHs of a capture are in order behind the last one
abbrev pub InOrder : Option Term → List (Sight (List ℕ)) → Type 0
InOrder last [] = Unit {0}
InOrder last (sight ∷ capture) = OrderAt last sight.at sight.pair (λ key. InOrder key capture)

-- what was captured is what was sent, but for keys that are not looked at
pub record IsSeenAs (sent seen : Sight (List ℕ)) : Type 0 where
  pub at : sent.at ≡ seen.at
  pub pair : (seen.pair ≡ None) ⊎ (seen.pair ≡ sent.pair)

abbrev pub IsExact : (Sight (List ℕ) → Sight (List ℕ) → Bool) → Type 0
IsExact fits = (sent seen : Sight (List ℕ)) → fits sent seen ≡ true → IsSeenAs sent seen

-- each message there is covered
abbrev pub IsTapped : (Sight (List ℕ) → Bool) → Where → Type 0
IsTapped covers at = (sight : Sight (List ℕ)) → sight.at ≡ at → covers sight ≡ true

-- where a move begins a connection, and at a station to which a phone comes by it, no chain begins unseen
abbrev pub BeginsSeen : (Sight (List ℕ) → Bool) → Move → Type 0
BeginsSeen covers (Renew kasme count station cell early taken) = IsTapped covers (Setup station) × IsTapped covers (Took station)
BeginsSeen covers (Prepare station cell goes) = IsTapped covers (Took station)
BeginsSeen covers (Require station cell goes) = IsTapped covers (Took station)
BeginsSeen covers other = Unit {0}

-- so with each of these moves
abbrev pub AllBeginsSeen : (Sight (List ℕ) → Bool) → List Move → Type 0
AllBeginsSeen covers family = (move : Move) → IsIn move family → BeginsSeen covers move

-- the newer of two, if it was looked at
abbrev pub newer : Option (NumberedKey (List ℕ) ℕ) → Option (NumberedKey (List ℕ) ℕ) → Option (NumberedKey (List ℕ) ℕ)
newer last (Some pair) = Some pair
newer last None = last

-- the last NH that was looked at since a chain began
abbrev pub last_by : Option (NumberedKey (List ℕ) ℕ) → Where → Option (NumberedKey (List ℕ) ℕ) → Option (NumberedKey (List ℕ) ℕ)
last_by last (Setup station) pair = None
last_by last (Took station) pair = None
last_by last (Answer station) pair = newer last pair
last_by last (Request station) pair = newer last pair
last_by last (Change station) pair = last
last_by last (Asked station) pair = last
last_by last (Over source target) pair = last

abbrev pub last_nh : Option (NumberedKey (List ℕ) ℕ) → List (Sight (List ℕ)) → Option (NumberedKey (List ℕ) ℕ)
last_nh last [] = last
last_nh last (sight ∷ capture) = last_nh (last_by last sight.at sight.pair) capture

-- the NH of a message that brings one
abbrev pub nh_of : Where → Option (NumberedKey (List ℕ) ℕ) → Option (NumberedKey (List ℕ) ℕ)
nh_of (Answer station) pair = pair
nh_of (Request station) pair = pair
nh_of (Setup station) pair = None
nh_of (Took station) pair = None
nh_of (Change station) pair = None
nh_of (Asked station) pair = None
nh_of (Over source target) pair = None

-- two terms have one value
pub record Coincidence : Type 0 where
  pub one : Term
  pub other : Term
  pub differ : one ≢ other
  pub same : value_of one ≡ value_of other
