-- The number of a stored or moved pair is above that of its context's KeNB, and an answer that can still be accepted is
-- above all numbers of its context (TS 33.401 7.2.8.4.2).
use Rattle.std.specs.Prelude.{◌≡◌, ℕ, ◌<◌, Option, Some, None, ⊤}
use Rattle.key_model.specs.Term.{Term}
use Rattle.lte_events.specs.{declared.addresses.Address.Address, declared.addresses.Address.TheVariants.StationS1}
use Rattle.s1x2_rec.specs.Fields.{PathSwitchRequest, PathSwitchAnswer}
use Rattle.ho_prep.specs.Prep.{Prep}
use Rattle.lte_machine.specs.{Wire.Outgoing, Wire.Between, StationState.Station, StationState.Context, StationKeys.spent_in}
use Rattle.lte_properties.specs.ChainBelow.{AllOf, OfPair, EachNumber, IsUnder, IsAbove}

-- the number of a stored pair, and of one that moved into the attempt, is above that of the context's KeNB
abbrev pub ContextAbove : Option (Context Term ℕ) → Type 0
ContextAbove None = ⊤
ContextAbove (Some c) = OfPair (IsAbove c.key.number) c.key.pair × OfPair (IsAbove c.key.number) (spent_in c.attempt)

-- a preparation stores no pair
abbrev pub HasNoPair : Prep Term ℕ → Type 0
HasNoPair p = p.key.pair ≡ None

abbrev pub StationAbove : Station Term ℕ → Type 0
StationAbove s = ContextAbove s.context × AllOf HasNoPair s.preps

-- a request of the context's outstanding number is for its connection
abbrev pub RequestOk : Option (Context Term ℕ) → ℕ → ℕ → Type 0
RequestOk None conn number = ⊤
RequestOk (Some c) conn number = c.outstanding ≡ Some number → c.conn ≡ conn

-- an answer of the context's outstanding number, with a pair of number n, is for its connection, and is above each number
-- of the context: of its term, its stored pair, its attempt's KeNB* and its attempt's pair
abbrev pub AnswerOk : Option (Context Term ℕ) → ℕ → ℕ → ℕ → Type 0
AnswerOk None conn number n = ⊤
AnswerOk (Some c) conn number n = c.outstanding ≡ Some number → (c.conn ≡ conn) × EachNumber (IsUnder n) c

-- an answer that goes to a station
abbrev pub AnswerTo : Address → Station Term ℕ → ℕ → ℕ → ℕ → Type 0
AnswerTo (StationS1 station) s conn number n =
    station ≡ s.id → (number < s.next) × AnswerOk s.context conn number n
AnswerTo other s conn number n = ⊤

-- a record in flight beside a station: its own requests, and the answers to it, have numbers that it drew, and are as above
abbrev pub InFlight : Station Term ℕ → Outgoing Term ℕ → Type 0
InFlight s (Between to (PathSwitchRequest conn station number cell caps) key) =
    station ≡ s.id → (number < s.next) × RequestOk s.context conn number
InFlight s (Between to (PathSwitchAnswer conn number) (Some pair)) = AnswerTo to s conn number pair.number
InFlight s other = ⊤
