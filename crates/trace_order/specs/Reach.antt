-- How far on an NH may be: what a capture has of the steps of a chain, where each of them is seen.
use Rattle.std.specs.Prelude.{◌≡◌, ℕ, suc, ◌+◌, ◌≤◌, ◌<◌, Bool, true, ◌&&◌, Option, None, Some, List, [], ◌∷◌}
use Rattle.key_model.specs.{Term.Term, Number.chain_number, Value.value_of, HandoverTable.NumberedKey}
use Rattle.trace_rules.specs.Rules.{IsIn}
use Rattle.trace_keys.specs.declared.{moves.Where.Where, moves.Move.Move}
use Rattle.trace_keys.specs.declared.moves.Move.TheVariants.{Renew, Prepare, Require}
use Rattle.trace_keys.specs.declared.moves.Where.TheVariants.{Setup, Change, Took, Answer, Asked, Request, Over}
use Rattle.trace_keys.specs.Net.{Sight}
use Rattle.trace_plain.specs.Sights.{has_tap}
use Rattle.trace_order.specs.Order.{IsTapped, last_nh, nh_of}

-- an NH as it was captured is the value of a key of which the core is one step before, at most
pub record IsReached (most : ℕ) (pair : NumberedKey (List ℕ) ℕ) (rest : ℕ → Type 0) : Type 0 where
  pub key : Term
  pub value : value_of key ≡ pair.key
  pub within : chain_number key ≤ most + 1
  pub then : rest (chain_number key)

-- A message, by its place: where a connection begins or a key change was taken, the core is at number 1 at the most, as it may step
-- its chain at once. A path switch's answer and a handover's request are a step, and a request to the core may be one.
abbrev pub ReachAt : ℕ → Where → Option (NumberedKey (List ℕ) ℕ) → (ℕ → Type 0) → Type 0
ReachAt most (Setup station) pair rest = rest 1
ReachAt most (Took station) pair rest = rest 1
ReachAt most (Answer station) (Some pair) rest = IsReached most pair rest
ReachAt most (Request station) (Some pair) rest = IsReached most pair rest
ReachAt most (Answer station) None rest = rest (suc most)
ReachAt most (Request station) None rest = rest (suc most)
ReachAt most (Asked station) pair rest = rest (suc most)
ReachAt most (Change station) pair rest = rest most
ReachAt most (Over source target) pair rest = rest most

-- no NH of a capture is further on than the core may be
abbrev pub InReach : ℕ → List (Sight (List ℕ)) → Type 0
InReach most [] = Unit {0}
InReach most (sight ∷ capture) = ReachAt most sight.at sight.pair (λ more. InReach more capture)

-- each step of the chain at this station is covered
abbrev pub StepsAt : (Sight (List ℕ) → Bool) → ℕ → Type 0
StepsAt covers station = IsTapped covers (Answer station) × IsTapped covers (Asked station) × IsTapped covers (Request station)

-- so where a phone may come by a move
abbrev pub StepsSeen : (Sight (List ℕ) → Bool) → Move → Type 0
StepsSeen covers (Renew kasme count station cell early taken) = StepsAt covers station
StepsSeen covers (Prepare station cell goes) = StepsAt covers station
StepsSeen covers (Require station cell goes) = StepsAt covers station
StepsSeen covers other = Unit {0}

abbrev pub AllStepsSeen : (Sight (List ℕ) → Bool) → List Move → Type 0
AllStepsSeen covers family = (move : Move) → IsIn move family → StepsSeen covers move

-- the same as tests
abbrev pub steps_at : List Where → ℕ → Bool
steps_at covered station = has_tap covered (Answer station) && (has_tap covered (Asked station) && has_tap covered (Request station))

abbrev pub steps_seen : List Where → Move → Bool
steps_seen covered (Renew kasme count station cell early taken) = steps_at covered station
steps_seen covered (Prepare station cell goes) = steps_at covered station
steps_seen covered (Require station cell goes) = steps_at covered station
steps_seen covered other = true

abbrev pub all_steps : List Where → List Move → Bool
all_steps covered [] = true
all_steps covered (move ∷ moves) = steps_seen covered move && all_steps covered moves

-- how many steps of the chain there may be since the last NH that was looked at, or since a chain began
abbrev pub if_passed : ℕ → Option (NumberedKey (List ℕ) ℕ) → ℕ
if_passed steps (Some pair) = 0
if_passed steps None = suc steps

abbrev pub steps_by : ℕ → Where → Option (NumberedKey (List ℕ) ℕ) → ℕ
steps_by steps (Setup station) pair = 0
steps_by steps (Took station) pair = 0
steps_by steps (Answer station) pair = if_passed steps pair
steps_by steps (Request station) pair = if_passed steps pair
steps_by steps (Asked station) pair = suc steps
steps_by steps (Change station) pair = steps
steps_by steps (Over source target) pair = steps

abbrev pub steps_from : ℕ → List (Sight (List ℕ)) → ℕ
steps_from steps [] = steps
steps_from steps (sight ∷ capture) = steps_from (steps_by steps sight.at sight.pair) capture

-- the number of the last NH, if it is known; where there is none, 1
pub record IsNumber (pair : NumberedKey (List ℕ) ℕ) (number : ℕ) : Type 0 where
  pub key : Term
  pub value : value_of key ≡ pair.key
  pub is : chain_number key ≡ number

abbrev pub IsFrom : Option (NumberedKey (List ℕ) ℕ) → ℕ → Type 0
IsFrom None number = number ≡ 1
IsFrom (Some pair) number = IsNumber pair number

-- the NH of a message is known, and further on than the steps since the last one
pub record IsTooFar (capture : List (Sight (List ℕ))) (sight : Sight (List ℕ)) : Type 0 where
  pub from : ℕ
  pub to : ℕ
  pub next : NumberedKey (List ℕ) ℕ
  pub is_from : IsFrom (last_nh None capture) from
  pub is_next : nh_of sight.at sight.pair ≡ Some next
  pub is_to : IsNumber next to
  pub far : from + steps_from 0 capture + 1 < to
