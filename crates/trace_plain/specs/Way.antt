-- The search for the moves that explain: the search once more, with the move that left each net.
use Rattle.std.specs.Prelude.{ℕ, zero, suc, ◌+◌, ◌<◌, ◌-◌, ◌≡◌, Bool, true, false, ◌&&◌, nat_le, if◌then◌else◌, Option, None, Some, List, [], ◌∷◌, ◌++◌, length, slice_get}
use Rattle.std.specs.List.{list_any}
use Rattle.trace_rules.specs.{Rules.Done, Told.Told, Told.Standing, Told.told_by}

-- a move that is told, and the place of the net that it leaves from; at place 0 is the net to begin in
pub record Came (M : Type 0) : Type 0 where
  pub told : Told M
  pub from : ℕ

-- a net, how many moves went unseen since the last sighting, and its place
pub record Step (N : Type 0) : Type 0 where
  pub net : N
  pub unseen : ℕ
  pub place : ℕ

-- the moves to each place from 1 on, and the nets from the last sighting on
pub record Way (N M : Type 0) : Type 0 where
  pub came : List (Came M)
  pub steps : List (Step N)

-- a step is to this net, behind no more unseen moves
abbrev pub is_no_later : {N : Type 0} → (N → N → Bool) → Step N → N → ℕ → Bool
is_no_later alike step net unseen = alike step.net net && nat_le step.unseen unseen

-- one of these is
abbrev pub is_known : {N : Type 0} → (N → N → Bool) → List (Step N) → N → ℕ → Bool
is_known alike steps net unseen = list_any (λ step. is_no_later alike step net unseen) steps

-- with a net, if it is not there
abbrev pub put : {N M : Type 0} → (N → N → Bool) → Way N M → N → ℕ → Came M → Way N M
put alike way net unseen one =
    if is_known alike way.steps net unseen
    then way
    else record {
      came = way.came ++ one ∷ [];
      steps = way.steps ++ record { net = net; unseen = unseen; place = length way.came + 1 } ∷ [];
    }

abbrev pub put_if : {N M S : Type 0} → (N → N → Bool) → Way N M → Told M → ℕ → Option (Standing N S) → Way N M
put_if alike way one from None = way
put_if alike way one from (Some next) = put alike way next.net next.unseen (record { told = one; from = from })

module _ {N M S : Type 0} (moved : N → M → Option (Done N S)) (fits : S → S → Bool) (covers : S → Bool) (bound : ℕ) where
  -- what is behind a move from here, where these sightings are left
  abbrev pub next_by : Bool → List S → Step N → M → Option (Standing N S)
  next_by seen rest at move =
      told_by fits covers bound (record { net = at.net; unseen = at.unseen; rest = rest }) seen (moved at.net move)

module _ {N M S : Type 0} (moved : N → M → Option (Done N S)) (fits : S → S → Bool) (covers : S → Bool) (bound : ℕ) (alike : N → N → Bool) where
  abbrev pub by_move : Bool → List S → Step N → Way N M → M → Way N M
  by_move seen rest at way move = put_if alike way (record { move = move; seen = seen }) at.place (next_by moved fits covers bound seen rest at move)

  -- by each of these moves
  abbrev pub by_moves : Bool → List S → Step N → List M → Way N M → Way N M
  by_moves seen rest at [] way = way
  by_moves seen rest at (move ∷ moves) way = by_moves seen rest at moves (by_move seen rest at way move)

module _ {N M S : Type 0} (moved : N → M → Option (Done N S)) (fits : S → S → Bool) (covers : S → Bool) (family : List M) (bound : ℕ) (alike : N → N → Bool) where
  -- from each of these nets
  abbrev pub from_each : Bool → List S → List (Step N) → Way N M → Way N M
  from_each seen rest [] way = way
  from_each seen rest (at ∷ steps) way = from_each seen rest steps (by_moves moved fits covers bound alike seen rest at family way)

  -- by at most so many unseen moves
  abbrev pub unseen_on : ℕ → List S → Way N M → Way N M
  unseen_on zero rest way = way
  unseen_on (suc left) rest way = unseen_on left rest (from_each false rest way.steps way)

  -- to the next sighting
  abbrev pub seen_on : List S → Way N M → Way N M
  seen_on rest way = from_each true rest way.steps (record { came = way.came; steps = [] })

  -- to the last one
  abbrev pub way_on : List S → Way N M → Way N M
  way_on [] way = way
  way_on (sight ∷ rest) way = way_on rest (seen_on (sight ∷ rest) (unseen_on bound (sight ∷ rest) way))

-- the net to begin in
abbrev pub from_start : {N M : Type 0} → N → Way N M
from_start start = record { came = []; steps = record { net = start; unseen = 0; place = 0 } ∷ [] }

-- the moves back from a place, the last first
pub data Back {M : Type 0} (came : List (Came M)) : ℕ → List (Told M) → Type 0 where
  begun : Back came 0 []
  behind : {at : ℕ} {one : Came M} {told : List (Told M)}
      → 0 < at
      → slice_get came (at - 1) ≡ Some one
      → one.from < at
      → Back came one.from told
      → Back came at (one.told ∷ told)
