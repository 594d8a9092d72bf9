-- A history that is told move by move, and the test of it.
use Rattle.std.specs.Prelude.{ℕ, ◌+◌, Bool, true, false, ◌&&◌, nat_lt, if◌then◌else◌, Option, None, Some, List, [], ◌∷◌, map}
use Rattle.trace_rules.specs.Rules.{Done, is_unseen}

-- a move, and whether a tap has its message
pub record Told (M : Type 0) : Type 0 where
  pub move : M
  pub seen : Bool

-- the moves alone
abbrev pub moves_told : {M : Type 0} → List (Told M) → List M
moves_told told = map (λ one. one.move) told

-- how far the moves have come: the net, how many went unseen since the last sighting, and the sightings that are left
pub record Standing (N S : Type 0) : Type 0 where
  pub net : N
  pub unseen : ℕ
  pub rest : List S

-- behind a move that no tap sees
abbrev pub if_hidden : {N S : Type 0} → (S → Bool) → ℕ → Standing N S → Option (Done N S) → Option (Standing N S)
if_hidden covers bound at None = None
if_hidden covers bound at (Some done) =
    if is_unseen covers done.sent && nat_lt at.unseen bound
    then Some (record { net = done.net; unseen = at.unseen + 1; rest = at.rest })
    else None

-- behind a move whose message is the next sighting
abbrev pub if_next : {N S : Type 0} → (S → S → Bool) → (S → Bool) → N → Option S → List S → Option (Standing N S)
if_next fits covers net (Some sent) (sight ∷ rest) =
    if fits sent sight && covers sight then Some (record { net = net; unseen = 0; rest = rest }) else None
if_next fits covers net sent rest = None

abbrev pub if_seen : {N S : Type 0} → (S → S → Bool) → (S → Bool) → Standing N S → Option (Done N S) → Option (Standing N S)
if_seen fits covers at None = None
if_seen fits covers at (Some done) = if_next fits covers done.net done.sent at.rest

-- behind a move that is told
abbrev pub told_by : {N S : Type 0} → (S → S → Bool) → (S → Bool) → ℕ → Standing N S → Bool → Option (Done N S) → Option (Standing N S)
told_by fits covers bound at true done = if_seen fits covers at done
told_by fits covers bound at false done = if_hidden covers bound at done

abbrev pub if_on : {X : Type 0} → (X → Bool) → Option X → Bool
if_on rest None = false
if_on rest (Some at) = rest at

abbrev pub are_none : {X : Type 0} → List X → Bool
are_none [] = true
are_none (x ∷ xs) = false

-- from here on each move that is told is lawful, and is seen exactly if that is told; together they show the sightings that are left
abbrev pub tells_from : {N M S : Type 0} → (N → M → Option (Done N S)) → (S → S → Bool) → (S → Bool) → ℕ → Standing N S → List (Told M) → Bool
tells_from moved fits covers bound at [] = are_none at.rest
tells_from moved fits covers bound at (one ∷ told) =
    if_on (λ next. tells_from moved fits covers bound next told) (told_by fits covers bound at one.seen (moved at.net one.move))

-- what is told is a lawful history that shows this capture, with at most `bound` unseen moves before each sighting
abbrev pub tells : {N M S : Type 0} → (N → M → Option (Done N S)) → (S → S → Bool) → (S → Bool) → ℕ → N → List S → List (Told M) → Bool
tells moved fits covers bound start capture told = tells_from moved fits covers bound (record { net = start; unseen = 0; rest = capture }) told
