-- The messages that faults happen to: those that are named, and all where none has to be.
use Rattle.std.specs.Prelude.{ℕ, ◌&&◌, nat_lt, Bool, List, [], ◌∷◌, ◌++◌, length, Option, Some, None, if◌then◌else◌}
use Rattle.std.specs.List.{filter, list_all}
use Rattle.item_outcomes.specs.Probe.{is_among}

-- so many messages are named at most
abbrev pub most_named : ℕ
most_named = 8

-- one more, by the step that delivers it, which is later than those before
abbrev pub is_later : ℕ → List ℕ → Bool
is_later step named = list_all (λ before. nat_lt before step) named

abbrev pub one_more : ℕ → List ℕ → Option (List ℕ)
one_more step named = if nat_lt (length named) most_named && is_later step named then Some (named ++ step ∷ []) else None

-- of these messages of a scenario those that are named
abbrev pub those_named : Option (List ℕ) → List ℕ → List ℕ
those_named None messages = messages
those_named (Some named) messages = filter (is_among messages) named
