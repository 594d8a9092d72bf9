-- What is told is a lawful history.
use Rattle.std.proofs.Common.{◌≡◌, ℕ, zero, suc, ◌+◌, Bool, true, false, Option, None, Some, List, [], ◌∷◌, refl, arith}
use Rattle.std.specs.Prelude.{◌&&◌, nat_lt, if◌then◌else◌}
use Rattle.std.proofs.lemmas.Bool.{ltb-true}
use Rattle.trace_rules.specs.{Rules.Done, Rules.is_unseen, History.History, History.ends, History.unseen, History.shown}
use Rattle.trace_rules.specs.Told.{Told, moves_told, Standing, if_next, told_by, if_on, are_none, tells_from, tells}

clash : {P : Type 0} → false ≡ true → P
clash h = let no : ⊥ = cc in absurd no

parts : (a b : Bool) → (a && b) ≡ true → (a ≡ true) × (b ≡ true)
parts true b e = (refl, e)
parts false b e = clash e

module _ {N M S : Type 0} (moved : N → M → Option (Done N S)) (fits : S → S → Bool) (covers : S → Bool) (bound : ℕ) where
  -- what is left is a history
  abbrev Left : ℕ → Standing N S → List M → Type 0
  Left left at moves = History moved fits covers bound left at.net moves at.rest

  -- and so is what is left behind this move
  abbrev Goes : (Standing N S → Bool) → List M → Type 0
  Goes rest moves = (next : Standing N S) (left : ℕ) → left + next.unseen ≡ bound → rest next ≡ true → Left left next moves

  by_hidden : (rest : Standing N S → Bool) (moves : List M) (at : Standing N S) (move : M) (done : Done N S) (b : Bool) (left : ℕ)
      → (is_unseen covers done.sent && nat_lt at.unseen bound) ≡ b
      → moved at.net move ≡ Some done
      → left + at.unseen ≡ bound
      → Goes rest moves
      → if_on rest (if b then Some (record { net = done.net; unseen = at.unseen + 1; rest = at.rest }) else None) ≡ true
      → Left left at (move ∷ moves)
  by_hidden rest moves at move done false left e is room go h = clash h
  by_hidden rest moves at move done true zero e is room go h =
      absurd (omega (arith, room, ltb-true at.unseen bound (parts (is_unseen covers done.sent) (nat_lt at.unseen bound) e).1))
  by_hidden rest moves at move done true (suc left) e is room go h =
      unseen move is (parts (is_unseen covers done.sent) (nat_lt at.unseen bound) e).0
      (go (record { net = done.net; unseen = at.unseen + 1; rest = at.rest }) left (omega (arith, room)) h)

  by_next : (rest : Standing N S → Bool) (moves : List M) (start : N) (move : M) (net : N) (sent sight : S) (capture : List S) (b : Bool) (left : ℕ)
      → (fits sent sight && covers sight) ≡ b
      → moved start move ≡ Some (record { net = net; sent = Some sent })
      → Goes rest moves
      → if_on rest (if b then Some (record { net = net; unseen = 0; rest = capture }) else None) ≡ true
      → History moved fits covers bound left start (move ∷ moves) (sight ∷ capture)
  by_next rest moves start move net sent sight capture false left e is go h = clash h
  by_next rest moves start move net sent sight capture true left e is go h =
      let two = parts (fits sent sight) (covers sight) e in
      shown move is two.0 two.1 (go (record { net = net; unseen = 0; rest = capture }) bound (omega arith) h)

  by_sent : (rest : Standing N S → Bool) (moves : List M) (start : N) (move : M) (net : N) (sent : Option S) (capture : List S) (left : ℕ)
      → moved start move ≡ Some (record { net = net; sent = sent })
      → Goes rest moves
      → if_on rest (if_next fits covers net sent capture) ≡ true
      → History moved fits covers bound left start (move ∷ moves) capture
  by_sent rest moves start move net (Some sent) (sight ∷ capture) left is go h =
      by_next rest moves start move net sent sight capture (fits sent sight && covers sight) left refl is go h
  by_sent rest moves start move net (Some sent) [] left is go h = clash h
  by_sent rest moves start move net None capture left is go h = clash h

  by_told : (rest : Standing N S → Bool) (moves : List M) (at : Standing N S) (move : M) (seen : Bool) (o : Option (Done N S)) (left : ℕ)
      → moved at.net move ≡ o
      → left + at.unseen ≡ bound
      → Goes rest moves
      → if_on rest (told_by fits covers bound at seen o) ≡ true
      → Left left at (move ∷ moves)
  by_told rest moves at move true None left is room go h = clash h
  by_told rest moves at move false None left is room go h = clash h
  by_told rest moves at move true (Some done) left is room go h = by_sent rest moves at.net move done.net done.sent at.rest left is go h
  by_told rest moves at move false (Some done) left is room go h =
      by_hidden rest moves at move done (is_unseen covers done.sent && nat_lt at.unseen bound) left refl is room go h

  ends_here : (left : ℕ) (net : N) (capture : List S) → are_none capture ≡ true → History moved fits covers bound left net [] capture
  ends_here left net [] h = ends
  ends_here left net (sight ∷ capture) h = clash h

  told_left : (told : List (Told M)) (at : Standing N S) (left : ℕ)
      → left + at.unseen ≡ bound
      → tells_from moved fits covers bound at told ≡ true
      → Left left at (moves_told told)
  told_left [] at left room h = ends_here left at.net at.rest h
  told_left (one ∷ told) at left room h =
      by_told (λ next. tells_from moved fits covers bound next told) (moves_told told) at one.move one.seen (moved at.net one.move) left refl room
      (λ next l room' h'. told_left told next l room' h') h

  pub told_is : (start : N) (capture : List S) (told : List (Told M))
      → tells moved fits covers bound start capture told ≡ true
      → History moved fits covers bound bound start (moves_told told) capture
  told_is start capture told h = told_left told (record { net = start; unseen = 0; rest = capture }) bound (omega arith) h
