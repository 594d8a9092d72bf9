-- Where a lawful history shows a capture, the search for its moves finds one.
use Rattle.std.proofs.Common.{◌≡◌, ℕ, zero, suc, ◌+◌, ◌-◌, ◌<◌, ◌≤◌, Bool, true, false, Option, None, Some, List, [], ◌∷◌, ◌++◌, length, inl, inr, refl, sym, ap, subst, ◌∙◌, append_assoc, append-nil, arith, slice_get, drop, length-drop, reverse}
use Rattle.std.proofs.lemmas.List.{drop_more}
use Rattle.std.specs.{Prelude.◌&&◌, Prelude.◌||◌, Prelude.nat_le, Prelude.nat_lt, Prelude.if◌then◌else◌}
use Rattle.std.proofs.lemmas.Bool.{leb-true, lt-ltb}
use Rattle.trace_rules.specs.{Rules.Done, Rules.IsIn, Rules.AreIn, Rules.is_unseen}
use Rattle.trace_rules.specs.History.{History, ends as done_all, unseen as went_by, shown as came_next}
use Rattle.trace_rules.specs.Told.{Told, Standing, if_next, told_by, if_on, tells_from, tells}
use Rattle.trace_rules.proofs.Members.{in_left, in_right, in_either}
use Rattle.trace_keys.proofs.OneNet.{clash}
use Rattle.trace_plain.proofs.Backward.{get_last, onto, onto_none, some_first, first_in, back_within, back_more}
use Rattle.trace_plain.specs.Way.{Came, Step, Way, is_known, put_if, next_by, by_move, by_moves, from_each, unseen_on, seen_on, way_on, from_start, Back, begun, behind}

-- what is so of a list if a test is so
known_by : (a b : Bool) → (a && b) ≡ true → (a ≡ true) × (b ≡ true)
known_by true b e = (refl, e)
known_by false b e = clash e

module _ {N M S : Type 0} (moved : N → M → Option (Done N S)) (fits : S → S → Bool) (covers : S → Bool) (family : List M) (bound : ℕ) (alike : N → N → Bool) (exact : (x y : N) → alike x y ≡ true → x ≡ y) where
  abbrev Next : Bool → List S → Step N → M → Option (Standing N S)
  Next = next_by moved fits covers bound

  abbrev Each : Bool → List S → List (Step N) → Way N M → Way N M
  Each = from_each moved fits covers family bound alike

  -- a net is there, behind no more unseen moves
  record Has (steps : List (Step N)) (net : N) (unseen : ℕ) : Type 0 where
    step : Step N
    here : IsIn step steps
    same : step.net ≡ net
    few : step.unseen ≤ unseen

  -- nothing is lost
  record Grown (way more : Way N M) : Type 0 where
    came : (new : List (Came M)) × (more.came ≡ way.came ++ new)
    steps : (s : Step N) → IsIn s way.steps → IsIn s more.steps

  same_way : (way : Way N M) → Grown way way
  same_way way = record { came = ([], sym (append-nil way.came)); steps = λ s i. i }

  grown_twice : (a b c : Way N M) → Grown a b → Grown b c → Grown a c
  grown_twice a b c g h = record {
    came = (
      g.came.0 ++ h.came.0,
      h.came.1 ∙ ap (λ xs. xs ++ h.came.0) g.came.1 ∙ append_assoc a.came g.came.0 h.came.0,
    );
    steps = λ s i. h.steps s (g.steps s i);
  }

  has_more : (a b : Way N M) (net : N) (unseen : ℕ) → Grown a b → Has a.steps net unseen → Has b.steps net unseen
  has_more a b net unseen g h = record { step = h.step; here = g.steps h.step h.here; same = h.same; few = h.few }

  found_by : (net : N) (unseen : ℕ) (x : Step N) (steps : List (Step N)) (b : Bool)
      → (alike x.net net && nat_le x.unseen unseen) ≡ b
      → (is_known alike steps net unseen ≡ true → Has steps net unseen)
      → (b || is_known alike steps net unseen) ≡ true
      → Has (x ∷ steps) net unseen
  found_by net unseen x steps true t more h =
      let two = known_by (alike x.net net) (nat_le x.unseen unseen) t in
      record { step = x; here = inl refl; same = exact x.net net two.0; few = leb-true x.unseen unseen two.1 }
  found_by net unseen x steps false t more h =
      let rest = more h in record { step = rest.step; here = inr rest.here; same = rest.same; few = rest.few }

  known_has : (net : N) (unseen : ℕ) (steps : List (Step N)) → is_known alike steps net unseen ≡ true → Has steps net unseen
  known_has net unseen [] e = clash e
  known_has net unseen (x ∷ steps) e = found_by net unseen x steps (alike x.net net && nat_le x.unseen unseen) refl (known_has net unseen steps) e

  abbrev Put : Bool → Way N M → N → ℕ → Came M → Way N M
  Put b way net unseen one =
      if b
      then way
      else record {
        came = way.came ++ one ∷ [];
        steps = way.steps ++ record { net = net; unseen = unseen; place = length way.came + 1 } ∷ [];
      }

  put_grown : (b : Bool) (way : Way N M) (net : N) (unseen : ℕ) (one : Came M) → Grown way (Put b way net unseen one)
  put_grown true way net unseen one = same_way way
  put_grown false way net unseen one = record { came = (one ∷ [], refl); steps = λ s i. in_left s way.steps _ i }

  put_has : (b : Bool) (way : Way N M) (net : N) (unseen : ℕ) (one : Came M) → (b ≡ true → Has way.steps net unseen) → Has (Put b way net unseen one).steps net unseen
  put_has true way net unseen one h = h refl
  put_has false way net unseen one h =
      record { step = _; here = in_right _ way.steps _ (inl refl); same = refl; few = omega arith }

  if_grown : (way : Way N M) (one : Told M) (from : ℕ) (o : Option (Standing N S)) → Grown way (put_if alike way one from o)
  if_grown way one from None = same_way way
  if_grown way one from (Some next) = put_grown (is_known alike way.steps next.net next.unseen) way next.net next.unseen (record { told = one; from = from })

  if_has : (way : Way N M) (one : Told M) (from : ℕ) (o : Option (Standing N S)) (next : Standing N S)
      → o ≡ Some next
      → Has (put_if alike way one from o).steps next.net next.unseen
  if_has way one from o next e =
      subst (λ p. Has (put_if alike way one from p).steps next.net next.unseen) (sym e)
      (put_has (is_known alike way.steps next.net next.unseen) way next.net next.unseen (record { told = one; from = from })
      (known_has next.net next.unseen way.steps))

  move_grown : (seen : Bool) (rest : List S) (at : Step N) (way : Way N M) (move : M) → Grown way (by_move moved fits covers bound alike seen rest at way move)
  move_grown seen rest at way move = if_grown way (record { move = move; seen = seen }) at.place (Next seen rest at move)

  moves_grown : (seen : Bool) (rest : List S) (at : Step N) (moves : List M) (way : Way N M) → Grown way (by_moves moved fits covers bound alike seen rest at moves way)
  moves_grown seen rest at [] way = same_way way
  moves_grown seen rest at (move ∷ moves) way =
      let on = by_move moved fits covers bound alike seen rest at way move in
      grown_twice way on _ (move_grown seen rest at way move) (moves_grown seen rest at moves on)

  each_grown : (seen : Bool) (rest : List S) (steps : List (Step N)) (way : Way N M) → Grown way (Each seen rest steps way)
  each_grown seen rest [] way = same_way way
  each_grown seen rest (at ∷ steps) way =
      let on = by_moves moved fits covers bound alike seen rest at family way in
      grown_twice way on _ (moves_grown seen rest at family way) (each_grown seen rest steps on)

  unseen_grown : (left : ℕ) (rest : List S) (way : Way N M) → Grown way (unseen_on moved fits covers family bound alike left rest way)
  unseen_grown zero rest way = same_way way
  unseen_grown (suc left) rest way =
      let on = Each false rest way.steps way in
      grown_twice way on _ (each_grown false rest way.steps way) (unseen_grown left rest on)

  -- what is behind a move of these is there
  moves_has : (seen : Bool) (rest : List S) (at : Step N) (moves : List M) (way : Way N M) (move : M) (next : Standing N S)
      → IsIn move moves
      → Next seen rest at move ≡ Some next
      → Has (by_moves moved fits covers bound alike seen rest at moves way).steps next.net next.unseen
  moves_has seen rest at [] way move next i e = absurd i
  moves_has seen rest at (first ∷ moves) way move next (inl is) e =
      let on = by_move moved fits covers bound alike seen rest at way first in
      has_more on (by_moves moved fits covers bound alike seen rest at moves on) next.net next.unseen (moves_grown seen rest at moves on)
      (if_has way (record { move = first; seen = seen }) at.place (Next seen rest at first) next (ap (Next seen rest at) is ∙ e))
  moves_has seen rest at (first ∷ moves) way move next (inr i) e =
      moves_has seen rest at moves (by_move moved fits covers bound alike seen rest at way first) move next i e

  each_has : (seen : Bool) (rest : List S) (steps : List (Step N)) (way : Way N M) (at : Step N) (move : M) (next : Standing N S)
      → IsIn at steps
      → IsIn move family
      → Next seen rest at move ≡ Some next
      → Has (Each seen rest steps way).steps next.net next.unseen
  each_has seen rest [] way at move next i fam e = absurd i
  each_has seen rest (first ∷ steps) way at move next (inl is) fam e =
      let on = by_moves moved fits covers bound alike seen rest first family way in
      has_more on (Each seen rest steps on) next.net next.unseen (each_grown seen rest steps on)
      (moves_has seen rest first family way move next fam (ap (λ s. Next seen rest s move) is ∙ e))
  each_has seen rest (first ∷ steps) way at move next (inr i) fam e =
      each_has seen rest steps (by_moves moved fits covers bound alike seen rest first family way) at move next i fam e

  module _ (start : N) (capture : List S) where
    abbrev From : Standing N S → List (Told M) → Bool
    From = tells_from moved fits covers bound

    abbrev Here : Standing N S
    Here = record { net = start; unseen = 0; rest = capture }

    -- the moves back to the first place lead here
    record Led (came : List (Came M)) (rest : List S) (at : Step N) : Type 0 where
      told : List (Told M)
      back : Back came at.place told
      leads : (more : List (Told M)) → From Here (onto told more) ≡ From (record { net = at.net; unseen = at.unseen; rest = rest }) more

    abbrev AllLed : List (Came M) → List S → List (Step N) → Type 0
    AllLed came rest steps = (s : Step N) → IsIn s steps → Led came rest s

    led_more : (came new more : List (Came M)) (rest : List S) (at : Step N) → more ≡ came ++ new → Led came rest at → Led more rest at
    led_more came new more rest at e led = record {
      told = led.told;
      back = subst (λ c. Back c at.place led.told) (sym e) (back_more came new at.place led.told led.back);
      leads = led.leads;
    }

    all_more : (a b : Way N M) (rest : List S) (steps : List (Step N)) → Grown a b → AllLed a.came rest steps → AllLed b.came rest steps
    all_more a b rest steps g led s i = led_more a.came g.came.0 b.came rest s g.came.1 (led s i)

    -- what a move leaves is led to by it
    led_on : (came : List (Came M)) (seen : Bool) (rest : List S) (at : Step N) (move : M) (next : Standing N S)
        → Led came rest at
        → Next seen rest at move ≡ Some next
        → Led (came ++ record { told = record { move = move; seen = seen }; from = at.place } ∷ []) next.rest (record { net = next.net; unseen = next.unseen; place = length came + 1 })
    led_on came seen rest at move next led e =
        let one : Came M = record { told = record { move = move; seen = seen }; from = at.place } in
        record {
          told = one.told ∷ led.told;
          back =
              behind {one = one} (omega arith) (get_last came one (length came + 1 - 1) (omega arith))
              (omega (arith, back_within came at.place led.told led.back)) (back_more came (one ∷ []) at.place led.told led.back);
          leads = λ more. led.leads (one.told ∷ more) ∙ ap (if_on (λ s. From s more)) e;
        }

    put_led : (b : Bool) (way : Way N M) (rest : List S) (net : N) (unseen : ℕ) (one : Came M)
        → AllLed way.came rest way.steps
        → Led (way.came ++ one ∷ []) rest (record { net = net; unseen = unseen; place = length way.came + 1 })
        → AllLed (Put b way net unseen one).came rest (Put b way net unseen one).steps
    put_led true way rest net unseen one all led = all
    put_led false way rest net unseen one all led = λ s i.
        elim (in_either s way.steps _ i) [
          | inl a ↦ led_more way.came (one ∷ []) (way.came ++ one ∷ []) rest s refl (all s a)
          | inr b ↦ only s b
        ]
      where
        only : (s : Step N) → IsIn s (record { net = net; unseen = unseen; place = length way.came + 1 } ∷ []) → Led (way.came ++ one ∷ []) rest s
        only s (inl e) = subst (Led (way.came ++ one ∷ []) rest) e led
        only s (inr j) = absurd j

    -- which sightings are left behind a move
    abbrev Leaves : Bool → List S → List S → Type 0
    Leaves seen rest out = (at : Step N) (move : M) (next : Standing N S) → Next seen rest at move ≡ Some next → next.rest ≡ out

    if_led : (seen : Bool) (rest out : List S) (at : Step N) (move : M) (way : Way N M) (o : Option (Standing N S))
        → Next seen rest at move ≡ o
        → Leaves seen rest out
        → Led way.came rest at
        → AllLed way.came out way.steps
        → AllLed (put_if alike way (record { move = move; seen = seen }) at.place o).came out (put_if alike way (record { move = move; seen = seen }) at.place o).steps
    if_led seen rest out at move way None e leaves led all = all
    if_led seen rest out at move way (Some next) e leaves led all =
        put_led (is_known alike way.steps next.net next.unseen) way out next.net next.unseen
        (record { told = record { move = move; seen = seen }; from = at.place }) all
        (subst (λ r. Led (way.came ++ record { told = record { move = move; seen = seen }; from = at.place } ∷ []) r
        (record { net = next.net; unseen = next.unseen; place = length way.came + 1 }))
        (leaves at move next e) (led_on way.came seen rest at move next led e))

    moves_led : (seen : Bool) (rest out : List S) (at : Step N) (moves : List M) (way : Way N M)
        → Leaves seen rest out
        → Led way.came rest at
        → AllLed way.came out way.steps
        → AllLed (by_moves moved fits covers bound alike seen rest at moves way).came out (by_moves moved fits covers bound alike seen rest at moves way).steps
    moves_led seen rest out at [] way leaves led all = all
    moves_led seen rest out at (move ∷ moves) way leaves led all =
        let on = by_move moved fits covers bound alike seen rest at way move in
        let g = move_grown seen rest at way move in
        moves_led seen rest out at moves on leaves (led_more way.came g.came.0 on.came rest at g.came.1 led)
        (if_led seen rest out at move way (Next seen rest at move) refl leaves led all)

    each_led : (seen : Bool) (rest out : List S) (steps : List (Step N)) (way : Way N M)
        → Leaves seen rest out
        → AllLed way.came rest steps
        → AllLed way.came out way.steps
        → AllLed (Each seen rest steps way).came out (Each seen rest steps way).steps
    each_led seen rest out [] way leaves led all = all
    each_led seen rest out (at ∷ steps) way leaves led all =
        let on = by_moves moved fits covers bound alike seen rest at family way in
        let g = moves_grown seen rest at family way in
        each_led seen rest out steps on leaves (all_more way on rest steps g (λ s i. led s (inr i)))
        (moves_led seen rest out at family way leaves (led at (inl refl)) all)

    hidden_leaves : (rest : List S) → Leaves false rest rest
    hidden_leaves rest at move next e = hidden_rest (moved at.net move) e
      where
        by_test : (b : Bool) (done : Done N S)
            → (if b then Some (record { net = done.net; unseen = at.unseen + 1; rest = rest }) else None) ≡ Some next
            → next.rest ≡ rest
        by_test true done e = let same = the (record { net = done.net; unseen = at.unseen + 1; rest = rest }) next e in sym (ap (λ s. s.rest) same)
          where
            the : (a b : Standing N S) → Some a ≡ Some b → a ≡ b
            the a b e = cc
        by_test false done e = let no : ⊥ = cc in absurd no

        hidden_rest : (o : Option (Done N S)) → told_by fits covers bound (record { net = at.net; unseen = at.unseen; rest = rest }) false o ≡ Some next → next.rest ≡ rest
        hidden_rest None e = let no : ⊥ = cc in absurd no
        hidden_rest (Some done) e = by_test (is_unseen covers done.sent && nat_lt at.unseen bound) done e

    shown_leaves : (sight : S) (rest : List S) → Leaves true (sight ∷ rest) rest
    shown_leaves sight rest at move next e = shown_rest (moved at.net move) e
      where
        by_test : (b : Bool) (net : N)
            → (if b then Some (record { net = net; unseen = 0; rest = rest }) else None) ≡ Some next
            → next.rest ≡ rest
        by_test true net e = let same = the (record { net = net; unseen = 0; rest = rest }) next e in sym (ap (λ s. s.rest) same)
          where
            the : (a b : Standing N S) → Some a ≡ Some b → a ≡ b
            the a b e = cc
        by_test false net e = let no : ⊥ = cc in absurd no

        by_sent : (net : N) (sent : Option S) → if_next fits covers net sent (sight ∷ rest) ≡ Some next → next.rest ≡ rest
        by_sent net None e = let no : ⊥ = cc in absurd no
        by_sent net (Some x) e = by_test (fits x sight && covers sight) net e

        shown_rest : (o : Option (Done N S)) → told_by fits covers bound (record { net = at.net; unseen = at.unseen; rest = sight ∷ rest }) true o ≡ Some next → next.rest ≡ rest
        shown_rest None e = let no : ⊥ = cc in absurd no
        shown_rest (Some done) e = by_sent done.net done.sent e

    unseen_led : (left : ℕ) (rest : List S) (way : Way N M)
        → AllLed way.came rest way.steps
        → AllLed (unseen_on moved fits covers family bound alike left rest way).came rest (unseen_on moved fits covers family bound alike left rest way).steps
    unseen_led zero rest way all = all
    unseen_led (suc left) rest way all =
        unseen_led left rest (Each false rest way.steps way) (each_led false rest rest way.steps way (hidden_leaves rest) all all)

    seen_led : (sight : S) (rest : List S) (way : Way N M)
        → AllLed way.came (sight ∷ rest) way.steps
        → AllLed (seen_on moved fits covers family bound alike (sight ∷ rest) way).came rest (seen_on moved fits covers family bound alike (sight ∷ rest) way).steps
    seen_led sight rest way all =
        each_led true (sight ∷ rest) rest way.steps (record { came = way.came; steps = [] }) (shown_leaves sight rest) all (λ s i. absurd i)

    -- from one of these nets a lawful history shows what is left
    record Hope (rest : List S) (steps : List (Step N)) : Type 0 where
      step : Step N
      here : IsIn step steps
      fresh : step.unseen ≤ 0
      moves : List M
      fam : AreIn moves family
      history : History moved fits covers bound bound step.net moves rest

    -- and its first sighting is the next move's
    record Near (sight : S) (rest : List S) (steps : List (Step N)) : Type 0 where
      step : Step N
      here : IsIn step steps
      move : M
      fits_in : IsIn move family
      next : Standing N S
      shows : Next true (sight ∷ rest) step move ≡ Some next
      unseen : next.unseen ≤ 0
      moves : List M
      fam : AreIn moves family
      history : History moved fits covers bound bound next.net moves rest

    by_hidden : (rest : List S) (at : Step N) (move : M) (end : N) (sent : Option S)
        → moved at.net move ≡ Some (record { net = end; sent = sent })
        → is_unseen covers sent ≡ true
        → at.unseen < bound
        → Next false rest at move ≡ Some (record { net = end; unseen = at.unseen + 1; rest = rest })
    by_hidden rest at move end sent done hid room =
        ap (told_by fits covers bound (record { net = at.net; unseen = at.unseen; rest = rest }) false) done
        ∙ ap (λ b. if b && nat_lt at.unseen bound then Some (record { net = end; unseen = at.unseen + 1; rest = rest }) else None) hid
        ∙ ap (λ b. if b then Some (record { net = end; unseen = at.unseen + 1; rest = rest }) else None) (lt-ltb at.unseen bound room)

    by_shown : (sight : S) (rest : List S) (at : Step N) (move : M) (end : N) (sent : S)
        → moved at.net move ≡ Some (record { net = end; sent = Some sent })
        → fits sent sight ≡ true
        → covers sight ≡ true
        → Next true (sight ∷ rest) at move ≡ Some (record { net = end; unseen = 0; rest = rest })
    by_shown sight rest at move end sent done fit cov =
        ap (told_by fits covers bound (record { net = at.net; unseen = at.unseen; rest = sight ∷ rest }) true) done
        ∙ ap (λ b. if b && covers sight then Some (record { net = end; unseen = 0; rest = rest }) else None) fit
        ∙ ap (λ b. if b then Some (record { net = end; unseen = 0; rest = rest }) else None) cov

    head_same : (x y : S) (xs ys : List S) → (x ∷ xs) ≡ (y ∷ ys) → x ≡ y
    head_same x y xs ys e = cc

    tail_same : (x y : S) (xs ys : List S) → (x ∷ xs) ≡ (y ∷ ys) → xs ≡ ys
    tail_same x y xs ys e = cc

    reach : (sight : S) (rest : List S) (k left : ℕ) (at : Step N) (net : N) (moves : List M) (all : List S) (way : Way N M)
        → all ≡ sight ∷ rest
        → at.net ≡ net
        → IsIn at way.steps
        → left ≤ k
        → left + at.unseen ≤ bound
        → AreIn moves family
        → History moved fits covers bound left net moves all
        → Near sight rest (unseen_on moved fits covers family bound alike k (sight ∷ rest) way).steps
    reach sight rest k left at net moves all way first same here less room fam (done_all) = let no : ⊥ = cc in absurd no
    reach sight rest zero left at net moves all way first same here less room fam (went_by {left = l} move done hid more) = absurd (omega (arith, less))
    reach sight rest (suc k) left at net moves all way first same here less room fam (went_by {left = l} {end = end} {sent = sent} {moves = ms} move done hid more) =
        let next : Standing N S = record { net = end; unseen = at.unseen + 1; rest = sight ∷ rest } in
        let is = by_hidden (sight ∷ rest) at move end sent (ap (λ n. moved n move) same ∙ done) hid (omega (arith, room)) in
        let has = each_has false (sight ∷ rest) way.steps way at move next here fam.0 is in
        reach sight rest k l has.step end ms all (Each false (sight ∷ rest) way.steps way) first has.same has.here (omega (arith, less))
        (omega (arith, room, has.few)) fam.1 more
    reach sight rest k left at net moves all way first same here less room fam (came_next {end = end} {sent = sent} {sight = seen} {moves = ms} {capture = left_over} move done fit cov more) =
        let it = head_same seen sight left_over rest first in
        record {
          step = at;
          here = (unseen_grown k (sight ∷ rest) way).steps at here;
          move = move;
          fits_in = fam.0;
          next = record { net = end; unseen = 0; rest = rest };
          shows =
              by_shown sight rest at move end sent (ap (λ n. moved n move) same ∙ done) (subst (λ x. fits sent x ≡ true) it fit)
              (subst (λ x. covers x ≡ true) it cov);
          unseen = omega arith;
          moves = ms;
          fam = fam.1;
          history = subst (λ c. History moved fits covers bound bound end ms c) (tail_same seen sight left_over rest first) more;
        }

    -- one sighting on
    next_hope : (sight : S) (rest : List S) (way : Way N M)
        → Hope (sight ∷ rest) way.steps
        → Hope rest (seen_on moved fits covers family bound alike (sight ∷ rest) (unseen_on moved fits covers family bound alike bound (sight ∷ rest) way)).steps
    next_hope sight rest way hope =
        let wide = unseen_on moved fits covers family bound alike bound (sight ∷ rest) way in
        let near = reach sight rest bound bound hope.step hope.step.net hope.moves (sight ∷ rest) way refl refl hope.here (omega arith) (omega (arith, hope.fresh)) hope.fam hope.history in
        let has = each_has true (sight ∷ rest) wide.steps (record { came = wide.came; steps = [] }) near.step near.move near.next near.here near.fits_in near.shows in
        record {
          step = has.step;
          here = has.here;
          fresh = omega (arith, has.few, near.unseen);
          moves = near.moves;
          fam = near.fam;
          history = subst (λ n. History moved fits covers bound bound n near.moves rest) (sym has.same) near.history;
        }

    way_hope : (rest : List S) (way : Way N M) → Hope rest way.steps → Hope [] (way_on moved fits covers family bound alike rest way).steps
    way_hope [] way hope = hope
    way_hope (sight ∷ rest) way hope =
        way_hope rest (seen_on moved fits covers family bound alike (sight ∷ rest) (unseen_on moved fits covers family bound alike bound (sight ∷ rest) way))
        (next_hope sight rest way hope)

    way_led : (rest : List S) (way : Way N M)
        → AllLed way.came rest way.steps
        → AllLed (way_on moved fits covers family bound alike rest way).came [] (way_on moved fits covers family bound alike rest way).steps
    way_led [] way all = all
    way_led (sight ∷ rest) way all =
        let wide = unseen_on moved fits covers family bound alike bound (sight ∷ rest) way in
        way_led rest (seen_on moved fits covers family bound alike (sight ∷ rest) wide)
        (seen_led sight rest wide (unseen_led bound (sight ∷ rest) way all))

    begun_led : AllLed [] capture (from_start {M = M} start).steps
    begun_led s (inl e) = subst (Led [] capture) e (record { told = []; back = begun; leads = λ more. refl })
    begun_led s (inr j) = absurd j

    some_one : (s : Step N) (steps : List (Step N)) → IsIn s steps → 0 < length steps
    some_one s [] i = absurd i
    some_one s (x ∷ steps) i = omega arith

    -- where a history shows the capture, there is a net at its end
    pub some_end : (way : Way N M)
        → way ≡ way_on moved fits covers family bound alike capture (from_start start)
        → (moves : List M)
        → AreIn moves family
        → History moved fits covers bound bound start moves capture
        → 0 < length way.steps
    some_end way is moves fam h =
        let hope = way_hope capture (from_start start) (record {
          step = record { net = start; unseen = 0; place = 0 };
          here = inl refl;
          fresh = omega arith;
          moves = moves;
          fam = fam;
          history = h;
        }) in
        subst (λ w. 0 < length w.steps) (sym is) (some_one hope.step _ hope.here)

    -- and the moves back from the first such net show it
    pub record Ends (way : Way N M) (place : ℕ) : Type 0 where
      pub told : List (Told M)
      pub back : Back way.came place told
      pub shows : tells moved fits covers bound start capture (reverse told) ≡ true

    pub ends_of : (way : Way N M)
        → way ≡ way_on moved fits covers family bound alike capture (from_start start)
        → 0 < length way.steps
        → (place : ℕ)
        → ((s : Step N) → slice_get way.steps 0 ≡ Some s → place ≡ s.place)
        → Ends way place
    ends_of way is some place first =
        let s = some_first way.steps some in
        let all = subst (λ w. AllLed w.came [] w.steps) (sym is) (way_led capture (from_start start) begun_led) in
        let led = all s.0 (first_in way.steps s.0 s.1) in
        record {
          told = led.told;
          back = subst (λ p. Back way.came p led.told) (sym (first s.0 s.1)) led.back;
          shows = ap (tells moved fits covers bound start capture) (sym (onto_none led.told)) ∙ led.leads [];
        }

    -- as the code reads them
    pub ends_here : (way : Way N M)
        → way ≡ way_on moved fits covers family bound alike capture (from_start start)
        → (moves : List M)
        → AreIn moves family
        → History moved fits covers bound bound start moves capture
        → (steps : List (Step N)) (came : List (Came M)) (place : ℕ)
        → steps ≡ way.steps
        → came ≡ way.came
        → ((s : Step N) → slice_get steps 0 ≡ Some s → place ≡ s.place)
        → (told : List (Told M)) × Back came place told × (tells moved fits covers bound start capture (reverse told) ≡ true)
    ends_here way is moves fam h steps came place all_steps all_came first =
        let ends = ends_of way is (some_end way is moves fam h) place (λ s e. first s (subst (λ xs. slice_get xs 0 ≡ Some s) (sym all_steps) e)) in
        (ends.told, subst (λ c. Back c place ends.told) (sym all_came) ends.back, ends.shows)

  -- one sighting on, in a loop over their places
  pub way_next : (capture : List S) (i : ℕ) (way on : Way N M)
      → i < length capture
      → on ≡ seen_on moved fits covers family bound alike (drop i capture) (unseen_on moved fits covers family bound alike bound (drop i capture) way)
      → way_on moved fits covers family bound alike (drop (i + 1) capture) on ≡ way_on moved fits covers family bound alike (drop i capture) way
  way_next capture i way on lt is = by_rest (drop i capture) refl
    where
      by_rest : (rest : List S) → drop i capture ≡ rest → way_on moved fits covers family bound alike (drop (i + 1) capture) on ≡ way_on moved fits covers family bound alike (drop i capture) way
      by_rest [] e = absurd (omega (arith, lt, length-drop i capture, ap length e))
      by_rest (x ∷ more) e =
          let split = drop_more capture i x lt in
          ap (λ w. way_on moved fits covers family bound alike (drop (i + 1) capture) w) is
          ∙ ap (λ r. way_on moved fits covers family bound alike (drop (i + 1) capture) (seen_on moved fits covers family bound alike r (unseen_on moved fits covers family bound alike bound r way))) split
          ∙ sym (ap (λ r. way_on moved fits covers family bound alike r way) split)
