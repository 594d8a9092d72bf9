-- The nets behind unseen moves, taken as sets.
use Rattle.std.proofs.Common.{◌≡◌, ℕ, zero, suc, ◌+◌, ◌<◌, Bool, Option, List, [], ◌∷◌, ◌++◌, length, take, drop, get_or, inl, inr, refl, sym, ap, subst, ◌∙◌}
use Rattle.std.specs.Prelude.{flat_map}
use Rattle.std.proofs.lemmas.List.{take-append-drop, take_more}
use Rattle.trace_rules.specs.{Rules.Done, Rules.IsIn, Rules.AreIn, History.History, Closed.IsFull, Closed.IsClosed}
use Rattle.trace_rules.specs.Search.{hidden_from, shown_from, widened, possible}
use Rattle.trace_rules.proofs.Members.{Sub, Agree, in_left, in_right, in_either, join_sub, in_flat_map, from_flat_map, flat_map_sub}
use Rattle.trace_rules.proofs.Search.{history_found}

-- the first items, and then the next
next_take : {X : Type 0} (xs : List X) (i : ℕ) (x : X) → i < length xs → x ≡ get_or xs i x → take i xs ++ x ∷ [] ≡ take (i + 1) xs
next_take xs i x lt item = ap (λ y. take i xs ++ y ∷ []) item ∙ sym (take_more xs i x lt)

module _ {N M S : Type 0} (moved : N → M → Option (Done N S)) (fits : S → S → Bool) (covers : S → Bool) (family : List M) where
  abbrev Hid : N → List N
  Hid = hidden_from moved covers family

  abbrev Sho : S → N → List N
  Sho = shown_from moved fits covers family

  abbrev Wide : ℕ → List N → List N
  Wide = widened moved covers family

  pub in_wide : (k : ℕ) (nets : List N) → Sub nets (Wide k nets)
  in_wide zero nets z i = i
  in_wide (suc k) nets z i = in_left z nets (Wide k (flat_map Hid nets)) i

  pub wide_sub : (k : ℕ) (xs ys : List N) → Sub xs ys → Sub (Wide k xs) (Wide k ys)
  wide_sub zero xs ys h z i = h z i
  wide_sub (suc k) xs ys h z i =
      elim (in_either z xs (Wide k (flat_map Hid xs)) i) [
        | inl a ↦ in_left z ys (Wide k (flat_map Hid ys)) (h z a)
        | inr b ↦ in_right z ys (Wide k (flat_map Hid ys)) (wide_sub k (flat_map Hid xs) (flat_map Hid ys) (flat_map_sub Hid xs ys h) z b)
      ]

  -- one unseen move more is one at the end
  more_in : (k : ℕ) (nets : List N) → Sub (Wide k nets) (Wide (suc k) nets)
  more_in zero nets z i = in_left z nets (flat_map Hid nets) i
  more_in (suc k) nets z i =
      elim (in_either z nets (Wide k (flat_map Hid nets)) i) [
        | inl a ↦ in_left z nets (Wide (suc k) (flat_map Hid nets)) a
        | inr b ↦ in_right z nets (Wide (suc k) (flat_map Hid nets)) (more_in k (flat_map Hid nets) z b)
      ]

  after_in : (k : ℕ) (nets : List N) → Sub (flat_map Hid (Wide k nets)) (Wide (suc k) nets)
  after_in zero nets z i = in_right z nets (flat_map Hid nets) i
  after_in (suc k) nets z i =
      let from = from_flat_map Hid (Wide (suc k) nets) z i in
      let deep = flat_map Hid nets in
      elim (in_either from.0 nets (Wide k deep) from.1) [
        | inl a ↦ in_right z nets (Wide (suc k) deep) (in_wide (suc k) deep z (in_flat_map Hid from.0 nets z a from.2))
        | inr b ↦ in_right z nets (Wide (suc k) deep) (after_in k deep z (in_flat_map Hid from.0 (Wide k deep) z b from.2))
      ]

  last_or : (k : ℕ) (nets : List N) → Sub (Wide (suc k) nets) (Wide k nets ++ flat_map Hid (Wide k nets))
  last_or zero nets z i = i
  last_or (suc k) nets z i =
      let deep = flat_map Hid nets in
      let wide = Wide (suc k) nets in
      elim (in_either z nets (Wide (suc k) deep) i) [
        | inl a ↦ in_left z wide (flat_map Hid wide) (in_left z nets (Wide k deep) a)
        | inr b ↦ join_sub (Wide k deep) (flat_map Hid (Wide k deep)) (wide ++ flat_map Hid wide)
            (λ y j. in_left y wide (flat_map Hid wide) (in_right y nets (Wide k deep) j))
            (λ y j. in_right y wide (flat_map Hid wide) (flat_map_sub Hid (Wide k deep) wide (λ x h. in_right x nets (Wide k deep) h) y j))
            z (last_or k deep z b)
      ]

  -- nets that are known behind k unseen moves: of the first `begun` all successors are there already
  pub record Known (k : ℕ) (nets all : List N) (begun : ℕ) : Type 0 where
    pub agree : Agree all (Wide k nets)
    pub went : Sub (flat_map Hid (take begun all)) all

  -- the successors of the others come
  pub known_more : (k : ℕ) (nets all : List N) (begun : ℕ) (new : List N)
      → Known k nets all begun
      → Agree new (all ++ flat_map Hid (drop begun all))
      → take (length all) new ≡ all
      → Known (suc k) nets new (length all)
  known_more k nets all begun new known is first =
      let more = flat_map Hid (drop begun all) in
      let below : Sub (flat_map Hid all) new = λ z i.
      let from = from_flat_map Hid all z i in
      elim (in_either from.0 (take begun all) (drop begun all) (subst (IsIn from.0) (sym (take-append-drop begun all)) from.1)) [
        | inl a ↦ is.1 z (in_left z all more (known.went z (in_flat_map Hid from.0 (take begun all) z a from.2)))
        | inr b ↦ is.1 z (in_right z all more (in_flat_map Hid from.0 (drop begun all) z b from.2))
      ] in
      let part : Sub (drop begun all) all = λ z i. subst (IsIn z) (take-append-drop begun all) (in_right z (take begun all) (drop begun all) i) in
      record {
        agree = (
          λ z i. join_sub all more (Wide (suc k) nets)
              (λ y j. more_in k nets y (known.agree.0 y j))
              (λ y j. after_in k nets y (flat_map_sub Hid (drop begun all) (Wide k nets) (λ x h. known.agree.0 x (part x h)) y j))
              z (is.0 z i),
          λ z i. join_sub (Wide k nets) (flat_map Hid (Wide k nets)) new
              (λ y j. is.1 y (in_left y all more (known.agree.1 y j)))
              (λ y j. below y (flat_map_sub Hid (Wide k nets) all known.agree.1 y j))
              z (last_or k nets z i),
        );
        went = subst (λ xs. Sub (flat_map Hid xs) new) (sym first) below;
      }

  pub known_first : (nets : List N) → Known zero nets nets zero
  known_first nets = record { agree = (λ z i. i, λ z i. i); went = λ z i. absurd i }

  pub known_full : (k : ℕ) (nets all : List N) (begun : ℕ) → Known k nets all begun → take begun all ≡ all → IsFull moved covers family (Wide k nets)
  known_full k nets all begun known whole = λ z i.
      let below : Sub (flat_map Hid all) all = subst (λ xs. Sub (flat_map Hid xs) all) whole known.went in
      known.agree.0 z (below z (flat_map_sub Hid (Wide k nets) all known.agree.1 z i))

  module _ (bound : ℕ) where
    abbrev Pos : List N → List S → List N
    Pos = possible moved fits covers family bound

    pub possible_more : (capture : List S) (sight : S) (nets : List N)
        → Pos nets (capture ++ sight ∷ []) ≡ flat_map (Sho sight) (Wide bound (Pos nets capture))
    possible_more [] sight nets = refl
    possible_more (x ∷ capture) sight nets = possible_more capture sight (flat_map (Sho x) (Wide bound nets))

    possible_next : (start : N) (capture : List S) (i : ℕ) (sight : S)
        → i < length capture
        → sight ≡ get_or capture i sight
        → flat_map (Sho sight) (Wide bound (Pos (start ∷ []) (take i capture))) ≡ Pos (start ∷ []) (take (i + 1) capture)
    possible_next start capture i sight lt item =
        sym (possible_more (take i capture) sight (start ∷ []))
        ∙ ap (λ c. Pos (start ∷ []) c) (next_take capture i sight lt item)

    -- one sighting more
    pub next_agree : (start : N) (capture : List S) (i : ℕ) (sight : S) (nets wide ends : List N)
        → i < length capture
        → sight ≡ get_or capture i sight
        → Agree nets (Pos (start ∷ []) (take i capture))
        → Agree wide (Wide bound nets)
        → Agree ends (flat_map (Sho sight) wide)
        → Agree ends (Pos (start ∷ []) (take (i + 1) capture))
    next_agree start capture i sight nets wide ends lt item is within found =
        let pos = Pos (start ∷ []) (take i capture) in
        let e = possible_next start capture i sight lt item in (
          λ z j.
              subst (IsIn z) e (flat_map_sub (Sho sight) wide (Wide bound pos) (λ w h. wide_sub bound nets pos is.0 w (within.0 w h)) z (found.0 z j)),
          λ z j.
              found.1 z (flat_map_sub (Sho sight) (Wide bound pos) wide (λ w h. within.1 w (wide_sub bound pos nets is.1 w h)) z (subst (IsIn z) (sym e) j)),
        )

    full_agree : (xs ys : List N) → Agree xs ys → IsFull moved covers family (Wide bound xs) → IsFull moved covers family (Wide bound ys)
    full_agree xs ys is full = λ z i.
        wide_sub bound xs ys is.0 z (full z (flat_map_sub Hid (Wide bound ys) (Wide bound xs) (wide_sub bound ys xs is.1) z i))

    closed_more : (capture : List S) (sight : S) (nets : List N)
        → IsClosed moved fits covers family bound nets capture
        → IsFull moved covers family (Wide bound (Pos nets capture))
        → IsClosed moved fits covers family bound nets (capture ++ sight ∷ [])
    closed_more [] sight nets closed full = (full, tt)
    closed_more (x ∷ capture) sight nets closed full = (closed.0, closed_more capture sight (flat_map (Sho x) (Wide bound nets)) closed.1 full)

    pub next_closed : (start : N) (capture : List S) (i : ℕ) (sight : S) (nets : List N)
        → i < length capture
        → sight ≡ get_or capture i sight
        → Agree nets (Pos (start ∷ []) (take i capture))
        → IsClosed moved fits covers family bound (start ∷ []) (take i capture)
        → IsFull moved covers family (Wide bound nets)
        → IsClosed moved fits covers family bound (start ∷ []) (take (i + 1) capture)
    next_closed start capture i sight nets lt item is closed full =
        let pos = Pos (start ∷ []) (take i capture) in
        subst (λ c. IsClosed moved fits covers family bound (start ∷ []) c) (next_take capture i sight lt item)
        (closed_more (take i capture) sight (start ∷ []) closed (full_agree nets pos is full))

    stays : (all : List N) → Sub (flat_map Hid all) all → (k : ℕ) (xs : List N) → Sub xs all → Sub (Wide k xs) all
    stays all full zero xs h z i = h z i
    stays all full (suc k) xs h z i =
        elim (in_either z xs (Wide k (flat_map Hid xs)) i) [
          | inl a ↦ h z a
          | inr b ↦ stays all full k (flat_map Hid xs) (λ w j. full w (flat_map_sub Hid xs all h w j)) z b
        ]

    any_bound : (k : ℕ) (capture : List S) (xs ys : List N)
        → Sub xs ys
        → IsClosed moved fits covers family bound ys capture
        → Sub (possible moved fits covers family k xs capture) (Pos ys capture)
    any_bound k [] xs ys h closed z i = h z i
    any_bound k (x ∷ capture) xs ys h closed z i =
        any_bound k capture (flat_map (Sho x) (Wide k xs)) (flat_map (Sho x) (Wide bound ys))
        (flat_map_sub (Sho x) (Wide k xs) (Wide bound ys) (stays (Wide bound ys) closed.0 k xs (λ w j. in_wide bound ys w (h w j))))
        closed.1 z i

    pub never : (start : N) (capture : List S)
        → IsClosed moved fits covers family bound (start ∷ []) capture
        → ((z : N) → IsIn z (Pos (start ∷ []) capture) → ⊥)
        → (k : ℕ) (moves : List M)
        → AreIn moves family
        → History moved fits covers k k start moves capture
        → ⊥
    never start capture closed none k moves fam h =
        let found = history_found moved fits covers family k start moves capture h fam in
        none found.0 (any_bound k capture (start ∷ []) (start ∷ []) (λ z i. i) closed found.0 found.1)
