-- The steps of the search, as the code makes them.
use Rattle.std.proofs.Common.{◌≡◌, ℕ, suc, ◌+◌, ◌<◌, ◌≤◌, Bool, true, false, Option, List, [], ◌∷◌, length, take, drop, get_or, inl, refl, sym, ap, subst, ◌∙◌, arith}
use Rattle.std.specs.Prelude.{flat_map, ◌&&◌}
use Rattle.trace_rules.specs.{Rules.Done, Rules.IsIn, Rules.AreIn, History.History, Closed.IsFull, Closed.IsClosed}
use Rattle.trace_rules.specs.Search.{hidden_from, shown_from, widened, possible}
use Rattle.trace_rules.proofs.{Members.Agree}
use Rattle.trace_rules.proofs.Search.{history_found, witness}
use Rattle.trace_rules.proofs.Widening.{Known, known_more, next_agree, next_closed, never}
use Rattle.trace_plain.specs.{Once.once_from, Explained.ExplainedTo}
use Rattle.trace_plain.proofs.Once.{once_agree, first_stays}

pub some_in : {X : Type 0} (xs : List X) → 0 < length xs → (x : X) × IsIn x xs
some_in [] h = absurd (omega arith)
some_in (x ∷ xs) h = (x, inl refl)

pub no_items : {X : Type 0} (xs : List X) → ¬ (0 < length xs) → xs ≡ []
no_items [] h = refl
no_items (x ∷ xs) h = absurd (h (omega arith))

module _ {N M S : Type 0} (moved : N → M → Option (Done N S)) (fits : S → S → Bool) (covers : S → Bool) (family : List M) (alike : N → N → Bool) (exact : (x y : N) → alike x y ≡ true → x ≡ y) where
  -- one unseen move more
  pub known_on : (k : ℕ) (nets all : List N) (begun : ℕ) (new : List N)
      → Known moved fits covers family k nets all begun
      → new ≡ once_from alike all (flat_map (hidden_from moved covers family) (drop begun all))
      → Known moved fits covers family (suc k) nets new (length all)
  known_on k nets all begun new known is =
      let more = flat_map (hidden_from moved covers family) (drop begun all) in
      let agree = once_agree alike exact all more in
      known_more moved fits covers family k nets all begun new known
      ((λ z i. agree.0 z (subst (IsIn z) is i)), (λ z i. subst (IsIn z) (sym is) (agree.1 z i)))
      (ap (take (length all)) is ∙ first_stays alike all more)

  -- one sighting more
  pub shown_on : (shown next ends all : List N) → Agree shown all → next ≡ shown → ends ≡ once_from alike [] next → Agree ends all
  shown_on shown next ends all same is each =
      let agree = once_agree alike exact [] next in (
        (λ z i. same.0 z (subst (IsIn z) is (agree.0 z (subst (IsIn z) each i)))),
        (λ z i. subst (IsIn z) (sym each) (agree.1 z (subst (IsIn z) (sym is) (same.1 z i)))),
      )

module _ {N M S : Type 0} (moved : N → M → Option (Done N S)) (fits : S → S → Bool) (covers : S → Bool) (family : List M) (bound : ℕ) (start : N) (capture : List S) where
  abbrev Pos : List S → List N
  Pos = possible moved fits covers family bound (start ∷ [])

  -- what is so before the i-th sighting
  pub record Before (i : ℕ) (nets : List N) (closed : Bool) : Type 0 where
    pub agree : Agree nets (Pos (take i capture))
    pub some : 0 < length nets
    pub shut : closed ≡ true → IsClosed moved fits covers family bound (start ∷ []) (take i capture)

  -- what is so behind it
  pub record Behind (i : ℕ) (nets : List N) (closed : Bool) : Type 0 where
    pub agree : Agree nets (Pos (take (i + 1) capture))
    pub shut : closed ≡ true → IsClosed moved fits covers family bound (start ∷ []) (take (i + 1) capture)

  both_so : (a b : Bool) → (a && b) ≡ true → (a ≡ true) × (b ≡ true)
  both_so true b e = (refl, e)
  both_so false b e = let no : false ≡ true = e in absurd (clash no)
    where
      clash : false ≡ true → ⊥
      clash h = cc

  pub advanced : (i : ℕ) (sight : S) (nets ends : List N) (closed full closed' : Bool)
      → i < length capture
      → sight ≡ get_or capture i sight
      → Before i nets closed
      → Agree ends (flat_map (shown_from moved fits covers family sight) (widened moved covers family bound nets))
      → (full ≡ true → IsFull moved covers family (widened moved covers family bound nets))
      → closed' ≡ (closed && full)
      → Behind i ends closed'
  advanced i sight nets ends closed full closed' lt item before found shut is = record {
    agree =
        next_agree moved fits covers family bound start capture i sight nets (widened moved covers family bound nets) ends lt item before.agree
        ((λ z j. j), (λ z j. j)) found;
    shut = λ e.
        let two = both_so closed full (sym is ∙ e) in
        next_closed moved fits covers family bound start capture i sight nets lt item before.agree (before.shut two.0) (shut two.1);
  }

  witness_of : (i : ℕ) (nets : List N) (closed : Bool) → Before i nets closed
      → (moves : List M) × AreIn moves family × History moved fits covers bound bound start moves (take i capture)
  witness_of i nets closed before =
      let one = some_in nets before.some in
      witness moved fits covers family bound start (take i capture) one.0 (before.agree.0 one.0 one.1)

  -- the search ends at a sighting that no net shows
  pub ends_at : (i : ℕ) (nets ends : List N) (closed closed' : Bool)
      → i < length capture
      → Before i nets closed
      → Behind i ends closed'
      → ends ≡ []
      → ExplainedTo moved fits covers family bound start capture i closed'
  ends_at i nets ends closed closed' lt before behind none =
      let nothing : (z : N) → IsIn z (Pos (take (i + 1) capture)) → ⊥ = λ z j. subst (IsIn z) none (behind.agree.1 z j) in
      record {
        within = omega (arith, lt);
        witness = witness_of i nets closed before;
        no_more = λ _ moves fam h.
            let found = history_found moved fits covers family bound start moves (take (i + 1) capture) h fam in
            nothing found.0 found.1;
        at_all = λ e _ any moves fam h. never moved fits covers family bound start (take (i + 1) capture) (behind.shut e) nothing any moves fam h;
      }

  -- or behind the last
  pub ends_all : (i : ℕ) (nets : List N) (closed : Bool)
      → i ≤ length capture
      → length capture ≤ i
      → Before i nets closed
      → ExplainedTo moved fits covers family bound start capture i closed
  ends_all i nets closed within over before = record {
    within = within;
    witness = witness_of i nets closed before;
    no_more = λ lt. absurd (omega (arith, lt, over));
    at_all = λ e lt. absurd (omega (arith, lt, over));
  }

  -- before the first
  pub begins : (nets : List N) → nets ≡ start ∷ [] → Before 0 nets true
  begins nets is = record {
    agree = ((λ z i. subst (IsIn z) is i), (λ z i. subst (IsIn z) (sym is) i));
    some = subst (λ xs. 0 < length xs) (sym is) (omega arith);
    shut = λ e. tt;
  }
