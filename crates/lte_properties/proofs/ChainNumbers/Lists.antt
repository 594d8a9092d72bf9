-- Lists each of whose items is so.
use Rattle.std.proofs.Common.{◌≡◌, refl, ap, ◌∙◌, ℕ, suc, ◌+◌, Bool, true, false, cond, ◌==◌, List, [], ◌∷◌, ◌++◌, length, filter, map, Option, Some, None, arith}
use Rattle.std.specs.Prelude.{find}
use Rattle.key_model.specs.{Derivation.Derivation, Term.Term}
use Rattle.lte_machine.specs.Ladder.{RowOrigin, OfRoot, Of}
use Rattle.lte_machine.specs.StationState.{Station}
use Rattle.lte_machine.specs.World.{put_if, put_station, is_root_row, with_one}
use Rattle.lte_properties.specs.ChainBelow.{AllOf}
pub use Rattle.lte_machine.proofs.KnownLists.{OfSome, all_append, all_one, all_filter, all_get, all_chosen, all_more as all_map, all_both, all_each, each_of}

module _ {A : Type 0} (P : A → Type 0) where
  found_if : (test : A → Bool) (x : A) (b : Bool) (o : Option A) → test x ≡ b → P x → OfSome (λ y. P y × (test y ≡ true)) o →
      OfSome (λ y. P y × (test y ≡ true)) (cond b (Some x) o)
  found_if test x true o e p h = (p, e)
  found_if test x false o e p h = h

  pub all_find : (test : A → Bool) (xs : List A) → AllOf P xs → OfSome (λ y. P y × (test y ≡ true)) (find test xs)
  all_find test [] h = tt
  all_find test (x ∷ xs) h = found_if test x (test x) (find test xs) refl h.0 (all_find test xs h.1)

module _ {A : Type 0} (P : A → Type 0) where
  all_front : (xs ys : List A) → AllOf P (xs ++ ys) → AllOf P xs
  all_front [] ys h = tt
  all_front (x ∷ xs) ys h = (h.0, all_front xs ys h.1)

  all_last : (x : A) (xs : List A) → AllOf P (xs ++ x ∷ []) → P x
  all_last x [] h = h.0
  all_last x (y ∷ xs) h = all_last x xs h.1

  -- what is so of all, and of one more, is so of these
  pub all_old : (o : Option A) (xs : List A) → AllOf P (with_one o xs) → AllOf P xs
  all_old None xs h = h
  all_old (Some x) xs h = all_front xs (x ∷ []) h

  -- and of that one
  pub all_new : (o : Option A) (xs : List A) → AllOf P (with_one o xs) → OfSome P o
  all_new None xs h = tt
  all_new (Some x) xs h = all_last x xs h

module _ (P Q : Station Term ℕ → Type 0) (id : ℕ) (new : Station Term ℕ) where
  put_one : (b : Bool) (s : Station Term ℕ) → (s.id == id) ≡ b → Q new → ((s.id == id) ≡ false → P s → Q s) → P s → Q (put_if b new s)
  put_one true s e n f p = n
  put_one false s e n f p = f e p

  -- a new state of one station, and the other ones as they were
  pub all_put : (ss : List (Station Term ℕ)) → Q new → ((s : Station Term ℕ) → (s.id == id) ≡ false → P s → Q s) → AllOf P ss → AllOf Q (put_station id new ss)
  all_put [] n f h = tt
  all_put (s ∷ ss) n f h = (put_one (s.id == id) s refl n (f s) h.0, all_put ss n f h.1)

-- AUTHENTICATIONS

derived_are_none : (ds : List (Derivation Term)) → length (filter is_root_row (map Of ds)) ≡ 0
derived_are_none [] = refl
derived_are_none (d ∷ ds) = derived_are_none ds

-- derivations add none to a history
pub roots_kept : (rows : List (RowOrigin Term)) (ds : List (Derivation Term))
    → length (filter is_root_row (rows ++ map Of ds)) ≡ length (filter is_root_row rows)
roots_kept [] ds = derived_are_none ds
roots_kept (OfRoot root ∷ rows) ds = ap suc (roots_kept rows ds)
roots_kept (Of d ∷ rows) ds = roots_kept rows ds

-- and an authentication adds one
pub one_root_more : (rows : List (RowOrigin Term)) (root : Term) → length (filter is_root_row (rows ++ OfRoot root ∷ [])) ≡ length (filter is_root_row rows) + 1
one_root_more [] root = refl
one_root_more (OfRoot other ∷ rows) root = ap suc (one_root_more rows root) ∙ omega arith
one_root_more (Of d ∷ rows) root = one_root_more rows root
