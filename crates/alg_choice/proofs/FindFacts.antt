-- What `find` says of the elements.
use Rattle.std.proofs.Common.{◌≡◌, Bool, true, false, List, [], ◌∷◌, Some, None, find, refl, cond}
use Rattle.std.specs.List.{list_any}

-- what was found passes the test
pub find_passes : {X : Type 0} (test : X → Bool) (xs : List X) (x : X) → find test xs ≡ Some x → test x ≡ true
find_passes test [] x found = cc
find_passes test (y ∷ ys) x found = by_test (test y) refl found (find_passes test ys x)
  where
    by_test : (b : Bool) → test y ≡ b → cond b (Some y) (find test ys) ≡ Some x → (find test ys ≡ Some x → test x ≡ true) → test x ≡ true
    by_test true e h later = cc
    by_test false e h later = later h

-- an element passes where something was found
pub list_any-find : {X : Type 0} (test : X → Bool) (xs : List X) (x : X) → find test xs ≡ Some x → list_any test xs ≡ true
list_any-find test [] x found = cc
list_any-find test (y ∷ ys) x found = by_test (test y) refl found (list_any-find test ys x)
  where
    by_test : (b : Bool)
        → test y ≡ b
        → cond b (Some y) (find test ys) ≡ Some x
        → (find test ys ≡ Some x → list_any test ys ≡ true)
        → list_any test (y ∷ ys) ≡ true
    by_test true e h later = rw e refl
    by_test false e h later = rw e (later h)

-- none does where nothing was found
pub list_any-find_none : {X : Type 0} (test : X → Bool) (xs : List X) → find test xs ≡ None → list_any test xs ≡ false
list_any-find_none test [] none = refl
list_any-find_none test (y ∷ ys) none = by_test (test y) refl none (list_any-find_none test ys)
  where
    by_test : (b : Bool)
        → test y ≡ b
        → cond b (Some y) (find test ys) ≡ None
        → (find test ys ≡ None → list_any test ys ≡ false)
        → list_any test (y ∷ ys) ≡ false
    by_test true e h later = cc
    by_test false e h later = rw e (later h)
