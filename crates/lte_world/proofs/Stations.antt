-- The station of a number, by its place.
use Rattle.std.proofs.Common.{◌≡◌, refl, sym, ap, subst, ◌∙◌, ℕ, ◌<◌, ◌≤◌, ◌==◌, zero, suc, Bool, true, false, List, [], ◌∷◌, map, find, position, Option, Some, None, slice_get, slice_set, arith}
use Rattle.std.specs.List.{IsDistinct, AllByRecursion as AllOf}
use Rattle.std.proofs.lemmas.Bool.{eq-eqb, eqb-true, eqb-false}
use Rattle.std.proofs.{lemmas.Map.Keys.IsDistinct-head, lemmas.Map.Keys.IsDistinct-tail, lemmas.Option.none-some}
use Rattle.lte_machine.specs.StationState.{Station}
use Rattle.lte_machine.specs.World.{put_if, put_station, station_of_id}
use Rattle.key_terms.proofs.Places.{position_hit, position_before, position_no, position_map}

eqb_other : (a b : ℕ) → (a == b) ≡ false → (b == a) ≡ false
eqb_other a b e = by (b == a) refl
  where
    by : (x : Bool) → (b == a) ≡ x → x ≡ false
    by false is = refl
    by true is = absurd (eqb-false a b e (sym (eqb-true b a is)))

pub same_some : {A : Type 0} {x y : A} → ◌≡◌ {A = Option A} (Some x) (Some y) → x ≡ y
same_some e = cc

-- FOUND

-- what stands at the first place is what is found
find_first : {X : Type 0} (p : X → Bool) (xs : List X) (k : ℕ) (x : X)
    → slice_get xs k ≡ Some x
    → p x ≡ true
    → ((j : ℕ) (y : X) → j < k → slice_get xs j ≡ Some y → p y ≡ false)
    → find p xs ≡ Some x
find_first p [] k x at passes before = absurd (none-some x at)
find_first p (y ∷ xs) zero x at passes before =
    let is : y ≡ x = same_some at in
    rw (is, passes) refl
find_first p (y ∷ xs) (suc k) x at passes before =
    let not_here : p y ≡ false = before 0 y (omega arith) refl in
    let later : find p xs ≡ Some x = find_first p xs k x at passes (λ j z lt stands. before (suc j) z (omega (arith, lt)) stands) in
    rw (not_here, later) refl

find_nowhere : {X : Type 0} (p : X → Bool) (xs : List X) → ((j : ℕ) (y : X) → slice_get xs j ≡ Some y → p y ≡ false) → find p xs ≡ None
find_nowhere p [] none = refl
find_nowhere p (y ∷ xs) none =
    let not_here : p y ≡ false = none 0 y refl in
    let later : find p xs ≡ None = find_nowhere p xs (λ j z stands. none (suc j) z stands) in
    rw (not_here, later) refl

-- PUT

module _ {K C : Type 0} where
  abbrev ids_of : List (Station K C) → List ℕ
  ids_of ss = map (λ s. s.id) ss

  put_nowhere : (new : Station K C) (id : ℕ) (ss : List (Station K C)) → AllOf (λ y. (id == y) ≡ false) (ids_of ss) → put_station id new ss ≡ ss
  put_nowhere new id [] h = refl
  put_nowhere new id (s ∷ ss) h =
      let other : (s.id == id) ≡ false = eqb_other id s.id h.0 in
      let rest : put_station id new ss ≡ ss = put_nowhere new id ss h.1 in
      λ j. put_if (other j) new s ∷ rest j

  differs_at : (id : ℕ) (ss : List (Station K C)) (k : ℕ) (s : Station K C)
      → AllOf (λ y. (id == y) ≡ false) (ids_of ss)
      → slice_get ss k ≡ Some s
      → (id == s.id) ≡ false
  differs_at id [] k s h at = absurd (none-some s at)
  differs_at id (x ∷ ss) zero s h at = ap (λ y. id == y.id) (sym (same_some at)) ∙ h.0
  differs_at id (x ∷ ss) (suc k) s h at = differs_at id ss k s h.1 at

  -- where the numbers are distinct, it is put at its place alone
  pub put_at : (ss : List (Station K C)) (new s : Station K C) (k id : ℕ)
      → IsDistinct (λ a b. a == b) (ids_of ss)
      → slice_get ss k ≡ Some s
      → s.id ≡ id
      → put_station id new ss ≡ slice_set ss k new
  put_at [] new s k id d at is = absurd (none-some s at)
  put_at (x ∷ ss) new s zero id d at is =
      let own : x.id ≡ id = ap (λ y. y.id) (same_some at) ∙ is in
      let here : (x.id == id) ≡ true = eq-eqb x.id id own in
      let rest : put_station id new ss ≡ ss = put_nowhere new id ss
      (subst (λ n. AllOf (λ y. (n == y) ≡ false) (ids_of ss)) own
      (IsDistinct-head (λ a b. a == b) x.id (ids_of ss) d)) in
      λ j. put_if (here j) new x ∷ rest j
  put_at (x ∷ ss) new s (suc k) id d at is =
      let other : (x.id == id) ≡ false = subst (λ n. (x.id == n) ≡ false) is (differs_at x.id ss k s (IsDistinct-head (λ a b. a == b) x.id (ids_of ss) d) at) in
      let rest : put_station id new ss ≡ slice_set ss k new = put_at ss new s k id (IsDistinct-tail (λ a b. a == b) x.id (ids_of ss) d) at is in
      λ j. put_if (other j) new x ∷ rest j

  -- it keeps the numbers
  pub ids_kept : (ss : List (Station K C)) (new s : Station K C) (k : ℕ) → slice_get ss k ≡ Some s → new.id ≡ s.id → ids_of (slice_set ss k new) ≡ ids_of ss
  ids_kept [] new s k at is = absurd (none-some s at)
  ids_kept (x ∷ ss) new s zero at is = ap (λ n. n ∷ ids_of ss) (is ∙ ap (λ y. y.id) (sym (same_some at)))
  ids_kept (x ∷ ss) new s (suc k) at is = ap (λ l. x.id ∷ l) (ids_kept ss new s k at is)

  module _ (ss : List (Station K C)) (ids : List ℕ) (same : ids_of ss ≡ ids) (id : ℕ) where
    by_station : position (λ x. x == id) ids ≡ position (λ s. s.id == id) ss
    by_station = ap (position (λ x. x == id)) (sym same) ∙ position_map (λ s. s.id) (λ x. x == id) ss

    -- the station at the place of the number
    pub stands_at : (k : ℕ) → position (λ x. x == id) ids ≡ Some k → (s : Station K C) × (slice_get ss k ≡ Some s) × (s.id ≡ id)
    stands_at k found =
        let hit = position_hit (λ s. s.id == id) ss k (sym by_station ∙ found) in
        (hit.0, hit.1, eqb-true hit.0.id id hit.2)

    pub station_is : (k : ℕ) (s : Station K C) → position (λ x. x == id) ids ≡ Some k → slice_get ss k ≡ Some s → station_of_id id ss ≡ Some s
    station_is k s found at =
        let place = sym by_station ∙ found in
        let hit = position_hit (λ s. s.id == id) ss k place in
        let own : hit.0 ≡ s = same_some (sym hit.1 ∙ at) in
        find_first (λ s. s.id == id) ss k s at (ap (λ y. y.id == id) (sym own) ∙ hit.2)
        (λ j y lt stands. position_before (λ s. s.id == id) ss k j y place lt stands)

    pub no_station : position (λ x. x == id) ids ≡ None → station_of_id id ss ≡ None
    no_station none = find_nowhere (λ s. s.id == id) ss (λ j y stands. position_no (λ s. s.id == id) ss j y (sym by_station ∙ none) stands)

    pub number_within : (k : ℕ) → AllOf (λ n. n ≤ 7) ids → position (λ x. x == id) ids ≡ Some k → id ≤ 7
    number_within k all found =
        let at = stands_at k found in
        subst (λ n. n ≤ 7) at.2 (holds ss k at.0 (subst (AllOf (λ n. n ≤ 7)) (sym same) all) at.1)
      where
        holds : (ss : List (Station K C)) (k : ℕ) (s : Station K C) → AllOf (λ n. n ≤ 7) (ids_of ss) → slice_get ss k ≡ Some s → s.id ≤ 7
        holds [] k s h at = absurd (none-some s at)
        holds (x ∷ ss) zero s h at = subst (λ y. y.id ≤ 7) (same_some at) h.0
        holds (x ∷ ss) (suc k) s h at = holds ss k s h.1 at
