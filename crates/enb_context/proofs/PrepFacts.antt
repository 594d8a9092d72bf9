-- Facts on the preparations of a station.
use Rattle.std.proofs.Common.{◌≡◌, ℕ, suc, ◌<◌, ◌≤◌, Bool, true, false, cond, List, [], ◌∷◌, ◌++◌, length, All, Some, None, find, refl, ap, sym, arith}
use Rattle.std.specs.Prelude.{◌↔◌, Result, Ok, Err, IsErr, OnOk, IfSome, Option, None, nat_le, nat_lt, not, filter, ◌||◌}
use Rattle.std.proofs.{lemmas.Bool.Decides.nat_tests, lemmas.List.length-map}
use Rattle.std.proofs.lemmas.List.Elements.{All-filter, All-push, All-nil}
use Rattle.ho_prep.proofs.CarryFacts.{has_attempt-map}
use Rattle.ho_prep.specs.Prep.{Prep, map_prep, is_at, is_of, at_air, has_attempt, without, drop_below, most_preparations}
use Rattle.lte_machine.specs.StationState.{map_preps, Context}
use Rattle.enb_context.specs.Preps.{NoneAbove, IsWithin}

-- a plain question has the same answer without keys
module _ {K C L D : Type 0} (f : K → L) (g : C → D) where
  pub length_map_preps : (ps : List (Prep K C)) → length (map_preps f g ps) ≡ length ps
  length_map_preps ps = length-map ps (map_prep f g)

  pub has_attempt_map_preps : (source attempt : ℕ) (ps : List (Prep K C)) → has_attempt source attempt (map_preps f g ps) ≡ has_attempt source attempt ps
  has_attempt_map_preps source attempt ps = has_attempt-map f g source attempt ps

pub none_above_nil : (last : ℕ) → NoneAbove last []
none_above_nil last = record { all = All-nil _ }

all_higher : (last conn : ℕ) → last ≤ conn → (ps : List (Prep (List ℕ) ℕ)) → All (λ p. p.conn ≤ last) ps → All (λ p. p.conn ≤ conn) ps
all_higher last conn h ps all = λ k d below. let this = all k d below in omega (arith, this)

pub none_above_drop : (last conn : ℕ) (ps : List (Prep (List ℕ) ℕ)) → NoneAbove last ps → last ≤ conn → NoneAbove conn (drop_below conn ps)
none_above_drop last conn ps h le = record { all = All-filter (λ p. nat_le conn p.conn) (λ p. p.conn ≤ conn) ps (all_higher last conn le ps h.all) }

pub none_above_push : (conn : ℕ) (ps : List (Prep (List ℕ) ℕ)) (p : Prep (List ℕ) ℕ) → NoneAbove conn ps → p.conn ≤ conn → NoneAbove conn (ps ++ p ∷ [])
none_above_push conn ps p h le = record { all = All-push (λ p. p.conn ≤ conn) ps p h.all le }

pub none_above_without : (last source attempt : ℕ) (ps : List (Prep (List ℕ) ℕ)) → NoneAbove last ps → NoneAbove last (without source attempt ps)
none_above_without last source attempt ps h = record { all = All-filter (λ p. not (is_of source attempt p)) (λ p. p.conn ≤ last) ps h.all }

-- a higher connection drops all
none_left : (last conn : ℕ) → last < conn → (ps : List (Prep (List ℕ) ℕ)) → All (λ p. p.conn ≤ last) ps → drop_below conn ps ≡ []
none_left last conn h [] all = refl
none_left last conn h (p ∷ ps) all = by_test (nat_le conn p.conn) refl (none_left last conn h ps (λ k d below. all (suc k) d (omega arith)))
  where
    first : p.conn ≤ last
    first = all 0 p (omega arith)

    by_test : (b : Bool) → nat_le conn p.conn ≡ b → drop_below conn ps ≡ [] → cond b (p ∷ drop_below conn ps) (drop_below conn ps) ≡ []
    by_test true e rest = let le : conn ≤ p.conn = grind (arith, nat_tests) in absurd (omega (arith, first, le))
    by_test false e rest = rest

no_longer : {X : Type 0} (p : X → Bool) (xs : List X) → length (filter p xs) ≤ length xs
no_longer p [] = omega arith
no_longer p (x ∷ xs) = by_test (no_longer p xs) (p x)
  where
    by_test : length (filter p xs) ≤ length xs → (b : Bool) → length (cond b (x ∷ filter p xs) (filter p xs)) ≤ suc (length xs)
    by_test rest true = omega (arith, rest)
    by_test rest false = omega (arith, rest)

-- a request that is admitted finds room
pub drop_below_room : (last conn : ℕ) (ps : List (Prep (List ℕ) ℕ))
    → NoneAbove last ps
    → last ≤ conn
    → length ps ≤ 8
    → (conn ≡ last → length ps < 8)
    → length (drop_below conn ps) < 8
drop_below_room last conn ps h le few room = by_test (nat_lt last conn) refl
  where
    by_test : (b : Bool) → nat_lt last conn ≡ b → length (drop_below conn ps) < 8
    by_test true e = let lt : last < conn = grind (arith, nat_tests) in rw (none_left last conn lt ps h.all) (omega arith)
    by_test false e =
        let ge : conn ≤ last = grind (arith, nat_tests) in
        let same : conn ≡ last = omega arith in
        let few : length ps < 8 = room same in
        let fewer : length (drop_below conn ps) ≤ length ps = no_longer (λ p. nat_le conn p.conn) ps in
        omega (arith, few, fewer)

-- what is found is not above
pub found_within : (last air : ℕ) (ps : List (Prep (List ℕ) ℕ)) (p : Prep (List ℕ) ℕ) → at_air air ps ≡ Some p → NoneAbove last ps → p.conn ≤ last
found_within last air ps p found h = inside ps h.all found
  where
    inside : (ps : List (Prep (List ℕ) ℕ)) → All (λ p. p.conn ≤ last) ps → at_air air ps ≡ Some p → p.conn ≤ last
    inside [] all e = cc
    inside (x ∷ xs) all e = by_test (is_at air x) e (inside xs (λ k d below. all (suc k) d (omega arith)))
      where
        first : x.conn ≤ last
        first = all 0 x (omega arith)

        by_test : (b : Bool) → cond b (Some x) (find (is_at air) xs) ≡ Some p → (find (is_at air) xs ≡ Some p → p.conn ≤ last) → p.conn ≤ last
        by_test true e rest = let same : x ≡ p = cc in rw (← same) first
        by_test false e rest = rest e

pub within_higher : (last conn : ℕ) (o : Option (Context (List ℕ) ℕ)) → IsWithin last o → last ≤ conn → IsWithin conn o
within_higher last conn None h le = tt
within_higher last conn (Some c) h le = omega (arith, h)

-- what is added where there is room
pub added : {P A : Type 0} (n : ℕ) (r : Result (Unit {0}) P) → (IsErr r ↔ (n ≡ most_preparations)) → n < 8 → OnOk r A → A
added n (Ok u) full few ok = ok
added n (Err back) full few ok = absurd (let e : n ≡ most_preparations = full.0 refl in omega (arith, e))

-- nothing is dropped where nothing stands
pub none_without : (source attempt : ℕ) (ps : List (Prep (List ℕ) ℕ)) → has_attempt source attempt ps ≡ false → without source attempt ps ≡ ps
none_without source attempt [] h = refl
none_without source attempt (p ∷ ps) h = by_test (is_of source attempt p) h (none_without source attempt ps)
  where
    by_test : (b : Bool)
        → (b || has_attempt source attempt ps) ≡ false
        → (has_attempt source attempt ps ≡ false → without source attempt ps ≡ ps)
        → cond (not b) (p ∷ without source attempt ps) (without source attempt ps) ≡ p ∷ ps
    by_test true e rest = cc
    by_test false e rest = ap (λ xs. p ∷ xs) (rest e)

pub all_found_within : (last air : ℕ) (ps : List (Prep (List ℕ) ℕ)) (o : Option (Prep (List ℕ) ℕ))
    → o ≡ at_air air ps
    → NoneAbove last ps
    → IfSome o (λ p. p.conn ≤ last)
all_found_within last air ps None e h = tt
all_found_within last air ps (Some p) e h = found_within last air ps p (sym e) h
