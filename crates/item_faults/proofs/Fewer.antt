-- What moves is no more than what it leaves.
use Rattle.std.proofs.Common.{◌≡◌, refl, ap, ◌∙◌, ℕ, zero, suc, ◌+◌, ◌≤◌, ◌==◌, ◌||◌, Bool, true, false, not, List, [], ◌∷◌, ◌++◌, length, arith, length-append}
use Rattle.std.proofs.lemmas.List.Folds.{list_any-append}
use Rattle.std.specs.Prelude.{take, drop, ◌-◌}
use Rattle.std.proofs.Common.{subst}
use Rattle.std.proofs.lemmas.List.{take_all}
use Rattle.item_faults.specs.declared.entries.Entry.{Entry}
use Rattle.item_faults.specs.Entries.{has, is_named, kept_from, moves, movers_from, with_if}

pub own_name : (n : ℕ) → (n == n) ≡ true
own_name n = search (arith)

or_left : (a b : Bool) → a ≡ true → (a || b) ≡ true
or_left true b h = refl
or_left false b h = absurd cc

or_right : (a b : Bool) → b ≡ true → (a || b) ≡ true
or_right true b h = refl
or_right false b h = h

has_more : (n : ℕ) (m ys : List Entry) → has n m ≡ true → has n (m ++ ys) ≡ true
has_more n m ys h = list_any-append (is_named n) m ys ∙ or_left (has n m) (has n ys) h

pub has_last : (m : List Entry) (e : Entry) → has e.name (m ++ e ∷ []) ≡ true
has_last m e =
    list_any-append (is_named e.name) m (e ∷ [])
    ∙ or_right (has e.name m) (has e.name (e ∷ [])) (or_left (e.name == e.name) false (own_name e.name))

has_with : (n : ℕ) (b : Bool) (e : Entry) (m : List Entry) → has n m ≡ true → has n (with_if b e m) ≡ true
has_with n true e m h = has_more n m (e ∷ []) h
has_with n false e m h = h

has_moved : (n : ℕ) (m es : List Entry) → has n m ≡ true → has n (movers_from m es) ≡ true
unfolding movers_from
has_moved n m [] h = h
has_moved n m (e ∷ es) h = has_moved n (with_if (moves m e) e m) es (has_with n (moves m e) e m h)

-- what is kept behind others
length-with : (b : Bool) (e : Entry) (k l : List Entry) (n : ℕ) → length k ≡ length l + n → length (with_if b e k) ≡ length (with_if b e l) + n
length-with true e k l n h = let a = length-append k (e ∷ []) in let b = length-append l (e ∷ []) in omega (arith, a, b, h)
length-with false e k l n h = h

kept_behind : (gone k l es : List Entry) (n : ℕ) → length k ≡ length l + n → length (kept_from gone k es) ≡ length (kept_from gone l es) + n
unfolding kept_from
kept_behind gone k l [] n h = h
kept_behind gone k l (e ∷ es) n h =
    let b = not (has e.name gone) in kept_behind gone (with_if b e k) (with_if b e l) es n (length-with b e k l n h)

-- one that has gone, and one that may stay
kept_gone : (gone : List Entry) (e : Entry) (es : List Entry) → has e.name gone ≡ true → kept_from gone [] (e ∷ es) ≡ kept_from gone [] es
unfolding kept_from
kept_gone gone e es h = ap (λ b. kept_from gone (with_if (not b) e []) es) h

kept_by : (gone : List Entry) (b : Bool) (e : Entry) (es : List Entry)
    → length (kept_from gone (with_if b e []) es) ≤ length (kept_from gone [] es) + 1
kept_by gone true e es = let one = kept_behind gone (e ∷ []) [] es 1 refl in omega (arith, one)
kept_by gone false e es = omega arith

kept_one : (gone : List Entry) (e : Entry) (es : List Entry) → length (kept_from gone [] (e ∷ es)) ≤ length (kept_from gone [] es) + 1
unfolding kept_from
kept_one gone e es = kept_by gone (not (has e.name gone)) e es

step : (b : Bool) (m : List Entry) (e : Entry) (es : List Entry)
    → length (kept_from (movers_from (with_if b e m) es) [] es) + length (movers_from (with_if b e m) es) ≤ length es + length (with_if b e m)
    → length (kept_from (movers_from (with_if b e m) es) [] (e ∷ es)) + length (movers_from (with_if b e m) es) ≤ suc (length es) + length m
step true m e es h =
    let all = movers_from (m ++ e ∷ []) es in
    let gone = ap length (kept_gone all e es (has_moved e.name (m ++ e ∷ []) es (has_last m e))) in
    let one = length-append m (e ∷ []) in
    omega (arith, h, gone, one)
step false m e es h = let one = kept_one (movers_from m es) e es in omega (arith, h, one)

pub stays_few : (m es : List Entry) → length (kept_from (movers_from m es) [] es) + length (movers_from m es) ≤ length es + length m
unfolding movers_from kept_from
stays_few m [] = omega arith
stays_few m (e ∷ es) = step (moves m e) m e es (stays_few (with_if (moves m e) e m) es)

-- so also in front of it
pub room : (k at t : ℕ) (xs : List Entry) → k ≡ t - at
    → length (kept_from (movers_from [] (take k (drop at xs))) [] (take t xs)) + length (movers_from [] (take k (drop at xs)))
    ≤ length (take t xs)
unfolding movers_from kept_from
room k zero t xs e =
    let same : k ≡ t = omega (arith, e) in
    let gone = movers_from [] (take k xs) in
    let few = stays_few [] (take k xs) in
    let Q : ℕ → Type 0 = λ n. length (kept_from gone [] (take n xs)) + length gone ≤ length (take n xs) in
    subst Q same (omega (arith, few))
room k (suc a) zero xs e =
    let none : k ≡ 0 = omega (arith, e) in
    let empty : length (movers_from [] (take k (drop (suc a) xs))) ≡ 0 = ap (λ n. length (movers_from [] (take n (drop (suc a) xs)))) none in
    omega (arith, empty)
room k (suc a) (suc u) [] e =
    let empty : length (movers_from [] (take k [])) ≡ 0 = ap (λ l. length (movers_from [] l)) (take_all k [] (omega arith)) in
    omega (arith, empty)
room k (suc a) (suc u) (x ∷ xs) e =
    let one = kept_one (movers_from [] (take k (drop a xs))) x (take u xs) in
    let rest = room k a u xs (omega (arith, e)) in
    omega (arith, one, rest)
