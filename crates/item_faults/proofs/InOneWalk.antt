-- A walk from a message's item on finds all faults of that message, where names rise.
use Rattle.std.proofs.Common.{◌≡◌, refl, sym, ap, ◌∙◌, ℕ, ◌+◌, ◌-◌, ◌<◌, ◌≤◌, ◌==◌, ◌&&◌, ◌||◌, nat_lt, cond, Bool, true, false, not, List, [], ◌∷◌, ◌++◌, length, take, drop, Some, None, Result, Ok, Err, OnOk, position, if◌then◌else◌, arith, length-append}
use Rattle.std.specs.List.{position_or_len, slice_range}
use Rattle.std.specs.Option.{is_some, option_map}
use Rattle.std.proofs.lemmas.Bool.{le-ltb, lt-ltb, ltb-false, not-true, ne_eqb}
use Rattle.std.proofs.lemmas.List.{append_assoc, length-drop, length-take-le, take-append-drop, take_all}
use Rattle.std.proofs.lemmas.List.Folds.{list_any-append}
use Rattle.std.proofs.Math.Seq.{drop-append_seam, take-append-add}
use Rattle.item_faults.specs.{declared.changes.Fault.Fault, declared.changes.Kind.Kind, declared.entries.Again.Again, declared.entries.Entry.Entry}
use Rattle.item_faults.specs.declared.changes.Kind.TheVariants as kind
use Rattle.item_faults.specs.declared.entries.Again.TheVariants as again
use Rattle.item_faults.specs.Changes.{changed, if_not, put_at, sent_by}
use Rattle.item_faults.specs.Entries.{has, is_named, movers, movers_from, moves, with_if}
use Rattle.item_faults.specs.Faults.{at_places, can_be, fault_at, is_fault, is_one, is_sent, is_there, of_kind, of_message, repeats, with_fault}
use Rattle.item_faults.specs.Walk.{again_here, late_from, lost_here, of_here, rise, rise_from, twice_from}
use Rattle.item_faults.proofs.Fewer.{has_last, own_name}

-- NAMES THAT RISE

both_left : (a b : Bool) → (a && b) ≡ true → a ≡ true
both_left true b h = refl
both_left false b h = absurd cc

both_right : (a b : Bool) → (a && b) ≡ true → b ≡ true
both_right true b h = h
both_right false b h = absurd cc

abbrev Below : ℕ → List Entry → Type 0
Below n [] = Unit {0}
Below n (e ∷ es) = (e.name < n) × Below n es

Below-append : (n : ℕ) (xs ys : List Entry) → Below n (xs ++ ys) → Below n ys
Below-append n [] ys h = h
Below-append n (x ∷ xs) ys h = Below-append n xs ys h.1

rising : (least : ℕ) (pre : List Entry) (e : Entry) (es : List Entry) → rise_from least (pre ++ e ∷ es) ≡ true
    → (least ≤ e.name) × Below e.name pre
unfolding rise_from
rising least [] e es h = (ltb-false e.name least (not-true _ (both_left _ _ h)), tt)
rising least (p ∷ pre) e es h =
    let rest = rising (p.name + 1) pre e es (both_right _ _ h) in
    let on : p.name + 1 ≤ e.name = rest.0 in
    let here : least ≤ p.name = ltb-false p.name least (not-true _ (both_left _ _ h)) in
    (omega (arith, on, here), (omega (arith, on), rest.1))

-- THE PLACE OF A NAME

named : (n : ℕ) (e : Entry) → e.name ≡ n → (e.name == n) ≡ true
named n e is = ap (λ k. e.name == k) (sym is) ∙ own_name e.name

place : (n : ℕ) (pre : List Entry) (e : Entry) (es : List Entry) → Below n pre → e.name ≡ n
    → position_or_len (is_named n) (pre ++ e ∷ es) ≡ length pre
place n [] e es low is = ap (λ b. cond (not b) (1 + position_or_len (is_named n) es) 0) (named n e is)
place n (p ∷ pre) e es low is =
    let other : (p.name == n) ≡ false = ne_eqb p.name n (λ same. absurd (omega (arith, same, low.0))) in
    let now : position_or_len (is_named n) (p ∷ (pre ++ e ∷ es)) ≡ 1 + position_or_len (is_named n) (pre ++ e ∷ es) =
    ap (λ b. cond (not b) (1 + position_or_len (is_named n) (pre ++ e ∷ es)) 0) other in
    let rest = place n pre e es low.1 is in
    omega (arith, now, rest)

found : (n : ℕ) (pre : List Entry) (e : Entry) (es : List Entry) → Below n pre → e.name ≡ n
    → position (is_named n) (pre ++ e ∷ es) ≡ Some (length pre)
found n pre e es low is =
    let at = place n pre e es low is in
    let long = length-append pre (e ∷ es) in
    let within : nat_lt (length pre) (length (pre ++ e ∷ es)) ≡ true = lt-ltb (length pre) (length (pre ++ e ∷ es)) (omega (arith, long)) in
    rw (at, within)

-- WHETHER A FAULT IS ONE

sent : (f : List Entry → List Entry) (e : Entry) (by : Again) → is_some (option_map f (sent_by 0 e by)) ≡ is_sent by
sent f e again.Never = refl
sent f e (again.Act a) = refl
sent f e (again.Answer a) = refl
sent f e (again.Anew a b) = refl
sent f e (again.AnewAnswer a b) = refl

not_none : (b : Bool) (list : List Entry) → is_some (if_not b list) ≡ not b
not_none true list = refl
not_none false list = refl

changes : (k : Kind) (after to : ℕ) (xs span : List Entry) → is_some (changed 0 k after to xs span) ≡ can_be k after span
changes kind.Lost after to xs [] = refl
changes kind.Lost after to xs (e ∷ []) = refl
changes kind.Lost after to xs (e ∷ d ∷ es) = refl
changes kind.Late after to xs span = not_none (has after (movers span)) _
changes kind.Twice after to xs [] = refl
changes kind.Twice after to xs (e ∷ es) = refl
changes kind.Again after to xs [] = refl
changes kind.Again after to xs (e ∷ []) = sent _ e e.again
changes kind.Again after to xs (e ∷ d ∷ es) = refl

by_places : (f : Fault) (xs : List Entry) (at to : ℕ) (b : Bool) → position (is_named f.message) xs ≡ Some at
    → position (is_named f.after) xs ≡ Some to
    → nat_lt to at ≡ b
    → is_fault xs f ≡ (if b then false else can_be f.kind f.after (slice_range xs at (to + 1)))
by_places f xs at to true first there behind =
    ap (λ o. is_some (put_at 0 f xs o (position (is_named f.after) xs))) first
    ∙ ap (λ o. is_some (put_at 0 f xs (Some at) o)) there
    ∙ ap (λ b. is_some (if b then None else changed 0 f.kind f.after to xs (slice_range xs at (to + 1)))) behind
by_places f xs at to false first there behind =
    ap (λ o. is_some (put_at 0 f xs o (position (is_named f.after) xs))) first
    ∙ ap (λ o. is_some (put_at 0 f xs (Some at) o)) there
    ∙ ap (λ b. is_some (if b then None else changed 0 f.kind f.after to xs (slice_range xs at (to + 1)))) behind
    ∙ changes f.kind f.after to xs (slice_range xs at (to + 1))

-- THE ITEMS FROM THE MESSAGE TO A PLACE

span : (pre mid : List Entry) (e : Entry) (es : List Entry)
    → slice_range (pre ++ (mid ++ e ∷ es)) (length pre) (length (pre ++ mid) + 1) ≡ mid ++ e ∷ []
span pre mid e es =
    let long = length-append pre mid in
    let many : length (pre ++ mid) + 1 - length pre ≡ length mid + 1 = omega (arith, long) in
    ap (λ n. take n (drop (length pre) (pre ++ (mid ++ e ∷ es)))) many
    ∙ ap (take (length mid + 1)) (drop-append_seam pre (mid ++ e ∷ es))
    ∙ take-append-add mid (e ∷ es) 1

grown : (all pre mid : List Entry) (e : Entry) (es : List Entry) → all ≡ pre ++ (mid ++ e ∷ es) → all ≡ pre ++ ((mid ++ e ∷ []) ++ es)
grown all pre mid e es is = is ∙ ap (λ l. pre ++ l) (sym (append_assoc mid (e ∷ []) es))

joined : (all pre mid : List Entry) (e : Entry) (es : List Entry) → all ≡ pre ++ (mid ++ e ∷ es) → all ≡ (pre ++ mid) ++ e ∷ es
joined all pre mid e es is = is ∙ sym (append_assoc pre mid (e ∷ es))

-- names are lower in front of an item
lower : (all pre mid : List Entry) (e : Entry) (es : List Entry) → all ≡ pre ++ (mid ++ e ∷ es) → rise all ≡ true → Below e.name (pre ++ mid)
lower all pre mid e es is up =
    (rising 0 (pre ++ mid) e es (ap (rise_from 0) (sym (joined all pre mid e es is)) ∙ up)).1

there : (all pre mid : List Entry) (e : Entry) (es : List Entry) → all ≡ pre ++ (mid ++ e ∷ es) → rise all ≡ true
    → position (is_named e.name) all ≡ Some (length (pre ++ mid))
there all pre mid e es is up =
    ap (position (is_named e.name)) (joined all pre mid e es is) ∙ found e.name (pre ++ mid) e es (lower all pre mid e es is up) refl

at : (k : Kind) (m : ℕ) (all pre mid : List Entry) (e : Entry) (es : List Entry) → all ≡ pre ++ (mid ++ e ∷ es) → rise all ≡ true
    → position (is_named m) all ≡ Some (length pre)
    → is_fault all (fault_at k m e.name) ≡ can_be k e.name (mid ++ e ∷ [])
at k m all pre mid e es is up first =
    let long = length-append pre mid in
    let behind : nat_lt (length (pre ++ mid)) (length pre) ≡ false = le-ltb (length (pre ++ mid)) (length pre) (omega (arith, long)) in
    by_places (fault_at k m e.name) all (length pre) (length (pre ++ mid)) false first (there all pre mid e es is up) behind
    ∙ ap (can_be k e.name) (ap (λ l. slice_range l (length pre) (length (pre ++ mid) + 1)) is ∙ span pre mid e es)

-- none at places before the message
before : (k : Kind) (m : ℕ) (all a pre here : List Entry) (faults : List Fault) → all ≡ a ++ (pre ++ here) → rise all ≡ true
    → position (is_named m) all ≡ Some (length (a ++ pre))
    → at_places all k m faults pre ≡ faults
unfolding at_places
before k m all a [] here faults is up first = refl
before k m all a (e ∷ pre) here faults is up first =
    let low : Below e.name a = (rising 0 a e (pre ++ here) (ap (rise_from 0) (sym is) ∙ up)).1 in
    let where_is : position (is_named e.name) all ≡ Some (length a) =
    ap (position (is_named e.name)) is ∙ found e.name a e (pre ++ here) low refl in
    let long = length-append a (e ∷ pre) in
    let front : nat_lt (length a) (length (a ++ e ∷ pre)) ≡ true = lt-ltb (length a) (length (a ++ e ∷ pre)) (omega (arith, long)) in
    let none : is_fault all (fault_at k m e.name) ≡ false =
    by_places (fault_at k m e.name) all (length (a ++ e ∷ pre)) (length a) true first where_is front in
    ap (λ b. at_places all k m (with_fault b (fault_at k m e.name) faults) pre) none
    ∙ before k m all (a ++ e ∷ []) pre here faults (is ∙ sym (append_assoc a (e ∷ []) (pre ++ here))) up
    (first ∙ ap (λ l. Some (length l)) (sym (append_assoc a (e ∷ []) pre)))

places-append : (all : List Entry) (k : Kind) (m : ℕ) (faults : List Fault) (xs ys : List Entry)
    → at_places all k m faults (xs ++ ys) ≡ at_places all k m (at_places all k m faults xs) ys
unfolding at_places
places-append all k m faults [] ys = refl
places-append all k m faults (e ∷ xs) ys =
    places-append all k m (with_fault (is_fault all (fault_at k m e.name)) (fault_at k m e.name) faults) xs ys

from_here : (k : Kind) (m : ℕ) (all pre here : List Entry) (faults : List Fault) → all ≡ pre ++ here → rise all ≡ true
    → position (is_named m) all ≡ Some (length pre)
    → of_kind all k m faults ≡ at_places all k m faults here
from_here k m all pre here faults is up first =
    ap (at_places all k m faults) is
    ∙ places-append all k m faults pre here
    ∙ ap (λ l. at_places all k m l here) (before k m all [] pre here faults is up first)

-- EACH KIND

-- where only the place of the message itself can be one
alone : (k : Kind) (m : ℕ) (all pre : List Entry) (d : Entry) (ds es : List Entry) (faults : List Fault)
    → ((ds : List Entry) (e : Entry) → can_be k e.name (d ∷ (ds ++ e ∷ [])) ≡ false)
    → all ≡ pre ++ ((d ∷ ds) ++ es)
    → rise all ≡ true
    → position (is_named m) all ≡ Some (length pre)
    → at_places all k m faults es ≡ faults
unfolding at_places
alone k m all pre d ds [] faults never is up first = refl
alone k m all pre d ds (e ∷ es) faults never is up first =
    ap (λ b. at_places all k m (with_fault b (fault_at k m e.name) faults) es) (at k m all pre (d ∷ ds) e es is up first ∙ never ds e)
    ∙ alone k m all pre d (ds ++ e ∷ []) es faults never (grown all pre (d ∷ ds) e es is) up first

first_alone : (k : Kind) (m : ℕ) (b : Bool) (all pre : List Entry) (d : Entry) (es : List Entry) (faults : List Fault)
    → can_be k d.name (d ∷ []) ≡ b
    → ((ds : List Entry) (e : Entry) → can_be k e.name (d ∷ (ds ++ e ∷ [])) ≡ false)
    → all ≡ pre ++ d ∷ es
    → rise all ≡ true
    → position (is_named m) all ≡ Some (length pre)
    → at_places all k m faults (d ∷ es) ≡ with_fault b (fault_at k m d.name) faults
unfolding at_places
first_alone k m b all pre d es faults can never is up first =
    ap (λ c. at_places all k m (with_fault c (fault_at k m d.name) faults) es) (at k m all pre [] d es is up first ∙ can)
    ∙ alone k m all pre d [] es (with_fault b (fault_at k m d.name) faults) never is up first

more_than_one : (d : Entry) (ds : List Entry) (e : Entry) → is_one (d ∷ (ds ++ e ∷ [])) ≡ false
more_than_one d [] e = refl
more_than_one d (x ∷ ds) e = refl

no_repeat : (d : Entry) (ds : List Entry) (e : Entry) → repeats (d ∷ (ds ++ e ∷ [])) ≡ false
no_repeat d [] e = refl
no_repeat d (x ∷ ds) e = refl

lost_is : (m : ℕ) (all pre here : List Entry) (faults : List Fault) → all ≡ pre ++ here → rise all ≡ true
    → position (is_named m) all ≡ Some (length pre)
    → lost_here m faults here ≡ at_places all kind.Lost m faults here
unfolding at_places
lost_is m all pre [] faults is up first = refl
lost_is m all pre (d ∷ es) faults is up first =
    sym (first_alone kind.Lost m true all pre d es faults refl (more_than_one d) is up first)

again_is : (m : ℕ) (all pre here : List Entry) (faults : List Fault) → all ≡ pre ++ here → rise all ≡ true
    → position (is_named m) all ≡ Some (length pre)
    → again_here m faults here ≡ at_places all kind.Again m faults here
unfolding at_places
again_is m all pre [] faults is up first = refl
again_is m all pre (d ∷ es) faults is up first =
    sym (first_alone kind.Again m (is_sent d.again) all pre d es faults refl (no_repeat d) is up first)

some_there : (mid : List Entry) (e : Entry) → is_there (mid ++ e ∷ []) ≡ true
some_there [] e = refl
some_there (d ∷ mid) e = refl

twice_is : (m : ℕ) (all pre mid es : List Entry) (faults : List Fault) → all ≡ pre ++ (mid ++ es) → rise all ≡ true
    → position (is_named m) all ≡ Some (length pre)
    → twice_from m faults es ≡ at_places all kind.Twice m faults es
unfolding at_places twice_from
twice_is m all pre mid [] faults is up first = refl
twice_is m all pre mid (e ∷ es) faults is up first =
    twice_is m all pre (mid ++ e ∷ []) es (faults ++ fault_at kind.Twice m e.name ∷ []) (grown all pre mid e es is) up first
    ∙ ap (λ b. at_places all kind.Twice m (with_fault b (fault_at kind.Twice m e.name) faults) es)
    (sym (at kind.Twice m all pre mid e es is up first ∙ some_there mid e))

-- what moves with it, with one more behind
movers_more : (moved xs : List Entry) (e : Entry)
    → movers_from moved (xs ++ e ∷ []) ≡ with_if (moves (movers_from moved xs) e) e (movers_from moved xs)
unfolding movers_from
movers_more moved [] e = refl
movers_more moved (x ∷ xs) e = movers_more (with_if (moves moved x) x moved) xs e

neither : (a b : Bool) → a ≡ false → b ≡ false → (a || b) ≡ false
neither true b h g = absurd cc
neither false b h g = g

not_with : (n : ℕ) (b : Bool) (e : Entry) (m : List Entry) → (e.name == n) ≡ false → has n m ≡ false → has n (with_if b e m) ≡ false
not_with n false e m other h = h
not_with n true e m other h =
    list_any-append (is_named n) m (e ∷ []) ∙ neither (has n m) (has n (e ∷ [])) h (neither (e.name == n) false other refl)

not_moved : (n : ℕ) (moved xs : List Entry) → has n moved ≡ false → Below n xs → has n (movers_from moved xs) ≡ false
unfolding movers_from
not_moved n moved [] h low = h
not_moved n moved (x ∷ xs) h low =
    let other : (x.name == n) ≡ false = ne_eqb x.name n (λ same. absurd (omega (arith, same, low.0))) in
    not_moved n (with_if (moves moved x) x moved) xs (not_with n (moves moved x) x moved other h) low.1

itself : (b : Bool) (e : Entry) (m : List Entry) → has e.name m ≡ false → has e.name (with_if b e m) ≡ b
itself true e m h = has_last m e
itself false e m h = h

late_is : (m : ℕ) (all pre mid es : List Entry) (faults : List Fault) → all ≡ pre ++ (mid ++ es) → rise all ≡ true
    → position (is_named m) all ≡ Some (length pre)
    → late_from m (movers mid) faults es ≡ at_places all kind.Late m faults es
unfolding at_places late_from movers_from
late_is m all pre mid [] faults is up first = refl
late_is m all pre mid (e ∷ es) faults is up first =
    let moved = movers mid in
    let b = moves moved e in
    let low = Below-append e.name pre mid (lower all pre mid e es is up) in
    let can : is_fault all (fault_at kind.Late m e.name) ≡ not b =
    at kind.Late m all pre mid e es is up first
    ∙ ap not (ap (has e.name) (movers_more [] mid e) ∙ itself b e moved (not_moved e.name [] mid refl low)) in
    ap (λ l. late_from m l (with_fault (not b) (fault_at kind.Late m e.name) faults) es) (sym (movers_more [] mid e))
    ∙ late_is m all pre (mid ++ e ∷ []) es (with_fault (not b) (fault_at kind.Late m e.name) faults) (grown all pre mid e es is) up first
    ∙ ap (λ c. at_places all kind.Late m (with_fault c (fault_at kind.Late m e.name) faults) es) (sym can)

-- ALL KINDS

here_at : (m : ℕ) (all pre here : List Entry) (faults : List Fault) → all ≡ pre ++ here → rise all ≡ true
    → position (is_named m) all ≡ Some (length pre)
    → of_here m here faults ≡ of_message all m faults
unfolding movers_from
here_at m all pre here faults is up first =
    let kind_is : (k : Kind) (l : List Fault) → at_places all k m l here ≡ of_kind all k m l = λ k l. sym (from_here k m all pre here l is up first) in
    let lost = lost_is m all pre here faults is up first ∙ kind_is kind.Lost faults in
    let late : (l : List Fault) → late_from m [] l here ≡ of_kind all kind.Late m l = λ l. late_is m all pre [] here l is up first ∙ kind_is kind.Late l in
    let twice : (l : List Fault) → twice_from m l here ≡ of_kind all kind.Twice m l = λ l. twice_is m all pre [] here l is up first ∙ kind_is kind.Twice l in
    let again : (l : List Fault) → again_here m l here ≡ of_kind all kind.Again m l = λ l. again_is m all pre here l is up first ∙ kind_is kind.Again l in
    ap (λ l. again_here m (twice_from m (late_from m [] l here) here) here) lost
    ∙ ap (λ l. again_here m (twice_from m l here) here) (late (of_kind all kind.Lost m faults))
    ∙ ap (λ l. again_here m l here) (twice (of_kind all kind.Late m (of_kind all kind.Lost m faults)))
    ∙ again (of_kind all kind.Twice m (of_kind all kind.Late m (of_kind all kind.Lost m faults)))

pub here_is : (m at : ℕ) (all : List Entry) (faults : List Fault) → rise all ≡ true → position (is_named m) all ≡ Some at → at ≤ length all
    → of_here m (take (length all - at) (drop at all)) faults ≡ of_message all m faults
here_is m at all faults up first within =
    ap (λ l. of_here m l faults) (take_all (length all - at) (drop at all) (let long = length-drop at all in omega (arith, long)))
    ∙ here_at m all (take at all) (drop at all) faults (sym (take-append-drop at all)) up
    (first ∙ ap Some (sym (length-take-le at all within)))

-- where no item has the name of the message
none_of : (k : Kind) (m : ℕ) (all : List Entry) (faults : List Fault) (es : List Entry) → position (is_named m) all ≡ None
    → at_places all k m faults es ≡ faults
unfolding at_places
none_of k m all faults [] none = refl
none_of k m all faults (e ∷ es) none =
    ap (λ o. at_places all k m (with_fault (is_some (put_at 0 (fault_at k m e.name) all o (position (is_named e.name) all))) (fault_at k m e.name) faults) es) none
    ∙ none_of k m all faults es none

pub none_is : (m : ℕ) (all : List Entry) (faults : List Fault) → position (is_named m) all ≡ None → of_message all m faults ≡ faults
none_is m all faults none =
    ap (λ l. of_kind all kind.Again m (of_kind all kind.Twice m (of_kind all kind.Late m l))) (none_of kind.Lost m all faults all none)
    ∙ ap (λ l. of_kind all kind.Again m (of_kind all kind.Twice m l)) (none_of kind.Late m all faults all none)
    ∙ ap (of_kind all kind.Again m) (none_of kind.Twice m all faults all none)
    ∙ none_of kind.Again m all faults all none

-- what holds of the list where the call went well
pub goes_on : {E : Type 0} (r : Result (Unit {0}) E) (new here there : List Fault) → OnOk r (new ≡ here) → here ≡ there → OnOk r (new ≡ there)
goes_on (Ok done) new here there is same = is ∙ same
goes_on (Err e) new here there is same = tt
