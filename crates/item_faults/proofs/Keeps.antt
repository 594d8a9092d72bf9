-- What faults keep of the items, and how many they leave.
use Rattle.std.proofs.Common.{◌≡◌, ℕ, ◌+◌, ◌*◌, ◌-◌, ◌<◌, ◌≤◌, nat_lt, Bool, true, false, not, List, [], ◌∷◌, ◌++◌, length, take, drop, position, All, Option, Some, None, Result, Ok, Err, IfOk, IfSome, if◌then◌else◌, ap, refl, sym, subst, ◌∙◌, arith, length-append}
use Rattle.std.specs.{List.slice_range, Option.option_map, Option.option_and_then}
use Rattle.std.proofs.lemmas.List.{take-append-drop}
use Rattle.std.proofs.lemmas.List.Elements.{All-nil, All-cons, All-head, All-tail, All-append, All-push, All-take, All-drop}
use Rattle.item_faults.specs.{declared.changes.Fault.Fault, declared.changes.Kind.Kind, declared.entries.Again.Again, declared.entries.Entry.Entry, Entries.most_steps}
use Rattle.item_faults.specs.declared.changes.Kind.TheVariants as kind
use Rattle.item_faults.specs.declared.entries.Again.TheVariants as again
use Rattle.item_faults.specs.Entries.{act_of, delivery_of, own, has, is_named, kept_from, moves, movers, movers_from, with_if}
use Rattle.item_faults.specs.Changes.{changed, copy_of, edited, if_not, lost, ordered, in_order, put, put_all, put_at, repeated, sent_again, sent_by, twice, variant}
use Rattle.item_faults.specs.Laws.{AreEntries, CanRun, IsAgainOf, IsEntryOf, at_most, most_items}
use Rattle.item_faults.proofs.Fewer.{room}

-- A LIST THAT GROWS

length-with_if : (b : Bool) (e : Entry) (xs : List Entry) → length (with_if b e xs) ≤ length xs + 1
length-with_if true e xs = simp length-append (omega arith)
length-with_if false e xs = omega arith

length-kept : (gone kept xs : List Entry) → length (kept_from gone kept xs) ≤ length kept + length xs
unfolding kept_from
length-kept gone kept [] = omega arith
length-kept gone kept (e ∷ es) =
    let step = length-with_if (not (has e.name gone)) e kept in
    let rest = length-kept gone (with_if (not (has e.name gone)) e kept) es in
    omega arith

All-with_if : (P : Entry → Type 0) (b : Bool) (e : Entry) (xs : List Entry) → P e → All P xs → All P (with_if b e xs)
All-with_if P true e xs p h = All-push P xs e h p
All-with_if P false e xs p h = h

All-kept : (P : Entry → Type 0) (gone kept xs : List Entry) → All P kept → All P xs → All P (kept_from gone kept xs)
unfolding kept_from
All-kept P gone kept [] h _ = h
All-kept P gone kept (e ∷ es) h all =
    All-kept P gone (with_if (not (has e.name gone)) e kept) es
    (All-with_if P (not (has e.name gone)) e kept (All-head P e es all) h) (All-tail P e es all)

All-movers : (P : Entry → Type 0) (moved xs : List Entry) → All P moved → All P xs → All P (movers_from moved xs)
unfolding movers_from
All-movers P moved [] h _ = h
All-movers P moved (e ∷ es) h all =
    All-movers P (with_if (moves moved e) e moved) es
    (All-with_if P (moves moved e) e moved (All-head P e es all) h) (All-tail P e es all)

length-cut : (n : ℕ) (xs : List Entry) → length (take n xs) + length (drop n xs) ≡ length xs
length-cut n xs = sym (length-append (take n xs) (drop n xs)) ∙ ap length (take-append-drop n xs)

-- A FAULT: what is left are items of these acts, and they are at most so many

pub record Leaves (acts n : ℕ) (list : List Entry) : Type 0 where
  pub entries : AreEntries acts list
  pub few : length list ≤ n

leaves_edited : (acts n : ℕ) (gone : List Entry) (to : ℕ) (new xs : List Entry) → AreEntries acts xs → AreEntries acts new →
    length new + length xs ≤ n → Leaves acts n (edited gone to new xs)
leaves_edited acts n gone to new xs all these few = record {
  entries =
      All-kept (IsEntryOf acts) gone (kept_from gone [] (take (to + 1) xs) ++ new) (drop (to + 1) xs)
      (All-append (IsEntryOf acts) (kept_from gone [] (take (to + 1) xs)) new
      (All-kept (IsEntryOf acts) gone [] (take (to + 1) xs) (All-nil (IsEntryOf acts)) (All-take (IsEntryOf acts) (to + 1) xs all)) these)
      (All-drop (IsEntryOf acts) (to + 1) xs all);
  few =
      let first = length-kept gone [] (take (to + 1) xs) in
      let both = length-append (kept_from gone [] (take (to + 1) xs)) new in
      let last = length-kept gone (kept_from gone [] (take (to + 1) xs) ++ new) (drop (to + 1) xs) in
      let cut = length-cut (to + 1) xs in
      omega arith;
}

-- what is put in
is_act : (acts name a : ℕ) (w : Option ℕ) → a < acts → IsEntryOf acts (act_of name a w)
is_act acts name a w h = record { does = h; repeats = tt }

is_delivery : (acts name of : ℕ) → IsEntryOf acts (delivery_of name of)
is_delivery acts name of = record { does = tt; repeats = tt }

is_copy : (acts number : ℕ) (e : Entry) → IsEntryOf acts e → IsEntryOf acts (copy_of number e)
is_copy acts number e h = record { does = h.does; repeats = h.repeats }

are_one : (acts : ℕ) (a : Entry) → IsEntryOf acts a → AreEntries acts (a ∷ [])
are_one acts a p = All-cons (IsEntryOf acts) a [] p (All-nil (IsEntryOf acts))

are_two : (acts : ℕ) (a b : Entry) → IsEntryOf acts a → IsEntryOf acts b → AreEntries acts (a ∷ b ∷ [])
are_two acts a b p q = All-cons (IsEntryOf acts) a (b ∷ []) p (are_one acts b q)

are_three : (acts : ℕ) (a b c : Entry) → IsEntryOf acts a → IsEntryOf acts b → IsEntryOf acts c → AreEntries acts (a ∷ b ∷ c ∷ [])
are_three acts a b c p q r = All-cons (IsEntryOf acts) a (b ∷ c ∷ []) p (are_two acts b c q r)

are_four : (acts : ℕ) (a b c d : Entry) → IsEntryOf acts a → IsEntryOf acts b → IsEntryOf acts c → IsEntryOf acts d →
    AreEntries acts (a ∷ b ∷ c ∷ d ∷ [])
are_four acts a b c d p q r s = All-cons (IsEntryOf acts) a (b ∷ c ∷ d ∷ []) p (are_three acts b c d q r s)

leaves_again : (acts number : ℕ) (e : Entry) (by : Again) → IsAgainOf acts by → IfSome (sent_by number e by) (Leaves acts 5)
leaves_again acts number e again.Never _ = tt
leaves_again acts number e (again.Act a) h = record {
  entries =
      are_two acts (act_of (own number 1) a e.moves_with) (delivery_of e.name (own number 1))
      (is_act acts (own number 1) a e.moves_with h) (is_delivery acts e.name (own number 1));
  few = omega arith;
}
leaves_again acts number e (again.Answer a) h = record {
  entries =
      are_three acts (act_of (own number 1) a e.moves_with) (delivery_of (own number 2) (own number 1))
      (delivery_of e.name (own number 2)) (is_act acts (own number 1) a e.moves_with h)
      (is_delivery acts (own number 2) (own number 1)) (is_delivery acts e.name (own number 2));
  few = omega arith;
}
leaves_again acts number e (again.Anew a b) h = record {
  entries =
      are_four acts (act_of (own number 1) a e.moves_with) (delivery_of (own number 2) (own number 1))
      (act_of (own number 3) b (Some (own number 2))) (delivery_of e.name (own number 3))
      (is_act acts (own number 1) a e.moves_with h.0) (is_delivery acts (own number 2) (own number 1))
      (is_act acts (own number 3) b (Some (own number 2)) h.1) (is_delivery acts e.name (own number 3));
  few = omega arith;
}
leaves_again acts number e (again.AnewAnswer a b) h = record {
  entries =
      All-cons (IsEntryOf acts) (act_of (own number 1) a e.moves_with)
      (delivery_of (own number 2) (own number 1) ∷ act_of (own number 3) b (Some (own number 2))
      ∷ delivery_of (own number 4) (own number 3) ∷ delivery_of e.name (own number 4) ∷ [])
      (is_act acts (own number 1) a e.moves_with h.0)
      (are_four acts (delivery_of (own number 2) (own number 1)) (act_of (own number 3) b (Some (own number 2)))
      (delivery_of (own number 4) (own number 3)) (delivery_of e.name (own number 4))
      (is_delivery acts (own number 2) (own number 1)) (is_act acts (own number 3) b (Some (own number 2)) h.1)
      (is_delivery acts (own number 4) (own number 3)) (is_delivery acts e.name (own number 4)));
  few = omega arith;
}

leaves_new : (acts n : ℕ) (gone : List Entry) (to : ℕ) (o : Option (List Entry)) (xs : List Entry) → AreEntries acts xs →
    IfSome o (Leaves acts 5) → length xs + 5 ≤ n → IfSome (option_map (λ new. edited gone to new xs) o) (Leaves acts n)
leaves_new acts n gone to None xs all h few = tt
leaves_new acts n gone to (Some new) xs all h few =
    let those = h.few in leaves_edited acts n gone to new xs all h.entries (omega arith)

leaves_late : (acts n : ℕ) (b : Bool) (to : ℕ) (moved xs : List Entry) → AreEntries acts xs → AreEntries acts moved →
    length (kept_from moved [] (take (to + 1) xs)) + length moved ≤ length (take (to + 1) xs) → length xs ≤ n →
    IfSome (if_not b (edited moved to moved xs)) (Leaves acts n)
leaves_late acts n true to moved xs all those fit few = tt
leaves_late acts n false to moved xs all those fit few =
    let wide = leaves_edited acts (length moved + length xs) moved to moved xs all those (omega arith) in
    let both = length-append (kept_from moved [] (take (to + 1) xs)) moved in
    let last = length-kept moved (kept_from moved [] (take (to + 1) xs) ++ moved) (drop (to + 1) xs) in
    let cut = length-cut (to + 1) xs in
    record { entries = wide.entries; few = omega (arith, both, last, cut, fit, few) }

leaves_lost : (acts n to : ℕ) (xs span : List Entry) → AreEntries acts xs → length xs ≤ n → IfSome (lost to xs span) (Leaves acts n)
leaves_lost acts n to xs [] all few = tt
leaves_lost acts n to xs (e ∷ []) all few = leaves_edited acts n (e ∷ []) to [] xs all (All-nil (IsEntryOf acts)) (omega arith)
leaves_lost acts n to xs (e ∷ d ∷ es) all few = tt

leaves_twice : (acts n number to : ℕ) (xs span : List Entry) → AreEntries acts xs → AreEntries acts span → length xs + 1 ≤ n →
    IfSome (twice number to xs span) (Leaves acts n)
leaves_twice acts n number to xs [] all those few = tt
leaves_twice acts n number to xs (e ∷ es) all those few =
    let h = is_copy acts number e (All-head (IsEntryOf acts) e es those) in
    leaves_edited acts n [] to (copy_of number e ∷ []) xs all (are_one acts (copy_of number e) h) (omega arith)

leaves_repeated : (acts n number to : ℕ) (xs span : List Entry) → AreEntries acts xs → AreEntries acts span → length xs + 5 ≤ n →
    IfSome (repeated number to xs span) (Leaves acts n)
leaves_repeated acts n number to xs [] all those few = tt
leaves_repeated acts n number to xs (e ∷ []) all those few =
    let h = All-head (IsEntryOf acts) e [] those in
    leaves_new acts n (e ∷ []) to (sent_again number e) xs all (leaves_again acts number e e.again h.repeats) few
leaves_repeated acts n number to xs (e ∷ d ∷ es) all those few = tt

leaves_changed : (acts n number : ℕ) (k : Kind) (after to : ℕ) (xs span : List Entry) → AreEntries acts xs → AreEntries acts span →
    length (kept_from (movers span) [] (take (to + 1) xs)) + length (movers span) ≤ length (take (to + 1) xs) → length xs + 5 ≤ n →
    IfSome (changed number k after to xs span) (Leaves acts n)
leaves_changed acts n number kind.Lost after to xs span all those fit few = leaves_lost acts n to xs span all (omega arith)
leaves_changed acts n number kind.Late after to xs span all those fit few =
    leaves_late acts n (has after (movers span)) to (movers span) xs all
    (All-movers (IsEntryOf acts) [] span (All-nil (IsEntryOf acts)) those) fit (omega arith)
leaves_changed acts n number kind.Twice after to xs span all those fit few =
    leaves_twice acts n number to xs span all those (omega arith)
leaves_changed acts n number kind.Again after to xs span all those fit few =
    leaves_repeated acts n number to xs span all those (omega arith)

leaves_behind : (acts n number : ℕ) (f : Fault) (b : Bool) (at to : ℕ) (xs : List Entry) → AreEntries acts xs → length xs + 5 ≤ n →
    IfSome (if b then None else changed number f.kind f.after to xs (slice_range xs at (to + 1))) (Leaves acts n)
leaves_behind acts n number f true at to xs all few = tt
leaves_behind acts n number f false at to xs all few =
    leaves_changed acts n number f.kind f.after to xs (slice_range xs at (to + 1)) all
    (All-take (IsEntryOf acts) (to + 1 - at) (drop at xs) (All-drop (IsEntryOf acts) at xs all)) (room (to + 1 - at) at (to + 1) xs refl) few

leaves_put_at : (acts n number : ℕ) (f : Fault) (xs : List Entry) (at to : Option ℕ) → AreEntries acts xs → length xs + 5 ≤ n →
    IfSome (put_at number f xs at to) (Leaves acts n)
leaves_put_at acts n number f xs None to all few = tt
leaves_put_at acts n number f xs (Some at) None all few = tt
leaves_put_at acts n number f xs (Some at) (Some to) all few = leaves_behind acts n number f (nat_lt to at) at to xs all few

leaves_put : (acts n number : ℕ) (f : Fault) (xs : List Entry) → AreEntries acts xs → length xs + 5 ≤ n →
    IfSome (put number f xs) (Leaves acts n)
leaves_put acts n number f xs all few =
    leaves_put_at acts n number f xs (position (is_named f.message) xs) (position (is_named f.after) xs) all few

-- FAULTS TOGETHER

leaves_rest : (acts n m number : ℕ) (fs : List Fault) (o : Option (List Entry)) → IfSome o (Leaves acts m) →
    ((list : List Entry) → Leaves acts m list → IfSome (put_all number fs list) (Leaves acts n)) →
    IfSome (option_and_then (put_all number fs) o) (Leaves acts n)
leaves_rest acts n m number fs None h next = tt
leaves_rest acts n m number fs (Some list) h next = next list h

leaves_all : (acts m number : ℕ) (fs : List Fault) (xs : List Entry) → AreEntries acts xs → length xs ≤ m →
    IfSome (put_all number fs xs) (Leaves acts (at_most fs m))
unfolding put_all
leaves_all acts m number [] xs all few = record { entries = all; few = few }
leaves_all acts m number (f ∷ fs) xs all few =
    leaves_rest acts (at_most fs (m + 5)) (m + 5) (number + 1) fs (put number f xs)
    (leaves_put acts (m + 5) number f xs all (omega arith))
    (λ list h. leaves_all acts (m + 5) (number + 1) fs list h.entries h.few)

leaves_checked : (acts n : ℕ) (b : Bool) (list : List Entry) → Leaves acts n list → IfSome (if_not (not b) list) (Leaves acts n)
leaves_checked acts n true list h = h
leaves_checked acts n false list h = tt

leaves_ordered : (acts n : ℕ) (o : Option (List Entry)) → IfSome o (Leaves acts n) → IfSome (option_and_then ordered o) (Leaves acts n)
leaves_ordered acts n None h = tt
leaves_ordered acts n (Some list) h = leaves_checked acts n (in_order list) list h

variant_leaves : (acts m : ℕ) (fs : List Fault) (xs : List Entry) → AreEntries acts xs → length xs ≤ m →
    IfSome (variant fs xs) (Leaves acts (at_most fs m))
variant_leaves acts m fs xs all few = leaves_ordered acts (at_most fs m) (put_all 0 fs xs) (leaves_all acts m 0 fs xs all few)

-- so few that they can run
more_at_most : (fs : List Fault) (n : ℕ) → at_most fs n ≡ n + 5 * length fs
more_at_most [] n = omega arith
more_at_most (f ∷ fs) n = let rest = more_at_most fs (n + 5) in omega (arith, rest)

few_at_most : (fs : List Fault) → length fs ≤ 8 → at_most fs most_steps ≤ most_items
few_at_most fs h = let all = more_at_most fs most_steps in omega (arith, all, h)

some_can_run : (acts n : ℕ) (o : Option (List Entry)) → n ≤ most_items → IfSome o (Leaves acts n) → IfSome o (CanRun acts)
some_can_run acts n None few h = tt
some_can_run acts n (Some list) few h = let long = h.few in record { entries = h.entries; few = omega arith }

pub variant_can_run : (acts : ℕ) (fs : List Fault) (xs : List Entry) → length fs ≤ 8 → AreEntries acts xs → length xs ≤ most_steps →
    IfSome (variant fs xs) (CanRun acts)
variant_can_run acts fs xs three all few =
    some_can_run acts (at_most fs most_steps) (variant fs xs) (few_at_most fs three) (variant_leaves acts most_steps fs xs all few)

-- what holds of the list that is answered
pub some_of : {T E : Type 0} (items : T → List Entry) (P : List Entry → Type 0) (r : Result (Option T) E) (o : Option (List Entry)) →
    IfOk r (λ new. option_map items new ≡ o) → IfSome o P → IfOk r (λ new. IfSome new (λ t. P (items t)))
some_of items P (Err e) o same h = tt
some_of items P (Ok None) o same h = tt
some_of items P (Ok (Some t)) o same h =
    let Q : Option (List Entry) → Type 0 = λ o. IfSome o P in subst Q (sym same) h
