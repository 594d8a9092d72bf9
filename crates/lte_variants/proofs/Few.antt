-- There are fewer choices of faults than 2 ^ 128.
use Rattle.std.proofs.Common.{ℕ, zero, suc, inl, inr, ◌+◌, ◌*◌, ◌^◌, ◌<◌, ◌≤◌, ◌==◌, Bool, true, false, if◌then◌else◌, List, [], ◌∷◌, length, map, arith, length-append}
use Rattle.std.specs.Prelude.{◌%◌}
use Rattle.std.proofs.lemmas.List.{length-map}
use Rattle.item_faults.specs.{Entries.most_steps, declared.changes.Fault.Fault, declared.changes.Kind.Kind, declared.entries.Entry.Entry, declared.steps.Step.Step}
use Rattle.item_faults.specs.Faults.{at_places, fault_at, faults_of, is_fault, of_kind, of_message, of_messages, with_fault}
use Rattle.fault_sets.specs.Sets.{sets_of}
use Rattle.item_faults.specs.Steps.{counts, delivered, entry_of, messages_from, messages_of, with_number}
use Rattle.item_faults.specs.declared.changes.Kind.TheVariants as kind
use Rattle.variant_runs.specs.{Judged.entries, Original.Original}
use Rattle.lte_variants.specs.{Choices.share_from, Kinds.happening, Kinds.happens, Report.asked, Sizes.FewEnough, declared.kinds.Kinds.Kinds, declared.request.Request.Request, declared.request.Share.Share}

-- MESSAGES: no more than steps

number-few : (b : Bool) (number : ℕ) (found : List ℕ) → length (with_number b number found) ≤ length found + 1
number-few true number found = let one = length-append found (number ∷ []) in omega (arith, one)
number-few false number found = omega arith

found-few : (packets : Bool) (steps : List Step) (found : List ℕ) (ss : List Step)
    → length (messages_from packets steps found ss) ≤ length found + length ss
unfolding messages_from
found-few packets steps found [] = omega arith
found-few packets steps found (s ∷ ss) =
    let b = counts packets (delivered steps s.does) in
    let one = number-few b s.number found in
    let rest = found-few packets steps (with_number b s.number found) ss in
    omega (arith, one, rest)

pub messages-few : (packets : Bool) (steps : List Step) → length steps ≤ most_steps → length (messages_of packets steps) ≤ most_steps
messages-few packets steps few = let all = found-few packets steps [] steps in omega (arith, all, few)

-- FAULTS: of each message no more than four at each place

fault-few : (b : Bool) (f : Fault) (faults : List Fault) → length (with_fault b f faults) ≤ length faults + 1
fault-few true f faults = let one = length-append faults (f ∷ []) in omega (arith, one)
fault-few false f faults = omega arith

places-few : (all : List Entry) (k : Kind) (message : ℕ) (faults : List Fault) (es : List Entry)
    → length (at_places all k message faults es) ≤ length faults + length es
unfolding at_places
places-few all k message faults [] = omega arith
places-few all k message faults (e ∷ es) =
    let f = fault_at k message e.name in
    let one = fault-few (is_fault all f) f faults in
    let rest = places-few all k message (with_fault (is_fault all f) f faults) es in
    omega (arith, one, rest)

message-few : (all : List Entry) (message : ℕ) (faults : List Fault) → length (of_message all message faults) ≤ length faults + 4 * length all
message-few all message faults =
    let lost = of_kind all kind.Lost message faults in
    let late = of_kind all kind.Late message lost in
    let twice = of_kind all kind.Twice message late in
    let a = places-few all kind.Lost message faults all in
    let b = places-few all kind.Late message lost all in
    let c = places-few all kind.Twice message late all in
    let d = places-few all kind.Again message twice all in
    omega (arith, a, b, c, d)

each-few : (all : List Entry) (faults : List Fault) (ms : List ℕ) → length all ≤ 2000
    → length (of_messages all faults ms) ≤ length faults + length ms * 8000
unfolding of_messages
each-few all faults [] few = omega arith
each-few all faults (m ∷ ms) few =
    let one = message-few all m faults in
    let rest = each-few all (of_message all m faults) ms few in
    omega (arith, one, rest, few)

-- by the number of messages
faults-few : (all : List Entry) (ms : List ℕ) (n : ℕ) → length all ≤ 2000 → length ms ≤ n → length (faults_of all ms) ≤ n * 8000
faults-few all ms n few fewer = let each = each-few all [] ms few in omega (arith, each, fewer)

-- CHOICES: of each fault more so many times as many

more-few : (n k c : ℕ) → ((gs : List Fault) → length gs ≤ n → length (sets_of k gs) ≤ c) → (fs : List Fault) → length fs ≤ n
    → length (sets_of (suc k) fs) ≤ length fs * c
unfolding sets_of
more-few n k c each [] few = omega arith
more-few n k c each (f ∷ fs) few =
    let less : length fs ≤ n = omega (arith, few) in
    let one = length-map (sets_of k fs) (λ s. f ∷ s) in
    let both = length-append (map (λ s. f ∷ s) (sets_of k fs)) (sets_of (suc k) fs) in
    let first = each fs less in
    let rest = more-few n k c each fs less in
    omega (arith, one, both, first, rest)

most : ℕ → ℕ → ℕ
most n zero = 1
most n (suc k) = n * most n k

times-few : (n m c : ℕ) → n ≤ m → n * c ≤ m * c
times-few zero m c h = omega arith
times-few (suc n) zero c h = absurd (omega (arith, h))
times-few (suc n) (suc m) c h = let rest = times-few n m c (omega (arith, h)) in omega (arith, rest)

sets-few : (n k : ℕ) (fs : List Fault) → length fs ≤ n → length (sets_of k fs) ≤ most n k
unfolding sets_of most
sets-few n zero fs few = omega arith
sets-few n (suc k) fs few =
    let one = more-few n k (most n k) (sets-few n k) fs few in
    let all = times-few (length fs) n (most n k) few in
    omega (arith, one, all)

-- up to five of 16,000,000 faults, and up to eight of 64,000
most-wide : (k : ℕ) → k ≤ 5 → most 16000000 k < 2 ^ 128
unfolding most
most-wide zero h = omega arith
most-wide (suc zero) h = omega arith
most-wide (suc (suc zero)) h = omega arith
most-wide (suc (suc (suc zero))) h = omega arith
most-wide (suc (suc (suc (suc zero)))) h = omega arith
most-wide (suc (suc (suc (suc (suc zero))))) h = omega arith
most-wide (suc (suc (suc (suc (suc (suc k)))))) h = absurd (omega (arith, h))

most-named : (k : ℕ) → k ≤ 8 → most 64000 k < 2 ^ 128
unfolding most
most-named zero h = omega arith
most-named (suc zero) h = omega arith
most-named (suc (suc zero)) h = omega arith
most-named (suc (suc (suc zero))) h = omega arith
most-named (suc (suc (suc (suc zero)))) h = omega arith
most-named (suc (suc (suc (suc (suc zero))))) h = omega arith
most-named (suc (suc (suc (suc (suc (suc zero)))))) h = omega arith
most-named (suc (suc (suc (suc (suc (suc (suc zero))))))) h = omega arith
most-named (suc (suc (suc (suc (suc (suc (suc (suc zero)))))))) h = omega arith
most-named (suc (suc (suc (suc (suc (suc (suc (suc (suc k))))))))) h = absurd (omega (arith, h))

choices-few : (k n : ℕ) (all : List Fault) (fs : List Fault) → FewEnough k n → length all ≤ n * 8000 → length fs ≤ length all
    → length (sets_of k fs) < 2 ^ 128
choices-few k n all fs (inl wide) few kept =
    let m = wide.1 in
    let some = sets-few 16000000 k fs (omega (arith, m, few, kept)) in
    let most = most-wide k wide.0 in
    omega (arith, some, most)
choices-few k n all fs (inr named) few kept =
    let m = named.1 in
    let some = sets-few 64000 k fs (omega (arith, m, few, kept)) in
    let most = most-named k named.0 in
    omega (arith, some, most)

-- A SHARE OF THEM

taken-few : {A : Type 0} (b : Bool) (x : A) (xs : List A) (n : ℕ) → length xs ≤ n → length (if b then x ∷ xs else xs) ≤ suc n
taken-few true x xs n few = omega (arith, few)
taken-few false x xs n few = omega (arith, few)

share-few : {A : Type 0} (s : Share) (place : ℕ) (xs : List A) → length (share_from s place xs) ≤ length xs
unfolding share_from
share-few s place [] = omega arith
share-few s place (x ∷ xs) =
    taken-few (place % s.parts + 1 == s.number) x (share_from s (place + 1) xs) (length xs) (share-few s (place + 1) xs)

-- THOSE OF SOME KINDS

happening-few : (k : Kinds) (fs : List Fault) → length (happening k fs) ≤ length fs
happening-few k [] = omega arith
happening-few k (f ∷ fs) = taken-few (happens k f) f (happening k fs) (length fs) (happening-few k fs)

pub asked-few : (r : Request) (o : Original) (messages : List ℕ) → length o.steps ≤ most_steps → FewEnough r.faults (length messages)
    → length (asked r o messages) < 2 ^ 128
asked-few r o messages few fewer =
    let items = length-map o.steps (entry_of (length o.steps) o.steps) in
    let all = faults_of (entries o) messages in
    let faults : length all ≤ length messages * 8000 = faults-few (entries o) messages (length messages) (omega (arith, items, few)) (omega arith) in
    let kept = happening-few r.kinds all in
    let choices = choices-few r.faults (length messages) all (happening r.kinds all) fewer faults kept in
    let share = share-few r.share 0 (sets_of r.faults (happening r.kinds all)) in
    omega (arith, choices, share)
