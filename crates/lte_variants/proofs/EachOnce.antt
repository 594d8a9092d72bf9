-- No choice of faults is asked for twice.
use Rattle.std.proofs.Common.{◌≡◌, refl, sym, subst, ap, ◌∙◌, ℕ, ◌+◌, ◌<◌, nat_lt, Bool, true, false, ◌&&◌, if◌then◌else◌, ◌⊎◌, inl, inr, String, List, [], ◌∷◌, ◌++◌, map, length, Option, Some, None, Result, Ok, Err, IfOk, IfSome, arith, length-append}
use Rattle.std.specs.Prelude.{◌==◌, ◌%◌}
use Rattle.std.specs.{declared.alloc.Global.Global, List.filter, List.list_all, Option.option_and_then, Option.option_map, String.string_bytes}
use Rattle.std.proofs.lemmas.Bool.{ltb-true}
use Rattle.lte_events.specs.{declared.events.Event.Event, declared.setups.Setup.Setup}
use Rattle.scenario_file.specs.{Reading.reading_of, declared.faults.ScenarioFault.ScenarioFault}
use Rattle.text_lines.specs.Words.{number_of}
use Rattle.item_lines.specs.declared.lines.Told.{Told}
use Rattle.item_faults.specs.{Faults.faults_of, Once.Among, Once.Once, Once.names, declared.changes.Fault.Fault, declared.changes.Kind.Kind, declared.steps.Step.Step}
use Rattle.item_faults.specs.Steps.{counts, delivered, entries_of, entry_of, messages_from, messages_of, with_number}
use Rattle.item_faults.proofs.EachOnce.{either, faults_once}
use Rattle.item_outcomes.specs.Probe.{is_among}
use Rattle.item_steps.specs.Steps.{next_step, steps_from, steps_of}
use Rattle.fault_sets.specs.Sets.{sets_of}
use Rattle.fault_sets.proofs.Once.{once}
use Rattle.variant_runs.specs.{Judged.entries, Original.Original, Original.original_of, Original.own_lines}
use Rattle.lte_variants.specs.{Choices.share_from, Kinds.happening, Kinds.happens, Named.is_later, Named.most_named, Named.one_more, Named.those_named, Report.asked, Report.messages_asked, declared.request.Request.Request, declared.request.Share.Share}
use Rattle.lte_variants.specs.Once.{AsksOnce, ChoicesOnce}
use Rattle.lte_variants.specs.Request.{are_sets, fitting, is_of, is_packets, is_sent, kind_of, request_of, share_of, size_of, size_with, together_of, unlimited, with_kind_or_other, with_named, with_share, with_step_or_share, with_word, with_words, words_with}

-- A LIST OF WHICH SOME STAY

kept_in : {A : Type 0} (b : Bool) (x y : A) (ys : List A) → Among x (if b then y ∷ ys else ys) → Among x (y ∷ ys)
kept_in true x y ys h = h
kept_in false x y ys h = inr h

kept_once : {A : Type 0} (b : Bool) (y : A) (ys : List A) → (Among y ys → ⊥) → Once ys → Once (if b then y ∷ ys else ys)
kept_once true y ys new h = (new, h)
kept_once false y ys new h = h

behind : {A : Type 0} (x y : A) (some ys : List A) → (Among x some → Among x ys) → Among x (y ∷ some) → Among x (y ∷ ys)
behind x y some ys all (inl is) = inl is
behind x y some ys all (inr a) = inr (all a)

filter_in : {A : Type 0} (p : A → Bool) (x : A) (ys : List A) → Among x (filter p ys) → Among x ys
filter_in p x [] h = h
filter_in p x (y ∷ ys) h = behind x y (filter p ys) ys (filter_in p x ys) (kept_in (p y) x y (filter p ys) h)

filter_once : {A : Type 0} (p : A → Bool) (ys : List A) → Once ys → Once (filter p ys)
filter_once p [] h = tt
filter_once p (y ∷ ys) h = kept_once (p y) y (filter p ys) (λ a. h.0 (filter_in p y ys a)) (filter_once p ys h.1)

share_in : {A : Type 0} (s : Share) (place : ℕ) (x : A) (ys : List A) → Among x (share_from s place ys) → Among x ys
unfolding share_from
share_in s place x [] h = h
share_in s place x (y ∷ ys) h =
    behind x y (share_from s (place + 1) ys) ys (share_in s (place + 1) x ys)
    (kept_in (place % s.parts + 1 == s.number) x y (share_from s (place + 1) ys) h)

share_once : {A : Type 0} (s : Share) (place : ℕ) (ys : List A) → Once ys → Once (share_from s place ys)
unfolding share_from
share_once s place [] h = tt
share_once s place (y ∷ ys) h =
    kept_once (place % s.parts + 1 == s.number) y (share_from s (place + 1) ys) (λ a. h.0 (share_in s (place + 1) y ys a))
    (share_once s (place + 1) ys h.1)

-- A LIST THAT GROWS

Once-push : {A : Type 0} (x : A) (xs : List A) → Once xs → (Among x xs → ⊥) → Once (xs ++ x ∷ [])
Once-push x [] h new = (λ a. a, tt)
Once-push x (y ∷ xs) h new = (λ a. from (either y xs (x ∷ []) a), Once-push x xs h.1 (λ a. new (inr a))) where
  from : Among y xs ⊎ Among y (x ∷ []) → ⊥
  from (inl a) = h.0 a
  from (inr (inl is)) = new (inl (sym is))
  from (inr (inr none)) = none

pushed : {A : Type 0} (x y : A) (xs : List A) → Among x (xs ++ y ∷ []) → Among x xs ⊎ (x ≡ y)
pushed x y xs a = by (either x xs (y ∷ []) a) where
  by : Among x xs ⊎ Among x (y ∷ []) → Among x xs ⊎ (x ≡ y)
  by (inl h) = inl h
  by (inr (inl is)) = inr is
  by (inr (inr none)) = absurd none

-- STEPS: each has a number of its own, and so has each item

abbrev numbers : List Step → List ℕ
numbers steps = map (λ s. s.number) steps

numbers-push : (steps : List Step) (s : Step) → numbers (steps ++ s ∷ []) ≡ numbers steps ++ s.number ∷ []
numbers-push [] s = refl
numbers-push (t ∷ steps) s = λ j. t.number ∷ numbers-push steps s j

numbered : (steps : List Step) (before : List Told) (events : List Event) (told : List Told) → Once (numbers steps)
    → ((n : ℕ) → Among n (numbers steps) → n < length steps)
    → Once (numbers (steps_from steps before events told))
unfolding steps_from
numbered steps before [] told h low = h
numbered steps before (e ∷ es) [] h low = h
numbered steps before (e ∷ es) (t ∷ ts) h low = numbered (steps ++ next ∷ []) (before ++ t ∷ []) es ts more lower where
  next : Step
  next = next_step steps before e t

  more : Once (numbers (steps ++ next ∷ []))
  more =
      subst Once (sym (numbers-push steps next))
      (Once-push (length steps) (numbers steps) h (λ a. let less = low (length steps) a in absurd (omega (arith, less))))

  by : (n : ℕ) → Among n (numbers steps) ⊎ (n ≡ length steps) → n < length (steps ++ next ∷ [])
  by n (inl a) = let less = low n a in let long = length-append steps (next ∷ []) in omega (arith, less, long)
  by n (inr is) = let long = length-append steps (next ∷ []) in omega (arith, is, long)

  lower : (n : ℕ) → Among n (numbers (steps ++ next ∷ [])) → n < length (steps ++ next ∷ [])
  lower n a = by n (pushed n (length steps) (numbers steps) (subst (λ l. Among n l) (numbers-push steps next) a))

steps_once : (events : List Event) (told : List Told) → Once (numbers (steps_of events told))
steps_once events told = numbered [] [] events told tt (λ n a. absurd a)

names_are : (acts : ℕ) (all steps : List Step) → names (map (entry_of acts all) steps) ≡ numbers steps
names_are acts all [] = refl
names_are acts all (s ∷ steps) = λ j. s.number ∷ names_are acts all steps j

-- MESSAGES

with_in : (b : Bool) (n m : ℕ) (found : List ℕ) → Among m (with_number b n found) → Among m found ⊎ (m ≡ n)
with_in true n m found a = pushed m n found a
with_in false n m found a = inl a

with_once : (b : Bool) (n : ℕ) (found : List ℕ) → Once found → (Among n found → ⊥) → Once (with_number b n found)
with_once true n found h new = Once-push n found h new
with_once false n found h new = h

found_once : (packets : Bool) (all : List Step) (found : List ℕ) (ss : List Step) → Once found → Once (numbers ss)
    → ((n : ℕ) → Among n found → Among n (numbers ss) → ⊥)
    → Once (messages_from packets all found ss)
unfolding messages_from
found_once packets all found [] h own apart = h
found_once packets all found (s ∷ ss) h own apart =
    found_once packets all (with_number b s.number found) ss (with_once b s.number found h (λ a. apart s.number a (inl refl))) own.1
    (λ n a later. from n (with_in b s.number n found a) later)
  where
    b : Bool
    b = counts packets (delivered all s.does)

    from : (n : ℕ) → Among n found ⊎ (n ≡ s.number) → Among n (numbers ss) → ⊥
    from n (inl a) later = apart n a (inr later)
    from n (inr is) later = own.0 (subst (λ k. Among k (numbers ss)) is later)

messages_once : (packets : Bool) (steps : List Step) → Once (numbers steps) → Once (messages_of packets steps)
messages_once packets steps h = found_once packets steps [] steps tt h (λ n none later. none)

-- MESSAGES THAT ARE NAMED: each is later than those before

abbrev NamedOnce : Option (List ℕ) → Type 0
NamedOnce None = Unit {0}
NamedOnce (Some named) = Once named

abbrev NamesOnce : Option Request → Type 0
NamesOnce None = Unit {0}
NamesOnce (Some r) = NamedOnce r.named

both_left : (a b : Bool) → (a && b) ≡ true → a ≡ true
both_left true b h = refl
both_left false b h = absurd cc

both_right : (a b : Bool) → (a && b) ≡ true → b ≡ true
both_right true b h = h
both_right false b h = absurd cc

later_new : (step : ℕ) (named : List ℕ) → is_later step named ≡ true → Among step named → ⊥
later_new step [] h a = a
later_new step (n ∷ named) h (inl is) = let less = ltb-true n step (both_left _ _ h) in absurd (omega (arith, less, is))
later_new step (n ∷ named) h (inr a) = later_new step named (both_right _ _ h) a

more_once : (b : Bool) (step : ℕ) (named : List ℕ) → (b ≡ true → is_later step named ≡ true) → Once named
    → NamedOnce (if b then Some (named ++ step ∷ []) else None)
more_once false step named later h = tt
more_once true step named later h = Once-push step named h (later_new step named (later refl))

step_more : (step : ℕ) (o : Option (List ℕ)) → NamedOnce o → NamedOnce (option_and_then (one_more step) o)
step_more step None h = tt
step_more step (Some named) h =
    more_once (nat_lt (length named) most_named && is_later step named) step named (both_right (nat_lt (length named) most_named) _) h

named_once : (r : Request) (o : Option (List ℕ)) → NamedOnce o → NamesOnce (with_named r o)
named_once r None h = tt
named_once r (Some named) h = h

shared_once : (r : Request) (s : Option Share) → NamedOnce r.named → NamesOnce (with_share r s)
shared_once r None h = tt
shared_once r (Some s) h = h

step_once : (word : List ℕ) (r : Request) (o : Option ℕ) → NamedOnce r.named → NamesOnce (with_step_or_share word r o)
step_once word r None h = shared_once r (share_of word) h
step_once word r (Some step) h = named_once r (option_and_then (one_more step) r.named) (step_more step r.named h)

kind_once : (word : List ℕ) (r : Request) (o : Option Kind) → NamedOnce r.named → NamesOnce (with_kind_or_other word r o)
kind_once word r None h = step_once word r (number_of word) h
kind_once word r (Some kind) h = h

either_once : (b : Bool) (o p : Option Request) → NamesOnce o → NamesOnce p → NamesOnce (if b then o else p)
either_once true o p h g = h
either_once false o p h g = g

word_once : (word : List ℕ) (r : Request) → NamedOnce r.named → NamesOnce (with_word word r)
word_once word r h =
    either_once (is_packets word) (Some (record r { packets = true })) _ h
    (either_once (is_sent word) (Some (record r { sent = true })) _ h
    (either_once (is_of word) (Some (record r { named = Some [] })) _ tt (kind_once word r (kind_of word) h)))

words_once : (words : List (String Global)) (o : Option Request) → NamesOnce o → NamesOnce (with_words words o)
unfolding with_words
words_once words None h = tt
words_once [] (Some r) h = h
words_once (word ∷ words) (Some r) h = words_once words (with_word (string_bytes word) r) (word_once (string_bytes word) r h)

unlimited_once : (o : Option ℕ) → NamesOnce (option_map unlimited o)
unlimited_once None = tt
unlimited_once (Some faults) = tt

size_once : (words : List (String Global)) → NamesOnce (size_with words)
size_once [] = tt
size_once (word ∷ words) = words_once words (option_map unlimited (size_of (string_bytes word))) (unlimited_once (size_of (string_bytes word)))

fitting_once : (o : Option Request) → NamesOnce o → NamesOnce (option_and_then fitting o)
fitting_once None h = tt
fitting_once (Some r) h = either_once _ None (Some r) tt h

request_once : (words : List (String Global)) → NamesOnce (request_of words)
request_once [] = tt
request_once (word ∷ words) =
    fitting_once (words_with (string_bytes word) words)
    (either_once (are_sets (string_bytes word)) (size_with words) _ (size_once words)
    (words_once words (option_map unlimited (together_of (string_bytes word))) (unlimited_once (together_of (string_bytes word)))))

those_once : (o : Option (List ℕ)) (messages : List ℕ) → NamedOnce o → Once messages → Once (those_named o messages)
those_once None messages h all = all
those_once (Some named) messages h all = filter_once (is_among messages) named h

-- CHOICES

asks_once : (r : Request) (o : Original) → NamedOnce r.named → Once (numbers o.steps) → AsksOnce r o
asks_once r o named own = record {
  choices =
      let messages = messages_asked r o.steps in
      let all = faults_of (entries o) messages in
      let items : Once (names (entries o)) = subst Once (sym (names_are (length o.steps) o.steps o.steps)) own in
      let each = faults_once (entries o) messages items (those_once r.named (messages_of r.packets o.steps) named (messages_once r.packets o.steps own)) in
      share_once r.share 0 (sets_of r.faults (happening r.kinds all)) (once r.faults (happening r.kinds all) (filter_once (happens r.kinds) all each));
}

of_original : (r : Request) (setup : Setup) (events : List Event) → NamedOnce r.named → AsksOnce r (original_of setup events)
of_original r setup events named = asks_once r (original_of setup events) named (steps_once events (own_lines setup events))

of_reading : (r : Request) (x : Result (Setup × List Event) ScenarioFault) → NamedOnce r.named
    → IfOk x (λ s. AsksOnce r (original_of s.0 s.1))
of_reading r (Err fault) named = tt
of_reading r (Ok s) named = of_original r s.0 s.1 named

of_left : (r : Request) (left : Option (List ℕ)) → NamedOnce r.named → IfSome left (ChoicesOnce r)
of_left r None named = tt
of_left r (Some octets) named = of_reading r (reading_of octets) named

pub choices_once : (words : List (String Global)) (left : Option (List ℕ)) (r : Request) → request_of words ≡ Some r → IfSome left (ChoicesOnce r)
choices_once words left r is = of_left r left (subst NamesOnce is (request_once words))
