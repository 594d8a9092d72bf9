-- The items at which keys part are those at which the phone takes a key eight or more steps ahead.
use Rattle.std.proofs.Common.{◌≡◌, refl, sym, ap, ◌∙◌, ℕ, zero, suc, ◌==◌, ◌||◌, ◌⊎◌, inl, inr, Bool, true, false, not, List, [], ◌∷◌, ◌++◌, take, Option, Some, None}
use Rattle.std.specs.{Prelude.◌&&◌, Prelude.slice_get, List.list_any}
use Rattle.std.proofs.lemmas.Bool.{eq-eqb, eqb-true}
use Rattle.std.proofs.lemmas.List.{append-nil, append_assoc, Folds.list_any-append}
use Rattle.lte_events.specs.declared.replies.KeyNote.{KeyNote}
use Rattle.item_lines.specs.{Lines.line_of, Lines.parts, Lines.phone_note, declared.lines.Told.Told}
use Rattle.item_outcomes.specs.{Keys.is_made, Keys.is_told, Keys.with_if, Keys.parted_from, Keys.parted, Keys.is_new, Keys.keys_differ, Probe.is_among}
use Rattle.item_runs.specs.Course.{Seen, Promises}
use Rattle.item_keys.specs.{Far.ExactlyFar, Items.FarAt, Items.PartsFar, Items.FarHere, Items.DifferFar, Items.MadeAt, Items.TakesOne}
use Rattle.item_keys.proofs.{Exact.else_made, Exact.exactly_far, Places.found_at}

-- TESTS

second : (a b : Bool) → b ≡ true → (a || b) ≡ true
second true b e = refl
second false b e = e

not_so : (b : Bool) → not b ≡ true → b ≡ false
not_so true e = absurd cc
not_so false e = refl

so_not : (b : Bool) → (b ≡ true → ⊥) → not b ≡ true
so_not true f = absurd (f refl)
so_not false f = refl

among_one : (a b : Bool) → (a || (b || false)) ≡ true → (a ≡ true) ⊎ (b ≡ true)
among_one true b e = inl refl
among_one false true e = inr refl
among_one false false e = absurd cc

-- NAMES AMONG OTHERS

pub some_among : (q : ℕ → Bool) (xs : List ℕ) → list_any q xs ≡ true → (n : ℕ) × (is_among xs n ≡ true) × (q n ≡ true)
some_among q [] e = absurd cc
some_among q (x ∷ xs) e = by (q x) refl e (some_among q xs)
  where
    by : (b : Bool) → q x ≡ b → (b || list_any q xs) ≡ true
        → (list_any q xs ≡ true → (n : ℕ) × (is_among xs n ≡ true) × (q n ≡ true))
        → (n : ℕ) × (is_among (x ∷ xs) n ≡ true) × (q n ≡ true)
    by true p f later = (x, ap (λ b. b || is_among xs x) (eq-eqb x x refl), p)
    by false p f later = let rest = later f in (rest.0, second (x == rest.0) (is_among xs rest.0) rest.1, rest.2)

pub any_among : (q : ℕ → Bool) (xs : List ℕ) (n : ℕ) → is_among xs n ≡ true → q n ≡ true → list_any q xs ≡ true
any_among q [] n e p = absurd cc
any_among q (x ∷ xs) n e p = by (x == n) refl e (λ f. any_among q xs n f p)
  where
    by : (b : Bool) → (x == n) ≡ b → (b || is_among xs n) ≡ true → (is_among xs n ≡ true → list_any q xs ≡ true) → list_any q (x ∷ xs) ≡ true
    by true same f later = ap (λ b. b || list_any q xs) (ap q (eqb-true x n same) ∙ p)
    by false other f later = second (q x) (list_any q xs) (later f)

-- THE ITEMS AT WHICH KEYS PART

-- behind these lines one of this name does so
abbrev Somewhere : List Told → List Told → ℕ → Type 0
Somewhere before ts name = (k : ℕ) × (t : Told) × (slice_get ts k ≡ Some t) × (t.name ≡ name) × (parts (before ++ take k ts) t ≡ true)

abbrev Among : List Told → List Told → List ℕ → ℕ → Type 0
Among before ts found name = (is_among found name ≡ true) ⊎ Somewhere before ts name

found_so : (b : Bool) (found : List ℕ) (one name : ℕ) → is_among (with_if b one found) name ≡ true
    → (is_among found name ≡ true) ⊎ ((b ≡ true) × (one ≡ name))
found_so false found one name e = inl e
found_so true found one name e =
    by (among_one (is_among found name) (one == name) (sym (list_any-append (λ n. n == name) found (one ∷ [])) ∙ e))
  where
    by : (is_among found name ≡ true) ⊎ ((one == name) ≡ true) → (is_among found name ≡ true) ⊎ ((true ≡ true) × (one ≡ name))
    by (inl h) = inl h
    by (inr h) = inr (refl, eqb-true one name h)

so_found : (b : Bool) (found : List ℕ) (one name : ℕ) → is_among found name ≡ true → is_among (with_if b one found) name ≡ true
so_found false found one name e = e
so_found true found one name e = list_any-append (λ n. n == name) found (one ∷ []) ∙ ap (λ b. b || is_among (one ∷ []) name) e

one_found : (b : Bool) (found : List ℕ) (one name : ℕ) → b ≡ true → one ≡ name → is_among (with_if b one found) name ≡ true
one_found false found one name e same = absurd cc
one_found true found one name e same =
    list_any-append (λ n. n == name) found (one ∷ []) ∙ ap (λ b. is_among found name || (b || false)) (eq-eqb one name same)
    ∙ second (is_among found name) true refl

among : (before ts : List Told) (found : List ℕ) (name : ℕ) → is_among (parted_from before ts found) name ≡ true → Among before ts found name
unfolding parted_from
among before [] found name e = inl e
among before (t ∷ ts) found name e =
    by (among (before ++ t ∷ []) ts (with_if (parts before t) t.name found) name e)
  where
    here : (is_among found name ≡ true) ⊎ ((parts before t ≡ true) × (t.name ≡ name)) → Among before (t ∷ ts) found name
    here (inl h) = inl h
    here (inr h) = inr (0, t, refl, h.1, ap (λ xs. parts xs t) (append-nil before) ∙ h.0)

    by : Among (before ++ t ∷ []) ts (with_if (parts before t) t.name found) name → Among before (t ∷ ts) found name
    by (inl h) = here (found_so (parts before t) found t.name name h)
    by (inr s) = inr (suc s.0, s.1, s.2, s.3, ap (λ xs. parts xs s.1) (sym (append_assoc before (t ∷ []) (take s.0 ts))) ∙ s.4)

is_there : (before ts : List Told) (found : List ℕ) (name : ℕ) → Among before ts found name → is_among (parted_from before ts found) name ≡ true
unfolding parted_from
is_there before [] found name (inl e) = e
is_there before [] found name (inr s) = let none = s.2 in absurd cc
is_there before (t ∷ ts) found name a = is_there (before ++ t ∷ []) ts (with_if (parts before t) t.name found) name (next a)
  where
    at : (k : ℕ) (u : Told) → slice_get (t ∷ ts) k ≡ Some u → u.name ≡ name → parts (before ++ take k (t ∷ ts)) u ≡ true
        → Among (before ++ t ∷ []) ts (with_if (parts before t) t.name found) name
    at zero u stands named so =
        let same : t ≡ u = cc in
        inl (one_found (parts before t) found t.name name
        (ap (λ xs. parts xs t) (sym (append-nil before)) ∙ ap (λ x. parts (before ++ []) x) same ∙ so) (ap (λ (x : Told). x.name) same ∙ named))
    at (suc k) u stands named so =
        inr (k, u, stands, named, ap (λ xs. parts xs u) (append_assoc before (t ∷ []) (take k ts)) ∙ so)

    next : Among before (t ∷ ts) found name → Among (before ++ t ∷ []) ts (with_if (parts before t) t.name found) name
    next (inl e) = inl (so_found (parts before t) found t.name name e)
    next (inr s) = at s.0 s.1 s.2 s.3 s.4

-- OF A RUN

module _ (s : Seen) (exact : ExactlyFar s) where
  far_at : (name : ℕ) → is_among (parted s.coming.told) name ≡ true → FarAt s name
  far_at name e = by (among [] s.coming.told [] name e)
    where
      by : Among [] s.coming.told [] name → FarAt s name
      by (inl none) = absurd cc
      by (inr h) = record { place = h.0; line = h.1; stands = h.2; named = h.3; far = exact.only h.0 h.1 h.2 h.4 }

  parted_at : (name : ℕ) → FarAt s name → is_among (parted s.coming.told) name ≡ true
  parted_at name h =
      is_there [] s.coming.told [] name (inr (h.place, h.line, h.stands, h.named, exact.each h.place h.line h.stands h.far))

pub parts_far : (s : Seen) → Promises s → PartsFar s
parts_far s p = λ name. (far_at s (exactly_far s p) name, parted_at s (exactly_far s p) name)

-- WHERE KEYS DO NOT PART the phone takes what was made

both_so : (a b : Bool) → (a && b) ≡ true → (a ≡ true) × (b ≡ true)
both_so true b e = (refl, e)
both_so false b e = absurd cc

some_note : (o : Option KeyNote) → is_told o ≡ true → (n : KeyNote) × (o ≡ Some n)
some_note None e = absurd cc
some_note (Some n) e = (n, refl)

not_parted : (b : Bool) → (b ≡ true → ⊥) → b ≡ false
not_parted true f = absurd (f refl)
not_parted false f = refl

made_at : (s : Seen) (p : Promises s) (name : ℕ) (o : Option Told) → line_of name s.coming.told ≡ o → is_made o ≡ true
    → is_among (parted s.coming.told) name ≡ false
    → MadeAt s name
made_at s p name None is e none = absurd cc
made_at s p name (Some t) is e none =
    let at = found_at (λ (u : Told). u.name == name) s.coming.told t is in
    let named : t.name ≡ name = eqb-true t.name name at.2 in
    let note = some_note (phone_note t) e in
    let one = not_parted (parts (take at.0 s.coming.told) t)
    (λ so. let far = parted_at s (exactly_far s p) name
    (record { place = at.0; line = t; stands = at.1; named = named; far = (exactly_far s p).only at.0 t at.1 so }) in
    let bad : true ≡ false = sym far ∙ none in cc) in
    record { place = at.0; line = t; stands = at.1; named = named; made = else_made s p at.0 t note.0 at.1 note.1 one }

pub takes_made : (s : Seen) → Promises s → TakesOne s
takes_made s p = λ name e.
    let both = both_so (is_made (line_of name s.coming.told)) (not (is_among (parted s.coming.told) name)) e in
    made_at s p name (line_of name s.coming.told) refl both.0 (not_so (is_among (parted s.coming.told) name) both.1)

-- OF TWO RUNS

pub differ_far : (usual here : Seen) → PartsFar usual → PartsFar here → DifferFar usual here
differ_far usual here u h = (told, tells)
  where
    told : keys_differ usual.coming.told here.coming.told ≡ true → FarHere usual here
    told e =
        let n = some_among (is_new (parted usual.coming.told)) (parted here.coming.told) e in
        record {
          name = n.0;
          far = (h n.0).0 n.1;
          near = λ far. let none = not_so (is_among (parted usual.coming.told) n.0) n.2 in let is = (u n.0).1 far in let bad : true ≡ false = sym is ∙ none in cc;
        }

    tells : FarHere usual here → keys_differ usual.coming.told here.coming.told ≡ true
    tells f =
        any_among (is_new (parted usual.coming.told)) (parted here.coming.told) f.name ((h f.name).1 f.far)
        (so_not (is_among (parted usual.coming.told) f.name) (λ e. f.near ((u f.name).0 e)))
