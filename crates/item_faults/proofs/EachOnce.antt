-- No fault stands twice among all faults, where no name and no message does.
use Rattle.std.proofs.Common.{◌≡◌, refl, sym, subst, ap, ℕ, Bool, true, false, ◌⊎◌, inl, inr, List, [], ◌∷◌, ◌++◌}
use Rattle.item_faults.specs.{declared.changes.Fault.Fault, declared.changes.Kind.Kind, declared.entries.Entry.Entry}
use Rattle.item_faults.specs.declared.changes.Kind.TheVariants as kind
use Rattle.item_faults.specs.Faults.{at_places, fault_at, faults_of, is_fault, of_kind, of_message, of_messages, with_fault}
use Rattle.item_faults.specs.Once.{Among, Once, names}

-- A LIST THAT GROWS

pub either : {A : Type 0} (x : A) (xs ys : List A) → Among x (xs ++ ys) → Among x xs ⊎ Among x ys
either x [] ys h = inr h
either x (y ∷ xs) ys (inl is) = inl (inl is)
either x (y ∷ xs) ys (inr h) = by (either x xs ys h) where
  by : Among x xs ⊎ Among x ys → Among x (y ∷ xs) ⊎ Among x ys
  by (inl a) = inl (inr a)
  by (inr b) = inr b

Once-push : {A : Type 0} (x : A) (xs : List A) → Once xs → (Among x xs → ⊥) → Once (xs ++ x ∷ [])
Once-push x [] h new = (λ a. a, tt)
Once-push x (y ∷ xs) h new = (λ a. no (either y xs (x ∷ []) a), Once-push x xs h.1 (λ a. new (inr a))) where
  no : Among y xs ⊎ Among y (x ∷ []) → ⊥
  no (inl a) = h.0 a
  no (inr (inl is)) = new (inl (sym is))
  no (inr (inr none)) = none

with_in : (b : Bool) (g f : Fault) (faults : List Fault) → Among f (with_fault b g faults) → Among f faults ⊎ (f ≡ g)
with_in false g f faults a = inl a
with_in true g f faults a = by (either f faults (g ∷ []) a) where
  by : Among f faults ⊎ Among f (g ∷ []) → Among f faults ⊎ (f ≡ g)
  by (inl h) = inl h
  by (inr (inl is)) = inr is
  by (inr (inr none)) = absurd none

with_once : (b : Bool) (g : Fault) (faults : List Fault) → Once faults → (Among g faults → ⊥) → Once (with_fault b g faults)
with_once false g faults h new = h
with_once true g faults h new = Once-push g faults h new

-- OF ONE KIND

record Of (k : Kind) (m : ℕ) (ns : List ℕ) (f : Fault) : Type 0 where
  pub kind : f.kind ≡ k
  pub message : f.message ≡ m
  pub after : Among f.after ns

abbrev NoneOf : Kind → ℕ → List Fault → Type 0
NoneOf k m faults = (f : Fault) → Among f faults → f.kind ≡ k → f.message ≡ m → ⊥

places_in : (all : List Entry) (k : Kind) (m : ℕ) (faults : List Fault) (es : List Entry) (f : Fault) → Among f (at_places all k m faults es)
    → Among f faults ⊎ Of k m (names es) f
unfolding at_places
places_in all k m faults [] f a = inl a
places_in all k m faults (e ∷ es) f a = by (places_in all k m (with_fault is new faults) es f a) where
  new : Fault
  new = fault_at k m e.name

  is : Bool
  is = is_fault all new

  first : Among f faults ⊎ (f ≡ new) → Among f faults ⊎ Of k m (names (e ∷ es)) f
  first (inl h) = inl h
  first (inr same) = inr (record { kind = ap (λ g. g.kind) same; message = ap (λ g. g.message) same; after = inl (ap (λ g. g.after) same) })

  by : Among f (with_fault is new faults) ⊎ Of k m (names es) f → Among f faults ⊎ Of k m (names (e ∷ es)) f
  by (inl h) = first (with_in is new f faults h)
  by (inr h) = inr (record { kind = h.kind; message = h.message; after = inr h.after })

places_once : (all : List Entry) (k : Kind) (m : ℕ) (faults : List Fault) (es : List Entry) → Once faults → Once (names es)
    → ((f : Fault) → Among f faults → f.kind ≡ k → f.message ≡ m → Among f.after (names es) → ⊥)
    → Once (at_places all k m faults es)
unfolding at_places
places_once all k m faults [] h named apart = h
places_once all k m faults (e ∷ es) h named apart =
    places_once all k m (with_fault is new faults) es (with_once is new faults h (λ a. apart new a refl refl (inl refl))) named.1
    (λ f a kind message after. from f (with_in is new f faults a) kind message after)
  where
    new : Fault
    new = fault_at k m e.name

    is : Bool
    is = is_fault all new

    from : (f : Fault) → Among f faults ⊎ (f ≡ new) → f.kind ≡ k → f.message ≡ m → Among f.after (names es) → ⊥
    from f (inl a) kind message after = apart f a kind message (inr after)
    from f (inr same) kind message after = named.0 (subst (λ n. Among n (names es)) (ap (λ g. g.after) same) after)

kind_once : (all : List Entry) (k : Kind) (m : ℕ) (faults : List Fault) → Once faults → Once (names all) → NoneOf k m faults
    → Once (of_kind all k m faults)
kind_once all k m faults h named none = places_once all k m faults all h named (λ f a kind message after. none f a kind message)

-- faults of another kind
others : (all : List Entry) (k other : Kind) (m : ℕ) (faults : List Fault) → (other ≡ k → ⊥) → NoneOf k m faults
    → NoneOf k m (of_kind all other m faults)
others all k other m faults apart none f a kind message = by (places_in all other m faults all f a) where
  by : Among f faults ⊎ Of other m (names all) f → ⊥
  by (inl h) = none f h kind message
  by (inr h) = apart (subst (λ x. x ≡ k) h.kind kind)

-- OF A MESSAGE

kinds_once : (all : List Entry) (m : ℕ) (faults : List Fault) → Once faults → Once (names all) → ((k : Kind) → NoneOf k m faults)
    → Once (of_message all m faults)
kinds_once all m faults h named none =
    kind_once all kind.Again m twice
    (kind_once all kind.Twice m late
    (kind_once all kind.Late m lost (kind_once all kind.Lost m faults h named (none kind.Lost)) named
    (others all kind.Late kind.Lost m faults (λ same. cc) (none kind.Late)))
    named
    (others all kind.Twice kind.Late m lost (λ same. cc) (others all kind.Twice kind.Lost m faults (λ same. cc) (none kind.Twice))))
    named
    (others all kind.Again kind.Twice m late (λ same. cc)
    (others all kind.Again kind.Late m lost (λ same. cc) (others all kind.Again kind.Lost m faults (λ same. cc) (none kind.Again))))
  where
    lost : List Fault
    lost = of_kind all kind.Lost m faults

    late : List Fault
    late = of_kind all kind.Late m lost

    twice : List Fault
    twice = of_kind all kind.Twice m late

kind_in : (all : List Entry) (k : Kind) (m : ℕ) (faults before : List Fault) (f : Fault) → (Among f faults → Among f before ⊎ (f.message ≡ m))
    → Among f (of_kind all k m faults) → Among f before ⊎ (f.message ≡ m)
kind_in all k m faults before f h a = by (places_in all k m faults all f a) where
  by : Among f faults ⊎ Of k m (names all) f → Among f before ⊎ (f.message ≡ m)
  by (inl b) = h b
  by (inr is) = inr is.message

message_in : (all : List Entry) (m : ℕ) (faults : List Fault) (f : Fault) → Among f (of_message all m faults)
    → Among f faults ⊎ (f.message ≡ m)
message_in all m faults f a =
    kind_in all kind.Again m twice faults f
    (kind_in all kind.Twice m late faults f
    (kind_in all kind.Late m lost faults f (kind_in all kind.Lost m faults faults f (λ b. inl b)))) a
  where
    lost : List Fault
    lost = of_kind all kind.Lost m faults

    late : List Fault
    late = of_kind all kind.Late m lost

    twice : List Fault
    twice = of_kind all kind.Twice m late

-- OF ALL

all_once : (all : List Entry) (faults : List Fault) (ms : List ℕ) → Once faults → Once (names all) → Once ms
    → ((f : Fault) → Among f faults → Among f.message ms → ⊥)
    → Once (of_messages all faults ms)
unfolding of_messages
all_once all faults [] h named asked apart = h
all_once all faults (m ∷ ms) h named asked apart =
    all_once all (of_message all m faults) ms (kinds_once all m faults h named (λ k f a kind message. apart f a (inl message))) named asked.1
    (λ f a b. from f (message_in all m faults f a) b)
  where
    from : (f : Fault) → Among f faults ⊎ (f.message ≡ m) → Among f.message ms → ⊥
    from f (inl a) b = apart f a (inr b)
    from f (inr is) b = asked.0 (subst (λ n. Among n ms) is b)

pub faults_once : (all : List Entry) (ms : List ℕ) → Once (names all) → Once ms → Once (faults_of all ms)
faults_once all ms named asked = all_once all [] ms tt named asked (λ f none b. none)
