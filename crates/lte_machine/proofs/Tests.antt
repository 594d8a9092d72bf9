-- What the tests of a choice say.
use Rattle.std.proofs.Common.{◌≡◌, refl, ap, ℕ, ◌≤◌, ◌<◌, Bool, true, false, if◌then◌else◌, ◌==◌, ◌&&◌, nat_le, nat_lt, Option, Some, None, option_map, arith}
use Rattle.std.proofs.lemmas.Bool.Decides.{nat_tests}

-- by the two ends of a test
pub by_test : {A : Type 0} (P : A → Type 0) (b : Bool) (x y : A) → (b ≡ true → P x) → (b ≡ false → P y) → P (if b then x else y)
by_test P true x y f g = f refl
by_test P false x y f g = g refl

-- both tests of two hold where the test of both does
pub both_true : (a b : Bool) → (a && b) ≡ true → (a ≡ true) × (b ≡ true)
both_true true b e = (refl, e)
both_true false b e = absurd cc

-- what the tests on numbers say
pub above_of : (a b : ℕ) → nat_le a b ≡ false → b < a
above_of a b e = grind (arith, nat_tests)

pub at_least_of : (a b : ℕ) → nat_lt a b ≡ false → b ≤ a
at_least_of a b e = grind (arith, nat_tests)

pub same_of : (a b : ℕ) → (a == b) ≡ true → a ≡ b
same_of a b e = grind (arith, nat_tests)

-- an option that is there
pub none_some : {A : Type 0} {x : A} → None ≡ Some x → ⊥
none_some e = cc

abbrev pub value_or : {A : Type 0} → A → Option A → A
value_or d None = d
value_or d (Some x) = x

pub by_some : {A : Type 0} {x y : A} → Some x ≡ Some y → x ≡ y
by_some {x = x} e = ap (value_or x) e

-- what is so of an option is so after a change of what is there, if the change keeps it so
pub changed_so : {A : Type 0} (Q : Option A → Type 0) (f : A → A) → ((x : A) → Q (Some x) → Q (Some (f x))) → (o : Option A) → Q o → Q (option_map f o)
changed_so Q f g None h = h
changed_so Q f g (Some x) h = g x h

-- where nothing need be known of two
abbrev pub Anything : {A B : Type 0} → A → B → Type 0
Anything x y = Unit {0}
