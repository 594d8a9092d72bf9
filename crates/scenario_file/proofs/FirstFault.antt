-- What was read on the way to a value that was read.
use Rattle.std.proofs.Common.{◌≡◌, ℕ, true, false, refl, subst, Option, Some, None, Result, Ok, Err, ◌≤◌, ⊎_elim}
use Rattle.std.specs.Prelude.{option_and_then, is_some, nat_le, ◌&&◌}
use Rattle.std.specs.Option.{ok_or}
use Rattle.std.proofs.lemmas.Bool.{cases_Bool, and_parts, leb-true}
use Rattle.toml.specs.Data.{Members, get_member}
use Rattle.scenario_file.specs.{declared.fields.Field.Field, declared.faults.Refusal.Refusal, Field.name_of, Words.natural, Words.in_range}
use Rattle.scenario_file.specs.Values.{◌>>=◌, or_default, integer_in, number_in}

-- something was read before it
pub then_ok : {A B E : Type 0} (P : Type 0) (r : Result A E) (f : A → Result B E) (b : B) → ((a : A) → r ≡ Ok a → f a ≡ Ok b → P) → (r >>= f) ≡ Ok b → P
then_ok P (Ok a) f b next read = next a refl read
then_ok P (Err fault) f b next read = absurd cc

pub then_some : {A B : Type 0} (P : Type 0) (o : Option A) (f : A → Option B) (b : B)
    → ((a : A) → o ≡ Some a → f a ≡ Some b → P)
    → option_and_then f o ≡ Some b
    → P
then_some P (Some a) f b next found = next a refl found
then_some P None f b next found = absurd cc

pub ok_or_ok : {A E : Type 0} (o : Option A) (fault : E) (a : A) → ok_or o fault ≡ Ok a → o ≡ Some a
ok_or_ok (Some x) fault a read = cc
ok_or_ok None fault a read = absurd cc

-- what was read is one value
pub ok_same : {A E : Type 0} (r : Result A E) (a b : A) → r ≡ Ok a → r ≡ Ok b → a ≡ b
ok_same r a b one two = cc

pub not_read : {A E P : Type 0} (r : Result A E) (fault : E) (a : A) → r ≡ Err fault → r ≡ Ok a → P
not_read r fault a refused read = absurd cc

-- what holds of the value for a field that is left out, and of each value that is read, holds
pub default_ok : {A : Type 0} (P : A → Type 0) (value : A) (reader : Field → Members → Result A Refusal) (field : Field) (table : Members) (a : A)
    → P value → ((x : A) → reader field table ≡ Ok x → P x) → or_default value reader field table ≡ Ok a → P a
default_ok P value reader field table a usual given = ⊎_elim
    (λ (yes : is_some (get_member (name_of field) table) ≡ true). λ (read : or_default value reader field table ≡ Ok a). given a (rw yes at read))
    (λ (no : is_some (get_member (name_of field) table) ≡ false). λ (read : or_default value reader field table ≡ Ok a).
    subst P (ok_same _ value a refl (rw no at read)) usual)
    (cases_Bool (is_some (get_member (name_of field) table)))

-- a number is in its range
in_range_some : (low high n m : ℕ) → in_range low high n ≡ Some m → (low ≤ m) × (m ≤ high)
in_range_some low high n m found = ⊎_elim
    (λ (yes : (nat_le low n && nat_le n high) ≡ true).
    let kept : Some n ≡ Some m = rw yes at found in
    let same : n ≡ m = cc in
    let both = and_parts _ _ yes in
    rw (← same) (leb-true low n both.0, leb-true n high both.1))
    (λ (no : (nat_le low n && nat_le n high) ≡ false). let lost : None ≡ Some m = rw no at found in absurd cc)
    (cases_Bool (nat_le low n && nat_le n high))

pub number_in_range : (low high : ℕ) (field : Field) (table : Members) (m : ℕ) → number_in low high field table ≡ Ok m → (low ≤ m) × (m ≤ high)
unfolding number_in
number_in_range low high field table m =
    then_ok ((low ≤ m) × (m ≤ high)) (integer_in field table) _ m (λ integer first kept.
    then_some ((low ≤ m) × (m ≤ high)) (natural integer) _ m (λ n natural found. in_range_some low high n m found) (ok_or_ok _ _ m kept))
