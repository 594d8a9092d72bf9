-- The rows of a ladder stand for the distinct terms, each with a value of its own, where no clash has come.
use Rattle.std.proofs.Common.{◌≡◌, ℕ, ◌+◌, Bool, true, false, List, [], ◌∷◌, ◌++◌, Option, Some, None, refl, ap, sym, ◌∙◌, subst, inl, inr}
use Rattle.std.specs.{Prelude.◌⊎◌, Prelude.◌||◌, List.AllByRecursion as AllOf}
use Rattle.std.proofs.{lemmas.Bool.Decides.Decides-and, lemmas.Bool.Decides.Decides-eqb, lemmas.List.map-append}
use Rattle.key_model.specs.Derivation.{Input, FromCount, FromSync, FromCell, FromAlg, Derivation}
use Rattle.key_model.specs.Term.{Term, Kenb, Nh, Star, Alg, same_term}
use Rattle.key_model.specs.Value.{value_of, same_value}
use Rattle.key_model.proofs.TermFacts.{same_term-Decides, same_value-Decides}
use Rattle.lte_machine.specs.Ladder.{RowOrigin, OfRoot, Of, row_key, same_input, same_origin, Hit, hit_if, hit_from, hit, stands_or_not, added_at, add_row, root_place, root_if, root_row}
use Rattle.lte_machine.specs.Distinct.{keys_of, Member, is_member, with_new, OneValueOneTerm}
use Rattle.lte_machine.proofs.Tests.{both_true}

-- membership

pub member_right : (t : Term) (xs ys : List Term) → Member t ys → Member t (xs ++ ys)
member_right t [] ys h = h
member_right t (x ∷ xs) ys h = inr (member_right t xs ys h)

pub member_left : (t : Term) (xs ys : List Term) → Member t xs → Member t (xs ++ ys)
member_left t [] ys h = absurd h
member_left t (x ∷ xs) ys (inl e) = inl e
member_left t (x ∷ xs) ys (inr h) = inr (member_left t xs ys h)

pub member_either : (t : Term) (xs ys : List Term) → Member t (xs ++ ys) → Member t xs ⊎ Member t ys
member_either t [] ys h = inr h
member_either t (x ∷ xs) ys (inl e) = inl (inl e)
member_either t (x ∷ xs) ys (inr h) = onward (member_either t xs ys h)
  where
    onward : Member t xs ⊎ Member t ys → Member t (x ∷ xs) ⊎ Member t ys
    onward (inl k) = inl (inr k)
    onward (inr k) = inr k

member_is : (t : Term) (ts : List Term) → Member t ts → is_member t ts ≡ true
member_is t [] h = absurd h
member_is t (u ∷ us) (inl e) = ap (λ b. b || is_member t us) ((same_term-Decides t u).1 e)
member_is t (u ∷ us) (inr h) = ap (λ b. same_term t u || b) (member_is t us h) ∙ or_true (same_term t u)
  where
    or_true : (b : Bool) → (b || true) ≡ true
    or_true true = refl
    or_true false = refl

pub is_member_is : (t : Term) (ts : List Term) → is_member t ts ≡ true → Member t ts
is_member_is t [] h = cc
is_member_is t (u ∷ us) h = by_test (same_term t u) refl h (is_member_is t us)
  where
    by_test : (b : Bool) → same_term t u ≡ b → (b || is_member t us) ≡ true → (is_member t us ≡ true → Member t us) → Member t (u ∷ us)
    by_test true e h rest = inl ((same_term-Decides t u).0 e)
    by_test false e h rest = inr (rest h)

-- the key that a derivation makes
abbrev pub made_of : Term → Input Term → Term
made_of k (FromCount n) = Kenb k n
made_of k (FromSync sync) = Nh k sync
made_of k (FromCell pci earfcn) = Star k pci earfcn
made_of k (FromAlg type id) = Alg k type id

-- of an input, the SYNC-input is known
abbrev pub SyncIn : (Term → Type 0) → Input Term → Type 0
SyncIn P (FromSync sync) = P sync
SyncIn P other = Unit {0}

-- a derivation from known keys makes the key that it says
abbrev pub From : (Term → Type 0) → Derivation Term → Type 0
From P d = P d.key × SyncIn P d.input × (d.out ≡ made_of d.key d.input)

abbrev RowOk : List Term → RowOrigin Term → Type 0
RowOk ts (OfRoot k) = Unit {0}
RowOk ts (Of d) = From (λ t. Member t ts) d

-- rows that stand for terms of their own
pub record Well (rows : List (RowOrigin Term)) : Type 0 where
  pub own : OneValueOneTerm (keys_of rows)
  pub made : AllOf (RowOk (keys_of rows)) rows

-- what an origin must be that is added: a root that no row is, or a derivation from keys of rows
abbrev pub Addable : List (RowOrigin Term) → RowOrigin Term → Type 0
Addable rows (OfRoot k) = root_row same_value k rows ≡ None
Addable rows (Of d) = From (λ t. Member t (keys_of rows)) d

-- what a hit found

pub record Found (P : RowOrigin Term → Type 0) (key : Term) (rows : List (RowOrigin Term)) (h : Hit Term) : Type 0 where
  pub among : Member (row_key h.found) (keys_of rows)
  pub value : value_of (row_key h.found) ≡ value_of key
  pub holds : P h.found

some_is : {A : Type 0} {a b : A} → Some a ≡ Some b → a ≡ b
some_is e = cc

found_one : (P : RowOrigin Term → Type 0) (key : Term) (i : ℕ) (rows : List (RowOrigin Term))
    → AllOf P rows
    → (h : Hit Term)
    → hit_from same_value key i rows ≡ Some h
    → Found P key rows h
found_one P key i [] all h e = cc
found_one P key i (row ∷ rows) all h e = by_test (same_value (row_key row) key) refl e (found_one P key (i + 1) rows all.1 h)
  where
    here : (g : Hit Term)
        → g ≡ h
        → P g.found
        → Member (row_key g.found) (keys_of (row ∷ rows))
        → value_of (row_key g.found) ≡ value_of key
        → Found P key (row ∷ rows) h
    here g is p m v = subst (λ x. Found P key (row ∷ rows) x) is (record { among = m; value = v; holds = p })

    by_test : (b : Bool) → same_value (row_key row) key ≡ b → hit_if b (record { place = i; found = row }) (hit_from same_value key (i + 1) rows) ≡ Some h
        → (hit_from same_value key (i + 1) rows ≡ Some h → Found P key rows h) → Found P key (row ∷ rows) h
    by_test true t e rest =
        let is : record { place = i; found = row } ≡ h = some_is e in
        here (record { place = i; found = row }) is all.0 (inl refl) ((same_value-Decides (row_key row) key).0 t)
    by_test false t e rest = let r = rest e in record { among = inr r.among; value = r.value; holds = r.holds }

-- where nothing is hit, no row has the value
missed : (key : Term) (i : ℕ) (rows : List (RowOrigin Term))
    → hit_from same_value key i rows ≡ None
    → (t : Term)
    → Member t (keys_of rows)
    → value_of t ≡ value_of key
    → ⊥
missed key i [] e t m v = m
missed key i (row ∷ rows) e t m v = by_test (same_value (row_key row) key) refl e (missed key (i + 1) rows)
  where
    by_test : (b : Bool) → same_value (row_key row) key ≡ b → hit_if b (record { place = i; found = row }) (hit_from same_value key (i + 1) rows) ≡ None
        → (hit_from same_value key (i + 1) rows ≡ None → (t : Term) → Member t (keys_of rows) → value_of t ≡ value_of key → ⊥) → ⊥
    by_test true t e rest = cc
    by_test false test e rest = at_place m
      where
        at_place : Member t (row_key row ∷ keys_of rows) → ⊥
        at_place (inl is) =
            let yes : same_value (row_key row) key ≡ true = (same_value-Decides (row_key row) key).1 (sym (ap value_of is) ∙ v) in
            let no : false ≡ true = sym test ∙ yes in
            cc
        at_place (inr k) = rest e t k v

-- one more row

keys_append : (rows : List (RowOrigin Term)) (o : RowOrigin Term) → keys_of (rows ++ o ∷ []) ≡ keys_of rows ++ row_key o ∷ []
keys_append rows o = map-append row_key rows (o ∷ [])

all_of_append : {A : Type 0} (P : A → Type 0) (xs : List A) (x : A) → AllOf P xs → P x → AllOf P (xs ++ x ∷ [])
all_of_append P [] x all p = (p, tt)
all_of_append P (y ∷ ys) x all p = (all.0, all_of_append P ys x all.1 p)

all_of_weaken : {A : Type 0} (P Q : A → Type 0) → ((x : A) → P x → Q x) → (xs : List A) → AllOf P xs → AllOf Q xs
all_of_weaken P Q f [] all = tt
all_of_weaken P Q f (x ∷ xs) all = (f x all.0, all_of_weaken P Q f xs all.1)

pub sync_more : (P Q : Term → Type 0) → ((t : Term) → P t → Q t) → (i : Input Term) → SyncIn P i → SyncIn Q i
sync_more P Q f (FromSync sync) h = f sync h
sync_more other rest f more h = tt

pub from_more : (P Q : Term → Type 0) → ((t : Term) → P t → Q t) → (d : Derivation Term) → From P d → From Q d
from_more P Q f d h = (f d.key h.0, sync_more P Q f d.input h.1, h.2)

row_more : (ts us : List Term) → ((t : Term) → Member t ts → Member t us) → (o : RowOrigin Term) → RowOk ts o → RowOk us o
row_more ts us f (OfRoot k) h = tt
row_more ts us f (Of d) h = from_more (λ t. Member t ts) (λ t. Member t us) f d h

addable_row : (rows : List (RowOrigin Term)) (o : RowOrigin Term) → Addable rows o → RowOk (keys_of rows) o
addable_row rows (OfRoot k) h = tt
addable_row rows (Of d) h = h

own_more : (ts : List Term) (k : Term) → OneValueOneTerm ts → ((t : Term) → Member t ts → value_of t ≡ value_of k → ⊥) → OneValueOneTerm (ts ++ k ∷ [])
own_more ts k own new a b m n v = by_place (member_either a ts (k ∷ []) m) (member_either b ts (k ∷ []) n)
  where
    by_place : Member a ts ⊎ Member a (k ∷ []) → Member b ts ⊎ Member b (k ∷ []) → a ≡ b
    by_place (inl p) (inl q) = own a b p q v
    by_place (inl p) (inr (inl e)) = absurd (new a p (v ∙ ap value_of e))
    by_place (inl p) (inr (inr h)) = absurd h
    by_place (inr (inl e)) (inl q) = absurd (new b q (sym v ∙ ap value_of e))
    by_place (inr (inl e)) (inr (inl f)) = e ∙ sym f
    by_place (inr (inl e)) (inr (inr h)) = absurd h
    by_place (inr (inr h)) q = absurd h

-- what a ladder without a clash is after one more origin
pub record Grown (rows : List (RowOrigin Term)) (key : Term) (after : List (RowOrigin Term)) : Type 0 where
  pub well : Well after
  pub keys : keys_of after ≡ with_new (is_member key (keys_of rows)) key (keys_of rows)

same_made : (ts : List Term)
    → OneValueOneTerm ts
    → (i j : Input Term) (k l : Term)
    → SyncIn (λ t. Member t ts) i
    → SyncIn (λ t. Member t ts) j
    → k ≡ l
    → same_input same_value i j ≡ true
    → made_of k i ≡ made_of l j
same_made ts own (FromCount m) (FromCount n) k l a b e h = λ x. Kenb (e x) ((Decides-eqb m n).0 h x)
same_made ts own (FromSync t) (FromSync u) k l a b e h = λ x. Nh (e x) (own t u a b ((same_value-Decides t u).0 h) x)
same_made ts own (FromCell p q) (FromCell r s) k l a b e h =
    let both = (Decides-and _ _ (Decides-eqb p r) (Decides-eqb q s)).0 h in λ x. Star (e x) (both.0 x) (both.1 x)
same_made ts own (FromAlg p q) (FromAlg r s) k l a b e h =
    let both = (Decides-and _ _ (Decides-eqb p r) (Decides-eqb q s)).0 h in λ x. Alg (e x) (both.0 x) (both.1 x)
same_made ts own other rest k l a b e h = cc

-- a row that stands is the same derivation: its key is the key added
stands_same : (rows : List (RowOrigin Term))
    → Well rows
    → (o : RowOrigin Term)
    → Addable rows o
    → (h : Hit Term)
    → Found (RowOk (keys_of rows)) (row_key o) rows h
    → root_row same_value (row_key o) rows ≡ root_place h.place h.found → same_origin same_value h.found o ≡ true → row_key h.found ≡ row_key o
stands_same rows well (OfRoot k) add h found at e = by_origin h.found at e
  where
    by_origin : (f : RowOrigin Term) → root_row same_value k rows ≡ root_place h.place f → same_origin same_value f (OfRoot k) ≡ true → row_key f ≡ k
    by_origin (OfRoot l) at e = let bad : None ≡ Some h.place = sym add ∙ at in cc
    by_origin (Of d) at e = cc
stands_same rows well (Of d) add h found at e = by_origin h.found found.holds e
  where
    by_origin : (f : RowOrigin Term) → RowOk (keys_of rows) f → same_origin same_value f (Of d) ≡ true → row_key f ≡ d.out
    by_origin (OfRoot l) ok e = cc
    by_origin (Of g) ok e =
        let two = both_true (same_value g.key d.key) (same_input same_value g.input d.input) e in
        let key : g.key ≡ d.key = well.own g.key d.key ok.0 add.0 ((same_value-Decides g.key d.key).0 two.0) in
        ok.2 ∙ same_made (keys_of rows) well.own g.input d.input g.key d.key ok.1 add.1 key two.1 ∙ sym add.2

grown_new : (rows : List (RowOrigin Term))
    → Well rows
    → (o : RowOrigin Term)
    → Addable rows o
    → hit same_value (row_key o) rows ≡ None
    → Grown rows (row_key o) (rows ++ o ∷ [])
grown_new rows well o add none = record {
  well = record {
    own = subst OneValueOneTerm (sym (keys_append rows o)) (own_more (keys_of rows) (row_key o) well.own (λ t m v. missed (row_key o) 0 rows none t m v));
    made = subst (λ ts. AllOf (RowOk ts) (rows ++ o ∷ [])) (sym (keys_append rows o))
        (all_of_append (RowOk (keys_of rows ++ row_key o ∷ [])) rows o
        (all_of_weaken (RowOk (keys_of rows)) (RowOk (keys_of rows ++ row_key o ∷ []))
        (row_more (keys_of rows) (keys_of rows ++ row_key o ∷ [])
        (λ t m. member_left t (keys_of rows) (row_key o ∷ []) m))
        rows well.made)
        (row_more (keys_of rows) (keys_of rows ++ row_key o ∷ []) (λ t m. member_left t (keys_of rows) (row_key o ∷ []) m) o (addable_row rows o add)));
  };
  keys = keys_append rows o ∙ sym (ap (λ b. with_new b (row_key o) (keys_of rows)) (not_member (is_member (row_key o) (keys_of rows)) refl));
}
  where
    not_member : (b : Bool) → is_member (row_key o) (keys_of rows) ≡ b → is_member (row_key o) (keys_of rows) ≡ false
    not_member true e = absurd (missed (row_key o) 0 rows none (row_key o) (is_member_is (row_key o) (keys_of rows) e) refl)
    not_member false e = e

grown_stands : (rows : List (RowOrigin Term))
    → Well rows
    → (o : RowOrigin Term)
    → Addable rows o
    → (h : Hit Term)
    → hit same_value (row_key o) rows ≡ Some h
    → same_origin same_value h.found o ≡ true
    → Grown rows (row_key o) rows
grown_stands rows well o add h is e =
    let found = found_one (RowOk (keys_of rows)) (row_key o) 0 rows well.made h is in
    let key = stands_same rows well o add h found (ap root_if is) e in
    let among : Member (row_key o) (keys_of rows) = subst (λ t. Member t (keys_of rows)) key found.among in
    record { well = well; keys = sym (ap (λ b. with_new b (row_key o) (keys_of rows)) (member_is (row_key o) (keys_of rows) among)) }

-- one origin more, with no clash
pub add_row_grows : (rows : List (RowOrigin Term))
    → Well rows
    → (o : RowOrigin Term)
    → Addable rows o
    → (add_row same_value rows o).clash ≡ None
    → Grown rows (row_key o) (add_row same_value rows o).rows
add_row_grows rows well o add calm = by_hit (hit same_value (row_key o) rows) refl calm
  where
    by_origin : (h : Hit Term)
        → hit same_value (row_key o) rows ≡ Some h
        → (b : Bool)
        → same_origin same_value h.found o ≡ b
        → (stands_or_not b rows h.place o).clash ≡ None
        → Grown rows (row_key o) (stands_or_not b rows h.place o).rows
    by_origin h is true e calm = grown_stands rows well o add h is e
    by_origin h is false e calm = cc

    by_hit : (x : Option (Hit Term))
        → hit same_value (row_key o) rows ≡ x
        → (added_at same_value rows o x).clash ≡ None
        → Grown rows (row_key o) (added_at same_value rows o x).rows
    by_hit None is calm = grown_new rows well o add is
    by_hit (Some h) is calm = by_origin h is (same_origin same_value h.found o) refl calm
