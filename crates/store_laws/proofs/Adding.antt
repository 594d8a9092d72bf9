-- A derivation from keys of a ladder without a clash can be added to its rows.
use Rattle.std.proofs.Common.{◌≡◌, refl, sym, ap, subst, ◌∙◌, ℕ, zero, suc, ◌+◌, true, List, [], ◌∷◌, ◌++◌, length, map, Option, Some, None, inl, inr, arith, length-append}
use Rattle.std.specs.Prelude.{◌⊎◌, slice_get, IsSome, IfSome, option_map}
use Rattle.std.specs.{Str.bytes_eq, List.AllByRecursion as AllOf}
use Rattle.std.proofs.{lemmas.Bool.false≢true, lemmas.Option.none-some, lemmas.Option.slice_get-map, lemmas.Slice.Eq.bytes_eq-Decides}
use Rattle.hmac_kdf.specs.Kdf.{kdf}
use Rattle.key_model.specs.Derivation.{Input, FromCount, FromSync, FromCell, FromAlg, Derivation, map_input, map_derivation, kdf_input, derived_of}
use Rattle.key_model.specs.Term.{Term, IsRoot, IsWellFormed}
use Rattle.key_model.specs.Value.{value_of}
use Rattle.key_terms.specs.{declared.row.LadderRow.LadderRow, declared.row.Origin.Origin}
use Rattle.key_terms.specs.Ladder.{unheld, row_of, origin_at, HasRoot, HasSync}
use Rattle.key_terms.proofs.Places.{position_no, slice_get_stays, slice_get_at_end}
use Rattle.key_terms.proofs.LadderLemmas.{found_row}
use Rattle.lte_machine.specs.Ladder.{RowOrigin, OfRoot, Of, map_row, row_key}
use Rattle.lte_machine.specs.Distinct.{keys_of, Member}
use Rattle.lte_machine.proofs.Rows.{Well, made_of, From, SyncIn}
use Rattle.store_laws.specs.{Additions.IsInput, Additions.CanAdd, Joins.HasRow}
use Rattle.store_laws.specs.Rows.{origin_in, numbered_after, numbered}
use Rattle.store_laws.proofs.{Cells.InputIn, Numbered.numbered_grows, Numbered.octets_numbered}

-- the history in octets
abbrev pub valued : List (RowOrigin Term) → List (RowOrigin (List ℕ))
valued history = map (map_row value_of) history

key_value : (o : RowOrigin Term) → row_key (map_row value_of o) ≡ value_of (row_key o)
key_value (OfRoot key) = refl
key_value (Of d) = refl

-- A KEY THAT STANDS HAS A ROW

abbrev pub Stands : List ℕ → List (List ℕ) → Type 0
Stands key [] = ⊥
Stands key (k ∷ ks) = (key ≡ k) ⊎ Stands key ks

stands_at : (key : List ℕ) (ks : List (List ℕ)) → Stands key ks → (j : ℕ) × (slice_get ks j ≡ Some key)
stands_at key [] h = absurd h
stands_at key (k ∷ ks) (inl e) = (0, ap Some (sym e))
stands_at key (k ∷ ks) (inr h) = let later = stands_at key ks h in (suc later.0, later.1)

row_at : (rows : List LadderRow) (j : ℕ) (key : List ℕ)
    → slice_get (map (λ r. r.octets) rows) j ≡ Some key
    → (r : LadderRow) × (slice_get rows j ≡ Some r) × (r.octets ≡ key)
row_at [] j key e = absurd (none-some key e)
row_at (r ∷ rows) zero key e = (r, refl, cc)
row_at (r ∷ rows) (suc j) key e = row_at rows j key e

pub row_stands : (rows : List LadderRow) (key : List ℕ) → Stands key (map (λ r. r.octets) rows) → HasRow rows key
row_stands rows key h = by (row_of rows key) refl
  where
    by : (o : Option ℕ) → row_of rows key ≡ o → IsSome (row_of rows key)
    by (Some k) e = subst IsSome (sym e) refl
    by None e =
        let place = stands_at key (map (λ r. r.octets) rows) h in
        let row = row_at rows place.0 key place.1 in
        let passes : bytes_eq row.0.octets key ≡ true = (bytes_eq-Decides row.0.octets key).1 row.2 in
        absurd (false≢true (sym (position_no (λ r. bytes_eq r.octets key) rows place.0 row.0 e row.1) ∙ passes))

member_stands : (t : Term) (os : List (RowOrigin Term)) → Member t (keys_of os) → Stands (value_of t) (map row_key (valued os))
member_stands t [] h = absurd h
member_stands t (o ∷ os) (inl e) = inl (ap value_of e ∙ sym (key_value o))
member_stands t (o ∷ os) (inr h) = inr (member_stands t os h)

pub term_stands : (os : List (RowOrigin Term)) (t : Term) → Member t (keys_of os) → HasRow (numbered (valued os)) (value_of t)
term_stands os t m = row_stands (numbered (valued os)) (value_of t) (subst (Stands (value_of t)) (sym (octets_numbered (valued os))) (member_stands t os m))

-- THE ROW OF A ROOT

-- a root that was numbered stands as a root
root_stands : (rows : List LadderRow) (os : List (RowOrigin (List ℕ))) (k : ℕ) (key : List ℕ)
    → slice_get os k ≡ Some (OfRoot key)
    → origin_at (numbered_after rows os) (length rows + k) ≡ Some Origin.Root
root_stands rows [] k key e = absurd (none-some (OfRoot key) e)
root_stands rows (x ∷ os) zero key e =
    let one : LadderRow = unheld (origin_in rows x) (row_key x) in
    let later = numbered_grows (rows ++ one ∷ []) os in
    let is : x ≡ OfRoot key = cc in
    let place : length rows + 0 ≡ length rows = omega arith in
    let stands : slice_get ((rows ++ one ∷ []) ++ later.0) (length rows) ≡ Some one =
    slice_get_stays (rows ++ one ∷ []) later.0 (length rows) one (slice_get_at_end rows one) in
    ap (origin_at (numbered_after rows (x ∷ os))) place
    ∙ ap (λ rs. origin_at rs (length rows)) later.1
    ∙ ap (option_map (λ r. r.origin)) stands
    ∙ ap (λ y. Some (origin_in rows y)) is
root_stands rows (x ∷ os) (suc k) key e =
    let one : LadderRow = unheld (origin_in rows x) (row_key x) in
    let longer = length-append rows (one ∷ []) in
    let place : length rows + suc k ≡ length (rows ++ one ∷ []) + k = omega (arith, longer) in
    ap (origin_at (numbered_after rows (x ∷ os))) place ∙ root_stands (rows ++ one ∷ []) os k key e

-- a row that was mapped
mapped_at : (os : List (RowOrigin Term)) (k : ℕ) (f : RowOrigin (List ℕ))
    → slice_get (valued os) k ≡ Some f
    → (o : RowOrigin Term) × (slice_get os k ≡ Some o) × (map_row value_of o ≡ f)
mapped_at [] k f e = absurd (none-some f e)
mapped_at (o ∷ os) zero f e = (o, refl, cc)
mapped_at (o ∷ os) (suc k) f e = mapped_at os k f e

member_at : (os : List (RowOrigin Term)) (k : ℕ) (o : RowOrigin Term) → slice_get os k ≡ Some o → Member (row_key o) (keys_of os)
member_at [] k o e = absurd (none-some o e)
member_at (x ∷ os) zero o e = inl (let is : x ≡ o = cc in ap row_key (sym is))
member_at (x ∷ os) (suc k) o e = inr (member_at os k o e)

ok_at : (P : RowOrigin Term → Type 0) (os : List (RowOrigin Term)) (k : ℕ) (o : RowOrigin Term) → AllOf P os → slice_get os k ≡ Some o → P o
ok_at P [] k o all e = absurd (none-some o e)
ok_at P (x ∷ os) zero o all e = let is : x ≡ o = cc in subst P is all.0
ok_at P (x ∷ os) (suc k) o all e = ok_at P os k o all.1 e

-- what a row is made of
abbrev RowIs : List Term → RowOrigin Term → Type 0
RowIs ts (OfRoot k) = Unit {0}
RowIs ts (Of d) = From (λ t. Member t ts) d

-- no derivation makes a KASME
no_root_made : (k : Term) (i : Input Term) → IsRoot (made_of k i) → ⊥
no_root_made k (FromCount n) h = h
no_root_made k other h = h

root_origin : (os : List (RowOrigin Term))
    → Well os
    → (t : Term)
    → IsRoot t
    → Member t (keys_of os)
    → (n : ℕ)
    → row_of (numbered (valued os)) (value_of t) ≡ Some n
    → origin_at (numbered (valued os)) n ≡ Some Origin.Root
root_origin os well t root m n found =
    let row = found_row (numbered (valued os)) (value_of t) n found in
    let key_at : slice_get (map row_key (valued os)) n ≡ Some (value_of t) =
    ap (λ ks. slice_get ks n) (sym (octets_numbered (valued os)))
    ∙ slice_get-map (λ r. r.octets) (numbered (valued os)) n
    ∙ ap (option_map (λ r. r.octets)) row.1
    ∙ ap Some row.2 in
    by (unmapped (valued os) n (value_of t) key_at)
  where
    unmapped : (rs : List (RowOrigin (List ℕ))) (n : ℕ) (key : List ℕ)
        → slice_get (map row_key rs) n ≡ Some key
        → (f : RowOrigin (List ℕ)) × (slice_get rs n ≡ Some f) × (row_key f ≡ key)
    unmapped [] n key e = absurd (none-some key e)
    unmapped (r ∷ rs) zero key e = (r, refl, cc)
    unmapped (r ∷ rs) (suc n) key e = unmapped rs n key e

    at : (o : RowOrigin Term)
        → RowIs (keys_of os) o
        → row_key o ≡ t
        → slice_get (valued os) n ≡ Some (map_row value_of o)
        → origin_at (numbered (valued os)) n ≡ Some Origin.Root
    at (OfRoot k) ok is e =
        let place : n ≡ 0 + n = omega arith in
        ap (origin_at (numbered (valued os))) place ∙ root_stands [] (valued os) n (value_of k) e
    at (Of d) ok is e = absurd (no_root_made d.key d.input (subst IsRoot (sym is ∙ ok.2) root))

    by : ((f : RowOrigin (List ℕ)) × (slice_get (valued os) n ≡ Some f) × (row_key f ≡ value_of t)) → origin_at (numbered (valued os)) n ≡ Some Origin.Root
    by f =
        let o = mapped_at os n f.0 f.1 in
        let value : value_of (row_key o.0) ≡ value_of t = sym (key_value o.0) ∙ ap row_key o.2 ∙ f.2 in
        let is : row_key o.0 ≡ t = well.own (row_key o.0) t (member_at os n o.0 o.1) m value in
        at o.0 (ok_at (RowIs (keys_of os)) os n o.0 well.made o.1) is (f.1 ∙ ap Some (sym o.2))

-- ONE DERIVATION

-- KeNB and NH come from a KASME
abbrev RootOf : Input Term → Term → Type 0
RootOf (FromCount n) t = IsRoot t
RootOf (FromSync sync) t = IsRoot t
RootOf other t = Unit {0}

from_root : (d : Derivation Term) → d.out ≡ made_of d.key d.input → IsWellFormed d.out → (i : Input Term) → d.input ≡ i → RootOf i d.key
from_root d is well (FromCount n) e = subst IsWellFormed (is ∙ ap (made_of d.key) e) well
from_root d is well (FromSync sync) e = let w : IsRoot d.key × _ = subst IsWellFormed (is ∙ ap (made_of d.key) e) well in w.0
from_root d is well (FromCell pci earfcn) e = tt
from_root d is well (FromAlg type id) e = tt

input_range : (i : Input Term) → InputIn i → IsInput (kdf_input (map_input value_of i))
input_range (FromCount n) h = tt
input_range (FromSync sync) h = tt
input_range (FromCell pci earfcn) h = (omega (arith, h.0), h.1)
input_range (FromAlg type id) h = tt

out_value : (k : Term) (i : Input Term) → value_of (made_of k i) ≡ kdf (value_of k) (kdf_input (map_input value_of i))
out_value k (FromCount n) = refl
out_value k other = refl

module _ (os : List (RowOrigin Term)) (well : Well os) where
  has_root : (i : Input Term) (t : Term)
      → RootOf i t
      → Member t (keys_of os)
      → IfSome (row_of (numbered (valued os)) (value_of t))
      (λ n. HasRoot (numbered (valued os)) n (kdf_input (map_input value_of i)))
  has_root i t root m = by (row_of (numbered (valued os)) (value_of t)) refl
    where
      at : (i : Input Term)
          → RootOf i t
          → (n : ℕ)
          → row_of (numbered (valued os)) (value_of t) ≡ Some n
          → HasRoot (numbered (valued os)) n (kdf_input (map_input value_of i))
      at (FromCount c) root n e = root_origin os well t root m n e
      at (FromSync sync) root n e = root_origin os well t root m n e
      at (FromCell pci earfcn) root n e = tt
      at (FromAlg type id) root n e = tt

      by : (o : Option ℕ) → row_of (numbered (valued os)) (value_of t) ≡ o → IfSome o (λ n. HasRoot (numbered (valued os)) n (kdf_input (map_input value_of i)))
      by None e = tt
      by (Some n) e = at i root n e

  has_sync : (i : Input Term) → SyncIn (λ t. Member t (keys_of os)) i → HasSync (numbered (valued os)) (kdf_input (map_input value_of i))
  has_sync (FromCount n) h = tt
  has_sync (FromSync sync) h = term_stands os sync h
  has_sync (FromCell pci earfcn) h = tt
  has_sync (FromAlg type id) h = tt

  pub can_add : (d : Derivation Term)
      → From (λ t. Member t (keys_of os)) d
      → InputIn d.input
      → IsWellFormed d.out
      → CanAdd (numbered (valued os)) (derived_of (map_derivation value_of d))
  can_add d f cell wf = record {
    input = input_range d.input cell;
    out = ap value_of f.2 ∙ out_value d.key d.input;
    key = term_stands os d.key f.0;
    root = has_root d.input d.key (from_root d f.2 wf d.input refl) f.0;
    sync = has_sync d.input f.1;
  }
