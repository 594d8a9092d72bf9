-- How the rows of the ladder stand for the lines: what a line names, and where it finds its row.
use Rattle.std.proofs.Common.{◌≡◌, ℕ, ◌+◌, ◌<◌, ◌≤◌, ◌==◌, ◌&&◌, not, ◌⊎◌, Bool, true, false, cond, Option, Some, None, List, [], ◌∷◌, map, length, sym, refl, ap, subst, ◌∙◌, arith, inl, inr}
use Rattle.std.proofs.{lemmas.Bool.false≢true, lemmas.Bool.and_parts, lemmas.Bool.Decides.Decides-eqb, lemmas.Slice.Eq.bytes_eq-Decides, lemmas.List.length-map}
use Rattle.std.proofs.lemmas.Option.{none-some, slice_get-map, slice_get_within, slice_get_cases}
use Rattle.std.specs.List.{slice_get, position, prefix_len}
use Rattle.std.specs.Option.{option_map, option_map_or, is_some, unwrap_or}
use Rattle.std.specs.Str.{bytes_eq}
use Rattle.hmac_kdf.specs.declared.input.KdfInput.TheVariants as input
use Rattle.hmac_kdf.specs.Kdf.{kdf}
use Rattle.annex_a_keys.specs.{AlgType.distinguisher, Derived.derivation, declared.derived.Derived.Derived}
use Rattle.key_terms.specs.{declared.row.LadderRow.LadderRow, declared.row.Row.Row}
use Rattle.key_terms.specs.declared.row.Origin.TheVariants as origin
use Rattle.key_terms.specs.Ladder.{row, unheld, octets_at, origin_at, origin_of, HasRoot, HasSync, IsLadder, row_of as row_with}
use Rattle.ladder_text.specs.declared.line.LadderLine.{LadderLine}
use Rattle.ladder_text.specs.declared.line.LadderLine.TheVariants.{Root, Kenb, Nh, Star, Alg}
use Rattle.ladder_text.specs.Text.{same, is_root, is_hop_of, has_star, has_alg, stands_as, meets}
use Rattle.ladder_text.specs.Report.{KeyRow, key_at, derived_in, octets_in}
use Rattle.ladder_text.specs.Rows.{origin_in, ladder_of, Refers}

-- a place of a list holds something, or the list ends before it
pub found_or_not : {X : Type 0} (xs : List X) (k : ℕ) → ((x : X) × (slice_get xs k ≡ Some x)) ⊎ ((length xs ≤ k) × (slice_get xs k ≡ None))
found_or_not xs k = elim (slice_get_cases xs k).1 [ inl h ↦ inl (h.0, h.2) | inr h ↦ inr h ]

-- what a test of a row reads, where it holds
tested : (test : LadderLine → Bool) (found : Option LadderLine)
    → option_map_or test found false ≡ true
    → (line : LadderLine) × (found ≡ Some line) × (test line ≡ true)
tested test None h = absurd (false≢true h)
tested test (Some line) h = (line, refl, h)

-- a test of a row that holds tells that the row stands
stands : (test : LadderLine → Bool) (rows : List KeyRow) (r : Row)
    → stands_as test (map (λ k. k.line) rows) r ≡ true
    → (row : KeyRow) × (slice_get rows r.0 ≡ Some row) × (test row.line ≡ true)
stands test rows r h =
    let t = tested test (slice_get (map (λ k. k.line) rows) r.0) h in
    let line_at = slice_get-map (λ k. k.line) rows r.0 in
    elim (found_or_not rows r.0) [
      | inl row ↦
          let e = sym (line_at ∙ ap (option_map (λ k. k.line)) row.1) ∙ t.1 in
          let line : row.0.line ≡ t.0 = cc in
          (row.0, row.1, subst (λ l. test l ≡ true) (sym line) t.2)
      | inr none ↦ absurd (none-some t.0 (sym (line_at ∙ ap (option_map (λ k. k.line)) none.1) ∙ t.1))
    ]

-- a line whose need is met names rows that stand
pub met_refers : (rows : List KeyRow) (line : LadderLine) → meets (map (λ k. k.line) rows) line ≡ true → Refers rows line
met_refers rows (Root key) met = tt
met_refers rows (Kenb root count) met = let s = stands is_root rows root met in slice_get_within rows root.0 s.0 s.1
met_refers rows (Nh root sync) met =
    let parts = and_parts (stands_as is_root (map (λ k. k.line) rows) root) (stands_as (is_hop_of root) (map (λ k. k.line) rows) sync) met in
    let s = stands is_root rows root parts.0 in
    let t = stands (is_hop_of root) rows sync parts.1 in
    (slice_get_within rows root.0 s.0 s.1, slice_get_within rows sync.0 t.0 t.1)
met_refers rows (Star key cell) met = let s = stands has_star rows key met in slice_get_within rows key.0 s.0 s.1
met_refers rows (Alg key type id) met = let s = stands (has_alg type) rows key met in slice_get_within rows key.0 s.0 s.1

-- the ladder's row for one of the rows
abbrev pub row_in : List KeyRow → KeyRow → LadderRow
row_in rows r = unheld (origin_in rows r.line) r.octets

-- what is read of the ladder at a row
pub row_at : (rows : List KeyRow) (ladder : List LadderRow) (k : ℕ) (r : KeyRow)
    → ladder ≡ ladder_of rows
    → slice_get rows k ≡ Some r
    → slice_get ladder k ≡ Some (row_in rows r)
row_at rows ladder k r is found = ap (λ l. slice_get l k) is ∙ slice_get-map (row_in rows) rows k ∙ ap (option_map (row_in rows)) found

-- a key that stands in the ladder
pub key_is : (rows : List KeyRow) (ladder : List LadderRow) (k : Row) (r : LadderRow)
    → ladder ≡ ladder_of rows
    → slice_get ladder k.0 ≡ Some r
    → key_at rows k ≡ r.octets
key_is rows ladder k r is found =
    elim (found_or_not rows k.0) [
      | inl row ↦
          let e = sym (row_at rows ladder k.0 row.0 is row.1) ∙ found in
          let same_row : row_in rows row.0 ≡ r = cc in
          ap (λ o. option_map_or (λ r'. r'.octets) o []) row.1 ∙ ap (λ r'. r'.octets) same_row
      | inr none ↦
          absurd (none-some r (sym (ap (λ l. slice_get l k.0) is ∙ slice_get-map (row_in rows) rows k.0 ∙ ap (option_map (row_in rows)) none.1) ∙ found))
    ]

-- a row that is named stands in the ladder with its octets
pub key_stands : (rows : List KeyRow) (ladder : List LadderRow) (k : Row)
    → ladder ≡ ladder_of rows
    → k.0 < length rows
    → octets_at ladder k.0 ≡ Some (key_at rows k)
key_stands rows ladder k is within =
    elim (found_or_not rows k.0) [
      | inl row ↦
          ap (option_map (λ r. r.octets)) (row_at rows ladder k.0 row.0 is row.1) ∙ ap Some (sym (ap (λ o. option_map_or (λ r'. r'.octets) o []) row.1))
      | inr none ↦ absurd (omega (arith, within, none.0))
    ]

-- the place of the first row with some octets is the same in the ladder
prefix_mapped : {X Y : Type 0} (f : X → Y) (p : Y → Bool) (xs : List X) → prefix_len p (map f xs) ≡ prefix_len (λ x. p (f x)) xs
prefix_mapped f p [] = refl
prefix_mapped f p (x ∷ xs) = ap (λ n. cond (p (f x)) (1 + n) 0) (prefix_mapped f p xs)

place_mapped : {X Y : Type 0} (f : X → Y) (p : Y → Bool) (xs : List X) → position p (map f xs) ≡ position (λ x. p (f x)) xs
place_mapped f p xs = rw (prefix_mapped f (λ y. not (p y)) xs, length-map xs f) refl

pub octets_place : (rows : List KeyRow) (ladder : List LadderRow) (octets : List ℕ)
    → ladder ≡ ladder_of rows
    → row_with ladder octets ≡ position (λ r. bytes_eq r.octets octets) rows
octets_place rows ladder octets is = ap (λ l. row_with l octets) is ∙ place_mapped (row_in rows) (λ r. bytes_eq r.octets octets) rows

-- two tests that hold
both : (a b : Bool) → a ≡ true → b ≡ true → (a && b) ≡ true
both true b e h = h
both false b e h = e

-- two lines that refer to rows of a ladder, with one origin and the same octets, are the same
pub one_origin : (rows : List KeyRow) (ladder : List LadderRow) (a b : LadderLine)
    → ladder ≡ ladder_of rows
    → IsLadder ladder
    → Refers rows a
    → Refers rows b
    → origin_in rows a ≡ origin_in rows b
    → octets_in rows a ≡ octets_in rows b
    → same a b ≡ true
one_origin rows ladder (Root key) (Root key') is sound refers refers' e o = (bytes_eq-Decides key key').1 o
one_origin rows ladder (Kenb root count) (Kenb root' count') is sound refers refers' e o =
    let one_root : root ≡ root' = cc in
    let one_count : count ≡ count' = cc in
    both (root.0 == root'.0) (count == count') ((Decides-eqb root.0 root'.0).1 (ap (λ r. r.0) one_root)) ((Decides-eqb count count').1 one_count)
one_origin rows ladder (Nh root sync) (Nh root' sync') is sound refers refers' e o =
    let one_root : root ≡ root' = cc in
    let one_key : key_at rows sync ≡ key_at rows sync' = cc in
    let first = sound.apart sync.0 (key_at rows sync) (key_stands rows ladder sync is refers.1) in
    let second = sound.apart sync'.0 (key_at rows sync') (key_stands rows ladder sync' is refers'.1) in
    let places = sym first ∙ ap (row_with ladder) one_key ∙ second in
    let one_sync : sync.0 ≡ sync'.0 = cc in
    both (root.0 == root'.0) (sync.0 == sync'.0) ((Decides-eqb root.0 root'.0).1 (ap (λ r. r.0) one_root)) ((Decides-eqb sync.0 sync'.0).1 one_sync)
one_origin rows ladder (Star key cell) (Star key' cell') is sound refers refers' e o =
    let one_key : key ≡ key' = cc in
    let one_pci : cell.pci ≡ cell'.pci = cc in
    let one_earfcn : cell.earfcn ≡ cell'.earfcn = cc in
    both (key.0 == key'.0) (cell.pci == cell'.pci && cell.earfcn == cell'.earfcn) ((Decides-eqb key.0 key'.0).1 (ap (λ r. r.0) one_key))
    (both (cell.pci == cell'.pci) (cell.earfcn == cell'.earfcn) ((Decides-eqb cell.pci cell'.pci).1 one_pci)
    ((Decides-eqb cell.earfcn cell'.earfcn).1 one_earfcn))
one_origin rows ladder (Alg key type id) (Alg key' type' id') is sound refers refers' e o =
    let one_key : key ≡ key' = cc in
    let one_kind : distinguisher type ≡ distinguisher type' = cc in
    let one_id : id ≡ id' = cc in
    both (key.0 == key'.0) (distinguisher type == distinguisher type' && id == id') ((Decides-eqb key.0 key'.0).1 (ap (λ r. r.0) one_key))
    (both (distinguisher type == distinguisher type') (id == id')
    ((Decides-eqb (distinguisher type) (distinguisher type')).1 one_kind) ((Decides-eqb id id').1 one_id))
one_origin rows ladder a b is sound refers refers' e o = cc

-- ---- what the ladder needs of a derivation

-- the row of the key that a line names
abbrev pub key_row : LadderLine → Row
key_row (Root key) = row 0
key_row (Kenb root count) = root
key_row (Nh root sync) = root
key_row (Star key cell) = key
key_row (Alg key type id) = key

root_origin : (rows : List KeyRow) (line : LadderLine) → is_root line ≡ true → origin_in rows line ≡ origin.Root
root_origin rows (Root key) h = refl
root_origin rows line h = absurd (false≢true h)

-- a row that passes the test of a root is a root of the ladder
root_stands : (rows : List KeyRow) (ladder : List LadderRow) (r : Row)
    → ladder ≡ ladder_of rows
    → stands_as is_root (map (λ k. k.line) rows) r ≡ true
    → origin_at ladder r.0 ≡ Some origin.Root
root_stands rows ladder r is met =
    let s = stands is_root rows r met in
    ap (option_map (λ l. l.origin)) (row_at rows ladder r.0 s.0 is s.1) ∙ ap Some (root_origin rows s.0.line s.2)

-- what the ladder wants of a derivation, and what it makes of it
pub record Needs (rows : List KeyRow) (ladder : List LadderRow) (line : LadderLine) (made : Derived) : Type 0 where
  pub key : row_with ladder made.key ≡ Some (key_row line).0
  pub root : HasRoot ladder (key_row line).0 made.input
  pub sync : HasSync ladder made.input
  pub out : made.out ≡ kdf made.key made.input
  pub origin : origin_of ladder made ≡ origin_in rows line
  pub octets : made.out ≡ octets_in rows line

pub needs_met : (rows : List KeyRow) (ladder : List LadderRow) (line : LadderLine) (made : Derived)
    → ladder ≡ ladder_of rows
    → IsLadder ladder
    → meets (map (λ k. k.line) rows) line ≡ true
    → derived_in rows line ≡ Some made
    → Needs rows ladder line made
needs_met rows ladder (Root key) made is sound met d = absurd (none-some made d)
needs_met rows ladder (Kenb root count) made is sound met d =
    let first = sound.apart root.0 (key_at rows root) (key_stands rows ladder root is (met_refers rows (Kenb root count) met)) in
    let e : derivation (key_at rows root) (input.Kenb count) ≡ made = cc in
    subst (Needs rows ladder (Kenb root count)) e (record {
      key = first;
      root = root_stands rows ladder root is met;
      sync = tt;
      out = refl;
      origin = ap (λ o. origin.From (row (unwrap_or o 0)) (input.Kenb count)) first;
      octets = refl;
    })
needs_met rows ladder (Nh root sync) made is sound met d =
    let refers = met_refers rows (Nh root sync) met in
    let parts = and_parts (stands_as is_root (map (λ k. k.line) rows) root) (stands_as (is_hop_of root) (map (λ k. k.line) rows) sync) met in
    let first = sound.apart root.0 (key_at rows root) (key_stands rows ladder root is refers.0) in
    let second = sound.apart sync.0 (key_at rows sync) (key_stands rows ladder sync is refers.1) in
    let e : derivation (key_at rows root) (input.Nh (key_at rows sync)) ≡ made = cc in
    subst (Needs rows ladder (Nh root sync)) e (record {
      key = first;
      root = root_stands rows ladder root is parts.0;
      sync = ap is_some second;
      out = refl;
      origin = ap (λ o. origin.From (row (unwrap_or o 0)) (input.Nh (key_at rows sync))) first;
      octets = refl;
    })
needs_met rows ladder (Star key cell) made is sound met d =
    let first = sound.apart key.0 (key_at rows key) (key_stands rows ladder key is (met_refers rows (Star key cell) met)) in
    let e : derivation (key_at rows key) (input.Star cell.pci cell.earfcn) ≡ made = cc in
    subst (Needs rows ladder (Star key cell)) e (record {
      key = first;
      root = tt;
      sync = tt;
      out = refl;
      origin = ap (λ o. origin.From (row (unwrap_or o 0)) (input.Star cell.pci cell.earfcn)) first;
      octets = refl;
    })
needs_met rows ladder (Alg key type id) made is sound met d =
    let first = sound.apart key.0 (key_at rows key) (key_stands rows ladder key is (met_refers rows (Alg key type id) met)) in
    let e : derivation (key_at rows key) (input.Alg (distinguisher type) id) ≡ made = cc in
    subst (Needs rows ladder (Alg key type id)) e (record {
      key = first;
      root = tt;
      sync = tt;
      out = refl;
      origin = ap (λ o. origin.From (row (unwrap_or o 0)) (input.Alg (distinguisher type) id)) first;
      octets = refl;
    })
