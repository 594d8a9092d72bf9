-- Where the ladder puts a line's row.
use Rattle.std.proofs.Common.{◌≡◌, ℕ, suc, ◌<◌, ◌⊎◌, Bool, true, not, Option, Some, None, Result, Ok, Err, List, [], ◌∷◌, ◌++◌, map, length, get_or, sym, refl, ap, subst, ◌∙◌, arith, inl, inr, length-append}
use Rattle.std.proofs.{lemmas.Bool.false≢true, lemmas.List.Folds.list_any_at, lemmas.List.Quantifiers.position-Some, lemmas.List.Sums.fails_before_first}
use Rattle.std.proofs.lemmas.List.{length-map, get_or-map, map-append}
use Rattle.std.proofs.lemmas.Option.{none-some, slice_get-get_or, slice_get_within, get_or_from_slice_get, slice_get-map}
use Rattle.std.specs.{List.slice_get, List.position, Option.option_map, Option.option_map_or, Result.OnErr, Result.is_err, Str.bytes_eq}
use Rattle.annex_a_keys.specs.AlgType.{distinguisher}
use Rattle.hmac_kdf.specs.declared.input.KdfInput.TheVariants as input
use Rattle.hmac_kdf.specs.Kdf.{kdf}
use Rattle.key_terms.specs.{declared.ladder.LadderFault.LadderFault, declared.row.LadderRow.LadderRow, declared.row.Origin.Origin, declared.row.Row.Row}
use Rattle.key_terms.specs.declared.ladder.LadderFault.TheVariants as fault
use Rattle.key_terms.specs.declared.row.Origin.TheVariants as origin
use Rattle.key_terms.specs.Ladder.{row, unheld, octets_at, origin_at, IsLadder, Coincides, row_of as row_with}
use Rattle.key_terms.proofs.LadderLemmas.{found_row}
use Rattle.key_terms.proofs.Places.{position-None, slice_get_stays, slice_get_push}
use Rattle.ladder_text.specs.{declared.line.LadderLine.LadderLine, Text.same, Text.meets}
use Rattle.ladder_text.specs.declared.line.LadderLine.TheVariants.{Root, Kenb, Nh, Star, Alg}
use Rattle.ladder_text.specs.Report.{KeyRow, key_at, octets_in, Place, Again, Anew, Taken, place_by_octets, place_in, rows_after}
use Rattle.ladder_text.specs.Rows.{origin_in, Refers, StandsFor, answer_at}
use Rattle.ladder_text.proofs.Rows.{found_or_not, row_in, row_at, one_origin, octets_place}
use Rattle.ladder_text.proofs.Same.{same_line}

-- the test of a row for a line
abbrev is_same : LadderLine → KeyRow → Bool
is_same line r = same r.line line

-- a line that is a row's derivation has the row's octets and origin
again_row : (rows : List KeyRow) (ladder : List LadderRow) (line : LadderLine) (k : ℕ)
    → StandsFor rows ladder
    → IsLadder ladder
    → position (is_same line) rows ≡ Some k
    → (row_with ladder (octets_in rows line) ≡ Some k) × (origin_at ladder k ≡ Some (origin_in rows line))
again_row rows ladder line k stand sound found =
    let d : KeyRow = record { line = line; octets = [] } in
    let first = position-Some (is_same line) rows k d found in
    let r = get_or rows k d in
    let r_at = slice_get-get_or rows k d first.0 in
    let one = same_line r.line line first.1 in
    let octets : r.octets ≡ octets_in rows line = stand.octets k r r_at ∙ ap (octets_in rows) one in
    let in_ladder = row_at rows ladder k r stand.is r_at in
    let octets_there : octets_at ladder k ≡ Some (octets_in rows line) = ap (option_map (λ l. l.octets)) in_ladder ∙ ap Some octets in
    (sound.apart k (octets_in rows line) octets_there, ap (option_map (λ l. l.origin)) in_ladder ∙ ap (λ l. Some (origin_in rows l)) one)

-- the row of the same derivation has the line's octets
pub again_key : (rows : List KeyRow) (ladder : List LadderRow) (line : LadderLine) (k : ℕ)
    → StandsFor rows ladder
    → position (λ r. same r.line line) rows ≡ Some k
    → key_at rows (row k) ≡ octets_in rows line
again_key rows ladder line k stand found =
    let d : KeyRow = record { line = line; octets = [] } in
    let first = position-Some (is_same line) rows k d found in
    let r_at = slice_get-get_or rows k d first.0 in
    ap (λ o. option_map_or (λ r. r.octets) o []) r_at
    ∙ stand.octets k (get_or rows k d) r_at
    ∙ ap (octets_in rows) (same_line (get_or rows k d).line line first.1)

-- a row with the octets of a line that is no row's derivation has another origin
taken_row : (rows : List KeyRow) (ladder : List LadderRow) (line : LadderLine) (k : ℕ)
    → StandsFor rows ladder
    → IsLadder ladder
    → Refers rows line
    → position (is_same line) rows ≡ None
    → row_with ladder (octets_in rows line) ≡ Some k
    → Coincides ladder (origin_in rows line) (octets_in rows line) k
taken_row rows ladder line k stand sound refers none found = record {
  stands = found;
  other = λ e. elim (found_or_not rows k) [
    | inl r ↦
        let there = row_at rows ladder k r.0 stand.is r.1 in
        let l = found_row ladder (octets_in rows line) k found in
        let same_row : row_in rows r.0 ≡ l.0 = let both = sym there ∙ l.1 in cc in
        let octets : octets_in rows r.0.line ≡ octets_in rows line = sym (stand.octets k r.0 r.1) ∙ ap (λ l'. l'.octets) same_row ∙ l.2 in
        let origins : origin_in rows r.0.line ≡ origin_in rows line = let both = sym (ap (option_map (λ l'. l'.origin)) there) ∙ e in cc in
        let is : same r.0.line line ≡ true = one_origin rows ladder r.0.line line stand.is sound (stand.refers k r.0 r.1) refers origins octets in
        let within = slice_get_within rows k r.0 r.1 in
        let past = position-None (is_same line) rows none in
        let fails = fails_before_first (is_same line) rows k r.0 (omega (arith, past, within)) in
        let at : get_or rows k r.0 ≡ r.0 = get_or_from_slice_get rows k r.0 r.0 r.1 in
        absurd (false≢true (sym fails ∙ ap (is_same line) at ∙ is))
    | inr none' ↦
        let l = found_row ladder (octets_in rows line) k found in
        absurd (none-some l.0 (sym (ap (λ l'. slice_get l' k) stand.is ∙ slice_get-map (row_in rows) rows k ∙ ap (option_map (row_in rows)) none'.1) ∙ l.1))
  ];
}

-- ---- one row more

key_stays : (rows : List KeyRow) (n : KeyRow) (k : Row) → k.0 < length rows → key_at (rows ++ n ∷ []) k ≡ key_at rows k
key_stays rows n k within =
    elim (found_or_not rows k.0) [
      | inl r ↦ ap (λ o. option_map_or (λ r'. r'.octets) o []) (slice_get_stays rows (n ∷ []) k.0 r.0 r.1 ∙ sym r.1)
      | inr none ↦ absurd (omega (arith, within, none.0))
    ]

octets_stay : (rows : List KeyRow) (n : KeyRow) (line : LadderLine) → Refers rows line → octets_in (rows ++ n ∷ []) line ≡ octets_in rows line
octets_stay rows n (Root key) refers = refl
octets_stay rows n (Kenb root count) refers = ap (λ k. kdf k (input.Kenb count)) (key_stays rows n root refers)
octets_stay rows n (Nh root sync) refers =
    ap (λ k. kdf k (input.Nh (key_at (rows ++ n ∷ []) sync))) (key_stays rows n root refers.0)
    ∙ ap (λ s. kdf (key_at rows root) (input.Nh s)) (key_stays rows n sync refers.1)
octets_stay rows n (Star key cell) refers = ap (λ k. kdf k (input.Star cell.pci cell.earfcn)) (key_stays rows n key refers)
octets_stay rows n (Alg key type id) refers = ap (λ k. kdf k (input.Alg (distinguisher type) id)) (key_stays rows n key refers)

origin_stays : (rows : List KeyRow) (n : KeyRow) (line : LadderLine) → Refers rows line → origin_in (rows ++ n ∷ []) line ≡ origin_in rows line
origin_stays rows n (Root key) refers = refl
origin_stays rows n (Kenb root count) refers = refl
origin_stays rows n (Nh root sync) refers = ap (λ s. origin.From root (input.Nh s)) (key_stays rows n sync refers.1)
origin_stays rows n (Star key cell) refers = refl
origin_stays rows n (Alg key type id) refers = refl

refers_more : (rows : List KeyRow) (n : KeyRow) (line : LadderLine) → Refers rows line → Refers (rows ++ n ∷ []) line
refers_more rows n (Root key) refers = tt
refers_more rows n (Kenb root count) refers = omega (arith, refers, length-append rows (n ∷ []))
refers_more rows n (Nh root sync) refers = (omega (arith, refers.0, length-append rows (n ∷ [])), omega (arith, refers.1, length-append rows (n ∷ [])))
refers_more rows n (Star key cell) refers = omega (arith, refers, length-append rows (n ∷ []))
refers_more rows n (Alg key type id) refers = omega (arith, refers, length-append rows (n ∷ []))

map_same : {X Y : Type 0} (f g : X → Y) (xs : List X) → ((k : ℕ) (x : X) → slice_get xs k ≡ Some x → f x ≡ g x) → map f xs ≡ map g xs
map_same f g [] each = refl
map_same f g (x ∷ xs) each =
    ap (λ y. y ∷ map f xs) (each 0 x refl) ∙ ap (λ ys. g x ∷ ys) (map_same f g xs (λ k y found. each (suc k) y found))

stands_more : (rows : List KeyRow) (ladder after : List LadderRow) (line : LadderLine) (o : Origin) (octets : List ℕ)
    → StandsFor rows ladder
    → Refers rows line
    → o ≡ origin_in rows line
    → octets ≡ octets_in rows line
    → after ≡ ladder ++ unheld o octets ∷ []
    → StandsFor (rows ++ record { line = line; octets = octets_in rows line } ∷ []) after
stands_more rows ladder after line o octets stand refers origins is_octets put =
    let n : KeyRow = record { line = line; octets = octets_in rows line } in
    let more : List KeyRow = rows ++ n ∷ [] in
    let front : ladder ≡ map (row_in more) rows =
    stand.is
    ∙ map_same (row_in rows) (row_in more) rows
    (λ k r found. ap (λ o'. unheld o' r.octets) (sym (origin_stays rows n r.line (stand.refers k r found)))) in
    let last : unheld o octets ≡ row_in more n =
    ap (λ o'. unheld o' octets) (origins ∙ sym (origin_stays rows n line refers)) ∙ ap (unheld (origin_in more line)) is_octets in
    record {
      is = put ∙ ap (λ l. l ++ unheld o octets ∷ []) front ∙ ap (λ u. map (row_in more) rows ++ u ∷ []) last ∙ sym (map-append (row_in more) rows (n ∷ []));
      octets = λ k r found. elim (slice_get_push rows n k r found) [
        | inl earlier ↦ stand.octets k r earlier ∙ sym (octets_stay rows n r.line (stand.refers k r earlier))
        | inr end ↦ ap (λ r'. r'.octets) end.1 ∙ sym (octets_stay rows n line refers) ∙ ap (λ r'. octets_in more r'.line) (sym end.1)
      ];
      refers = λ k r found. elim (slice_get_push rows n k r found) [
        | inl earlier ↦ refers_more rows n r.line (stand.refers k r earlier)
        | inr end ↦ subst (λ r'. Refers more r'.line) (sym end.1) (refers_more rows n line refers)
      ];
    }

-- the answer and the rows at the place that a line finds
abbrev AnsweredAt : List KeyRow → LadderLine → Result Row LadderFault → List LadderRow → Place → Type 0
AnsweredAt rows line result after p = (result ≡ answer_at p rows line) × StandsFor (rows_after p rows line) after

-- a found number, or none
pub number_or_none : (o : Option ℕ) → ((k : ℕ) × (o ≡ Some k)) ⊎ (o ≡ None)
number_or_none (Some k) = inl (k, refl)
number_or_none None = inr refl

-- The ladder answers a line by its place. In `again` the line is a row's derivation.
pub answered : (rows : List KeyRow) (ladder after : List LadderRow) (line : LadderLine) (o : Origin) (octets : List ℕ)
    (result : Result Row LadderFault)
    → StandsFor rows ladder
    → IsLadder ladder
    → Refers rows line
    → o ≡ origin_in rows line
    → octets ≡ octets_in rows line
    → (row_with ladder octets ≡ None → (result ≡ Ok (row (length ladder))) × (after ≡ ladder ++ unheld o octets ∷ []))
    → ((k : ℕ)
    → position (λ r. same r.line line) rows ≡ Some k
    → row_with ladder octets ≡ Some k
    → origin_at ladder k ≡ Some o
    → (result ≡ Ok (row k)) × (after ≡ ladder))
    → ((k : ℕ) → Coincides ladder o octets k → (result ≡ Err (fault.Coincidence (row k) o)) × (after ≡ ladder))
    → (result ≡ answer_at (place_in rows line) rows line) × StandsFor (rows_after (place_in rows line) rows line) after
answered rows ladder after line o octets result stand sound refers origins is_octets new again taken =
    let At : Place → Type 0 = λ p. AnsweredAt rows line result after p in
    let with_octets : row_with ladder octets ≡ position (λ r. bytes_eq r.octets (octets_in rows line)) rows =
    ap (row_with ladder) is_octets ∙ octets_place rows ladder (octets_in rows line) stand.is in
    let long : length ladder ≡ length rows = ap length stand.is ∙ length-map rows (row_in rows) in
    elim (number_or_none (position (is_same line) rows)) [
      | inl k ↦
          let facts = again_row rows ladder line k.0 stand sound k.1 in
          let r = again k.0 k.1 (ap (row_with ladder) is_octets ∙ facts.0) (facts.1 ∙ ap Some (sym origins)) in
          let place : place_in rows line ≡ Again k.0 = ap (λ p. option_map_or Again p (place_by_octets rows (octets_in rows line))) k.1 in
          subst At (sym place) (r.0, subst (StandsFor rows) (sym r.1) stand)
      | inr none ↦
          let by_octets : place_in rows line ≡ place_by_octets rows (octets_in rows line) =
          ap (λ p. option_map_or Again p (place_by_octets rows (octets_in rows line))) none in
          elim (number_or_none (row_with ladder octets)) [
            | inl k ↦
                let c = taken_row rows ladder line k.0 stand sound refers none (sym (ap (row_with ladder) is_octets) ∙ k.1) in
                let c' = subst (λ o'. Coincides ladder o' octets k.0) (sym origins)
                (subst (λ v. Coincides ladder (origin_in rows line) v k.0) (sym is_octets) c) in
                let r = taken k.0 c' in
                let place : place_in rows line ≡ Taken k.0 = by_octets ∙ ap (λ p. option_map_or Taken p Anew) (sym with_octets ∙ k.1) in
                subst At (sym place) (r.0 ∙ ap (λ o'. Err (fault.Coincidence (row k.0) o')) origins, subst (StandsFor rows) (sym r.1) stand)
            | inr free ↦
                let r = new free in
                let place : place_in rows line ≡ Anew = by_octets ∙ ap (λ p. option_map_or Taken p Anew) (sym with_octets ∙ free) in
                subst At (sym place) (r.0 ∙ ap (λ k. Ok (row k)) long, stands_more rows ladder after line o octets stand refers origins is_octets r.1)
          ]
    ]

-- a root whose need is met is no row's derivation
root_is_new : (rows : List KeyRow) (key : List ℕ) (k : ℕ)
    → meets (map (λ r. r.line) rows) (Root key) ≡ true
    → position (λ r. same r.line (Root key)) rows ≡ Some k
    → ⊥
root_is_new rows key k met found =
    let d : KeyRow = record { line = Root key; octets = [] } in
    let first = position-Some (is_same (Root key)) rows k d found in
    let lines = map (λ r. r.line) rows in
    let at : get_or lines k (Root key) ≡ (get_or rows k d).line = get_or-map (λ r. r.line) rows k d (Root key) first.0 in
    let some = list_any_at (λ line. same line (Root key)) lines k (Root key)
    (omega (arith, first.0, length-map rows (λ r. r.line))) (ap (λ l. same l (Root key)) at ∙ first.1) in
    false≢true (sym (ap not some) ∙ met)

pub root_never_again : (rows : List KeyRow) (line : LadderLine) (key : List ℕ) (k : ℕ)
    → line ≡ Root key
    → meets (map (λ r. r.line) rows) line ≡ true
    → position (λ r. same r.line line) rows ≡ Some k
    → ⊥
root_never_again rows line key k is met found =
    let Found : LadderLine → Type 0 = λ l. position (λ r. same r.line l) rows ≡ Some k in
    root_is_new rows key k (subst (λ l. meets (map (λ r. r.line) rows) l ≡ true) is met) (subst Found is found)

-- what an error leaves
pub at_error : {T E P : Type 0} (r : Result T E) (e : E) → r ≡ Err e → OnErr r P → P
at_error (Ok x) e is p = absurd (false≢true (ap is_err is))
at_error (Err e') e is p = p
