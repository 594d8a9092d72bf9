-- A row put at the end of a ladder keeps it a ladder.
use Rattle.std.proofs.Common.{◌≡◌, ℕ, inl, inr, Option, Some, None, List, [], ◌∷◌, ◌++◌, length, get_or, sym, refl, ap, subst, ◌∙◌}
use Rattle.std.proofs.{lemmas.Bool.false≢true, lemmas.List.Quantifiers.position-Some, lemmas.Slice.Eq.bytes_eq-Decides}
use Rattle.std.specs.{Option.option_map, Option.IsSome, List.slice_get, Str.bytes_eq}
use Rattle.hmac_kdf.specs.{declared.input.KdfInput.KdfInput, Kdf.kdf}
use Rattle.hmac_kdf.specs.declared.input.KdfInput.TheVariants.{Kenb, Nh, Star, Alg}
use Rattle.key_terms.specs.{declared.row.Row.Row, declared.row.LadderRow.LadderRow, declared.row.Origin.Origin}
use Rattle.key_terms.specs.declared.row.Origin.TheVariants.{Root, From}
use Rattle.key_terms.specs.Ladder.{unheld, row_of, AreApart, HasRoot, HasSync, IsMade, AreMade, IsLadder}
use Rattle.std.proofs.lemmas.Option.{slice_get_cases, slice_get-get_or, slice_get_within, none-some}
use Rattle.key_terms.proofs.Places.{position_stays, position_at_end, slice_get_stays, slice_get_push}

-- a row that has something read of it stands
pub stands : {A : Type 0} (f : LadderRow → A) (rows : List LadderRow) (k : ℕ) (a : A)
    → option_map f (slice_get rows k) ≡ Some a
    → (r : LadderRow) × (slice_get rows k ≡ Some r) × (f r ≡ a)
stands f rows k a found =
    elim (slice_get_cases rows k).1 [
      | inl h ↦ let e = sym (ap (option_map f) h.2) ∙ found in (h.0, h.2, cc)
      | inr h ↦ absurd (none-some a (sym (ap (option_map f) h.1) ∙ found))
    ]

-- what is read of a row of the shorter ladder is read of the longer
mapped_stays : {A : Type 0} (f : LadderRow → A) (rows : List LadderRow) (r : LadderRow) (k : ℕ) (a : A)
    → option_map f (slice_get rows k) ≡ Some a
    → option_map f (slice_get (rows ++ r ∷ []) k) ≡ Some a
mapped_stays f rows r k a found =
    let row = stands f rows k a found in
    ap (option_map f) (slice_get_stays rows (r ∷ []) k row.0 row.1) ∙ ap Some row.2

apart_push : (rows : List LadderRow) (r : LadderRow) → AreApart rows → row_of rows r.octets ≡ None → AreApart (rows ++ r ∷ [])
apart_push rows r apart new k octets found =
    let row = stands (λ r'. r'.octets) (rows ++ r ∷ []) k octets found in
    elim (slice_get_push rows r k row.0 row.1) [
      | inl earlier ↦ position_stays _ rows r k (apart k octets (ap (option_map (λ r'. r'.octets)) earlier ∙ ap Some row.2))
      | inr last ↦
          let same : r.octets ≡ octets = sym (ap (λ r'. r'.octets) last.1) ∙ row.2 in
          let free : row_of rows octets ≡ None = subst (λ o. row_of rows o ≡ None) same new in
          position_at_end (λ r'. bytes_eq r'.octets octets) rows r free ((bytes_eq-Decides r.octets octets).1 same) ∙ ap Some (sym last.0)
    ]

root_stays : (rows : List LadderRow) (r : LadderRow) (key : ℕ) (input : KdfInput) → HasRoot rows key input → HasRoot (rows ++ r ∷ []) key input
root_stays rows r key (Kenb count) root = mapped_stays (λ r'. r'.origin) rows r key Root root
root_stays rows r key (Nh sync) root = mapped_stays (λ r'. r'.origin) rows r key Root root
root_stays rows r key (Star pci earfcn) root = tt
root_stays rows r key (Alg kind identity) root = tt

-- a row that is found is found in the longer ladder
found_stays : (rows : List LadderRow) (r : LadderRow) (octets : List ℕ) (o : Option ℕ)
    → row_of rows octets ≡ o
    → IsSome o
    → IsSome (row_of (rows ++ r ∷ []) octets)
found_stays rows r octets None e h = absurd (false≢true h)
found_stays rows r octets (Some k) e h = rw (position_stays (λ r'. bytes_eq r'.octets octets) rows r k e) h

sync_stays : (rows : List LadderRow) (r : LadderRow) (input : KdfInput) → HasSync rows input → HasSync (rows ++ r ∷ []) input
sync_stays rows r (Kenb count) sync = tt
sync_stays rows r (Nh octets) sync = found_stays rows r octets (row_of rows octets) refl sync
sync_stays rows r (Star pci earfcn) sync = tt
sync_stays rows r (Alg kind identity) sync = tt

made_stays : (rows : List LadderRow) (r : LadderRow) (k : ℕ) (origin : Origin) (octets : List ℕ)
    → IsMade rows k origin octets
    → IsMade (rows ++ r ∷ []) k origin octets
made_stays rows r k Root octets made = tt
made_stays rows r k (From key input) octets made =
    (made.0, mapped_stays (λ r'. kdf r'.octets input) rows r key.0 octets made.1, root_stays rows r key.0 input made.2, sync_stays rows r input made.3)

made_push : (rows : List LadderRow) (u : LadderRow) → AreMade rows → IsMade rows (length rows) u.origin u.octets → AreMade (rows ++ u ∷ [])
made_push rows u all made k r found =
    let Made : ℕ → LadderRow → Type 0 = λ k' r'. IsMade (rows ++ u ∷ []) k' r'.origin r'.octets in
    elim (slice_get_push rows u k r found) [
      | inl earlier ↦ made_stays rows u k r.origin r.octets (all k r earlier)
      | inr last ↦
          subst (λ k'. Made k' r) (sym last.0) (subst (λ r'. Made (length rows) r') (sym last.1) (made_stays rows u (length rows) u.origin u.octets made))
    ]

pub ladder_push : (rows : List LadderRow) (origin : Origin) (octets : List ℕ)
    → IsLadder rows
    → row_of rows octets ≡ None
    → IsMade rows (length rows) origin octets
    → IsLadder (rows ++ unheld origin octets ∷ [])
ladder_push rows origin octets ladder new made = record {
  apart = apart_push rows (unheld origin octets) ladder.apart new;
  made = made_push rows (unheld origin octets) ladder.made made;
}

-- the same, where the rows were put by steps
pub ladder_put : (rows before after : List LadderRow) (r : LadderRow) (origin : Origin) (octets : List ℕ)
    → before ≡ rows
    → r ≡ unheld origin octets
    → after ≡ before ++ r ∷ []
    → IsLadder before
    → row_of rows octets ≡ None
    → IsMade rows (length rows) origin octets
    → IsLadder after
ladder_put rows before after r origin octets same row put ladder new made =
    let items : after ≡ rows ++ unheld origin octets ∷ [] = cc in
    subst IsLadder (sym items) (ladder_push rows origin octets (subst IsLadder same ladder) new made)

pub ladder_none : IsLadder []
ladder_none = record { apart = λ k octets found. absurd (none-some octets found); made = λ k r found. absurd (none-some r found) }

-- the row that is found has the octets
pub found_row : (rows : List LadderRow) (octets : List ℕ) (k : ℕ)
    → row_of rows octets ≡ Some k
    → (r : LadderRow) × (slice_get rows k ≡ Some r) × (r.octets ≡ octets)
found_row rows octets k found =
    let nobody : LadderRow = unheld Root [] in
    let first = position-Some (λ r. bytes_eq r.octets octets) rows k nobody found in
    (get_or rows k nobody, slice_get-get_or rows k nobody first.0, (bytes_eq-Decides (get_or rows k nobody).octets octets).0 first.1)

-- a derivation from a row's key is what its origin says
pub made_by : (rows : List LadderRow) (key : List ℕ) (input : KdfInput) (out : List ℕ) (k : Row)
    → row_of rows key ≡ Some k.0
    → out ≡ kdf key input
    → HasRoot rows k.0 input
    → HasSync rows input
    → IsMade rows (length rows) (From k input) out
made_by rows key input out k found value root sync =
    let row = found_row rows key k.0 found in (
      slice_get_within rows k.0 row.0 row.1,
      ap (option_map (λ r. kdf r.octets input)) row.1 ∙ ap (λ o. Some (kdf o input)) row.2 ∙ ap Some (sym value),
      root,
      sync,
    )
