-- A row that is held by one more keeps its origin and its octets, and so the rows stay a ladder.
use Rattle.std.proofs.Common.{◌≡◌, ℕ, zero, suc, Some, List, [], ◌∷◌, length, map, take, set, get_or, slice_get, sym, refl, ap, subst, ◌∙◌}
use Rattle.std.specs.{Option.option_map, Option.IsSome, Str.bytes_eq, List.position}
use Rattle.hmac_kdf.specs.{declared.input.KdfInput.KdfInput, Kdf.kdf}
use Rattle.hmac_kdf.specs.declared.input.KdfInput.TheVariants.{Kenb, Nh, Star, Alg}
use Rattle.key_terms.specs.{declared.row.Holder.Holder, declared.row.LadderRow.LadderRow, declared.row.Origin.Origin}
use Rattle.key_terms.specs.declared.row.Holder.TheVariants.{Phone, Core, Station}
use Rattle.key_terms.specs.declared.row.Origin.TheVariants.{Root, From}
use Rattle.key_terms.specs.Ladder.{held_by, holding, row_of, HasRoot, HasSync, IsMade, IsLadder, IsIndexOf}
use Rattle.std.proofs.{lemmas.Option.slice_get-map, lemmas.List.take-map}
use Rattle.key_terms.proofs.{LadderLemmas.stands, Places.position_map}

-- to hold is to write one row
pub holding_set : (who : Holder) (k : ℕ) (rows : List LadderRow) (d : LadderRow) → set rows k (held_by who (get_or rows k d)) ≡ holding who k rows
holding_set who k [] d = refl
holding_set who zero (r ∷ rows) d = refl
holding_set who (suc k) (r ∷ rows) d = ap (λ rs. r ∷ rs) (holding_set who k rows d)

-- what a row is but for its holders
abbrev pub plain : LadderRow → Origin × List ℕ
plain r = (r.origin, r.octets)

plain_held : (who : Holder) (r : LadderRow) → plain (held_by who r) ≡ plain r
plain_held Phone r = refl
plain_held Core r = refl
plain_held (Station number) r = refl

pub plain_holding : (who : Holder) (k : ℕ) (rows : List LadderRow) → map plain (holding who k rows) ≡ map plain rows
plain_holding who k [] = refl
plain_holding who zero (r ∷ rows) = ap (λ p. p ∷ map plain rows) (plain_held who r)
plain_holding who (suc k) (r ∷ rows) = ap (λ ps. plain r ∷ ps) (plain_holding who k rows)

-- what is read of the plain rows
pub read_same : {A : Type 0} (f : Origin × List ℕ → A) (rows after : List LadderRow)
    → map plain after ≡ map plain rows
    → (k : ℕ)
    → option_map (λ r. f (plain r)) (slice_get after k) ≡ option_map (λ r. f (plain r)) (slice_get rows k)
read_same f rows after same k =
    sym (slice_get-map (λ r. f (plain r)) after k)
    ∙ ap (λ xs. slice_get xs k) (mapped f after ∙ ap (map f) same ∙ sym (mapped f rows))
    ∙ slice_get-map (λ r. f (plain r)) rows k
  where
    mapped : {A : Type 0} (f : Origin × List ℕ → A) (rows : List LadderRow) → map (λ r. f (plain r)) rows ≡ map f (map plain rows)
    mapped f [] = refl
    mapped f (r ∷ rows) = ap (λ xs. f (plain r) ∷ xs) (mapped f rows)

-- the first row with these octets
pub row_of_same : (rows after : List LadderRow) → map plain after ≡ map plain rows → (octets : List ℕ) → row_of after octets ≡ row_of rows octets
row_of_same rows after same octets =
    sym (position_map plain (λ p. bytes_eq p.1 octets) after)
    ∙ ap (λ ps. position (λ p. bytes_eq p.1 octets) ps) same
    ∙ position_map plain (λ p. bytes_eq p.1 octets) rows

pub root_same : (rows after : List LadderRow)
    → map plain after ≡ map plain rows
    → (key : ℕ) (input : KdfInput)
    → HasRoot rows key input
    → HasRoot after key input
root_same rows after same key (Kenb count) root = read_same (λ p. p.0) rows after same key ∙ root
root_same rows after same key (Nh sync) root = read_same (λ p. p.0) rows after same key ∙ root
root_same rows after same key (Star pci earfcn) root = tt
root_same rows after same key (Alg kind identity) root = tt

pub sync_same : (rows after : List LadderRow) → map plain after ≡ map plain rows → (input : KdfInput) → HasSync rows input → HasSync after input
sync_same rows after same (Kenb count) sync = tt
sync_same rows after same (Nh octets) sync = subst IsSome (sym (row_of_same rows after same octets)) sync
sync_same rows after same (Star pci earfcn) sync = tt
sync_same rows after same (Alg kind identity) sync = tt

made_same : (rows after : List LadderRow)
    → map plain after ≡ map plain rows
    → (k : ℕ) (origin : Origin) (octets : List ℕ)
    → IsMade rows k origin octets
    → IsMade after k origin octets
made_same rows after same k Root octets made = tt
made_same rows after same k (From key input) octets made = (
  made.0,
  read_same (λ p. kdf p.1 input) rows after same key.0 ∙ made.1,
  root_same rows after same key.0 input made.2,
  sync_same rows after same input made.3,
)

ladder_same : (rows after : List LadderRow) → map plain after ≡ map plain rows → IsLadder rows → IsLadder after
ladder_same rows after same ladder = record {
  apart = λ k octets found. row_of_same rows after same octets ∙ ladder.apart k octets (sym (read_same (λ p. p.1) rows after same k) ∙ found);
  made = λ k r found. made_as k r (stands plain rows k (plain r) (sym (read_same (λ p. p) rows after same k) ∙ ap (option_map plain) found));
}
  where
    made_as : (k : ℕ) (r : LadderRow) → ((r' : LadderRow) × (slice_get rows k ≡ Some r') × (plain r' ≡ plain r)) → IsMade after k r.origin r.octets
    made_as k r row =
        let made = made_same rows after same k row.0.origin row.0.octets (ladder.made k row.0 row.1) in
        subst (λ (p : Origin × List ℕ). IsMade after k p.0 p.1) row.2 made

-- the rows stay a ladder, and the index that of the rows
pub ladder_holding : (who : Holder) (k : ℕ) (rows after : List LadderRow) → after ≡ holding who k rows → IsLadder rows → IsLadder after
ladder_holding who k rows after held ladder = ladder_same rows after (ap (map plain) held ∙ plain_holding who k rows) ladder

pub index_holding : (keys : List (List ℕ)) (who : Holder) (k : ℕ) (rows after : List LadderRow)
    → after ≡ holding who k rows
    → IsIndexOf keys rows
    → IsIndexOf keys after
index_holding keys who k rows after held index =
    let octets : map (λ r. r.octets) after ≡ map (λ r. r.octets) rows = ap (map (λ r. r.octets)) held ∙ octets_holding who k rows in
    index ∙ sym (take-map (λ r. r.octets) (length keys) rows) ∙ sym (ap (take (length keys)) octets) ∙ take-map (λ r. r.octets) (length keys) after
  where
    octets_held : (who : Holder) (r : LadderRow) → (held_by who r).octets ≡ r.octets
    octets_held Phone r = refl
    octets_held Core r = refl
    octets_held (Station number) r = refl

    octets_holding : (who : Holder) (k : ℕ) (rows : List LadderRow) → map (λ r. r.octets) (holding who k rows) ≡ map (λ r. r.octets) rows
    octets_holding who k [] = refl
    octets_holding who zero (r ∷ rows) = ap (λ o. o ∷ map (λ r'. r'.octets) rows) (octets_held who r)
    octets_holding who (suc k) (r ∷ rows) = ap (λ os. r.octets ∷ os) (octets_holding who k rows)

pub length_holding : (who : Holder) (k : ℕ) (rows : List LadderRow) → length (holding who k rows) ≡ length rows
length_holding who k [] = refl
length_holding who zero (r ∷ rows) = refl
length_holding who (suc k) (r ∷ rows) = ap (λ n. suc n) (length_holding who k rows)
