-- A key is found by its words as it is by its octets.
use Rattle.std.proofs.Common.{◌≡◌, ℕ, ◌+◌, ◌^◌, ◌<◌, ◌≤◌, ◌||◌, false, cond, not, nat_lt, inl, inr, Some, None, List, [], ◌∷◌, ◌++◌, All, length, map, take, drop, get_or, sym, refl, ap, ◌∙◌, arith, length-drop, length-take}
use Rattle.std.specs.Int.{w64, to_le_bytes, from_le_bytes}
use Rattle.std.specs.List.{position, position_or_len, list_any}
use Rattle.std.specs.{Bool.Decides, Str.bytes_eq}
use Rattle.std.proofs.lemmas.Bool.Decides.{same_from_decides, Decides-like, Decides-and, Decides-eqb}
use Rattle.std.proofs.{lemmas.Bool.cases_lt, lemmas.Nat.le_bytes_8, lemmas.Nat.from_le_bytes-to_le_bytes_8, lemmas.Slice.Eq.bytes_eq-Decides, Math.Seq.take-length}
use Rattle.std.proofs.lemmas.List.{take-append-drop, drop-drop, get_or_past, map-append}
use Rattle.std.proofs.lemmas.List.Elements.{All-head, All-tail, All-push, All-same, All-take, All-drop, All-get_or, All-from_get_or}
use Rattle.indexmap.specs.IndexSet.{insert_key}
use Rattle.key_terms.specs.{contracts.words.WordsPartialEq.TheImpl.eq-value, declared.words.Words.Words, Words.octets_of, Words.AreWords}
use Rattle.key_terms.proofs.Places.{position_map}

-- 32 octets are four times eight
in_eights : (o : List ℕ) → length o ≡ 32 → take 8 (drop 0 o) ++ (take 8 (drop 8 o) ++ (take 8 (drop 16 o) ++ take 8 (drop 24 o))) ≡ o
in_eights o long =
    let eight : 8 ≡ length (drop 24 o) = omega (arith, long, length-drop 24 o) in
    let last : take 8 (drop 24 o) ≡ drop 24 o = ap (λ n. take n (drop 24 o)) eight ∙ take-length (drop 24 o) in
    let third : take 8 (drop 16 o) ++ drop 24 o ≡ drop 16 o = ap (λ r. take 8 (drop 16 o) ++ r) (sym (drop-drop 8 16 o)) ∙ take-append-drop 8 (drop 16 o) in
    let second : take 8 (drop 8 o) ++ drop 16 o ≡ drop 8 o = ap (λ r. take 8 (drop 8 o) ++ r) (sym (drop-drop 8 8 o)) ∙ take-append-drop 8 (drop 8 o) in
    ap (λ r. take 8 o ++ (take 8 (drop 8 o) ++ (take 8 (drop 16 o) ++ r))) last
    ∙ ap (λ r. take 8 o ++ (take 8 (drop 8 o) ++ r)) third
    ∙ ap (λ r. take 8 o ++ r) second
    ∙ take-append-drop 8 o

-- words that have the octets in their order have these octets
pub octets_of_words : (w : Words) (o : List ℕ) → length o ≡ 32
    → to_le_bytes w64 w.first ≡ take 8 (drop 0 o) → to_le_bytes w64 w.second ≡ take 8 (drop 8 o)
    → to_le_bytes w64 w.third ≡ take 8 (drop 16 o) → to_le_bytes w64 w.fourth ≡ take 8 (drop 24 o) → octets_of w ≡ o
unfolding octets_of
octets_of_words w o long first second third fourth = (λ k. first k ++ (second k ++ (third k ++ fourth k))) ∙ in_eights o long

-- the word that is read from eight octets has them
pub word_has : (octets : List ℕ) (place n : ℕ) → place + 8 ≤ length octets → ((i : ℕ) → get_or octets i 0 < 256)
    → n ≡ from_le_bytes w64 (take 8 (drop place octets)) → to_le_bytes w64 n ≡ take 8 (drop place octets)
word_has octets place n within fit read =
    let many : length (take 8 (drop place octets)) ≡ 8 = simp (length-take, length-drop) (omega (arith, within)) in
    le_bytes_8 (take 8 (drop place octets)) n many
    (octet (take 8 (drop place octets))
    (All-take (λ x. x < 256) 8 (drop place octets) (All-drop (λ x. x < 256) place octets all)))
    read
  where
    all : All (λ x. x < 256) octets
    all = All-from_get_or (λ x. x < 256) octets 0 (λ i _. fit i)

    octet : (xs : List ℕ) → All (λ x. x < 256) xs → (i : ℕ) → get_or xs i 0 < 256
    octet xs all i =
        elim (cases_lt i (length xs)) [
          | inl lt ↦ All-get_or (λ x. x < 256) xs i 0 lt all
          | inr le ↦ rw (get_or_past xs i 0 le) (omega arith)
        ]

-- words with the same octets are the same
one_by_octets : (w v : Words) → AreWords w → AreWords v → octets_of w ≡ octets_of v → w ≡ v
unfolding octets_of
one_by_octets w v fits fits' e =
    let first : w.first ≡ v.first = read w.first v.first fits.first fits'.first (ap (take 8) e) in
    let second : w.second ≡ v.second = read w.second v.second fits.second fits'.second (ap (λ o. take 8 (drop 8 o)) e) in
    let third : w.third ≡ v.third = read w.third v.third fits.third fits'.third (ap (λ o. take 8 (drop 16 o)) e) in
    let fourth : w.fourth ≡ v.fourth = read w.fourth v.fourth fits.fourth fits'.fourth (ap (λ o. take 8 (drop 24 o)) e) in
    λ k. record { first = first k; second = second k; third = third k; fourth = fourth k }
  where
    read : (m n : ℕ) → m < 2 ^ 64 → n < 2 ^ 64 → to_le_bytes w64 m ≡ to_le_bytes w64 n → m ≡ n
    read m n fits fits' same = sym (from_le_bytes-to_le_bytes_8 m fits) ∙ ap (from_le_bytes w64) same ∙ from_le_bytes-to_le_bytes_8 n fits'

-- the derived test says whether words are the same
decides_words : (w v : Words) → Decides (eq-value.it w v) (w ≡ v)
decides_words w v =
    Decides-like (eq-value.it w v) (λ h. record_of h) (λ e. (ap (λ x. x.first) e, (ap (λ x. x.second) e, (ap (λ x. x.third) e, ap (λ x. x.fourth) e))))
    (Decides-and _ _ (Decides-eqb w.first v.first)
    (Decides-and _ _ (Decides-eqb w.second v.second)
    (Decides-and _ _ (Decides-eqb w.third v.third) (Decides-eqb w.fourth v.fourth))))
  where
    record_of : (w.first ≡ v.first) × ((w.second ≡ v.second) × ((w.third ≡ v.third) × (w.fourth ≡ v.fourth))) → w ≡ v
    record_of h = λ k. record { first = h.0 k; second = h.1.0 k; third = h.1.1.0 k; fourth = h.1.1.1 k }

-- so it says whether their octets are
same_test : (w v : Words) → AreWords w → AreWords v → eq-value.it w v ≡ bytes_eq (octets_of w) (octets_of v)
same_test w v fits fits' =
    same_from_decides (eq-value.it w v) (bytes_eq (octets_of w) (octets_of v)) (decides_words w v)
    (Decides-like (bytes_eq (octets_of w) (octets_of v)) (one_by_octets w v fits fits') (λ e. ap octets_of e) (bytes_eq-Decides (octets_of w) (octets_of v)))

-- the first place at which words stand is that of their octets
pub found_by_words : (w : Words) (keys : List Words) (octets : List ℕ) → octets_of w ≡ octets → AreWords w → All AreWords keys
    → position (eq-value.it w) keys ≡ position (bytes_eq octets) (map octets_of keys)
found_by_words w keys octets same fits all =
    ap (λ n. cond (nat_lt n (length keys)) (Some n) None) (place keys all)
    ∙ sym (position_map octets_of (bytes_eq (octets_of w)) keys)
    ∙ ap (λ o. position (bytes_eq o) (map octets_of keys)) same
  where
    place : (keys : List Words) → All AreWords keys → position_or_len (eq-value.it w) keys ≡ position_or_len (λ v. bytes_eq (octets_of w) (octets_of v)) keys
    place [] all = refl
    place (v ∷ keys) all =
        let here = same_test w v fits (All-head AreWords v keys all) in
        λ k. cond (not (here k)) (1 + place keys (All-tail AreWords v keys all) k) 0

-- words stand in a list where their octets do
any_by_words : (w : Words) (keys : List Words)
    → AreWords w
    → All AreWords keys
    → list_any (eq-value.it w) keys ≡ list_any (bytes_eq (octets_of w)) (map octets_of keys)
any_by_words w [] fits all = refl
any_by_words w (v ∷ keys) fits all =
    let here = same_test w v fits (All-head AreWords v keys all) in
    λ k. here k || any_by_words w keys fits (All-tail AreWords v keys all) k

-- new words go to the end
pub words_push : (w : Words) (keys after : List Words) (octets : List ℕ) → octets_of w ≡ octets → AreWords w → All AreWords keys
    → list_any (bytes_eq octets) (map octets_of keys) ≡ false → after ≡ insert_key eq-value.it keys w
    → All AreWords after × (map octets_of after ≡ map octets_of keys ++ octets ∷ [])
words_push w keys after octets same fits all new put =
    let absent : list_any (eq-value.it w) keys ≡ false = any_by_words w keys fits all ∙ ap (λ o. list_any (bytes_eq o) (map octets_of keys)) same ∙ new in
    let end : after ≡ keys ++ w ∷ [] = put ∙ ap (λ b. cond b keys (keys ++ w ∷ [])) absent in (
      All-same AreWords after (keys ++ w ∷ []) end (All-push AreWords keys w all fits),
      ap (map octets_of) end ∙ map-append octets_of keys (w ∷ []) ∙ ap (λ o. map octets_of keys ++ o ∷ []) same,
    )
