-- Words as their octets: sums, and the tables of a round.
use Rattle.std.proofs.Common.{◌≡◌, ℕ, suc, ◌+◌, ◌*◌, ◌/◌, ◌%◌, ◌^◌, ◌<◌, List, [], ◌∷◌, ◌++◌, map, length, get_or, refl, ap, sym, ◌∙◌, arith}
use Rattle.std.specs.{Prelude.All, Prelude.bit_xor, Int.Bits.xor_assoc, Int.w32, Int.from_be_bytes, List.range_with_len}
use Rattle.std.proofs.lemmas.Nat.{xor_comm, xor_mod, xor_shr}
use Rattle.std.proofs.{lemmas.List.get_or-map, lemmas.List.FromFn.fill_by_all}
use Rattle.aes_core.specs.{Field.multiply, SBox.sub_byte, KeyExpansion.add_words, declared.s_box.TheConstants.S_BOX}
use Rattle.aes_core.specs.RoundTable.{column_product, table_entry, turned_down}
use Rattle.aes_core.specs.Word.{mixed_column, word_number, word_octets}
use Rattle.aes_core.specs.declared.round_tables.TheConstants.{ROUND_0, ROUND_1, ROUND_2, ROUND_3}
use Rattle.aes_core.proofs.SBoxTable.{get_or-S_BOX}

pub four_same : (a b c d a' b' c' d' : ℕ) → a ≡ a' → b ≡ b' → c ≡ c' → d ≡ d'
    → a ∷ b ∷ c ∷ d ∷ [] ≡ a' ∷ b' ∷ c' ∷ d' ∷ []
four_same a b c d a' b' c' d' p q r s = cc

octet-xor : (v w k : ℕ) → bit_xor v w / 2 ^ k % 256 ≡ bit_xor (v / 2 ^ k % 256) (w / 2 ^ k % 256)
octet-xor v w k = ap (λ n. n % 256) (xor_shr v w k) ∙ xor_mod (v / 2 ^ k) (w / 2 ^ k) 8

-- the octets of a sum
pub word_octets-xor : (v w : ℕ) → word_octets (bit_xor v w) ≡ add_words (word_octets v) (word_octets w)
unfolding word_octets
word_octets-xor v w =
    four_same _ _ _ _ _ _ _ _ (octet-xor v w 24) (octet-xor v w 16) (octet-xor v w 8) (xor_mod v w 8)

-- the octets of a word that was made of four
pub word_octets-from : (a b c d n : ℕ) → a < 256 → b < 256 → c < 256 → d < 256
    → n ≡ from_be_bytes w32 (a ∷ b ∷ c ∷ d ∷ []) → word_octets n ≡ a ∷ b ∷ c ∷ d ∷ []
unfolding word_octets
word_octets-from a b c d n p q r s e = rw e (four_same _ _ _ _ _ _ _ _ (omega arith) (omega arith) (omega arith) (omega arith))

-- a word is the number of its octets
pub word_number-word_octets : (w : ℕ) → w < 2 ^ 32 → word_number (word_octets w) ≡ w
unfolding word_number word_octets
word_number-word_octets w h = omega arith

-- ---- the tables

-- a table that has the values of f at the S-box has them at each index
at_index : (table : List ℕ) (f : ℕ → List ℕ) → map word_octets table ≡ map f S_BOX → length table ≡ 256
    → (x : ℕ) → x < 256 → word_octets (get_or table x 0) ≡ f (sub_byte x)
at_index table f e long x h =
    sym (get_or-map word_octets table x 0 [] (omega arith))
    ∙ ap (λ words. get_or words x []) e
    ∙ get_or-map f S_BOX x 0 [] h
    ∙ ap f (get_or-S_BOX x h)

all_0 : map word_octets ROUND_0 ≡ map (λ s. turned_down 0 (column_product s)) S_BOX
unfolding word_octets multiply
all_0 = refl

all_1 : map word_octets ROUND_1 ≡ map (λ s. turned_down 1 (column_product s)) S_BOX
unfolding word_octets multiply
all_1 = refl

all_2 : map word_octets ROUND_2 ≡ map (λ s. turned_down 2 (column_product s)) S_BOX
unfolding word_octets multiply
all_2 = refl

all_3 : map word_octets ROUND_3 ≡ map (λ s. turned_down 3 (column_product s)) S_BOX
unfolding word_octets multiply
all_3 = refl

pub entry_0 : (x : ℕ) → x < 256 → word_octets (get_or ROUND_0 x 0) ≡ table_entry 0 x
entry_0 = at_index ROUND_0 (λ s. turned_down 0 (column_product s)) all_0 refl

pub entry_1 : (x : ℕ) → x < 256 → word_octets (get_or ROUND_1 x 0) ≡ table_entry 1 x
entry_1 = at_index ROUND_1 (λ s. turned_down 1 (column_product s)) all_1 refl

pub entry_2 : (x : ℕ) → x < 256 → word_octets (get_or ROUND_2 x 0) ≡ table_entry 2 x
entry_2 = at_index ROUND_2 (λ s. turned_down 2 (column_product s)) all_2 refl

pub entry_3 : (x : ℕ) → x < 256 → word_octets (get_or ROUND_3 x 0) ≡ table_entry 3 x
entry_3 = at_index ROUND_3 (λ s. turned_down 3 (column_product s)) all_3 refl

-- a sum of four, with the first put last
turn : (a b c d : ℕ) → bit_xor (bit_xor (bit_xor a b) c) d ≡ bit_xor (bit_xor (bit_xor b c) d) a
turn a b c d =
    ap (λ n. bit_xor n d) (xor_assoc a b c)
    ∙ xor_assoc a (bit_xor b c) d
    ∙ xor_comm a (bit_xor (bit_xor b c) d)

-- the sum of one entry of each table is a column of MixColumns
pub mixed_entries : (t u v w p q r s : ℕ)
    → word_octets t ≡ turned_down 0 (column_product p) → word_octets u ≡ turned_down 1 (column_product q)
    → word_octets v ≡ turned_down 2 (column_product r) → word_octets w ≡ turned_down 3 (column_product s)
    → word_octets (bit_xor (bit_xor (bit_xor t u) v) w) ≡ mixed_column (p ∷ q ∷ r ∷ s ∷ [])
mixed_entries t u v w p q r s e f g h =
    let sum : word_octets (bit_xor (bit_xor (bit_xor t u) v) w)
    ≡ add_words (add_words (add_words (turned_down 0 (column_product p)) (turned_down 1 (column_product q)))
    (turned_down 2 (column_product r)))
    (turned_down 3 (column_product s)) =
    rw (word_octets-xor (bit_xor (bit_xor t u) v) w, word_octets-xor (bit_xor t u) v, word_octets-xor t u, e, f, g, h) refl in
    sum
    ∙ four_same _ _ _ _ _ _ _ _ refl
    (turn p (multiply 2 q) (multiply 3 r) s)
    (turn p q (multiply 2 r) (multiply 3 s) ∙ turn q (multiply 2 r) (multiply 3 s) p)
    (sym (turn (multiply 2 s) (multiply 3 p) q r))

-- ---- states as their columns

pub four_words : (v w x y v' w' x' y' : List ℕ) → v ≡ v' → w ≡ w' → x ≡ x' → y ≡ y'
    → v ++ (w ++ (x ++ y)) ≡ v' ++ (w' ++ (x' ++ y'))
four_words v w x y v' w' x' y' p q r s = cc

-- a block, octet by octet
pub sixteen : (block : List ℕ) → length block ≡ 16 → map (λ k. get_or block k 0) (range_with_len 0 16) ≡ block
sixteen block long = sym (fill_by_all (λ k. get_or block k 0) block 16 0 long (λ k h. refl))

-- word i of round key n
pub key_column : (words : List ℕ) (n i j : ℕ) → j ≡ 4 * n + i → j < length words
    → word_octets (get_or words j 0) ≡ get_or (map word_octets words) (4 * n + i) []
key_column words n i j e l =
    sym (get_or-map word_octets words j 0 [] l) ∙ ap (λ k. get_or (map word_octets words) k []) e

pub four_lists : (v w x y v' w' x' y' : List ℕ) → v ≡ v' → w ≡ w' → x ≡ x' → y ≡ y'
    → v ∷ w ∷ x ∷ y ∷ [] ≡ v' ∷ w' ∷ x' ∷ y' ∷ []
four_lists v w x y v' w' x' y' p q r s = cc

-- words are the numbers of their octets
pub words_of_octets : (words : List ℕ) → All (λ w. w < 2 ^ 32) words → words ≡ map word_number (map word_octets words)
words_of_octets [] h = refl
words_of_octets (w ∷ ws) h =
    let first : w < 2 ^ 32 = h 0 0 (omega arith) in
    let rest = words_of_octets ws (λ k d l. h (suc k) d (omega arith)) in
    rw (word_number-word_octets w first, ← rest) refl

-- a sum of two words, the second one put first
pub sums_turned : (v v' w : List ℕ) → v ≡ v' → add_words v w ≡ add_words w v'
sums_turned v v' w e =
    ap (λ u. add_words u w) e
    ∙ four_same _ _ _ _ _ _ _ _ (xor_comm (get_or v' 0 0) (get_or w 0 0)) (xor_comm (get_or v' 1 0) (get_or w 1 0))
    (xor_comm (get_or v' 2 0) (get_or w 2 0)) (xor_comm (get_or v' 3 0) (get_or w 3 0))
