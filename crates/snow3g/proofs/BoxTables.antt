-- The tables of the code against the S-boxes, and the sum of one entry of each.
use Rattle.std.proofs.Common.{◌≡◌, ℕ, ◌/◌, ◌%◌, ◌^◌, ◌<◌, List, [], ◌∷◌, map, length, get_or, replicate, refl, ap, sym, ◌∙◌, arith}
use Rattle.std.specs.{Prelude.bit_xor, List.range_with_len}
use Rattle.std.proofs.{lemmas.Nat.xor_of_32, lemmas.List.get_or-map, lemmas.List.get_or-replicate, lemmas.List.FromFn.get_or-map-range_with_len}
use Rattle.aes_core.specs.{Field.multiply, Word.word_number, Word.word_octets}
use Rattle.aes_core.specs.SBox.{affine, inverse, sub_byte}
use Rattle.aes_core.proofs.WordLemmas.{word_number-word_octets, word_octets-xor}
use Rattle.snow3g.specs.Octets.{mulx}
use Rattle.snow3g.specs.Boxes.{mixed, power, s1, s2, sq}
use Rattle.snow3g.specs.declared.s1_box.TheConstants.{S1_0, S1_1, S1_2, S1_3}
use Rattle.snow3g.specs.declared.s2_box.TheConstants.{S2_0, S2_1, S2_2, S2_3}

-- what the octet s of a word adds to `mixed`, if it is the first, second, third or last one
abbrev pub part_0 : ℕ → ℕ → List ℕ
part_0 c s = mulx s c ∷ bit_xor (mulx s c) s ∷ s ∷ s ∷ []

abbrev pub part_1 : ℕ → ℕ → List ℕ
part_1 c s = s ∷ mulx s c ∷ bit_xor (mulx s c) s ∷ s ∷ []

abbrev pub part_2 : ℕ → ℕ → List ℕ
part_2 c s = s ∷ s ∷ mulx s c ∷ bit_xor (mulx s c) s ∷ []

abbrev pub part_3 : ℕ → ℕ → List ℕ
part_3 c s = bit_xor (mulx s c) s ∷ s ∷ s ∷ mulx s c ∷ []

-- a table of the parts of an S-box. The first table carries the S-box in its lowest octets
record IsTable (part : ℕ → List ℕ) (box : ℕ → ℕ) (first table : List ℕ) : Type 0 where
  parts : map word_octets table ≡ map (λ w. part (w % 256)) first
  lowest : map (λ w. w % 256) first ≡ map box (range_with_len 0 256)
  fit : map (λ w. w / 2 ^ 32) table ≡ replicate 256 0
  long : length table ≡ 256
  first_long : length first ≡ 256

-- one entry
record Entry (octets : List ℕ) (n : ℕ) : Type 0 where
  octets_are : word_octets n ≡ octets
  fits : n < 2 ^ 32

entry : (part : ℕ → List ℕ) (box : ℕ → ℕ) (first table : List ℕ) → IsTable part box first table
    → (x : ℕ) → x < 256 → Entry (part (box x)) (get_or table x 0)
entry part box first table t x h =
    let long = t.long in
    let first_long = t.first_long in
    let at : get_or first x 0 % 256 ≡ box x =
    sym (get_or-map (λ w. w % 256) first x 0 0 (omega arith))
    ∙ ap (λ xs. get_or xs x 0) t.lowest
    ∙ get_or-map-range_with_len box 0 256 x x 0 h (omega arith) in
    let high : get_or table x 0 / 2 ^ 32 ≡ 0 =
    sym (get_or-map (λ w. w / 2 ^ 32) table x 0 0 (omega arith))
    ∙ ap (λ xs. get_or xs x 0) t.fit
    ∙ get_or-replicate 256 x 0 0 h in
    record {
      octets_are = sym (get_or-map word_octets table x 0 [] (omega arith))
          ∙ ap (λ words. get_or words x []) t.parts
          ∙ get_or-map (λ w. part (w % 256)) first x 0 [] (omega arith)
          ∙ ap part at;
      fits = omega arith;
    }

-- the sum of one entry of each table
sum_of_parts : (c a b d e t u v w : ℕ) → Entry (part_0 c a) t → Entry (part_1 c b) u → Entry (part_2 c d) v → Entry (part_3 c e) w
    → bit_xor (bit_xor (bit_xor t u) v) w ≡ word_number (mixed c (a ∷ b ∷ d ∷ e ∷ []))
sum_of_parts c a b d e t u v w f g h i =
    let n = bit_xor (bit_xor (bit_xor t u) v) w in
    let octets : word_octets n ≡ mixed c (a ∷ b ∷ d ∷ e ∷ []) =
    rw (
      word_octets-xor (bit_xor (bit_xor t u) v) w,
      word_octets-xor (bit_xor t u) v,
      word_octets-xor t u,
      f.octets_are,
      g.octets_are,
      h.octets_are,
      i.octets_are,
    )
    refl in
    sym (word_number-word_octets n (xor_of_32 _ _ (xor_of_32 _ _ (xor_of_32 _ _ f.fits g.fits) h.fits) i.fits))
    ∙ ap word_number octets

-- ---- S1

s1_lowest : map (λ w. w % 256) S1_0 ≡ map sub_byte (range_with_len 0 256)
unfolding sub_byte inverse affine multiply
s1_lowest = refl

s1_table_0 : IsTable (part_0 0x1b) sub_byte S1_0 S1_0
unfolding word_octets
s1_table_0 = record { parts = refl; lowest = s1_lowest; fit = refl; long = refl; first_long = refl }

s1_table_1 : IsTable (part_1 0x1b) sub_byte S1_0 S1_1
unfolding word_octets
s1_table_1 = record { parts = refl; lowest = s1_lowest; fit = refl; long = refl; first_long = refl }

s1_table_2 : IsTable (part_2 0x1b) sub_byte S1_0 S1_2
unfolding word_octets
s1_table_2 = record { parts = refl; lowest = s1_lowest; fit = refl; long = refl; first_long = refl }

s1_table_3 : IsTable (part_3 0x1b) sub_byte S1_0 S1_3
unfolding word_octets
s1_table_3 = record { parts = refl; lowest = s1_lowest; fit = refl; long = refl; first_long = refl }

-- the look-ups of the code
pub s1-is : (w : ℕ) → w < 2 ^ 32
    → bit_xor (bit_xor (bit_xor (get_or S1_0 (w / 2 ^ 24) 0) (get_or S1_1 (w / 2 ^ 16 % 256) 0))
    (get_or S1_2 (w / 2 ^ 8 % 256) 0))
    (get_or S1_3 (w % 256) 0)
    ≡ s1 w
unfolding s1 word_octets
s1-is w h =
    let highest : w / 2 ^ 24 ≡ w / 2 ^ 24 % 256 = omega arith in
    ap (λ x. bit_xor
    (bit_xor (bit_xor (get_or S1_0 x 0) (get_or S1_1 (w / 2 ^ 16 % 256) 0)) (get_or S1_2 (w / 2 ^ 8 % 256) 0))
    (get_or S1_3 (w % 256) 0))
    highest
    ∙ sum_of_parts 0x1b (sub_byte (w / 2 ^ 24 % 256)) (sub_byte (w / 2 ^ 16 % 256)) (sub_byte (w / 2 ^ 8 % 256)) (sub_byte (w % 256)) _ _ _ _
    (entry _ _ _ _ s1_table_0 (w / 2 ^ 24 % 256) (omega arith)) (entry _ _ _ _ s1_table_1 (w / 2 ^ 16 % 256) (omega arith))
    (entry _ _ _ _ s1_table_2 (w / 2 ^ 8 % 256) (omega arith)) (entry _ _ _ _ s1_table_3 (w % 256) (omega arith))

-- ---- S2

s2_lowest : map (λ w. w % 256) S2_0 ≡ map sq (range_with_len 0 256)
unfolding sq power
s2_lowest = refl

s2_table_0 : IsTable (part_0 0x69) sq S2_0 S2_0
unfolding word_octets
s2_table_0 = record { parts = refl; lowest = s2_lowest; fit = refl; long = refl; first_long = refl }

s2_table_1 : IsTable (part_1 0x69) sq S2_0 S2_1
unfolding word_octets
s2_table_1 = record { parts = refl; lowest = s2_lowest; fit = refl; long = refl; first_long = refl }

s2_table_2 : IsTable (part_2 0x69) sq S2_0 S2_2
unfolding word_octets
s2_table_2 = record { parts = refl; lowest = s2_lowest; fit = refl; long = refl; first_long = refl }

s2_table_3 : IsTable (part_3 0x69) sq S2_0 S2_3
unfolding word_octets
s2_table_3 = record { parts = refl; lowest = s2_lowest; fit = refl; long = refl; first_long = refl }

-- the look-ups of the code
pub s2-is : (w : ℕ) → w < 2 ^ 32
    → bit_xor (bit_xor (bit_xor (get_or S2_0 (w / 2 ^ 24) 0) (get_or S2_1 (w / 2 ^ 16 % 256) 0))
    (get_or S2_2 (w / 2 ^ 8 % 256) 0))
    (get_or S2_3 (w % 256) 0)
    ≡ s2 w
unfolding s2 word_octets
s2-is w h =
    let highest : w / 2 ^ 24 ≡ w / 2 ^ 24 % 256 = omega arith in
    ap (λ x. bit_xor
    (bit_xor (bit_xor (get_or S2_0 x 0) (get_or S2_1 (w / 2 ^ 16 % 256) 0)) (get_or S2_2 (w / 2 ^ 8 % 256) 0))
    (get_or S2_3 (w % 256) 0))
    highest
    ∙ sum_of_parts 0x69 (sq (w / 2 ^ 24 % 256)) (sq (w / 2 ^ 16 % 256)) (sq (w / 2 ^ 8 % 256)) (sq (w % 256)) _ _ _ _
    (entry _ _ _ _ s2_table_0 (w / 2 ^ 24 % 256) (omega arith)) (entry _ _ _ _ s2_table_1 (w / 2 ^ 16 % 256) (omega arith))
    (entry _ _ _ _ s2_table_2 (w / 2 ^ 8 % 256) (omega arith)) (entry _ _ _ _ s2_table_3 (w % 256) (omega arith))
