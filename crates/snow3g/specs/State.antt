-- SNOW 3G: its state, its clock and its keystream (TS 35.216 3.2 to 3.4 and 4; the clause numbers are from memory).
-- Words are numbers of 32 bits.
use Rattle.std.specs.Prelude.{ℕ, zero, suc, ◌+◌, ◌-◌, ◌*◌, ◌/◌, ◌%◌, ◌^◌, List, [], ◌∷◌, ◌++◌, bit_xor, drop, map, slice_index, take}
use Rattle.std.specs.List.{range_with_len}
use Rattle.aes_core.specs.{KeyExpansion.key_word, Word.word_number}
use Rattle.snow3g.specs.{declared.generator.Generator.Generator, Alpha.div_alpha, Alpha.mul_alpha, Boxes.s1, Boxes.s2}

-- the stages s0 to s15 of the shift register, and the registers R1 to R3 of the state machine (3.2)
pub record State : Type 0 where
  pub stages : List ℕ
  pub r1 : ℕ
  pub r2 : ℕ
  pub r3 : ℕ

-- stage i
abbrev pub stage : State → ℕ → ℕ
stage s i = slice_index s.stages i

-- F, the word of the state machine (3.4.6)
unfoldable pub fsm_word : State → ℕ
fsm_word s = bit_xor ((stage s 15 + s.r1) % 2 ^ 32) s.r2

-- what the shift register feeds back: alpha times s0, s2, and s11 divided by alpha (3.4.4, 3.4.5)
unfoldable pub feedback : State → ℕ
feedback s =
    bit_xor (bit_xor (bit_xor (bit_xor
    (stage s 0 * 2 ^ 8 % 2 ^ 32) (mul_alpha (stage s 0 / 2 ^ 24)))
    (stage s 2)) (stage s 11 / 2 ^ 8)) (div_alpha (stage s 11 % 256))

-- one clock, with v as the new stage s15 (3.4.4 to 3.4.6)
unfoldable pub clocked : ℕ → State → State
clocked v s = record {
  stages = drop 1 s.stages ++ v ∷ [];
  r1 = (s.r2 + bit_xor s.r3 (stage s 5)) % 2 ^ 32;
  r2 = s1 s.r1;
  r3 = s2 s.r2;
}

-- a clock in initialisation mode (3.4.4)
unfoldable pub mixing : State → State
mixing s = clocked (bit_xor (feedback s) (fsm_word s)) s

-- a clock in keystream mode (3.4.5)
unfoldable pub next : State → State
next s = clocked (feedback s) s

-- the state after n clocks in initialisation mode
unfoldable pub mixed_for : State → ℕ → State
mixed_for s zero = s
mixed_for s (suc n) = mixing (mixed_for s n)

-- the state after n clocks in keystream mode
unfoldable pub after : State → ℕ → State
after s zero = s
after s (suc n) = next (after s n)

-- k0 to k3: the words of the key of 16 octets, the last one first (TS 35.215 3.4 and 4.4, from memory)
abbrev pub key_words : List ℕ → List ℕ
key_words key = map (λ i. word_number (key_word key (3 - i))) (range_with_len 0 4)

-- the other bits of a word
abbrev pub inverted : ℕ → ℕ
inverted w = bit_xor w (2 ^ 32 - 1)

-- the stages that the words of the key and of the IV load (4.1)
abbrev pub loaded_stages : List ℕ → List ℕ → List ℕ
loaded_stages k iv =
    let k0 = slice_index k 0 in
    let k1 = slice_index k 1 in
    let k2 = slice_index k 2 in
    let k3 = slice_index k 3 in
    inverted k0 ∷ inverted k1 ∷ inverted k2 ∷ inverted k3 ∷ k0 ∷ k1 ∷ k2 ∷ k3
    ∷ inverted k0 ∷ bit_xor (inverted k1) (slice_index iv 3) ∷ bit_xor (inverted k2) (slice_index iv 2) ∷ inverted k3
    ∷ bit_xor k0 (slice_index iv 1) ∷ k1 ∷ k2 ∷ bit_xor k3 (slice_index iv 0) ∷ []

-- the state that the key and the words IV0 to IV3 load (4.1)
unfoldable pub loaded : List ℕ → List ℕ → State
loaded key iv = record { stages = loaded_stages (key_words key) iv; r1 = 0; r2 = 0; r3 = 0 }

-- the state behind the 32 clocks in initialisation mode (4.1)
unfoldable pub initialised : List ℕ → List ℕ → State
initialised key iv = mixed_for (loaded key iv) 32

-- the word that a state puts out (4.2)
unfoldable pub word : State → ℕ
word s = bit_xor (fsm_word s) (stage s 0)

-- word n of the keystream that follows a state: that of the state n + 1 clocks later, since the first clock
-- behind the initialisation puts out nothing (4.2)
unfoldable pub keystream_word : State → ℕ → ℕ
keystream_word s n = word (after s (n + 1))

-- the next sixteen words
abbrev pub sixteen_words : State → List ℕ
sixteen_words s = map (keystream_word s) (range_with_len 0 16)

-- the state that the code holds where the first stage stands at this place
unfoldable pub state_at : ℕ → Generator → State
state_at place g = record {
  stages = drop place g.stages ++ take place g.stages;
  r1 = g.r1;
  r2 = g.r2;
  r3 = g.r3;
}
