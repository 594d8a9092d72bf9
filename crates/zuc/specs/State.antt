-- ZUC: its state, its clock and its keystream (its specification, TS 35.222, 3.2 to 3.6; the clause numbers are from
-- memory). Stages are numbers below 2^31, words are numbers of 32 bits.
use Rattle.std.specs.Prelude.{ℕ, zero, suc, ◌+◌, ◌-◌, ◌*◌, ◌/◌, ◌%◌, ◌^◌, ◌==◌, if◌then◌else◌, List, [], ◌∷◌, ◌++◌, bit_xor, drop, map, slice_index, take}
use Rattle.std.specs.{Int.w32, Int.rotate_left, List.range_with_len}
use Rattle.zuc.specs.{declared.generator.Generator.Generator, Boxes.boxes}

-- the stages s0 to s15 of the shift register, and the registers R1 and R2 of F (3.2, 3.4)
pub record State : Type 0 where
  pub stages : List ℕ
  pub r1 : ℕ
  pub r2 : ℕ

-- stage i
abbrev pub stage : State → ℕ → ℕ
stage s i = slice_index s.stages i

-- the higher and the lower 16 bits of a stage of 31 bits (3.3)
abbrev pub high : ℕ → ℕ
high v = v / 2 ^ 15 % 2 ^ 16

abbrev pub low : ℕ → ℕ
low v = v % 2 ^ 16

-- X0 to X3, the words of the bit reorganisation (3.3)
abbrev pub x0 : State → ℕ
x0 s = high (stage s 15) * 2 ^ 16 + low (stage s 14)

abbrev pub x1 : State → ℕ
x1 s = low (stage s 11) * 2 ^ 16 + high (stage s 9)

abbrev pub x2 : State → ℕ
x2 s = low (stage s 7) * 2 ^ 16 + high (stage s 5)

abbrev pub x3 : State → ℕ
x3 s = low (stage s 2) * 2 ^ 16 + high (stage s 0)

-- W, the word of F (3.4)
unfoldable pub f_word : State → ℕ
f_word s = (bit_xor (x0 s) s.r1 + s.r2) % 2 ^ 32

-- W1 and W2 (3.4)
abbrev pub w1 : State → ℕ
w1 s = (s.r1 + x1 s) % 2 ^ 32

abbrev pub w2 : State → ℕ
w2 s = bit_xor s.r2 (x2 s)

-- the lower half of one word and the higher half of another, joined
abbrev pub crossed : ℕ → ℕ → ℕ
crossed v w = v % 2 ^ 16 * 2 ^ 16 + w / 2 ^ 16

-- L1 and L2 (3.4.3)
unfoldable pub l1 : ℕ → ℕ
l1 x =
    bit_xor (bit_xor (bit_xor (bit_xor x (rotate_left w32 x 2)) (rotate_left w32 x 10)) (rotate_left w32 x 18))
    (rotate_left w32 x 24)

unfoldable pub l2 : ℕ → ℕ
l2 x =
    bit_xor (bit_xor (bit_xor (bit_xor x (rotate_left w32 x 8)) (rotate_left w32 x 14)) (rotate_left w32 x 22))
    (rotate_left w32 x 30)

-- the prime 2^31 - 1, modulo which the register works (3.2)
abbrev pub prime : ℕ
prime = 2 ^ 31 - 1

-- the sum that the register feeds back, with u (3.2)
abbrev pub feedback : ℕ → State → ℕ
feedback u s =
    2 ^ 15 * stage s 15 + 2 ^ 17 * stage s 13 + 2 ^ 21 * stage s 10 + 2 ^ 20 * stage s 4 + (1 + 2 ^ 8) * stage s 0 + u

-- a number modulo the prime, which stands for 0 (3.2)
unfoldable pub never_zero : ℕ → ℕ
never_zero n = if n % prime == 0 then prime else n % prime

-- one clock of F and of the register, with u (3.2, 3.4)
unfoldable pub clocked : ℕ → State → State
clocked u s = record {
  stages = drop 1 s.stages ++ never_zero (feedback u s) ∷ [];
  r1 = boxes (l1 (crossed (w1 s) (w2 s)));
  r2 = boxes (l2 (crossed (w2 s) (w1 s)));
}

-- a clock in initialisation mode: u is W without its lowest bit (3.6.1)
unfoldable pub mixing : State → State
mixing s = clocked (f_word s / 2) s

-- a clock in working mode (3.6.2)
unfoldable pub next : State → State
next s = clocked 0 s

-- the state after n clocks in initialisation mode
unfoldable pub mixed_for : State → ℕ → State
mixed_for s zero = s
mixed_for s (suc n) = mixing (mixed_for s n)

-- the state after n clocks in working mode
unfoldable pub after : State → ℕ → State
after s zero = s
after s (suc n) = next (after s n)

-- d0 to d15, the constants of key loading, of 15 bits (3.5)
abbrev pub loading_constants : List ℕ
loading_constants =
    0x44d7 ∷ 0x26bc ∷ 0x626b ∷ 0x135e ∷ 0x5789 ∷ 0x35e2 ∷ 0x7135 ∷ 0x09af
    ∷ 0x4d78 ∷ 0x2f13 ∷ 0x6bc4 ∷ 0x1af1 ∷ 0x5e26 ∷ 0x3c4d ∷ 0x789a ∷ 0x47ac ∷ []

-- stage i as it is loaded: octet i of the key, constant i, octet i of the IV (3.5)
abbrev pub loaded_stage : List ℕ → List ℕ → ℕ → ℕ
loaded_stage key iv i = slice_index key i * 2 ^ 23 + slice_index loading_constants i * 2 ^ 8 + slice_index iv i

-- the state that the key and the IV, of 16 octets each, load (3.5)
unfoldable pub loaded : List ℕ → List ℕ → State
loaded key iv = record { stages = map (loaded_stage key iv) (range_with_len 0 16); r1 = 0; r2 = 0 }

-- the state behind the 32 clocks in initialisation mode (3.6.1)
unfoldable pub initialised : List ℕ → List ℕ → State
initialised key iv = mixed_for (loaded key iv) 32

-- the word that a state puts out (3.6.2)
unfoldable pub word : State → ℕ
word s = bit_xor (f_word s) (x3 s)

-- word n of the keystream that follows a state: that of the state n + 1 clocks later, since the first clock
-- behind the initialisation puts out nothing (3.6.2)
unfoldable pub keystream_word : State → ℕ → ℕ
keystream_word s n = word (after s (n + 1))

-- the next sixteen words
abbrev pub sixteen_words : State → List ℕ
sixteen_words s = map (keystream_word s) (range_with_len 0 16)

-- the state that the code holds where the first stage stands at this place
unfoldable pub state_at : ℕ → Generator → State
state_at place g = record { stages = drop place g.stages ++ take place g.stages; r1 = g.r1; r2 = g.r2 }
