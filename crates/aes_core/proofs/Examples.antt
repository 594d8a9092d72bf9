-- Worked examples of FIPS 197, computed from the definitions.
use Rattle.std.proofs.Common.{◌≡◌, [], ◌∷◌, refl}
use Rattle.std.specs.Prelude.{slice_index_or}
use Rattle.aes_core.specs.Aes.{add_round_key, aes, after_rounds, cipher, mix_columns, shift_rows, sub_bytes}
use Rattle.aes_core.specs.Field.{multiply}
use Rattle.aes_core.specs.KeyExpansion.{first_words, key_expansion, key_mask, next_word}
use Rattle.aes_core.specs.SBox.{affine, inverse, sub_byte}

-- 4.2
product_of_57_and_83 : multiply 0x57 0x83 ≡ 0xc1
unfolding multiply
product_of_57_and_83 = refl

-- 4.2.1
product_of_57_and_13 : multiply 0x57 0x13 ≡ 0xfe
unfolding multiply
product_of_57_and_13 = refl

-- 5.1.1
s_box_of_53 : sub_byte 0x53 ≡ 0xed
unfolding sub_byte affine inverse multiply
s_box_of_53 = refl

-- appendix A.1: the last word of the key expansion
last_word : slice_index_or (key_expansion
    (0x2b ∷ 0x7e ∷ 0x15 ∷ 0x16 ∷ 0x28 ∷ 0xae ∷ 0xd2 ∷ 0xa6 ∷ 0xab ∷ 0xf7 ∷ 0x15 ∷ 0x88 ∷ 0x09 ∷ 0xcf ∷ 0x4f ∷ 0x3c
    ∷ []))
    43 []
    ≡ 0xb6 ∷ 0x63 ∷ 0x0c ∷ 0xa6 ∷ []
unfolding key_expansion first_words next_word key_mask sub_byte affine inverse multiply
last_word = refl

-- appendix B
block_of_appendix_b :
    aes (0x2b ∷ 0x7e ∷ 0x15 ∷ 0x16 ∷ 0x28 ∷ 0xae ∷ 0xd2 ∷ 0xa6 ∷ 0xab ∷ 0xf7 ∷ 0x15 ∷ 0x88 ∷ 0x09 ∷ 0xcf ∷ 0x4f ∷ 0x3c ∷ [])
    (0x32 ∷ 0x43 ∷ 0xf6 ∷ 0xa8 ∷ 0x88 ∷ 0x5a ∷ 0x30 ∷ 0x8d ∷ 0x31 ∷ 0x31 ∷ 0x98 ∷ 0xa2 ∷ 0xe0 ∷ 0x37 ∷ 0x07 ∷ 0x34 ∷ [])
    ≡ 0x39 ∷ 0x25 ∷ 0x84 ∷ 0x1d ∷ 0x02 ∷ 0xdc ∷ 0x09 ∷ 0xfb ∷ 0xdc ∷ 0x11 ∷ 0x85 ∷ 0x97 ∷ 0x19 ∷ 0x6a ∷ 0x0b ∷ 0x32 ∷ []
unfolding aes cipher after_rounds add_round_key mix_columns shift_rows sub_bytes key_expansion first_words next_word key_mask sub_byte affine inverse multiply
block_of_appendix_b = refl
