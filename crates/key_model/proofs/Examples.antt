-- Worked values of the definitions.
use Rattle.std.proofs.Common.{◌≡◌, ℕ, ◌^◌, List, [], ◌∷◌, ◌++◌, refl}
use Rattle.std.specs.Prelude.{replicate}
use Rattle.hmac_kdf.specs.{declared.input.KdfInput.KdfInput, Kdf.kdf_string}
use Rattle.key_model.specs.Term.{Term, Kenb, Nh, Star, same_term}
use Rattle.key_model.specs.{Chain.nh, Chain.ncc_of, Number.chain_number, Least.least, Least.after_steps, Reading.term_reading_by, Reading.octet_reading, HandoverLines.phone_keys, HandoverLines.phone_line}
use Rattle.key_model.specs.HandoverTable.{phone_number, key_at_phone, key_from_pair}

-- a NAS COUNT by its sequence number, the next one being 0, 255, 256 and ffff01
nas_counts : (least 0 255 256 ∷ least 255 255 256 ∷ least 256 255 256 ∷ least 0xffff01 0 256 ∷ []) ≡ (255 ∷ 255 ∷ 511 ∷ 2 ^ 24 ∷ [])
unfolding least
nas_counts = refl

-- COUNTs of an SRB and of a DRB
pdcp_counts : (least 30 2 32 ∷ least 31 31 32 ∷ least 4095 0 4096 ∷ least 5000 903 4096 ∷ []) ≡ (34 ∷ 31 ∷ 4096 ∷ 9095 ∷ [])
unfolding least
pdcp_counts = refl

-- a phone at chain number 6 that gets NCC 1, 6 and 5
phone_numbers : (phone_number 6 1 ∷ phone_number 6 6 ∷ phone_number 6 5 ∷ []) ≡ (9 ∷ 6 ∷ 13 ∷ [])
unfolding least
phone_numbers = refl

-- by steps of one it reaches the same numbers
phone_steps : (after_steps 8 6 1 8 ∷ after_steps 8 6 6 8 ∷ after_steps 8 6 5 8 ∷ []) ≡ (9 ∷ 6 ∷ 13 ∷ [])
phone_steps = refl

-- the chain below one KASME
third_nh : (r : Term) (n : ℕ) → nh r n 3 ≡ Nh r (Nh r (Nh r (Kenb r n)))
third_nh r n = refl

third_number : (r : Term) (n : ℕ) → chain_number (nh r n 3) ≡ 3
third_number r n = refl

-- a key handed over through two cells keeps its number
handed_over : (r : Term) (n : ℕ) → chain_number (Star (Star (nh r n 3) 7 100) 9 6300) ≡ 3
handed_over r n = refl

-- chain numbers 7, 8 and 9 have the NCCs 7, 0 and 1
nccs : (ncc_of 7 ∷ ncc_of 8 ∷ ncc_of 9 ∷ []) ≡ (7 ∷ 0 ∷ 1 ∷ [])
nccs = refl

-- a phone at number 6 with active KeNB t: three steps ahead it takes the pair's key
three_ahead : (r t : Term) (n : ℕ) → key_at_phone r n t 6 9 300 1850 ≡ key_from_pair r n 9 300 1850
unfolding least
three_ahead r t n = refl

-- and eight steps ahead another one, by the horizontal derivation
eight_steps_ahead : (r t : Term) (n : ℕ) → key_at_phone r n t 6 14 300 1850 ≡ record { key = Star t 300 1850; number = 6 }
unfolding least
eight_steps_ahead r t n = refl

-- the same by the line of any reading, in terms and in octets
line_in_terms : (r t : Term) (n : ℕ) → phone_line (term_reading_by same_term) (phone_keys r n t 6) 1 300 1850 ≡ key_from_pair r n 9 300 1850
unfolding least
line_in_terms r t n = refl

line_in_octets : (root sync active : List ℕ)
    → (phone_line octet_reading (record { root = root; number = 6; sync = sync; active = active }) 5 300 1850).number
    ≡ 5
unfolding least
line_in_octets root sync active = refl

-- the strings of a ladder: KeNB at COUNT 5, the first NH, and KeNB* for PCI 300 and EARFCN-DL 1850 (TS 33.401 A.3, A.4 and A.5)
kenb_string : kdf_string (KdfInput.Kenb 5) ≡ (0x11 ∷ 0 ∷ 0 ∷ 0 ∷ 5 ∷ 0 ∷ 4 ∷ [])
unfolding kdf_string
kenb_string = refl

nh_string : kdf_string (KdfInput.Nh (replicate 32 0xab)) ≡ (0x12 ∷ replicate 32 0xab) ++ 0 ∷ 32 ∷ []
unfolding kdf_string
nh_string = refl

star_string : kdf_string (KdfInput.Star 300 1850) ≡ (0x13 ∷ 0x01 ∷ 0x2c ∷ 0 ∷ 2 ∷ 0x07 ∷ 0x3a ∷ 0 ∷ 2 ∷ [])
unfolding kdf_string
star_string = refl

-- an EARFCN-DL of 18 bits takes three octets (A.5)
wide_star_string : kdf_string (KdfInput.Star 503 262143) ≡ (0x13 ∷ 0x01 ∷ 0xf7 ∷ 0 ∷ 2 ∷ 0x03 ∷ 0xff ∷ 0xff ∷ 0 ∷ 3 ∷ [])
unfolding kdf_string
wide_star_string = refl
