-- A block as its octets.
use Rattle.std.proofs.Common.{◌≡◌, ℕ, ◌+◌, ◌*◌, List, [], ◌∷◌, slice_index, ap, arith}
use Rattle.std.specs.Int.{w64, from_be_bytes}
use Rattle.rec_base.specs.BigEndian.{number_of}
use Rattle.eia1.specs.Eia1.{block_in}

pub number_of_eight : (a b c d e f g h : ℕ)
    → from_be_bytes w64 (a ∷ b ∷ c ∷ d ∷ e ∷ f ∷ g ∷ h ∷ []) ≡ number_of (a ∷ b ∷ c ∷ d ∷ e ∷ f ∷ g ∷ h ∷ [])
unfolding number_of
number_of_eight a b c d e f g h = omega arith

pub block_in-is : (text : List ℕ) (i : ℕ)
    → number_of (slice_index text (8 * i) ∷ slice_index text (8 * i + 1) ∷ slice_index text (8 * i + 2)
    ∷ slice_index text (8 * i + 3) ∷ slice_index text (8 * i + 4) ∷ slice_index text (8 * i + 5)
    ∷ slice_index text (8 * i + 6) ∷ slice_index text (8 * i + 7) ∷ [])
    ≡ block_in text i
unfolding block_in
block_in-is text i =
    let first : 8 * i ≡ 8 * i + 0 = omega arith in
    ap (λ k. number_of (slice_index text k ∷ slice_index text (8 * i + 1) ∷ slice_index text (8 * i + 2)
    ∷ slice_index text (8 * i + 3) ∷ slice_index text (8 * i + 4) ∷ slice_index text (8 * i + 5)
    ∷ slice_index text (8 * i + 6) ∷ slice_index text (8 * i + 7) ∷ []))
    first
