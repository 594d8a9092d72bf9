-- The octets of a derived key: 32, each below 256.
use Rattle.std.proofs.Common.{◌≡◌, ℕ, zero, suc, List, [], ◌∷◌, ◌++◌, length, arith}
use Rattle.std.specs.{Prelude.slice_index, Int.w32, Int.to_be_bytes}
use Rattle.sha2.specs.Sha256.{digest_bytes, sha256}
use Rattle.hmac_kdf.specs.{Hmac.hmac, Kdf.kdf}
use Rattle.rec_base.proofs.Numbers.{AreOctets}
use Rattle.key_model.specs.Term.{Term, Root, IsRoot}
use Rattle.key_model.specs.Value.{value_of}
use Rattle.key_model.proofs.TermFacts.{length-value}

-- octets, and then octets
octets_append : (xs ys : List ℕ) → AreOctets xs → AreOctets ys → AreOctets (xs ++ ys)
octets_append [] ys p q i = q i
octets_append (x ∷ xs) ys p q zero = p zero
octets_append (x ∷ xs) ys p q (suc i) = octets_append xs ys (λ j. p (suc j)) q i

-- a word of 32 bits is four octets
octets_word : (n : ℕ) → AreOctets (to_be_bytes w32 n)
octets_word n (suc (suc (suc (suc i)))) = omega arith
octets_word n i = omega arith

octets_digest : (h : List ℕ) (n : ℕ) → AreOctets (digest_bytes h n)
unfolding digest_bytes
octets_digest h zero i = omega arith
octets_digest h (suc n) i = octets_append (digest_bytes h n) (to_be_bytes w32 (slice_index h n)) (octets_digest h n) (octets_word (slice_index h n)) i

-- a digest is of octets (FIPS 180-4 6.2)
octets_sha256 : (m : List ℕ) → AreOctets (sha256 m)
unfolding sha256
octets_sha256 m = octets_digest _ 8

-- a key that is derived, and no KASME
abbrev pub IsDerived : Term → Type 0
IsDerived (Root r octets) = ⊥
IsDerived other = Unit {0}

-- its octets
pub octets_value : (t : Term) → IsDerived t → AreOctets (value_of t)
unfolding kdf hmac
octets_value (Root r octets) h = absurd h
octets_value other h = octets_sha256 _

no_root : (t : Term) → IsDerived t → ¬ IsRoot t
no_root (Root r octets) h = absurd h
no_root other h = λ e. e

-- and their number
pub length_value : (t : Term) → IsDerived t → length (value_of t) ≡ 32
length_value t h = length-value t (no_root t h)
