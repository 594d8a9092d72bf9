-- Chain numbers, and when two terms are one.
use Rattle.std.proofs.Common.{◌≡◌, ℕ, zero, suc, length, refl, sym, ◌∙◌, ap}
use Rattle.std.specs.Bool.{Decides}
use Rattle.std.proofs.lemmas.Bool.Decides.{Decides-and, Decides-eqb, Decides-like}
use Rattle.std.proofs.lemmas.Slice.Eq.{bytes_eq-Decides}
use Rattle.sha2.proofs.Facts256.{length-sha256}
use Rattle.hmac_kdf.specs.{Hmac.hmac, Kdf.kdf}
use Rattle.key_model.specs.Term.{Term, Root, Kenb, Nh, Star, Alg, IsRoot, same_term}
use Rattle.key_model.specs.{Chain.nh, Number.chain_number, Value.value_of, Value.same_value}

-- the chain number of the key of number i
pub chain_number_nh : (r : Term) (n i : ℕ) → chain_number (nh r n i) ≡ i
chain_number_nh r n zero = refl
chain_number_nh r n (suc i) = ap suc (chain_number_nh r n i)

-- keys of two numbers of a chain differ
pub same_number : (r : Term) (n i j : ℕ) → nh r n i ≡ nh r n j → i ≡ j
same_number r n i j e = sym (chain_number_nh r n i) ∙ ap chain_number e ∙ chain_number_nh r n j

-- the test of terms is true exactly at equal terms
pub same_term-Decides : (a b : Term) → Decides (same_term a b) (a ≡ b)
same_term-Decides (Root r a) (Root s b) =
    Decides-like _ (λ p. let k = p.0 in let c = p.1 in cc) (λ e. ((cc), (cc))) (Decides-and _ _ (Decides-eqb r s) (bytes_eq-Decides a b))
same_term-Decides (Kenb r n) (Kenb s m) =
    Decides-like _ (λ p. let k = p.0 in let c = p.1 in cc) (λ e. ((cc), (cc))) (Decides-and _ _ (same_term-Decides r s) (Decides-eqb n m))
same_term-Decides (Nh r t) (Nh s u) =
    Decides-like _ (λ p. let k = p.0 in let i = p.1 in cc) (λ e. ((cc), (cc))) (Decides-and _ _ (same_term-Decides r s) (same_term-Decides t u))
same_term-Decides (Star t p f) (Star u q g) =
    Decides-like _ (λ e. let k = e.0.0 in let i = e.0.1 in let j = e.1 in cc) (λ e. (((cc), (cc)), (cc)))
    (Decides-and _ _ (Decides-and _ _ (same_term-Decides t u) (Decides-eqb p q)) (Decides-eqb f g))
same_term-Decides (Alg t p f) (Alg u q g) =
    Decides-like _ (λ e. let k = e.0.0 in let i = e.0.1 in let j = e.1 in cc) (λ e. (((cc), (cc)), (cc)))
    (Decides-and _ _ (Decides-and _ _ (same_term-Decides t u) (Decides-eqb p q)) (Decides-eqb f g))
same_term-Decides a b = (λ e. (cc), λ e. (cc))

-- the test of values is true exactly at equal octets
pub same_value-Decides : (a b : Term) → Decides (same_value a b) (value_of a ≡ value_of b)
same_value-Decides a b = bytes_eq-Decides (value_of a) (value_of b)

-- a key that is derived has 32 octets
pub length-value : (t : Term) → ¬ IsRoot t → length (value_of t) ≡ 32
unfolding kdf hmac
length-value (Root r octets) derived = absurd (derived tt)
length-value (Kenb r n) derived = length-sha256 _
length-value (Nh r t) derived = length-sha256 _
length-value (Star t pci earfcn) derived = length-sha256 _
length-value (Alg t type id) derived = length-sha256 _
