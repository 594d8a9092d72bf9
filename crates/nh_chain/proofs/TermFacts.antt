-- A chain in octets goes as the chain in terms goes.
use Rattle.std.proofs.Common.{◌≡◌, ℕ, zero, suc, ◌+◌, sym, ◌∙◌, ap, add-zero}
use Rattle.std.proofs.Math.Nat.{mod-add-mod}
use Rattle.key_model.specs.{Term.Term, Chain.nh, Chain.ncc_of, Value.value_of, Value.same_value, Reading.octet_reading, Reading.term_reading, HandoverTable.key_at_phone, HandoverTable.phone_number}
use Rattle.key_model.specs.HandoverLines.{nh_after, steps_to, phone_keys, phone_line}
use Rattle.key_model.proofs.{LeastFacts.least_from_remainder, ReadingFacts.values_carry}
use Rattle.key_model.proofs.HandoverFacts.{nh_after-chain, nh_after-map, phone_line-map, phone_line-terms}
use Rattle.nh_chain.specs.{Chain.climbed, Chain.number_after, Reach.phone_of}
use Rattle.nh_chain.specs.Terms.{chain_at, chain_in_octets, in_octets}

-- the NCC so many steps on
ncc_after : (p steps : ℕ) → number_after octet_reading (ncc_of p) steps ≡ ncc_of (p + steps)
ncc_after p zero = ap ncc_of (sym (add-zero p))
ncc_after p (suc steps) = mod-add-mod p 8 (suc steps)

-- the key so many steps on
key_after_steps : (r : Term) (n p steps : ℕ) → nh_after octet_reading (value_of r) (value_of (nh r n p)) steps ≡ value_of (nh r n (p + steps))
key_after_steps r n p steps =
    sym (nh_after-map term_reading octet_reading value_of ncc_of values_carry r (nh r n p) steps)
    ∙ ap value_of (nh_after-chain same_value r n p steps)

-- a climb in octets is the climb in terms
climbed_in_octets : (r : Term) (n p steps : ℕ) → climbed octet_reading (chain_in_octets (chain_at r n p)) steps ≡ chain_in_octets (chain_at r n (p + steps))
climbed_in_octets r n p steps = λ k. record {
  root = value_of r;
  sync = key_after_steps r n p steps k;
  number = ncc_after p steps k;
}

-- on the NCC of number i it comes to the number of the phone's line
pub climbed_to_line : (r : Term) (n p i : ℕ)
    → climbed octet_reading (chain_in_octets (chain_at r n p)) (steps_to (ncc_of p) (ncc_of i))
    ≡ chain_in_octets (chain_at r n (phone_number p (ncc_of i)))
climbed_to_line r n p i =
    climbed_in_octets r n p (steps_to (ncc_of p) (ncc_of i))
    ∙ ap (λ j. chain_in_octets (chain_at r n j)) (sym (least_from_remainder p (ncc_of i)))

-- the phone's line in octets is its line in terms
pub line_in_octets : (r t : Term) (n p i pci earfcn : ℕ)
    → phone_line octet_reading (phone_of (chain_in_octets (chain_at r n p)) (value_of t)) (ncc_of i) pci earfcn
    ≡ in_octets (key_at_phone r n t p i pci earfcn)
line_in_octets r t n p i pci earfcn =
    sym (phone_line-map term_reading octet_reading value_of ncc_of values_carry (phone_keys r n t p) (ncc_of i) pci earfcn)
    ∙ ap in_octets (phone_line-terms same_value r n t p i pci earfcn)
