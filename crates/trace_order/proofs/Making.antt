-- Keys of clues.
use Rattle.std.proofs.Common.{◌≡◌, ℕ, zero, suc, None, Some, List, [], get_or, refl, sym, ap, ◌∙◌}
use Rattle.hmac_kdf.specs.{declared.input.KdfInput.KdfInput, Kdf.kdf}
use Rattle.annex_a_keys.specs.Cell.{Place}
use Rattle.key_model.specs.{Term.Term, Term.Root, Term.Kenb, Term.Nh, Term.Star, Term.Alg, Chain.nh, Number.chain_number, Value.value_of, HandoverTable.NumberedKey}
use Rattle.key_model.proofs.TermFacts.{chain_number_nh}
use Rattle.trace_order.specs.Known.{term_of}
use Rattle.trace_order.specs.Base.{kenb_of}
use Rattle.trace_order.specs.Kinds.{shape_of, IsMade}
use Rattle.trace_order.specs.Reach.{IsNumber}
use Rattle.trace_order.specs.declared.{clues.Made.Made, known.Known.Known}

number_is : (t : Term) → (shape_of t).number ≡ chain_number t
number_is (Root r octets) = refl
number_is (Kenb r n) = refl
number_is (Nh r t) = refl
number_is (Star t pci earfcn) = refl
number_is (Alg t type id) = refl

pub shape_nh : (r : Term) (count number : ℕ) → shape_of (nh r count number) ≡ record { number = number; last = None }
shape_nh r count zero = refl
shape_nh r count (suc number) = λ k. record { number = suc (chain_number_nh r count number k); last = None }

pub base_nh : (r : Term) (count number : ℕ) → kenb_of (nh r count number) ≡ Kenb r count
base_nh r count zero = refl
base_nh r count (suc number) = base_nh r count number

pub star_made : (made : Made) (cell : Place)
    → IsMade made
    → IsMade (record {
      key = kdf made.key (KdfInput.Star cell.pci cell.earfcn);
      shape = record { number = made.shape.number; last = Some cell };
      base = made.base;
    })
star_made made cell is =
    let number : chain_number is.term ≡ made.shape.number = sym (number_is is.term) ∙ ap (λ s. s.number) is.shape in
    record {
      term = Star is.term cell.pci cell.earfcn;
      value = ap (λ v. kdf v (KdfInput.Star cell.pci cell.earfcn)) is.value;
      shape = λ k. record { number = number k; last = Some cell };
      base = is.base;
    }

-- the number of a key that is known
pub known_number : (kasmes : List (List ℕ)) (known : Known) (pair : NumberedKey (List ℕ) ℕ) → value_of (term_of kasmes known) ≡ pair.key → IsNumber pair known.number
known_number kasmes known pair value = record {
  key = term_of kasmes known;
  value = value;
  is = chain_number_nh (Root known.kasme (get_or kasmes known.kasme [])) known.count known.number;
}
