-- Each key of a history is of the kind of its message.
use Rattle.std.proofs.Common.{◌≡◌, ◌≢◌, ℕ, Bool, true, false, Option, Some, List, [], ◌∷◌, ◌++◌, ◌⊎◌, inl, inr, refl, sym, ap, subst, ◌∙◌}
use Rattle.key_model.specs.{Term.Term, Term.same_term, Value.value_of, Reading.term_reading, HandoverTable.NumberedKey}
use Rattle.trace_rules.specs.{Rules.AreIn, History.History}
use Rattle.trace_keys.specs.declared.{moves.Where.Where, moves.Move.Move}
use Rattle.trace_keys.specs.{Net.Net, Net.Sight}
use Rattle.trace_keys.proofs.OneNet.{clash}
use Rattle.trace_terms.specs.Carried.{valued}
use Rattle.trace_plain.specs.Sights.{fits, is_covered}
use Rattle.trace_order.specs.Order.{IsExact, Coincidence}
use Rattle.trace_order.specs.Known.{IsNever}
use Rattle.trace_order.specs.Kinds.{shape_of, may_carry, IsCarried, CarriesAt, AllCarry, IsPlaced}
use Rattle.trace_order.specs.declared.clues.Placed.{Placed}
use Rattle.trace_order.proofs.Sending.{Holds, Keeps, After, Brings, sends}
use Rattle.trace_order.proofs.Knowing.{fits_exact, roots_from, idle, in_terms}
use Rattle.trace_order.proofs.Walking.{one_or_not, along}

module _ (family : List Move) where
  abbrev Told : Unit {0} → Where → Option (NumberedKey (List ℕ) ℕ) → (Unit {0} → Type 0) → Type 0
  Told u at pair rest = CarriesAt family at pair × rest u

  abbrev All : Unit {0} → List (Sight (List ℕ)) → Type 0
  All u capture = AllCarry family capture

  pub all_carry : (kasmes : List Term) (fits : Sight (List ℕ) → Sight (List ℕ) → Bool) (covers : Sight (List ℕ) → Bool) (exact : IsExact fits) (bound left : ℕ) (net : Net Term ℕ) (moves : List Move) (capture : List (Sight (List ℕ)))
      → AreIn moves family
      → Holds net.serving
      → History (valued term_reading value_of kasmes) fits covers bound left net moves capture
      → AllCarry family capture
  all_carry kasmes fits covers exact bound left net moves capture =
      along (Keeps family) (After family) (Brings family) Told All covers (λ u. tt) (λ u sight capture told. told) (λ u end at dark k. k)
      (λ u end at rest k go. (tt, go u k)) (λ u end at pair rest k may go. ((record { key = pair.key; value = refl; may = may }), go u k))
      kasmes fits exact family (λ u net move i k. sends family kasmes net move i k) bound left net moves capture tt

last_carries : (family : List Move) (capture : List (Sight (List ℕ))) (sight : Sight (List ℕ)) → AllCarry family (capture ++ sight ∷ []) → CarriesAt family sight.at sight.pair
last_carries family [] sight all = all.0
last_carries family (x ∷ capture) sight all = last_carries family capture sight all.1

one_of : (family : List Move) (at : Where) (pair : NumberedKey (List ℕ) ℕ) (placed : Placed)
    → IsPlaced pair placed
    → may_carry family at placed.shape placed.ncc ≡ false
    → IsCarried family at pair
    → Coincidence
one_of family at pair placed is bad carried = by_case (one_or_not carried.key is.term (same_term carried.key is.term) refl)
  where
    by_case : (carried.key ≡ is.term) ⊎ (carried.key ≢ is.term) → Coincidence
    by_case (inr differ) = record { one = carried.key; other = is.term; differ = differ; same = carried.value ∙ sym is.value }
    by_case (inl same) =
        let may : may_carry family at placed.shape placed.ncc ≡ true =
        subst (λ s. may_carry family at s placed.ncc ≡ true) (ap shape_of same ∙ is.shape)
        (subst (λ n. may_carry family at (shape_of carried.key) n ≡ true) is.ncc carried.may) in
        clash (sym bad ∙ may)

pub never_placed : (kasmes : List (List ℕ)) (covered : List Where) (family : List Move) (capture : List (Sight (List ℕ))) (sight : Sight (List ℕ)) (pair : NumberedKey (List ℕ) ℕ) (placed : Placed)
    → sight.pair ≡ Some pair
    → IsPlaced pair placed
    → may_carry family sight.at placed.shape placed.ncc ≡ false
    → IsNever kasmes covered family capture sight
never_placed kasmes covered family capture sight pair placed brings is bad =
    in_terms kasmes covered family capture sight
    (λ bound left kasme count moves fam h.
    one_of family sight.at pair placed is bad
    (subst (CarriesAt family sight.at) brings
    (last_carries family capture sight
    (all_carry family (roots_from 0 kasmes) fits (is_covered covered) fits_exact bound left (idle kasme count) moves _ fam tt h))))
