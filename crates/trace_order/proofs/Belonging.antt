-- Each key of a connection is made of its KeNB, along a history.
use Rattle.std.proofs.Common.{◌≡◌, ◌≢◌, ℕ, zero, suc, Bool, true, false, Option, None, Some, List, [], ◌∷◌, ◌++◌, ◌⊎◌, inl, inr, refl, sym, ap, subst, ◌∙◌}
use Rattle.std.specs.Prelude.{nat_eq, ◌&&◌, get_or}
use Rattle.std.proofs.lemmas.Bool.Decides.{Decides-eqb}
use Rattle.key_model.specs.{Term.Term, Term.Root, Term.Kenb, Term.Nh, Term.same_term, Chain.nh, Value.value_of, Reading.term_reading, HandoverTable.NumberedKey}
use Rattle.trace_rules.specs.{Rules.AreIn, History.History}
use Rattle.trace_keys.specs.declared.{moves.Where.Where, moves.Move.Move}
use Rattle.trace_keys.specs.declared.moves.Where.TheVariants.{Setup, Change, Took, Answer, Asked, Request, Over}
use Rattle.trace_keys.specs.{Net.Serving, Net.Net, Net.Sight}
use Rattle.trace_keys.proofs.OneNet.{clash}
use Rattle.trace_terms.specs.Carried.{valued}
use Rattle.trace_plain.specs.Sights.{fits, is_covered}
use Rattle.trace_order.specs.Order.{IsExact, AllBeginsSeen, Coincidence}
use Rattle.trace_order.specs.Known.{term_of, all_seen, IsNever}
use Rattle.trace_order.specs.Base.{kenb_of, MadeOf, BaseAt, AllMadeOf, kenb_by, last_kenb, made_at, IsOf, is_of, IsOutOfChain}
use Rattle.trace_order.specs.declared.known.Known.{Known}
use Rattle.trace_order.proofs.Basing.{OfKenb, AllMade, BringsOf, makes}
use Rattle.trace_order.proofs.Knowing.{fits_exact, all_tapped, roots_from, idle, in_terms}
use Rattle.trace_order.proofs.Walking.{Agrees, KeptAt, kept_dark, nothing, one_or_not, along}

made_of : (kenb : Option Term) (key : Term) (pair : NumberedKey (List ℕ) ℕ) → value_of key ≡ pair.key → OfKenb kenb key → MadeOf (Some pair) kenb
made_of None key pair value k = tt
made_of (Some kenb) key pair value k = record { key = key; value = value; base = k }

module _ (covers : Sight (List ℕ) → Bool) where
  passed : (kenb : Option Term) (end : Option (Serving Term ℕ)) (at : Where) (rest : Option Term → Type 0)
      → KeptAt covers (AllMade covers) kenb at end
      → ((next : Option Term) → AllMade covers next end → rest next)
      → BaseAt kenb at None rest
  passed kenb end (Setup station) rest k go = go None k.0
  passed kenb end (Took station) rest k go = go None k.0
  passed kenb end (Answer station) rest k go = (tt, go kenb k)
  passed kenb end (Request station) rest k go = (tt, go kenb k)
  passed kenb end (Over source target) rest k go = (tt, go kenb k)
  passed kenb end (Change station) rest k go = go kenb k
  passed kenb end (Asked station) rest k go = go kenb k

  looked : (kenb : Option Term) (end : Option (Serving Term ℕ)) (at : Where) (pair : NumberedKey Term ℕ) (rest : Option Term → Type 0)
      → KeptAt covers (AllMade covers) kenb at end
      → BringsOf covers kenb at (Some pair) end
      → ((next : Option Term) → AllMade covers next end → rest next)
      → BaseAt kenb at (Some (record { key = value_of pair.key; number = pair.number })) rest
  looked kenb end (Setup station) pair rest k b go = record { kenb = pair.key; value = refl; then = go (Some pair.key) b }
  looked kenb end (Took station) pair rest k b go = go None k.0
  looked kenb end (Answer station) pair rest k b go = (made_of kenb pair.key _ refl b, go kenb k)
  looked kenb end (Request station) pair rest k b go = (made_of kenb pair.key _ refl b, go kenb k)
  looked kenb end (Over source target) pair rest k b go = (made_of kenb pair.key _ refl b, go kenb k)
  looked kenb end (Change station) pair rest k b go = go kenb k
  looked kenb end (Asked station) pair rest k b go = go kenb k

  pub all_made : (kasmes : List Term) (fits : Sight (List ℕ) → Sight (List ℕ) → Bool) (exact : IsExact fits) (family : List Move) (tapped : AllBeginsSeen covers family) (bound left : ℕ) (net : Net Term ℕ) (moves : List Move) (capture : List (Sight (List ℕ))) (kenb : Option Term)
      → AreIn moves family
      → AllMade covers kenb net.serving
      → History (valued term_reading value_of kasmes) fits covers bound left net moves capture
      → AllMadeOf kenb capture
  all_made kasmes fits exact family tapped =
      along (AllMade covers) (KeptAt covers (AllMade covers)) (BringsOf covers) BaseAt AllMadeOf covers (λ kenb. tt) (λ kenb sight capture made. made)
      (kept_dark covers (AllMade covers)) passed looked kasmes fits exact family
      (λ kenb net move i k. makes covers kasmes kenb net move (tapped move i) k)

-- a KeNB and a key that is made of it, of these values
pub record OneChain (first next : NumberedKey (List ℕ) ℕ) : Type 0 where
  pub kenb : Term
  pub key : Term
  pub begun : value_of kenb ≡ first.key
  pub made : value_of key ≡ next.key
  pub base : kenb_of key ≡ kenb

one_if : (kenb : Option Term) (first next : NumberedKey (List ℕ) ℕ) → Agrees kenb (Some first) → MadeOf (Some next) kenb → OneChain first next
one_if (Some kenb) first next agrees is = record { kenb = kenb; key = is.key; begun = agrees; made = is.value; base = is.base }
one_if None first next agrees is = absurd agrees

one_at : (kenb : Option Term) (first next : NumberedKey (List ℕ) ℕ) (at : Where) (pair : Option (NumberedKey (List ℕ) ℕ)) (rest : Option Term → Type 0)
    → made_at at pair ≡ Some next
    → Agrees kenb (Some first)
    → BaseAt kenb at pair rest
    → OneChain first next
one_at kenb first next (Answer station) pair rest e agrees is = one_if kenb first next agrees (subst (λ p. MadeOf p kenb) e is.0)
one_at kenb first next (Request station) pair rest e agrees is = one_if kenb first next agrees (subst (λ p. MadeOf p kenb) e is.0)
one_at kenb first next (Over source target) pair rest e agrees is = one_if kenb first next agrees (subst (λ p. MadeOf p kenb) e is.0)
one_at kenb first next (Setup station) pair rest e agrees is = nothing next e
one_at kenb first next (Took station) pair rest e agrees is = nothing next e
one_at kenb first next (Change station) pair rest e agrees is = nothing next e
one_at kenb first next (Asked station) pair rest e agrees is = nothing next e

pass : (kenb : Option Term) (last : Option (NumberedKey (List ℕ) ℕ)) (at : Where) (pair : Option (NumberedKey (List ℕ) ℕ)) (rest : Option Term → Type 0) (P : Type 0)
    → Agrees kenb last
    → BaseAt kenb at pair rest
    → ((next : Option Term) → Agrees next (kenb_by last at pair) → rest next → P)
    → P
pass kenb last (Setup station) (Some pair) rest P agrees is go = go (Some is.kenb) is.value is.then
pass kenb last (Setup station) None rest P agrees is go = go None tt is
pass kenb last (Took station) pair rest P agrees is go = go None tt is
pass kenb last (Answer station) pair rest P agrees is go = go kenb agrees is.1
pass kenb last (Request station) pair rest P agrees is go = go kenb agrees is.1
pass kenb last (Over source target) pair rest P agrees is go = go kenb agrees is.1
pass kenb last (Change station) pair rest P agrees is go = go kenb agrees is
pass kenb last (Asked station) pair rest P agrees is go = go kenb agrees is

one_chain : (capture : List (Sight (List ℕ))) (sight : Sight (List ℕ)) (kenb : Option Term) (last : Option (NumberedKey (List ℕ) ℕ)) (first next : NumberedKey (List ℕ) ℕ)
    → Agrees kenb last
    → last_kenb last capture ≡ Some first
    → made_at sight.at sight.pair ≡ Some next
    → AllMadeOf kenb (capture ++ sight ∷ [])
    → OneChain first next
one_chain [] sight kenb last first next agrees is brings made =
    one_at kenb first next sight.at sight.pair (λ n. AllMadeOf n []) brings (subst (Agrees kenb) is agrees) made
one_chain (x ∷ capture) sight kenb last first next agrees is brings made =
    pass kenb last x.at x.pair (λ n. AllMadeOf n (capture ++ sight ∷ [])) (OneChain first next) agrees made
    (λ n ok rest. one_chain capture sight n (kenb_by last x.at x.pair) first next ok is brings rest)

-- keys of these values, of which one is not made of the other
two_differ : (kenb key : Term) (first next : NumberedKey (List ℕ) ℕ)
    → value_of kenb ≡ first.key
    → value_of key ≡ next.key
    → kenb_of key ≢ kenb
    → OneChain first next
    → Coincidence
two_differ kenb key first next begun made apart one =
    by_both (one_or_not one.kenb kenb (same_term one.kenb kenb) refl) (one_or_not one.key key (same_term one.key key) refl)
  where
    by_both : (one.kenb ≡ kenb) ⊎ (one.kenb ≢ kenb) → (one.key ≡ key) ⊎ (one.key ≢ key) → Coincidence
    by_both (inr differ) other = record { one = one.kenb; other = kenb; differ = differ; same = one.begun ∙ sym begun }
    by_both (inl same) (inr differ) = record { one = one.key; other = key; differ = differ; same = one.made ∙ sym made }
    by_both (inl same) (inl also) = absurd (apart (ap kenb_of (sym also) ∙ one.base ∙ same))

-- a key that is made of a KeNB is of its KASME and COUNT
both_are : (a b : Bool) → a ≡ true → b ≡ true → (a && b) ≡ true
both_are true b e f = f
both_are false b e f = clash e

of_chain : (known kenb : Known) (octets others : List ℕ)
    → Kenb (Root known.kasme octets) known.count ≡ nh (Root kenb.kasme others) kenb.count kenb.number
    → is_of known kenb ≡ true
of_chain known kenb octets others e = by_number kenb.number refl e
  where
    kasmes_are : (a b : ℕ) (x y : List ℕ) (n m : ℕ) → Kenb (Root a x) n ≡ Kenb (Root b y) m → a ≡ b
    kasmes_are a b x y n m e = cc

    counts_are : (a b : ℕ) (x y : List ℕ) (n m : ℕ) → Kenb (Root a x) n ≡ Kenb (Root b y) m → n ≡ m
    counts_are a b x y n m e = cc

    no_nh : (r s t : Term) (n : ℕ) → Kenb r n ≡ Nh s t → ⊥
    no_nh r s t n e = cc

    by_number : (n : ℕ) → kenb.number ≡ n → Kenb (Root known.kasme octets) known.count ≡ nh (Root kenb.kasme others) kenb.count n → is_of known kenb ≡ true
    by_number zero is e =
        both_are (nat_eq known.kasme kenb.kasme) (nat_eq known.count kenb.count && nat_eq kenb.number 0)
        ((Decides-eqb known.kasme kenb.kasme).1 (kasmes_are known.kasme kenb.kasme octets others known.count kenb.count e))
        (both_are (nat_eq known.count kenb.count) (nat_eq kenb.number 0)
        ((Decides-eqb known.count kenb.count).1 (counts_are known.kasme kenb.kasme octets others known.count kenb.count e))
        ((Decides-eqb kenb.number 0).1 is))
    by_number (suc n) is e = absurd (no_nh _ _ _ known.count e)

pub base_of_kenb : (kasmes : List (List ℕ)) (known kenb : Known) (key : Term) → IsOf known key → kenb_of key ≡ term_of kasmes kenb → is_of known kenb ≡ true
base_of_kenb kasmes known kenb key is e = of_chain known kenb is.0 (get_or kasmes kenb.kasme []) (sym is.1 ∙ e)

pub never_made : (kasmes : List (List ℕ)) (covered : List Where) (family : List Move) (capture : List (Sight (List ℕ))) (sight : Sight (List ℕ))
    → all_seen covered family ≡ true
    → IsOutOfChain capture sight
    → IsNever kasmes covered family capture sight
never_made kasmes covered family capture sight seen out =
    in_terms kasmes covered family capture sight
    (λ bound left kasme count moves fam h.
    two_differ out.kenb out.key out.first out.next out.begun out.made out.apart
    (one_chain capture sight None None out.first out.next tt out.is_first out.is_next
    (all_made (is_covered covered) (roots_from 0 kasmes) fits fits_exact family (all_tapped covered family seen) bound left (idle kasme count) moves _ None fam tt h)))
