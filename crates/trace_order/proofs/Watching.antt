-- NHs come in order along a history.
use Rattle.std.proofs.Common.{◌≡◌, ◌≢◌, ℕ, Bool, Option, None, Some, List, [], ◌∷◌, ◌++◌, ◌⊎◌, inl, inr, refl, sym, subst, ◌∙◌}
use Rattle.key_model.specs.{Term.Term, Term.same_term, Value.value_of, Reading.term_reading, HandoverTable.NumberedKey}
use Rattle.trace_rules.specs.{Rules.AreIn, History.History}
use Rattle.trace_keys.specs.declared.{moves.Where.Where, moves.Move.Move}
use Rattle.trace_keys.specs.declared.moves.Where.TheVariants.{Setup, Change, Took, Answer, Asked, Request, Over}
use Rattle.trace_keys.specs.{Net.Serving, Net.Net, Net.Sight}
use Rattle.trace_terms.specs.Carried.{valued}
use Rattle.trace_order.specs.Order.{Follows, OrderAt, InOrder, IsExact, AllBeginsSeen, last_by, last_nh, nh_of, IsNext, Coincidence}
use Rattle.trace_order.proofs.Chains.{Keeps, BroughtAt, went}
use Rattle.trace_order.proofs.Walking.{Agrees, KeptAt, kept_dark, nothing, one_or_not, one_pair, along}

module _ (covers : Sight (List ℕ) → Bool) where
  passed : (last : Option Term) (end : Option (Serving Term ℕ)) (at : Where) (rest : Option Term → Type 0)
      → KeptAt covers (Keeps covers) last at end
      → ((key : Option Term) → Keeps covers key end → rest key)
      → OrderAt last at None rest
  passed last end (Setup station) rest k go = go None k.0
  passed last end (Took station) rest k go = go None k.0
  passed last end (Answer station) rest k go = go last k
  passed last end (Request station) rest k go = go last k
  passed last end (Change station) rest k go = go last k
  passed last end (Asked station) rest k go = go last k
  passed last end (Over source target) rest k go = go last k

  looked : (last : Option Term) (end : Option (Serving Term ℕ)) (at : Where) (pair : NumberedKey Term ℕ) (rest : Option Term → Type 0)
      → KeptAt covers (Keeps covers) last at end
      → BroughtAt covers last at (Some pair) end
      → ((key : Option Term) → Keeps covers key end → rest key)
      → OrderAt last at (Some (record { key = value_of pair.key; number = pair.number })) rest
  looked last end (Setup station) pair rest k b go = go None k.0
  looked last end (Took station) pair rest k b go = go None k.0
  looked last end (Answer station) pair rest k b go = record { key = pair.key; value = refl; comes = b.0; then = go (Some pair.key) b.1 }
  looked last end (Request station) pair rest k b go = record { key = pair.key; value = refl; comes = b.0; then = go (Some pair.key) b.1 }
  looked last end (Change station) pair rest k b go = go last k
  looked last end (Asked station) pair rest k b go = go last k
  looked last end (Over source target) pair rest k b go = go last k

  pub in_order : (kasmes : List Term) (fits : Sight (List ℕ) → Sight (List ℕ) → Bool) (exact : IsExact fits) (family : List Move) (tapped : AllBeginsSeen covers family) (bound left : ℕ) (net : Net Term ℕ) (moves : List Move) (capture : List (Sight (List ℕ))) (last : Option Term)
      → AreIn moves family
      → Keeps covers last net.serving
      → History (valued term_reading value_of kasmes) fits covers bound left net moves capture
      → InOrder last capture
  in_order kasmes fits exact family tapped =
      along (Keeps covers) (KeptAt covers (Keeps covers)) (BroughtAt covers) OrderAt InOrder covers (λ last. tt) (λ last sight capture order. order)
      (kept_dark covers (Keeps covers)) passed looked kasmes fits exact family
      (λ last net move i k. went covers kasmes last net move (tapped move i) k)

-- two NHs, of which no other one is between, are the values of two keys of a chain
pub record TwoKeys (before after : NumberedKey (List ℕ) ℕ) : Type 0 where
  pub sent : Term
  pub next : Term
  pub first : value_of sent ≡ before.key
  pub second : value_of next ≡ after.key
  pub follow : Follows sent next

two_at : (key : Option Term) (before after : NumberedKey (List ℕ) ℕ) (rest : Option Term → Type 0)
    → Agrees key (Some before)
    → IsNext key after rest
    → TwoKeys before after
two_at (Some key) before after rest agrees is = record { sent = key; next = is.key; first = agrees; second = is.value; follow = is.comes }
two_at None before after rest agrees is = absurd agrees

two_of : (key : Option Term) (before after : NumberedKey (List ℕ) ℕ) (at : Where) (pair : Option (NumberedKey (List ℕ) ℕ)) (rest : Option Term → Type 0)
    → nh_of at pair ≡ Some after
    → Agrees key (Some before)
    → OrderAt key at pair rest
    → TwoKeys before after
two_of key before after (Answer station) (Some pair) rest e agrees is =
    subst (TwoKeys before) (one_pair pair after e) (two_at key before pair rest agrees is)
two_of key before after (Request station) (Some pair) rest e agrees is =
    subst (TwoKeys before) (one_pair pair after e) (two_at key before pair rest agrees is)
two_of key before after (Answer station) None rest e agrees is = nothing after e
two_of key before after (Request station) None rest e agrees is = nothing after e
two_of key before after (Setup station) pair rest e agrees is = nothing after e
two_of key before after (Took station) pair rest e agrees is = nothing after e
two_of key before after (Change station) pair rest e agrees is = nothing after e
two_of key before after (Asked station) pair rest e agrees is = nothing after e
two_of key before after (Over source target) pair rest e agrees is = nothing after e

pass : (key : Option Term) (last : Option (NumberedKey (List ℕ) ℕ)) (at : Where) (pair : Option (NumberedKey (List ℕ) ℕ)) (rest : Option Term → Type 0) (P : Type 0)
    → Agrees key last
    → OrderAt key at pair rest
    → ((next : Option Term) → Agrees next (last_by last at pair) → rest next → P)
    → P
pass key last (Setup station) pair rest P agrees is go = go None tt is
pass key last (Took station) pair rest P agrees is go = go None tt is
pass key last (Answer station) (Some pair) rest P agrees is go = go (Some is.key) is.value is.then
pass key last (Request station) (Some pair) rest P agrees is go = go (Some is.key) is.value is.then
pass key last (Answer station) None rest P agrees is go = go key agrees is
pass key last (Request station) None rest P agrees is go = go key agrees is
pass key last (Change station) pair rest P agrees is go = go key agrees is
pass key last (Asked station) pair rest P agrees is go = go key agrees is
pass key last (Over source target) pair rest P agrees is go = go key agrees is

pub two_keys : (capture : List (Sight (List ℕ))) (sight : Sight (List ℕ)) (key : Option Term) (last : Option (NumberedKey (List ℕ) ℕ)) (before after : NumberedKey (List ℕ) ℕ)
    → Agrees key last
    → last_nh last capture ≡ Some before
    → nh_of sight.at sight.pair ≡ Some after
    → InOrder key (capture ++ sight ∷ [])
    → TwoKeys before after
two_keys [] sight key last before after agrees is brings order =
    two_of key before after sight.at sight.pair (λ next. InOrder next []) brings (subst (Agrees key) is agrees) order
two_keys (x ∷ capture) sight key last before after agrees is brings order =
    pass key last x.at x.pair (λ next. InOrder next (capture ++ sight ∷ [])) (TwoKeys before after) agrees order
    (λ next ok rest. two_keys capture sight next (last_by last x.at x.pair) before after ok is brings rest)

pub known_follow : (before after sent next : Term)
    → Follows sent next
    → value_of sent ≡ value_of before
    → value_of next ≡ value_of after
    → Follows before after ⊎ Coincidence
known_follow before after sent next f first second =
    by_both (one_or_not sent before (same_term sent before) refl) (one_or_not next after (same_term next after) refl)
  where
    by_both : (sent ≡ before) ⊎ (sent ≢ before) → (next ≡ after) ⊎ (next ≢ after) → Follows before after ⊎ Coincidence
    by_both (inr differ) two = inr (record { one = sent; other = before; differ = differ; same = first })
    by_both (inl is) (inr differ) = inr (record { one = next; other = after; differ = differ; same = second })
    by_both (inl is) (inl also) = inl (subst (λ a. Follows a after) is (subst (λ b. Follows sent b) also f))

pub never : (before after : Term) (last next : NumberedKey (List ℕ) ℕ)
    → value_of before ≡ last.key
    → value_of after ≡ next.key
    → ¬ Follows before after
    → TwoKeys last next
    → Coincidence
never before after last next first second differ two =
    by_case (known_follow before after two.sent two.next two.follow (two.first ∙ sym first) (two.second ∙ sym second))
  where
    by_case : Follows before after ⊎ Coincidence → Coincidence
    by_case (inl follow) = absurd (differ follow)
    by_case (inr same) = same
