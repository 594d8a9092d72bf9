-- Each net once: no net is lost, and none is new.
use Rattle.std.proofs.Common.{◌≡◌, ℕ, ◌+◌, ◌<◌, Bool, true, false, List, [], ◌∷◌, ◌++◌, length, length-append, ◌≤◌, take, drop, get_or, flat_map, arith, ◌⊎◌, inl, inr, refl, sym, ap, subst, ◌∙◌, append_assoc, append-nil}
use Rattle.std.proofs.{Math.Seq.take-append_seam, lemmas.List.drop_more}
use Rattle.std.specs.{Prelude.if◌then◌else◌, Prelude.◌||◌, List.list_any}
use Rattle.trace_rules.specs.Rules.{IsIn}
use Rattle.trace_rules.proofs.Members.{Agree, in_left, in_right, in_either}
use Rattle.trace_keys.proofs.OneNet.{clash}
use Rattle.trace_plain.specs.Once.{added, once_from}

module _ {N : Type 0} (alike : N → N → Bool) where
  from_test : (b : Bool) (out : List N) (net z : N) → IsIn z (if b then out else out ++ net ∷ []) → IsIn z out ⊎ IsIn z (net ∷ [])
  from_test true out net z i = inl i
  from_test false out net z i = in_either z out (net ∷ []) i

  to_test : (b : Bool) (out : List N) (net z : N) → IsIn z out → IsIn z (if b then out else out ++ net ∷ [])
  to_test true out net z i = i
  to_test false out net z i = in_left z out (net ∷ []) i

  here_test : (b : Bool) (out : List N) (net : N) → (b ≡ true → IsIn net out) → IsIn net (if b then out else out ++ net ∷ [])
  here_test true out net h = h refl
  here_test false out net h = in_right net out (net ∷ []) (inl refl)

  none_new : (out nets : List N) (z : N) → IsIn z (once_from alike out nets) → IsIn z (out ++ nets)
  none_new out [] z i = subst (IsIn z) (sym (append-nil out)) i
  none_new out (net ∷ nets) z i =
      elim (in_either z (added alike out net) nets (none_new (added alike out net) nets z i)) [
        | inl a ↦
            elim (from_test (list_any (λ other. alike other net) out) out net z a) [
              | inl x ↦ in_left z out (net ∷ nets) x
              | inr y ↦ in_right z out (net ∷ nets) (in_left z (net ∷ []) nets y)
            ]
        | inr b ↦ in_right z out (net ∷ nets) (inr b)
      ]

  found_by : ((x y : N) → alike x y ≡ true → x ≡ y) → (net x : N) (out : List N) (b : Bool)
      → alike x net ≡ b
      → (list_any (λ other. alike other net) out ≡ true → IsIn net out)
      → (b || list_any (λ other. alike other net) out) ≡ true
      → IsIn net (x ∷ out)
  found_by exact net x out true t more h = inl (exact x net t)
  found_by exact net x out false t more h = inr (more h)

  pub has_it : ((x y : N) → alike x y ≡ true → x ≡ y) → (net : N) (out : List N) → list_any (λ other. alike other net) out ≡ true → IsIn net out
  has_it exact net [] e = clash e
  has_it exact net (x ∷ out) e = found_by exact net x out (alike x net) refl (has_it exact net out) e

  kept : (exact : (x y : N) → alike x y ≡ true → x ≡ y) (out nets : List N) (z : N) → IsIn z out → IsIn z (once_from alike out nets)
  kept exact out [] z i = i
  kept exact out (net ∷ nets) z i = kept exact (added alike out net) nets z (to_test (list_any (λ other. alike other net) out) out net z i)

  came : (exact : (x y : N) → alike x y ≡ true → x ≡ y) (out nets : List N) (z : N) → IsIn z nets → IsIn z (once_from alike out nets)
  came exact out [] z i = absurd i
  came exact out (net ∷ nets) z (inl e) =
      kept exact (added alike out net) nets z
      (subst (λ w. IsIn w (added alike out net)) e (here_test (list_any (λ other. alike other net) out) out net (has_it exact net out)))
  came exact out (net ∷ nets) z (inr j) = came exact (added alike out net) nets z j

  pub once_agree : ((x y : N) → alike x y ≡ true → x ≡ y) → (out nets : List N) → Agree (once_from alike out nets) (out ++ nets)
  once_agree exact out nets = (
    none_new out nets,
    λ z i. elim (in_either z out nets i) [ inl a ↦ kept exact out nets z a | inr b ↦ came exact out nets z b ],
  )

  -- what was there stands first still
  suffix : (b : Bool) (out : List N) (net : N) → (more : List N) × ((if b then out else out ++ net ∷ []) ≡ out ++ more)
  suffix true out net = ([], sym (append-nil out))
  suffix false out net = (net ∷ [], refl)

  behind : (out nets : List N) → (more : List N) × (once_from alike out nets ≡ out ++ more)
  behind out [] = ([], sym (append-nil out))
  behind out (net ∷ nets) =
      let one = suffix (list_any (λ other. alike other net) out) out net in
      let rest = behind (added alike out net) nets in
      (one.0 ++ rest.0, rest.1 ∙ ap (λ xs. xs ++ rest.0) one.1 ∙ append_assoc out one.0 rest.0)

  pub first_stays : (out nets : List N) → take (length out) (once_from alike out nets) ≡ out
  first_stays out nets = let all = behind out nets in ap (take (length out)) all.1 ∙ take-append_seam out all.0

  pub once_longer : (out nets : List N) → length out ≤ length (once_from alike out nets)
  once_longer out nets = let all = behind out nets in omega (arith, ap length all.1, length-append out all.0)

  pub once_twice : (out xs ys : List N) → once_from alike (once_from alike out xs) ys ≡ once_from alike out (xs ++ ys)
  once_twice out [] ys = refl
  once_twice out (x ∷ xs) ys = once_twice (added alike out x) xs ys

  -- the items of one more come
  pub added_on : {X : Type 0} (f : X → List N) (xs : List X) (i : ℕ) (x : X) (old new more all : List N)
      → i < length xs
      → x ≡ get_or xs i x
      → more ≡ f x
      → new ≡ once_from alike old more
      → once_from alike old (flat_map f (drop i xs)) ≡ all
      → once_from alike new (flat_map f (drop (i + 1) xs)) ≡ all
  added_on f xs i x old new more all lt item is added so_far =
      let rest = flat_map f (drop (i + 1) xs) in
      let next : drop i xs ≡ x ∷ drop (i + 1) xs = drop_more xs i x lt ∙ ap (λ y. y ∷ drop (i + 1) xs) (sym item) in
      ap (λ nets. once_from alike nets rest) (added ∙ ap (once_from alike old) is)
      ∙ once_twice old (f x) rest
      ∙ sym (ap (λ ys. once_from alike old (flat_map f ys)) next)
      ∙ so_far
