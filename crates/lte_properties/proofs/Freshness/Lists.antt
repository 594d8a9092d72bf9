-- Lists of uses that are apart, and what is said of their places.
use Rattle.std.proofs.Common.{◌≡◌, refl, sym, ap, ◌∙◌, subst, ℕ, zero, suc, List, [], ◌∷◌, ◌++◌, map, slice_get, Option, Some, None}
use Rattle.key_model.specs.{Term.Term, Use.map_use, Value.value_of}
use Rattle.lte_machine.specs.Wire.{KeyUse}
use Rattle.lte_properties.specs.{ChainBelow.AllOf, Freshness.NoUseTwice}
use Rattle.lte_properties.proofs.{Freshness.Premises.ValuesApart, Freshness.Uses.AllApart, ChainNumbers.Lists.all_append, ChainNumbers.Lists.all_map}
use Rattle.lte_machine.proofs.Tests.{by_some, none_some}

-- uses apart, and more that are apart from them
pub apart_append : (us vs : List (KeyUse Term)) → AllApart us → AllApart vs → AllOf (λ v. AllOf (λ u. u ≡ v → ⊥) us) vs → AllApart (us ++ vs)
apart_append [] vs h k d = k
apart_append (u ∷ us) vs h k d = (
  all_append (λ v. v ≡ u → ⊥) us vs h.0 (all_map (λ v. AllOf (λ x. x ≡ v → ⊥) (u ∷ us)) (λ v. v ≡ u → ⊥) (λ v a e. a.0 (sym e)) vs d),
  apart_append us vs h.1 k (all_map (λ v. AllOf (λ x. x ≡ v → ⊥) (u ∷ us)) (λ v. AllOf (λ x. x ≡ v → ⊥) us) (λ v a. a.1) vs d),
)

-- what is so of all, and not of a use, tells them apart
pub apart_by : (P : KeyUse Term → Type 0) (us : List (KeyUse Term)) (v : KeyUse Term) → AllOf P us → (P v → ⊥) → AllOf (λ u. u ≡ v → ⊥) us
apart_by P us v h n = all_map P (λ u. u ≡ v → ⊥) (λ u p e. n (subst P e p)) us h

-- of each of no, one or two uses of a sending
pub both_apart : (u v : KeyUse Term) → (v ≡ u → ⊥) → AllApart (u ∷ v ∷ [])
both_apart u v n = ((n, tt), (tt, tt))

module _ {K : Type 0} where
  -- a use of the rest stands at a later place
  pub at_place : (P : KeyUse K → Type 0) (us : List (KeyUse K)) (i : ℕ) (u : KeyUse K) → AllOf P us → slice_get us i ≡ Some u → P u
  at_place P [] i u h e = absurd (none_some e)
  at_place P (x ∷ us) zero u h e = subst P (by_some e) h.0
  at_place P (x ∷ us) (suc i) u h e = at_place P us i u h.1 e

-- uses that are apart stand at one place each
pub no_use_twice : (us : List (KeyUse Term)) → AllApart us → NoUseTwice us
no_use_twice [] h i j u e f = absurd (none_some e)
no_use_twice (x ∷ us) h zero zero u e f = refl
no_use_twice (x ∷ us) h zero (suc j) u e f = absurd (at_place (λ v. v ≡ x → ⊥) us j u h.0 f (by_some (sym e)))
no_use_twice (x ∷ us) h (suc i) zero u e f = absurd (at_place (λ v. v ≡ x → ⊥) us i u h.0 e (by_some (sym f)))
no_use_twice (x ∷ us) h (suc i) (suc j) u e f = ap suc (no_use_twice us h.1 i j u e f)

-- the use at a place of a list of uses in octets
abbrev IsValueOf : Option (KeyUse Term) → KeyUse (List ℕ) → Type 0
IsValueOf None v = ⊥
IsValueOf (Some u) v = map_use value_of u ≡ v

-- at each place of the octets stands the value of the use there
value_at : (us : List (KeyUse Term)) (i : ℕ) (v : KeyUse (List ℕ)) → slice_get (map (map_use value_of) us) i ≡ Some v → IsValueOf (slice_get us i) v
value_at [] i v e = absurd (none_some e)
value_at (u ∷ us) zero v e = by_some e
value_at (u ∷ us) (suc i) v e = value_at us i v e

-- uses whose octets are one are one, where their keys are
one_use : (u v : KeyUse Term) (x : KeyUse (List ℕ))
    → map_use value_of u ≡ x
    → map_use value_of v ≡ x
    → (value_of u.key ≡ value_of v.key → u.key ≡ v.key)
    → u ≡ v
one_use u v x e f same =
    let g : map_use value_of u ≡ map_use value_of v = e ∙ sym f in
    let key : u.key ≡ v.key = same (ap (λ y. y.key) g) in
    λ k. record {
      key = key k;
      count = ap (λ (y : KeyUse (List ℕ)). y.count) g k;
      bearer = ap (λ (y : KeyUse (List ℕ)). y.bearer) g k;
      dir = ap (λ (y : KeyUse (List ℕ)). y.dir) g k;
    }

-- in octets too no use stands twice, where keys of one value are one
pub no_value_twice : (us : List (KeyUse Term)) → NoUseTwice us → ValuesApart us → NoUseTwice (map (map_use value_of) us)
no_value_twice us h apart i j x e f = by_uses (slice_get us i) (slice_get us j) refl refl (value_at us i x e) (value_at us j x f) where
  by_uses : (a b : Option (KeyUse Term)) → slice_get us i ≡ a → slice_get us j ≡ b → IsValueOf a x → IsValueOf b x → i ≡ j
  by_uses None b p q k l = absurd k
  by_uses (Some u) None p q k l = absurd l
  by_uses (Some u) (Some v) p q k l =
      h i j u p (q ∙ ap Some (sym (one_use u v x k l (apart i j u v p q))))
