-- What is in a list.
use Rattle.std.proofs.Common.{◌≡◌, Bool, true, false, List, [], ◌∷◌, ◌++◌, ◌⊎◌, inl, inr, refl, sym, subst}
use Rattle.std.specs.Prelude.{flat_map, if◌then◌else◌}
use Rattle.trace_rules.specs.Rules.{IsIn}

module _ {X : Type 0} where
  pub in_left : (x : X) (xs ys : List X) → IsIn x xs → IsIn x (xs ++ ys)
  in_left x [] ys i = absurd i
  in_left x (z ∷ zs) ys (inl e) = inl e
  in_left x (z ∷ zs) ys (inr i) = inr (in_left x zs ys i)

  pub in_right : (x : X) (xs ys : List X) → IsIn x ys → IsIn x (xs ++ ys)
  in_right x [] ys i = i
  in_right x (z ∷ zs) ys i = inr (in_right x zs ys i)

  pub in_either : (x : X) (xs ys : List X) → IsIn x (xs ++ ys) → IsIn x xs ⊎ IsIn x ys
  in_either x [] ys i = inr i
  in_either x (z ∷ zs) ys (inl e) = inl (inl e)
  in_either x (z ∷ zs) ys (inr i) = elim (in_either x zs ys i) [ inl a ↦ inl (inr a) | inr b ↦ inr b ]

  -- each of these is one of those
  abbrev pub Sub : List X → List X → Type 0
  Sub xs ys = (z : X) → IsIn z xs → IsIn z ys

  -- the same items, in some order
  abbrev pub Agree : List X → List X → Type 0
  Agree xs ys = Sub xs ys × Sub ys xs

  pub join_sub : (xs ys zs : List X) → Sub xs zs → Sub ys zs → Sub (xs ++ ys) zs
  join_sub xs ys zs f g z i = elim (in_either z xs ys i) [ inl a ↦ f z a | inr b ↦ g z b ]

  -- x is in the list of a test's answer
  pub in_if : (b : Bool) (x y : X) → IsIn x (if b then y ∷ [] else []) → (b ≡ true) × (y ≡ x)
  in_if true x y (inl e) = (refl, e)
  in_if true x y (inr i) = absurd i
  in_if false x y i = absurd i

  pub if_in : (b : Bool) (x : X) → b ≡ true → IsIn x (if b then x ∷ [] else [])
  if_in b x e = subst (λ t. IsIn x (if t then x ∷ [] else [])) (sym e) (inl refl)

  pub in_none : (x : X) (xs : List X) → xs ≡ [] → IsIn x xs → ⊥
  in_none x xs e i = subst (IsIn x) e i

module _ {X Y : Type 0} where
  pub in_flat_map : (f : X → List Y) (x : X) (xs : List X) (y : Y) → IsIn x xs → IsIn y (f x) → IsIn y (flat_map f xs)
  in_flat_map f x [] y none i = absurd none
  in_flat_map f x (z ∷ zs) y (inl e) i = in_left y (f z) (flat_map f zs) (subst (λ w. IsIn y (f w)) (sym e) i)
  in_flat_map f x (z ∷ zs) y (inr j) i = in_right y (f z) (flat_map f zs) (in_flat_map f x zs y j i)

  pub from_flat_map : (f : X → List Y) (xs : List X) (y : Y) → IsIn y (flat_map f xs) → (x : X) × IsIn x xs × IsIn y (f x)
  from_flat_map f [] y i = absurd i
  from_flat_map f (z ∷ zs) y i =
      elim (in_either y (f z) (flat_map f zs) i) [
        | inl a ↦ (z, inl refl, a)
        | inr b ↦ let h = from_flat_map f zs y b in (h.0, inr h.1, h.2)
      ]

  pub flat_map_sub : (f : X → List Y) (xs ys : List X) → Sub xs ys → Sub (flat_map f xs) (flat_map f ys)
  flat_map_sub f xs ys h y i = let from = from_flat_map f xs y i in in_flat_map f from.0 ys y (h from.0 from.1) from.2
