-- Facts on the order of KeNBs, and on the homes of keys.
use Rattle.std.proofs.Common.{◌≡◌, refl, sym, ap, ◌∙◌, ℕ, zero, suc, ◌+◌, ◌<◌, ◌≤◌, ◌⊎◌, inl, inr, Bool, true, false, if◌then◌else◌, Option, Some, None, arith}
use Rattle.std.specs.Prelude.{IfSome}
use Rattle.annex_a_keys.specs.Cell.{Place}
use Rattle.key_model.specs.Term.{Term, Kenb, Alg, same_term}
use Rattle.key_model.specs.{Number.chain_number, Reading.term_reading_by, HandoverLines.nh_after}
use Rattle.key_model.proofs.TermFacts.{same_term-Decides}
use Rattle.nh_chain.specs.{Chain.ChainState, Reach.reached_after}
use Rattle.lte_properties.proofs.Freshness.Sequence.{authentication_of, IsBefore, IsNotAfter, IsLevel}
use Rattle.lte_properties.specs.Origins.{nas_count_of}
use Rattle.lte_properties.proofs.Freshness.Uses.{Home, Homes, HomesStay, OnKey, home_of}
use Rattle.lte_properties.proofs.Freshness.Stands.{Mark, IsPast}
use Rattle.lte_machine.proofs.Tests.{by_some}

-- ORDER

-- no key comes before itself
pub not_before_itself : (t : Term) → IsBefore t t → ⊥
not_before_itself t h = let k = ((h.1 refl).1 refl).1 refl in absurd (omega arith)

-- what comes before does not come after
pub before_is_not_after : (t u : Term) → IsBefore t u → IsNotAfter t u
before_is_not_after t u h = (h.0, λ e. ((h.1 e).0, λ f. (((h.1 e).1 f).0, λ g. let k = ((h.1 e).1 f).1 g in omega arith)))

-- no key comes after itself
pub not_after_itself : (t : Term) → IsNotAfter t t
not_after_itself t = (omega arith, λ e. (omega arith, λ f. (omega arith, λ g. omega arith)))

-- what is not after a key that is before another is before that one
pub not_after_before : (t u v : Term) → IsNotAfter t u → IsBefore u v → IsBefore t v
not_after_before t u v h k = (
  let a = h.0 in let b = k.0 in omega arith,
  λ e.
      let a : authentication_of t ≡ authentication_of u = let x = h.0 in let y = k.0 in omega arith in
      let b : authentication_of u ≡ authentication_of v = omega arith in (
        let x = (h.1 a).0 in let y = (k.1 b).0 in omega arith,
        λ f.
            let c : nas_count_of t ≡ nas_count_of u = let x = (h.1 a).0 in let y = (k.1 b).0 in omega arith in
            let d : nas_count_of u ≡ nas_count_of v = omega arith in (
              let x = ((h.1 a).1 c).0 in let y = ((k.1 b).1 d).0 in omega arith,
              λ g.
                  let p : chain_number t ≡ chain_number u = let x = ((h.1 a).1 c).0 in let y = ((k.1 b).1 d).0 in omega arith in
                  let q : chain_number u ≡ chain_number v = omega arith in
                  let x = ((h.1 a).1 c).1 p in let y = ((k.1 b).1 d).1 q in omega arith,
            ),
      ),
)

-- a key that comes before the next KeNB comes before the KeNB of that authentication and COUNT
pub past_is_before : (roots : ℕ) (partial : Option ℕ) (root : Term) (count : ℕ) (t : Term) →
    IsPast roots partial (Some (record { root = authentication_of root; count = count })) t → IsBefore t (Kenb root count)
past_is_before roots partial root count t (_, _, (no_later, earlier)) =
    (no_later, λ e. let k = earlier e in (omega arith, λ f. absurd (omega arith)))

-- whether a key is past does not depend on handovers
pub past_alike : (roots : ℕ) (partial : Option ℕ) (mark : Option Mark) (t u : Term) →
    authentication_of t ≡ authentication_of u → nas_count_of t ≡ nas_count_of u → IsPast roots partial mark t → IsPast roots partial mark u
past_alike roots partial mark t u a b h =
    (let x = h.0 in omega arith, by_partial partial h.1, by_mark mark h.2)
  where
    by_partial : (o : Option ℕ) → IfSome o (λ p. authentication_of t < p) → IfSome o (λ p. authentication_of u < p)
    by_partial None h = tt
    by_partial (Some p) h = omega arith

    by_mark : (o : Option Mark) → IfSome o (λ k. (authentication_of t ≤ k.root) × (authentication_of t ≡ k.root → nas_count_of t < k.count)) →
        IfSome o (λ k. (authentication_of u ≤ k.root) × (authentication_of u ≡ k.root → nas_count_of u < k.count))
    by_mark None h = tt
    by_mark (Some k) h = (let x = h.0 in omega arith, λ e. let y = h.1 (a ∙ e) in omega arith)

-- HANDOVERS

module _ (same : Term → Term → Bool) where
  -- an NH so many steps on
  nh_along : (root sync : Term) (n : ℕ) →
      (authentication_of (nh_after (term_reading_by same) root sync n) ≡ authentication_of sync)
      × (nas_count_of (nh_after (term_reading_by same) root sync n) ≡ nas_count_of sync)
      × (chain_number (nh_after (term_reading_by same) root sync n) ≡ chain_number sync + n)
  nh_along root sync zero = (refl, refl, omega arith)
  nh_along root sync (suc n) = let h = nh_along root sync n in let k = h.2 in (h.0, h.1, omega arith)

  -- the KeNB* of a handover comes after the phone's KeNB, of the same authentication and COUNT, and the chain goes with it
  pub star_is_later : (chain : ChainState Term ℕ) (kenb : Term) (steps : ℕ) (cell : Place) → IsLevel kenb chain.sync →
      let star = (reached_after (term_reading_by same) chain kenb steps cell).star.key in
      IsBefore kenb star × (authentication_of kenb ≡ authentication_of star) × (nas_count_of kenb ≡ nas_count_of star)
      × IsLevel star (reached_after (term_reading_by same) chain kenb steps cell).chain.sync
  star_is_later chain kenb zero cell h =
      ((omega arith, λ e. (omega arith, λ f. (omega arith, λ g. omega arith))), refl, refl, h)
  star_is_later chain kenb (suc n) cell h =
      let k = nh_along chain.root chain.sync (suc n) in
      let a : authentication_of kenb ≡ _ = h.0 ∙ sym k.0 in
      let b : nas_count_of kenb ≡ _ = h.1 ∙ sym k.1 in
      let c = h.2 in let d = k.2 in
      ((omega arith, λ e. (omega arith, λ f. (omega arith, λ g. absurd (omega arith)))), a, b, (refl, refl, refl))

-- HOMES

-- one more key that has a home
abbrev pub homed : Homes → Term → Home → Homes
homed f u h t = if same_term t u then Some h else f t

-- the key has the home
pub homed_here : (f : Homes) (u : Term) (h : Home) → homed f u h u ≡ Some h
homed_here f u h = ap (λ b. if b then Some h else f u) ((same_term-Decides u u).1 refl)

-- by the end of the test
homed_by : (b : Bool) (f : Homes) (t u : Term) (h k : Home) → same_term t u ≡ b → (if b then Some h else f t) ≡ Some k →
    (f t ≡ Some k) ⊎ ((t ≡ u) × (h ≡ k))
homed_by true f t u h k e g = inr ((same_term-Decides t u).0 e, by_some g)
homed_by false f t u h k e g = inl g

-- each home is an older one or this
pub homed_is : (f : Homes) (u : Term) (h : Home) (t : Term) (k : Home) → homed f u h t ≡ Some k → (f t ≡ Some k) ⊎ ((t ≡ u) × (h ≡ k))
homed_is f u h t k g = homed_by (same_term t u) f t u h k refl g

-- by the end of the test
grown_by : (b : Bool) (f : Homes) (t u : Term) (h k : Home) → same_term t u ≡ b → ((k : Home) → f u ≡ Some k → ⊥) → f t ≡ Some k →
    (if b then Some h else f t) ≡ Some k
grown_by true f t u h k e none g = absurd (none k (ap f (sym ((same_term-Decides t u).0 e)) ∙ g))
grown_by false f t u h k e none g = g

-- where the key had none, homes only grow
pub homed_grows : (f : Homes) (u : Term) (h : Home) → ((k : Home) → f u ≡ Some k → ⊥) → HomesStay f (homed f u h)
homed_grows f u h none t k g = grown_by (same_term t u) f t u h k refl none g

-- homes only grow
pub home_grows : (b : Bool) (taken taken' given given' : Homes) (t : Term) (h : Home) → HomesStay taken taken' → HomesStay given given' →
    home_of b (taken t) (given t) ≡ Some h → home_of b (taken' t) (given' t) ≡ Some h
home_grows true taken taken' given given' t h f g e = f t h e
home_grows false taken taken' given given' t h f g e = g t h e

-- what is so of an algorithm key is so in another way
pub on_key : (P Q : Term → ℕ → Type 0) → ((t : Term) (type : ℕ) → P t type → Q t type) → (k : Term) → OnKey P k → OnKey Q k
on_key P Q f (Alg t type id) h = f t type h
on_key other rest f more h = h

-- a key that is past stays so as the COUNT rises
pub later_mark : (roots : ℕ) (partial : Option ℕ) (root m n : ℕ) (t : Term) → m ≤ n → IsPast roots partial (Some (record { root = root; count = m })) t
    → IsPast roots partial (Some (record { root = root; count = n })) t
later_mark roots partial root m n t le (low, older, (no_later, earlier)) = (low, older, (no_later, λ e. let k = earlier e in omega arith))
