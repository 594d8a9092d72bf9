-- Where a phone is connected with the key that a change begins at, it took nothing yet at the air address of that change:
-- what it takes there follows that key, and so comes after it.
use Rattle.std.proofs.Common.{◌≡◌, refl, sym, ◌∙◌, subst, ℕ, Bool, true, false, cond, List, [], ◌∷◌, Option, Some, None}
use Rattle.std.specs.Prelude.{⊤}
use Rattle.key_model.specs.Term.{Term}
use Rattle.lte_machine.specs.Reply.{From, BySetup, ByAttempt, ByChange, Origin, Made, Before, Came, Secured, Commanded, Changed, Took}
use Rattle.lte_properties.specs.Agreement.{made_at, ObeysMade, Obeys, Joins, Follow}
use Rattle.lte_properties.specs.ChainBelow.{AllOf}
use Rattle.lte_properties.proofs.{Freshness.Sequence.IsBefore, Freshness.Sequence.IsNotAfter, Freshness.PhoneUses.TookInOrder, Freshness.Order.not_before_itself, Freshness.Order.not_after_before, Agreement.Ghost.is_took_at, Agreement.Ghost.took_at, Agreement.Later.same_found, Agreement.PhoneWalk.both_named}

-- what was taken last comes before all of these
abbrev IsBehind : Option (Before Term ℕ) → List (Took Term ℕ) → Type 0
IsBehind None took = ⊤
IsBehind (Some before) took = AllOf (λ x. IsBefore before.key x.key) took

setup_is_no_change : (from : From Term) (k : Term) → from ≡ BySetup → from ≡ ByChange k → ⊥
setup_is_no_change from k e f = cc

attempt_is_no_change : (from : From Term) (o : Origin) (k : Term) → from ≡ ByAttempt o → from ≡ ByChange k → ⊥
attempt_is_no_change from o k e f = cc

pub one_change : (from : From Term) (k l : Term) → from ≡ ByChange k → from ≡ ByChange l → k ≡ l
one_change from k l e f = cc

-- what was taken at a change of this key followed it
follows_key : (m : Made Term ℕ) (kenb : Term) → m.from ≡ ByChange kenb → (x : Took Term ℕ) (came : Came Term ℕ) → ObeysMade x came m
    → (last : Option (Before Term ℕ)) → Joins came last → (xs : List (Took Term ℕ)) → IsBehind last (x ∷ xs) → IsBefore kenb x.key
follows_key m kenb is x Secured h last j xs b = absurd (setup_is_no_change m.from kenb h.1 is)
follows_key m kenb is x (Commanded before) h last j xs b = absurd (attempt_is_no_change m.from h.tried.0 kenb h.tried.1 is)
follows_key m kenb is x (Changed before root) h last j xs b =
    let k : IsBehind (Some before) (x ∷ xs) = subst (λ o. IsBehind o (x ∷ xs)) j b in
    subst (λ t. IsBefore t x.key) (one_change m.from before.key kenb h.renewed is) k.0

module _ (made : List (Made Term ℕ)) (station air : ℕ) (m : Made Term ℕ) (there : made_at made station air ≡ Some m)
    (kenb : Term) (is : m.from ≡ ByChange kenb) where
  not_here : (last : Option (Before Term ℕ)) (x : Took Term ℕ) (xs : List (Took Term ℕ))
      → Joins x.came last
      → IsBehind last (x ∷ xs)
      → IsNotAfter x.key kenb
      → Obeys made x
      → is_took_at station air x ≡ true → ⊥
  not_here last x xs j b after obeys e =
      let at = both_named x.station station x.air air e in
      let found : made_at made station air ≡ Some obeys.0 = (λ i. made_at made (sym at.0 i) (sym at.1 i)) ∙ obeys.1 in
      let one : obeys.0 ≡ m = same_found _ obeys.0 m found there in
      let before : IsBefore kenb x.key = follows_key m kenb is x x.came (subst (ObeysMade x x.came) one obeys.2) last j xs b in
      not_before_itself x.key (not_after_before x.key kenb x.key after before)

  step : (x : Took Term ℕ) (o : Option (Took Term ℕ)) (b : Bool) → (b ≡ true → ⊥) → o ≡ None → cond b (Some x) o ≡ None
  step x o true f e = absurd (f refl)
  step x o false f e = e

  new_in : (last : Option (Before Term ℕ)) (took : List (Took Term ℕ))
      → Follow last took
      → TookInOrder took
      → IsBehind last took
      → AllOf (λ x. IsNotAfter x.key kenb) took
      → AllOf (Obeys made) took → took_at took station air ≡ None
  new_in last [] f o b after obeys = refl
  new_in last (x ∷ xs) f o b after obeys =
      step x (took_at xs station air) (is_took_at station air x) (not_here last x xs f.0 b after.0 obeys.0)
      (new_in (Some (record { station = x.station; key = x.key; number = x.number })) xs f.1 o.1 o.0 after.1 obeys.1)

  -- nothing was taken there
  pub new_at : (took : List (Took Term ℕ)) → Follow None took → TookInOrder took → AllOf (λ x. IsNotAfter x.key kenb) took → AllOf (Obeys made) took
      → took_at took station air ≡ None
  new_at took f o after obeys = new_in None took f o tt after obeys
