-- All phones together: uses and roots.
use Rattle.std.proofs.Common.{◌≡◌, refl, sym, ap, subst, ◌∙◌, ℕ, zero, suc, true, List, [], ◌∷◌, length, map, take, Some, inl, inr}
use Rattle.std.specs.{Prelude.slice_get, Prelude.⊤, List.AllByRecursion as AllOf}
use Rattle.std.proofs.lemmas.Option.{none-some}
use Rattle.lte_events.specs.{declared.events.Event.Event, declared.setups.Setup.Setup, Ranges.IsEvent, Ranges.IsSetup}
use Rattle.key_model.specs.Derivable.{Derivable, in_set, by_kenb, by_nh, by_star, by_alg}
use Rattle.key_model.specs.Term.{Term, Root, Kenb, Nh, Star, Alg}
use Rattle.key_model.specs.{Use.map_use, Value.value_of}
use Rattle.lte_machine.specs.{BothRuns.octet_run, ByEvent.in_octets, Ciphers.annex_b, Distinct.keys_of, Distinct.Member, Known.IsReported, Run.Running, Wire.KeyUse, World.Holding}
use Rattle.lte_machine.specs.Ladder.{RowOrigin, OfRoot, row_key}
use Rattle.lte_machine.proofs.{AnnexB.annex_b_ciphers, WholeRun.run_is_value, Worlds.TheWorld}
use Rattle.lte_properties.specs.Separation.{HeldBy}
use Rattle.lte_properties.proofs.HeadlineHolds.{headline}
use Rattle.fleet_world.specs.{Answers.own_at, Meeting.has_row, Phones.phone_run, Phones.phone_rows}
use Rattle.fleet_world.specs.Apart.{uses_in, phone_uses, NoUseTwice, IsWorldOf, IsRootOf, HeldForOthers, ComesOfRoot, PhonesSeparate}
use Rattle.fleet_world.proofs.Ladders.{in_values, reported, term_has_row}
use Rattle.fleet_world.proofs.{Roots.roots_of, Separating.Apart}

-- THE RUN IN OCTETS

pub octets_are : (setup : Setup) (own : List Event) → IsSetup setup → AllOf IsEvent own → octet_run setup own ≡ phone_run setup own
unfolding phone_run
octets_are setup own is are = run_is_value annex_b annex_b_ciphers setup is own are

take_all : (events : List Event) → take (length events) events ≡ events
take_all [] = refl
take_all (e ∷ es) = ap (λ xs. e ∷ xs) (take_all es)

-- FRESHNESS

all_at : {A : Type 0} (P : A → Type 0) (xs : List A) (i : ℕ) (x : A) → AllOf P xs → slice_get xs i ≡ Some x → P x
all_at P [] i x all at = absurd (none-some x at)
all_at P (y ∷ ys) zero x all at = let one : y ≡ x = cc in subst P one all.0
all_at P (y ∷ ys) (suc i) x all at = all_at P ys i x all.1 at

-- what is mapped stands where it came from
from_map : {A B : Type 0} (f : A → B) (xs : List A) (i : ℕ) (y : B) → slice_get (map f xs) i ≡ Some y → (x : A) × (slice_get xs i ≡ Some x) × (f x ≡ y)
from_map f [] i y at = absurd (none-some y at)
from_map f (x ∷ xs) zero y at = (x, refl, cc)
from_map f (x ∷ xs) (suc i) y at = from_map f xs i y at

module _ (setup : Setup) (owns : List (List Event)) (is : IsSetup setup) (h : Apart setup owns) where
  -- the key of a use has a row
  use_has_row : (p i : ℕ) (u : KeyUse (List ℕ)) → slice_get (phone_uses setup owns p) i ≡ Some u → has_row u.key (phone_rows setup (own_at owns p)) ≡ true
  use_has_row p i u at =
      let on = h.goes p in
      let w = on.0 in
      let values : slice_get (map (map_use value_of) w.uses) i ≡ Some u =
      ap (λ r. slice_get (uses_in r) i) (sym (in_values setup (own_at owns p) w on.1)) ∙ at in
      let term = from_map (map_use value_of) w.uses i u values in
      let known : IsReported w term.0.key = all_at (λ x. IsReported w x.key) w.uses i term.0 (reported setup (own_at owns p) w on.1).uses term.1 in
      ap (λ (x : KeyUse (List ℕ)). has_row x.key (phone_rows setup (own_at owns p))) (sym term.2) ∙ term_has_row setup (own_at owns p) w on.1 term.0.key known

  -- and stands once in its phone's
  once : (p i j : ℕ) (u : KeyUse (List ℕ)) → slice_get (phone_uses setup owns p) i ≡ Some u → slice_get (phone_uses setup owns p) j ≡ Some u → i ≡ j
  once p i j u at there =
      let on = h.goes p in
      let own = own_at owns p in
      let runs : octet_run setup (take (length own) own) ≡ Running (in_octets on.0) =
      ap (octet_run setup) (take_all own) ∙ octets_are setup own is (h.range p) ∙ in_values setup own on.0 on.1 in
      let whole = in_values setup own on.0 on.1 in
      (headline setup own is (h.range p)).freshness (length own) (in_octets on.0) runs i j u
      (ap (λ r. slice_get (uses_in r) i) (sym whole) ∙ at) (ap (λ r. slice_get (uses_in r) j) (sym whole) ∙ there)

  pub no_use_twice : NoUseTwice setup owns
  no_use_twice p q i j u at there =
      let same : p ≡ q = h.apart p q u.key (use_has_row p i u at) (use_has_row q j u there) in
      (same, once p i j u at (subst (λ x. slice_get (phone_uses setup owns x) j ≡ Some u) (sym same) there))

  -- SEPARATION

  -- a root of the octets has a row
  root_has_row : (p r : ℕ) (root : List ℕ) (w : TheWorld)
      → IsWorldOf setup owns p w
      → Member (OfRoot (Root r root)) w.history
      → has_row root (phone_rows setup (own_at owns p)) ≡ true
  root_has_row p r root w runs m = term_has_row setup (own_at owns p) w runs (Root r root) (key_of (Root r root) w.history m)
    where
      key_of : (t : Term) (history : List (RowOrigin Term)) → Member (OfRoot t) history → Member t (keys_of history)
      key_of t [] m = absurd m
      key_of t (o ∷ os) (inl e) = inl (ap row_key e)
      key_of t (o ∷ os) (inr k) = inr (key_of t os k)

  -- whoever held a key of a run, its roots have rows
  held_comes : (q : ℕ) (w : TheWorld) (root : List ℕ) (t : Term)
      → IsWorldOf setup owns q w
      → HeldBy (λ id. ⊤) w.held t
      → ComesOfRoot root t
      → has_row root (phone_rows setup (own_at owns q)) ≡ true
  held_comes q w root t runs held comes =
      let known = held_known w.held held (reported setup (own_at owns q) w runs).held in
      let at = roots_of setup (own_at owns q) w runs root t known comes in
      term_has_row setup (own_at owns q) w runs (Root at.0 root) at.1
    where
      held_known : (hs : List (Holding Term)) → HeldBy (λ id. ⊤) hs t → AllOf (λ x. IsReported w x.key) hs → IsReported w t
      held_known [] h all = absurd h
      held_known (x ∷ xs) (inl k) all = subst (IsReported w) k.1 all.0
      held_known (x ∷ xs) (inr k) all = held_known xs k all.1

  none_derives : (p r : ℕ) (root : List ℕ)
      → IsRootOf setup owns p (Root r root)
      → (t : Term)
      → Derivable (HeldForOthers setup owns p) t
      → ComesOfRoot root t
      → ⊥
  none_derives p r root mine t (in_set held) comes =
      held.2 (sym (h.apart p held.0 root (root_has_row p r root mine.0 mine.1 mine.2) (held_comes held.0 held.1 root t held.3 held.4 comes)))
  none_derives p r root mine (Kenb t n) (by_kenb d) comes = none_derives p r root mine t d comes
  none_derives p r root mine (Nh s t) (by_nh d e) (inl comes) = none_derives p r root mine s d comes
  none_derives p r root mine (Nh s t) (by_nh d e) (inr comes) = none_derives p r root mine t e comes
  none_derives p r root mine (Star t pci earfcn) (by_star d) comes = none_derives p r root mine t d comes
  none_derives p r root mine (Alg t type id) (by_alg d) comes = none_derives p r root mine t d comes

  pub phones_separate : PhonesSeparate setup owns
  phones_separate p r root t mine comes d = none_derives p r root mine t d comes
