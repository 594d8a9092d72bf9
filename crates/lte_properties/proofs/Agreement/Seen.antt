-- A station takes each attempt of another source once: it keeps the greatest that it has seen of each.
use Rattle.std.proofs.Common.{◌≡◌, ◌≢◌, ℕ, ◌<◌, ◌≤◌, refl, sym, ◌∙◌, ap, subst, arith, Bool, true, false, List, length, Option, Some, None}
use Rattle.std.specs.Prelude.{slice_index, slice_set, ◌==◌}
use Rattle.std.proofs.lemmas.Bool.{eqb-true, eqb-false}
use Rattle.std.proofs.lemmas.List.{get_or-set_same, get_or-set_other}
use Rattle.key_model.specs.Term.{Term}
use Rattle.lte_machine.specs.Reply.{Origin, From, BySetup, ByAttempt, ByChange, Made, Tried}
use Rattle.lte_machine.specs.World.{with_one}
use Rattle.lte_machine.proofs.{KnownLists.all_each, KnownLists.one_more}
use Rattle.lte_properties.specs.{Agreement.OneOf, ChainBelow.AllOf}
use Rattle.lte_properties.proofs.{ChainNumbers.Lists.all_map, ChainNumbers.Lists.all_both, Agreement.Later.same_found, Agreement.ToldIsFound.MadeBy}
use Rattle.lte_properties.proofs.Agreement.Ghost.{Ghost, tried_at, SeenBy, FromOk, MadeOk}

-- two things that were made did not come of one attempt
abbrev pub NotBoth : Made Term ℕ → Made Term ℕ → Type 0
NotBoth m n = (o : Origin) → m.from ≡ ByAttempt o → n.from ≡ ByAttempt o → ⊥

pub one_origin : (from : From Term) (o p : Origin) → from ≡ ByAttempt o → from ≡ ByAttempt p → o ≡ p
one_origin from o p e f = cc

pub setup_no_attempt : (m : Made Term ℕ) → m.from ≡ BySetup → (o : Origin) → m.from ≡ ByAttempt o → ⊥
setup_no_attempt m is o e = clash m.from is e
  where
    clash : (from : From Term) → from ≡ BySetup → from ≡ ByAttempt o → ⊥
    clash from a b = cc

pub change_no_setup : (m : Made Term ℕ) (k : Term) → m.from ≡ ByChange k → m.from ≡ BySetup → ⊥
change_no_setup m k is e = clash m.from is e
  where
    clash : (from : From Term) → from ≡ ByChange k → from ≡ BySetup → ⊥
    clash from a b = cc

pub change_no_attempt : (m : Made Term ℕ) (k : Term) → m.from ≡ ByChange k → (o : Origin) → m.from ≡ ByAttempt o → ⊥
change_no_attempt m k is o e = clash m.from is e
  where
    clash : (from : From Term) → from ≡ ByChange k → from ≡ ByAttempt o → ⊥
    clash from a b = cc

-- what came by no attempt is apart from all
pub apart_always : (m : Made Term ℕ) → ((o : Origin) → m.from ≡ ByAttempt o → ⊥) → (made : List (Made Term ℕ)) → AllOf (NotBoth m) made
apart_always m never made = all_each (NotBoth m) (λ n o e f. never o e) made

-- and so is what came by an attempt that is new
new_apart : (g : Ghost) (o : Origin) (n : Made Term ℕ) → tried_at g.tried o.source o.attempt ≡ None → MadeOk g n → n.from ≡ ByAttempt o → ⊥
new_apart g o n none ok is =
    let made : FromOk g n (ByAttempt o) = subst (FromOk g n) is ok.from in nothing none made.found
  where
    nothing : {e : Tried Term ℕ} {x : Option (Tried Term ℕ)} → x ≡ None → x ≡ Some e → ⊥
    nothing a b = cc

pub apart_new : (g : Ghost) (m : Made Term ℕ) (o : Origin)
    → m.from ≡ ByAttempt o
    → tried_at g.tried o.source o.attempt ≡ None
    → (made : List (Made Term ℕ))
    → AllOf (MadeOk g) made
    → AllOf (NotBoth m) made
apart_new g m o is none made ok =
    all_map (MadeOk g) (NotBoth m) (λ n k p e f. new_apart g o n none k (f ∙ ap ByAttempt (one_origin m.from p o e is))) made ok

-- and what came by one that its target had not seen
unseen_apart : (g : Ghost) (id : ℕ) (seen : List ℕ) (o : Origin) (e : Tried Term ℕ)
    → tried_at g.tried o.source o.attempt ≡ Some e
    → e.target ≡ id
    → (o.source ≡ id → ⊥)
    → slice_index seen o.source < o.attempt → (n : Made Term ℕ) → MadeOk g n → SeenBy id seen n → n.from ≡ ByAttempt o → ⊥
unseen_apart g id seen o e found target other low n ok was is =
    let made : FromOk g n (ByAttempt o) = subst (FromOk g n) is ok.from in
    let one : made.tried ≡ e = same_found _ made.tried e made.found found in
    let there : n.station ≡ id = sym made.target ∙ ap (λ x. x.target) one ∙ target in
    let high : o.attempt ≤ slice_index seen o.source = was there o is other in omega arith

pub apart_unseen : (g : Ghost) (id : ℕ) (seen : List ℕ) (m : Made Term ℕ) (o : Origin)
    → m.from ≡ ByAttempt o
    → (e : Tried Term ℕ)
    → tried_at g.tried o.source o.attempt ≡ Some e
    → e.target ≡ id → (o.source ≡ id → ⊥) → slice_index seen o.source < o.attempt
    → (made : List (Made Term ℕ)) → AllOf (MadeOk g) made → AllOf (SeenBy id seen) made → AllOf (NotBoth m) made
apart_unseen g id seen m o is e found target other low made ok was =
    all_both (MadeOk g) (SeenBy id seen) (NotBoth m)
    (λ n k s p f h. unseen_apart g id seen o e found target other low n k s (h ∙ ap ByAttempt (one_origin m.from p o f is))) made ok was

-- what was seen stays seen
seen_higher : (seen : List ℕ) (source attempt i : ℕ)
    → length seen ≡ 8
    → source ≤ 7
    → slice_index seen source < attempt
    → slice_index seen i ≤ slice_index (slice_set seen source attempt) i
seen_higher seen source attempt i long low up = by_place (i == source) refl
  where
    by_place : (b : Bool) → (i == source) ≡ b → slice_index seen i ≤ slice_index (slice_set seen source attempt) i
    by_place true e =
        let same : i ≡ source = eqb-true i source e in
        let here = get_or-set_same seen source attempt 0 (omega arith) in
        subst (λ n. slice_index seen n ≤ slice_index (slice_set seen source attempt) n) (sym same) (omega arith)
    by_place false e = let other = get_or-set_other seen source i attempt 0 (eqb-false i source e) in omega arith

pub seen_more : (id source attempt : ℕ) (seen : List ℕ)
    → length seen ≡ 8
    → source ≤ 7
    → slice_index seen source < attempt
    → (made : List (Made Term ℕ))
    → AllOf (SeenBy id seen) made
    → AllOf (SeenBy id (slice_set seen source attempt)) made
seen_more id source attempt seen long low up made h =
    all_map (SeenBy id seen) (SeenBy id (slice_set seen source attempt))
    (λ m k at o e other. let was = k at o e other in let higher = seen_higher seen source attempt o.source long low up in omega arith) made h

-- and an attempt that was taken is seen
pub seen_there : (id : ℕ) (seen : List ℕ) (m : Made Term ℕ) (o : Origin)
    → m.from ≡ ByAttempt o
    → length seen ≡ 8
    → o.source ≤ 7
    → SeenBy id (slice_set seen o.source o.attempt) m
seen_there id seen m o is long low at p e other =
    let one : o ≡ p = one_origin m.from o p is e in
    let here = get_or-set_same seen o.source o.attempt 0 (omega arith) in
    subst (λ q. q.attempt ≤ slice_index (slice_set seen o.source o.attempt) q.source) one (omega arith)

-- of another station nothing was made here
other_seen : (id other : ℕ) (seen : List ℕ) (m : Made Term ℕ) → m.station ≡ id → id ≢ other → SeenBy other seen m
other_seen id other seen m by differs at o e apart = absurd (differs (sym by ∙ at))

pub seen_beside : (made : List (Made Term ℕ)) (o : Option (Made Term ℕ)) (id other : ℕ) (seen : List ℕ)
    → MadeBy id o
    → id ≢ other
    → AllOf (SeenBy other seen) made
    → AllOf (SeenBy other seen) (with_one o made)
seen_beside made None id other seen by differs h = h
seen_beside made (Some m) id other seen by differs h = one_more (SeenBy other seen) made m h (other_seen id other seen m by differs)

-- so each attempt gives one thing at most
once_old : (m : Made Term ℕ) (made : List (Made Term ℕ))
    → AllOf (NotBoth m) made
    → AllOf (λ n. AllOf (OneOf n) made) made
    → AllOf (λ n. AllOf (OneOf n) (with_one (Some m) made)) made
once_old m made apart h =
    all_both (NotBoth m) (λ n. AllOf (OneOf n) made) (λ n. AllOf (OneOf n) (with_one (Some m) made))
    (λ n k one. one_more (OneOf n) made m one (λ o e f. absurd (k o f e))) made apart h

pub once_more : (m : Made Term ℕ) (made : List (Made Term ℕ)) → AllOf (NotBoth m) made → AllOf (λ n. AllOf (OneOf n) made) made
    → AllOf (λ n. AllOf (OneOf n) (with_one (Some m) made)) (with_one (Some m) made)
once_more m made apart h =
    one_more (λ n. AllOf (OneOf n) (with_one (Some m) made)) made m (once_old m made apart h)
    (one_more (OneOf m) made m (all_map (NotBoth m) (OneOf m) (λ n k o e f. absurd (k o e f)) made apart) (λ o e f. refl))
