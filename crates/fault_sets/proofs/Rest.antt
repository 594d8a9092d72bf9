-- What stands in some places after the others have changed.
use Rattle.std.proofs.Common.{◌≡◌, sym, ap, ◌∙◌, ◌+◌, ◌-◌, List, [], ◌∷◌, ◌++◌, length, arith, false}
use Rattle.std.specs.Prelude.{suc, take, drop, ◌==◌, slice_set}
use Rattle.std.proofs.lemmas.List.{append-nil, take_all, drop_all}
use borrow.Rule.Slice.PartMut.{put_mid}
use Rattle.item_faults.specs.declared.changes.Fault.{Fault}
use Rattle.fault_sets.specs.declared.sets.Place.{Place}
use Rattle.fault_sets.specs.Sets.{left, sets_of}
use Rattle.fault_sets.proofs.Few.{put_none, put_some}

abbrev others : Place → List Place → List Place
others p old = take (length (slice_set old 0 p) - 1) (drop 1 (slice_set old 0 p))

abbrev now : Place → List Place → List Place → List Place
now p old new = put_mid 1 (length (slice_set old 0 p) - 1) (slice_set old 0 p) new

others_are : (p o : Place) (os : List Place) → others p (o ∷ os) ≡ os
others_are p o os =
    let less : length (p ∷ os) - 1 ≡ length os = omega arith in
    ap (λ k. take k os) less ∙ take_all (length os) os (omega arith)

now_is : (p o : Place) (os new : List Place) → now p (o ∷ os) new ≡ p ∷ new
now_is p o os new =
    let less : length (p ∷ os) - 1 ≡ length os = omega arith in
    let none : drop (length os) os ≡ [] = drop_all (length os) os (omega arith) in
    ap (λ k. put_mid 1 k (p ∷ os) new) less ∙ (λ j. p ∷ (new ++ none j)) ∙ ap (λ l. p ∷ l) (append-nil new)

pub some : (old : List Place) (p : Place) (new : List Place) (fs : List Fault) → (length old == 0) ≡ false → fs ≡ p.fault ∷ p.rest.now
    → sets_of (length (others p old)) p.rest.now ≡ left new
    → length new ≡ length (others p old)
    → sets_of (length old) fs ≡ left (now p old new)
some [] p new fs there are is many = absurd cc
some (o ∷ os) p new fs there are is many =
    let same = others_are p o os in
    ap (sets_of (suc (length os))) are
    ∙ put_some p (length os) new (ap (λ l. sets_of (length l) p.rest.now) (sym same) ∙ is) (many ∙ ap length same)
    ∙ ap left (sym (now_is p o os new))

pub none : (old : List Place) (p : Place) (fs : List Fault) → (length old == 0) ≡ false → fs ≡ p.fault ∷ p.rest.now
    → sets_of (length (others p old)) p.rest.now ≡ []
    → sets_of (length old) fs ≡ []
none [] p fs there are is = absurd cc
none (o ∷ os) p fs there are is =
    ap (sets_of (suc (length os))) are
    ∙ put_none p.fault (length os) p.rest.now (ap (λ l. sets_of (length l) p.rest.now) (sym (others_are p o os)) ∙ is)
