use Rattle.std.proofs.Common.{◌<◌, length, ap, subst, sym, ◌∙◌}
use Rattle.std.specs.Prelude.{Result, Ok, Err, IfOk}
use Rattle.key_model.specs.Reading.{octet_reading}
use Rattle.trace_keys.specs.{Moved.moved, Same.same_net}
use Rattle.trace_keys.proofs.OneNet.{one_net}
use Rattle.trace_rules.specs.Told.{tells}
use Rattle.trace_rules.proofs.Telling.{told_is}
use Rattle.trace_plain.specs.Sights.{fits, is_covered}
use Rattle.trace_plain.proofs.Leading.{some_end, ends_here}
use Rattle.trace_plain.proofs.way.way_to.Goals as goal

ok_too : {A E : Type 0} (r : Result A E) (P Q : A → Type 0) → ((a : A) → P a → Q a) → IfOk r P → IfOk r Q
ok_too (Ok a) P Q f h = f a h
ok_too (Err e) P Q f h = tt

pub first_place-last-requires : goal.first_place-last-requires
first_place-last-requires c =
    let e = c.requires.explained in
    subst (λ xs. 0 < length xs) (sym c.steps.ensures)
    (some_end (moved octet_reading c.args.kasmes.now) fits (is_covered c.args.covered.now) c.args.family.now c.args.bound same_net one_net c.args.start.now c.args.capture.now
    c.in_ok-way.way c.in_ok-way.ensures.way e.0 e.1 e.2)

pub told_back-requires : goal.told_back-requires
told_back-requires c =
    let e = c.requires.explained in
    let ends = ends_here (moved octet_reading c.args.kasmes.now) fits (is_covered c.args.covered.now) c.args.family.now c.args.bound same_net one_net c.args.start.now c.args.capture.now
    c.in_ok-way.way c.in_ok-way.ensures.way e.0 e.1 e.2 c.steps.result.now c.came.result.now c.first_place-last.result c.steps.ensures c.came.ensures
    c.first_place-last.ensures in
    (ends.0, ends.1)

pub returns-clause-told : goal.returns-clause-told
returns-clause-told c =
    let e = c.requires.explained in
    let moves = moved octet_reading c.args.kasmes.now in
    let covers = is_covered c.args.covered.now in
    let ends = ends_here moves fits covers c.args.family.now c.args.bound same_net one_net c.args.start.now c.args.capture.now
    c.in_ok-way.way c.in_ok-way.ensures.way e.0 e.1 e.2 c.steps.result.now c.came.result.now c.first_place-last.result c.steps.ensures c.came.ensures
    c.first_place-last.ensures in
    ok_too c.told_back.result _ _ (λ told is. ap (tells moves fits covers c.args.bound c.args.start.now c.args.capture.now) (is ends.0 ends.1) ∙ ends.2)
    c.told_back.ensures.told

pub returns-clause-history : goal.returns-clause-history
returns-clause-history c =
    let moves = moved octet_reading c.args.kasmes.now in
    let covers = is_covered c.args.covered.now in
    ok_too c.told_back.result _ _ (λ told good. told_is moves fits covers c.args.bound c.args.start.now c.args.capture.now told.items good)
    (returns-clause-told c)
