use Rattle.std.proofs.Common.{◌≡◌, sym, ap, subst, ◌∙◌, arith, ◌+◌, ◌-◌, ◌≤◌, suc, length}
use Rattle.lte_events.specs.{Scenario.CanHappen, declared.events.Event.Event}
use Rattle.item_runs.specs.{Coming.happening, Course.place_of, Course.told_written}
use Rattle.item_runs.proofs.AtOnce.{on_ok, number_goes, longer_by, stops, keeps, goes_on}
use Rattle.item_runs.proofs.courses.Course.+happening.Goals as goal

pub happening-requires : goal.happening-requires
happening-requires t c =
    let told = told_written c.args.self.now.setup c.args.self.now.coming.events c.args.event.now in
    let one = c.in_ok-one.ensures in
    let longer = longer_by (place_of c.args.self.now.setup) c.args.name c.args.event.now c.args.self.now.coming told in
    let length_is = ap (λ d. length d.events) one.coming in (
      omega (arith, c.if-times-eq0.false, c.decreases),
      (
        ap (λ d. d.over) one.coming
            ∙ number_goes (place_of c.args.self.now.setup) c.args.name c.args.event.now c.args.self.now.coming told c.in-Some.number (sym one.number ∙ c.in-Some.is)
            ∙ c.requires.goes_on,
        (
          subst (CanHappen c.one.new.self.setup) (sym c.delivery-next.ensures) (tt, tt),
          omega (arith, longer, length_is, c.requires.few, c.if-times-eq0.false),
        ),
      ),
    )

pub returns-in-None-clause-coming : goal.returns-in-None-clause-coming
returns-in-None-clause-coming t c =
    stops (told_written c.args.self.now.setup) (place_of c.args.self.now.setup) c.args.name c.args.event.now c.args.self.now.coming c.one.new.self.coming
    c.in_ok-one.ensures.coming c.args.times (sym c.in_ok-one.ensures.number ∙ c.in-None.is)

pub returns-in-None-clause-longer : goal.returns-in-None-clause-longer
returns-in-None-clause-longer t c =
    let told = told_written c.args.self.now.setup c.args.self.now.coming.events c.args.event.now in
    let longer = longer_by (place_of c.args.self.now.setup) c.args.name c.args.event.now c.args.self.now.coming told in
    let length_is = ap (λ d. length d.events) c.in_ok-one.ensures.coming in
    omega (arith, longer, length_is)

pub returns-then-times-eq0-clause-coming : goal.returns-then-times-eq0-clause-coming
returns-then-times-eq0-clause-coming t c =
    on_ok c.keep.result c.keep.ensures.coming (λ is. is
    ∙ keeps (told_written c.args.self.now.setup) (place_of c.args.self.now.setup) c.args.name c.args.event.now c.args.self.now.coming c.one.new.self.coming
    c.in_ok-one.ensures.coming c.args.times c.in-Some.number (omega (arith, c.if-times-eq0.true)) (sym c.in_ok-one.ensures.number ∙ c.in-Some.is))

pub returns-then-times-eq0-clause-longer : goal.returns-then-times-eq0-clause-longer
returns-then-times-eq0-clause-longer t c =
    let told = told_written c.args.self.now.setup c.args.self.now.coming.events c.args.event.now in
    let longer = longer_by (place_of c.args.self.now.setup) c.args.name c.args.event.now c.args.self.now.coming told in
    let length_is = ap (λ d. length d.events) c.in_ok-one.ensures.coming in
    on_ok c.keep.result c.keep.ensures.coming (λ is. let same = ap (λ d. length d.events) is in omega (arith, longer, length_is, same))

pub returns-else-times-eq0-clause-coming : goal.returns-else-times-eq0-clause-coming
returns-else-times-eq0-clause-coming t c =
    on_ok c.happening.result c.happening.ensures.coming (λ is. is
    ∙ (λ j. happening (told_written (c.in_ok-one.ensures.setup j)) (place_of (c.in_ok-one.ensures.setup j)) (c.args.times - 1) c.args.name (c.delivery-next.ensures j) c.one.new.self.coming)
    ∙ goes_on (told_written c.args.self.now.setup) (place_of c.args.self.now.setup) c.args.name c.args.event.now c.args.self.now.coming c.one.new.self.coming
    c.in_ok-one.ensures.coming c.args.times (c.args.times - 1) c.in-Some.number (omega (arith, c.if-times-eq0.false)) (sym c.in_ok-one.ensures.number ∙ c.in-Some.is))

pub returns-else-times-eq0-clause-longer : goal.returns-else-times-eq0-clause-longer
returns-else-times-eq0-clause-longer t c =
    let told = told_written c.args.self.now.setup c.args.self.now.coming.events c.args.event.now in
    let longer = longer_by (place_of c.args.self.now.setup) c.args.name c.args.event.now c.args.self.now.coming told in
    let length_is = ap (λ d. length d.events) c.in_ok-one.ensures.coming in
    on_ok c.happening.result c.happening.ensures.longer (λ less. omega (arith, longer, length_is, less, c.if-times-eq0.false))
