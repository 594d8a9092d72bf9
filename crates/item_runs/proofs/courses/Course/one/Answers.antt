use Rattle.std.proofs.Common.{sym, ap, subst, ◌∙◌, ◌<◌, [], ◌∷◌, ◌++◌, length}
use Rattle.lte_events.specs.Scenario.{most_events, CanHappen}
use Rattle.item_runs.specs.{Coming.told_line, Course.place_of}
use Rattle.item_runs.proofs.OneMore.{stands_more, stands_now}
use Rattle.item_runs.proofs.courses.Course.one.Goals as goal

pub invariant_of-self-in-Ok-happen : goal.invariant_of-self-in-Ok-happen
invariant_of-self-in-Ok-happen c =
    let w = c.self.inside.world in
    let e = c.args.event.now in
    let line = c.in-Ok-happen.line in
    let can = subst (λ s. CanHappen s.setup e) (sym c.self.view_is) c.requires.can_happen in
    let few = subst (λ s. length s.coming.events < most_events) (sym c.self.view_is) c.requires.few in
    let at = c.place-at.result in
    let place = c.place-at.ensures ∙ (λ j. place_of (c.happen.ensures.setup j) (c.in-Ok-happen.ensures.journal j) line.who) in
    let more = stands_more w.setup w.journal c.self.inside.told.items c.args.name e line at can few (c.in-Ok-happen.ensures.told (λ same. cc)) place c.self.invariant.0 in (
      stands_now w.setup c.happen.new.world.setup (w.journal ++ e ∷ []) c.happen.new.world.journal
          (c.self.inside.told.items ++ told_line c.args.name line at ∷ []) c.push_reserved.new.self.items c.happen.ensures.setup
          c.in-Ok-happen.ensures.journal
          (c.push_reserved.ensures.items ∙ ap (λ xs. xs ++ told_line c.args.name line at ∷ []) c.reserve.ensures.items) more,
      λ over. c.in-Ok-happen.ensures.goes,
    )
