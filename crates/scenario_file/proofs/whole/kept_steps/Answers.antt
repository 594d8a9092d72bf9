use Rattle.std.proofs.Common.{rules, ◌≡◌, ◌∙◌, ◌+◌, ◌<◌, [], suc, ◌∷◌, ◌++◌, All, Ok, ap, sym, subst, drop, length, add-one, length-append}
use Rattle.std.proofs.{Math.Seq.drop-cons, lemmas.List.Elements.All-push}
use Rattle.toml.specs.View.{items_view, view}
use Rattle.lte_events.specs.Scenario.{CanHappen}
use Rattle.scenario_file.specs.{Reading.kept_from, Reading.step_at, Values.◌>>=◌}
use Rattle.scenario_file.proofs.whole.kept_steps.Goals as goal

pub loop-value-preserved : goal.loop-value-preserved
loop-value-preserved g c =
    let setup = c.args.start.now.setup in
    let kept = g.E.Kept.kept in
    let old = g.E.Kept.items c.loop-value.steps in
    let i = c.loop-value.value-index in
    let values = c.args.values.now in
    let value = c.value-item.result in
    let more : g.E.Kept.items c.keep.new.self ≡ old ++ kept c.step_at.new.step ∷ [] = search rules in
    let within : i < length values = search rules in
    let left : drop i values ≡ value ∷ drop (i + 1) values = drop-cons values i value within
    ∙ ap (λ d. d ∷ drop (suc i) values) (sym c.value-item.is)
    ∙ ap (λ n. value ∷ drop n values) (sym (add-one i)) in
    let told : Ok c.step_at.new.step ≡ step_at c.args.system c.args.start.now (length old) (view value) = search rules in
    record {
      so_far = c.loop-value.invariant.so_far ∙ ap (λ vs. kept_from kept c.args.system c.args.start.now old (items_view vs)) left
          ∙ ap (λ r. r >>= λ step. kept_from kept c.args.system c.args.start.now (old ++ kept step ∷ []) (items_view (drop (i + 1) values))) (sym told)
          ∙ ap (λ xs. kept_from kept c.args.system c.args.start.now xs (items_view (drop (i + 1) values))) (sym more);
      can = subst (All (λ e. CanHappen setup (g.E.Kept.happening e))) (sym more)
          (All-push (λ e. CanHappen setup (g.E.Kept.happening e)) _ _ c.loop-value.invariant.can
          (subst (CanHappen setup) (sym c.keep.ensures.event) c.in_ok-step_at.ensures.can));
      stand = subst (All (g.E.Kept.is_of c.args.start.now.phones)) (sym more)
          (All-push (g.E.Kept.is_of c.args.start.now.phones) _ _ c.loop-value.invariant.stand
          (c.keep.ensures.phone c.args.start.now.phones c.in_ok-step_at.ensures.phone));
      number = ap length more ∙ length-append old (kept c.step_at.new.step ∷ []) ∙ ap (λ n. n + 1) c.loop-value.invariant.number;
    }
