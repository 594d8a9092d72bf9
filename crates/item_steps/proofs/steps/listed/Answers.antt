use Rattle.std.proofs.Common.{refl, ap, ◌∙◌, arith, ◌<◌, [], ◌∷◌, ◌++◌, length, take, length-append}
use Rattle.std.proofs.lemmas.Option.{slice_get_read}
use Rattle.item_steps.specs.Steps.{next_step}
use Rattle.item_steps.proofs.OneStepMore.{steps_more}
use Rattle.item_steps.proofs.steps.listed.Goals as goal

pub loop-number-preserved : goal.loop-number-preserved
loop-number-preserved c =
    let n = c.loop-number.number in
    let told = c.args.told.now in
    let steps = c.loop-number.steps.items in
    let within : n < length told = omega (arith, c.loop-number-test.true, c.len-number-end.ensures, c.requires.a_line_each) in
    let line = slice_get_read told (length told) n c.index-told-number.result refl within c.index-told-number.is in
    let made =
    c.next_step-step.ensures
    ∙ ap (λ s. next_step s (take n told) c.at-event.result c.index-told-number.result) c.as_slice.ensures.value in
    let more = c.push_reserved.ensures.items ∙ (λ j. c.reserve.ensures.items j ++ made j ∷ []) in
    let grown = ap length more in
    let sum = length-append steps (next_step steps (take n told) c.at-event.result c.index-told-number.result ∷ []) in
    record {
      steps =
          c.loop-number.invariant.steps
          ∙ steps_more steps c.push_reserved.new.self.items c.args.events.now.items told n c.at-event.result c.index-told-number.result
          c.at-event.ensures line more;
      as_many = omega (arith, grown, sum, c.loop-number.invariant.as_many);
    }
