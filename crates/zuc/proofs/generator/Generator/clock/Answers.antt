use Rattle.std.proofs.Common.{◌≡◌, length, refl, rules, arith}
use Rattle.zuc.specs.State.{clocked, state_at}
use Rattle.zuc.proofs.StateLemmas.{same_state, shifted}
use Rattle.zuc.proofs.generator.Generator.clock.Goals as goal

pub returns : goal.returns
unfolding clocked state_at
returns c =
    let g = c.args.self.now in
    let long : length g.stages ≡ 16 = search rules in
    rw (
      c.never_zero-fed.ensures,
      c.feedback.ensures.value,
      c.boxes-self.ensures,
      c.boxes-self-2.ensures,
      c.l1.ensures,
      c.l2.ensures,
      c.crossed.ensures,
      c.crossed-2.ensures,
      c.x1.ensures,
      c.x2.ensures,
    )
    (same_state _ _ _ _ _ _ (shifted g.stages c.args.place _ (omega arith) long) refl refl)
