use Rattle.std.proofs.Common.{◌≡◌, ◌+◌, ◌%◌, ◌^◌, length, ap, rules, arith}
use Rattle.std.specs.Prelude.{bit_xor}
use Rattle.snow3g.specs.State.{clocked, state_at}
use Rattle.snow3g.proofs.StateLemmas.{same_state, shifted}
use Rattle.snow3g.proofs.generator.Generator.clock.Goals as goal

pub returns : goal.returns
unfolding clocked state_at
returns c =
    let g = c.args.self.now in
    let long : length g.stages ≡ 16 = search rules in
    same_state _ _ _ _ _ _ _ _ (shifted g.stages c.args.place c.args.fed (omega arith) long)
    (ap (λ w. (g.r2 + bit_xor g.r3 w) % 2 ^ 32) c.stage.ensures) c.s1-self.ensures c.s2-self.ensures
