use Rattle.std.proofs.Common.{◌≡◌, Ok, ap, ◌∙◌, ◌++◌, ◌∷◌, [], length}
use Rattle.lte_world.specs.Whole.{Whole, told_of, turned}
use Rattle.fleet_world.proofs.BeginsAndGoesOn.{took, rows_before}
use Rattle.fleet_world.proofs.worlds.take_in.Goals as goal

pub returns-clause-takes : goal.returns-clause-takes
returns-clause-takes c =
    let v = c.args.world.now in
    let same = c.in_ok-reserve.ensures.same in
    let e = c.args.event.now in
    let says : Ok c.in_ok-line.line ≡ told_of v e = c.in_ok-line.ensures.says ∙ ap (λ (x : Whole). told_of x e) same in (
      c.len-before.ensures.len ∙ ap length (rows_before v c.reserve.new.self c.ladder.result.now.rows same c.requires.goes c.ladder.ensures),
      says,
      took v c.apply.new.self e c.in_ok-line.line c.requires.goes
          (c.in_ok-line.ensures.setup ∙ ap (λ (x : Whole). x.setup) same)
          (c.in_ok-line.ensures.journal ∙ ap (λ (x : Whole). x.journal ++ e ∷ []) same)
          c.in_ok-line.ensures.room (c.in_ok-line.ensures.run ∙ ap (λ (x : Whole). turned x e) same) says,
    )
