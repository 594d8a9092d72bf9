use Rattle.std.proofs.Common.{◌/◌, ◌%◌, ◌^◌, refl, ◌∙◌, arith}
use Rattle.zuc.specs.Boxes.{boxes}
use Rattle.zuc.proofs.BoxTables.{get_or-S0, get_or-S1, number_of_four}
use Rattle.zuc.proofs.s_boxes.boxes.Goals as goal

pub returns : goal.returns
unfolding boxes
returns c =
    let w = c.args.w in
    c.from_be_bytes.ensures
    ∙ number_of_four _ _ _ _
    ∙ rw (
      get_or-S0 (w / 2 ^ 24) (omega arith),
      get_or-S1 (w / 2 ^ 16 % 256) (omega arith),
      get_or-S0 (w / 2 ^ 8 % 256) (omega arith),
      get_or-S1 (w % 256) (omega arith),
    )
    refl
