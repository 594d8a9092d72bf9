use Rattle.std.proofs.Common.{◌∙◌}
use Rattle.nas_smc.specs.CoreNas.{core_of, first_rest}
use Rattle.mme_context.proofs.mme.Core.with_first_ncc.Goals as goal

pub returns : goal.returns
returns c =
    (λ j. core_of c.new.result (first_rest (c.copied.ensures j) (c.from.ensures j) c.args.first_ncc))
    ∙ c.new.ensures c.args.cells.now c.args.first c.args.first_ncc
