use Rattle.lte_machine.specs.CoreState.{CoreAuth}
use Rattle.nas_smc.specs.CoreNas.{core_of}
use Rattle.mme_context.proofs.Whole.{rest_in, whole}
use Rattle.mme_context.proofs.mme.Core.authenticate.Goals as goal

pub returns : goal.returns
returns c =
    let rest = rest_in c.self.inside in
    whole _ _ (CoreAuth c.args.ksi c.args.root c.args.caps) _ _ c.self.view_is
    (λ j. (core_of c.authenticate.new.self (record rest { latest = c.args.caps }), c.only.ensures j))
    (c.authenticate.ensures rest)
