use Rattle.std.proofs.Common.{fold, ap, ◌∙◌}
use Rattle.cmac_eia2.specs.State.{absorbed}
use Rattle.cmac_eia2.proofs.StateLemmas.{fed-append}
use Rattle.cmac_eia2.proofs.cmac.Cmac.feed.Goals as goal

pub returns : goal.returns
returns c = λ key text state.
    let piece = c.args.piece.now in
    c.absorb.ensures.value ∙ ap (λ s. fold absorbed s piece) (c.self.view_is ∙ state) ∙ fed-append key text piece
