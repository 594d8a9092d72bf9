use Rattle.std.proofs.Common.{◌≡◌, length, rules, sym}
use Rattle.cmac_eia2.proofs.StateLemmas.{fold-next_block}
use Rattle.cmac_eia2.proofs.state.State.absorb_block.Goals as goal

pub returns-then-self-eq16-clause-value : goal.returns-then-self-eq16-clause-value
returns-then-self-eq16-clause-value c =
    let block = c.args.block.now in
    let long : length block ≡ 16 = search rules in
    rw (c.add-self.ensures, c.encrypt.ensures) (sym (fold-next_block c.args.self.now block c.if-self-eq16.true long))
