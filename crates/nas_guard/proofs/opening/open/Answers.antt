use Rattle.std.proofs.Common.{◌<◌, rules, sym, arith}
use Rattle.std.proofs.lemmas.Grind.{common_steps}
use Rattle.nas_guard.specs.Open.{opened, sn_in}
use Rattle.nas_guard.proofs.SealFacts.{opened-Opens, sealed-opened}
use Rattle.nas_guard.proofs.opening.open.Goals as goal

pub returns-clause-value : goal.returns-clause-value
unfolding opened
returns-clause-value c = grind (arith, common_steps)

pub returns-clause-opens : goal.returns-clause-opens
returns-clause-opens c = opened-Opens _ _ _ _ _ (sym (returns-clause-value c))

pub returns-clause-was_sealed : goal.returns-clause-was_sealed
returns-clause-was_sealed c =
    let octet : sn_in c.args.pdu.now < 256 = search rules in
    sealed-opened c.args.keys.now c.args.rx.now c.args.dir c.args.pdu.now _ octet (returns-clause-opens c)
