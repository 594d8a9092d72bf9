use Rattle.std.proofs.Common.{◌≡◌, true, rules}
use Rattle.alg_choice.specs.Choice.{are_supported}
use Rattle.ue_context.proofs.link.Link.hand_over.Goals as goal

pub returns : goal.returns
returns c = let own : are_supported c.args.nas.now.caps c.args.algs ≡ true = search rules in rw (own) (c.obey.ensures c.args.nas.now)
