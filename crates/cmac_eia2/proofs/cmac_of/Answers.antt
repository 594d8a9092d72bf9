use Rattle.std.proofs.Common.{[]}
use Rattle.cmac_eia2.proofs.cmac_of.Goals as goal

pub returns : goal.returns
returns c =
    let key = c.args.aes.now in
    let text = c.args.text.now in
    c.end.ensures key text (c.feed.ensures key [] c.start-cmac.ensures)
