use Rattle.std.proofs.Common.{sym}
use Rattle.ladder_text.proofs.Rows.{key_is}
use Rattle.ladder_text.proofs.asked.octets.Goals as goal

pub returns : goal.returns
returns c = λ rows stand. sym (key_is rows c.args.ladder.now.rows c.args.row c.row.result stand.is c.row.ensures.row)
