use Rattle.std.proofs.Common.{◌≡◌, ◌<◌, arith}
use Rattle.pdcp_guard.specs.Counts.{count_limit}
use Rattle.pdcp_guard.proofs.SrbFacts.{srb_opened-near}
use Rattle.pdcp_guard.proofs.srbs.Srb.send.Goals as goal

pub returns-clause-opens : goal.returns-clause-opens
returns-clause-opens c = λ next above few.
    let same : c.self.inside.bearer ≡ c.args.self.now.bearer = cc in
    let below : c.in_ok-count.count < count_limit = omega arith in
    rw (c.sealed-pdu.ensures, same)
    (srb_opened-near c.args.keys.now c.args.cipher c.args.self.now.bearer c.in_ok-count.count next c.args.dir c.args.text.now below above few)
