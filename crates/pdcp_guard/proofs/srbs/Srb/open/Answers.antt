use Rattle.std.proofs.Common.{◌≡◌, ◌<◌, arith, rules}
use Rattle.pdcp_guard.specs.{Counts.count_limit, Srb.srb_opened_at}
use Rattle.pdcp_guard.proofs.SrbFacts.{Answered, srb_answered, srb_intact}
use Rattle.pdcp_guard.proofs.srbs.Srb.open.Goals as goal

-- what is so of the answer at the COUNT found
answered : (c : goal.After-opened_at)
    → Answered c.args.keys.now c.args.cipher c.args.self.now.bearer c.args.self.now.counts.receive c.args.dir
    c.args.pdu.now
    (srb_opened_at c.args.keys.now c.args.cipher c.args.self.now.bearer c.in_ok-count.count c.args.dir c.args.pdu.now)
answered c =
    let below : c.in_ok-count.count < count_limit = omega arith in
    let found = c.in_ok-count.ensures in
    srb_answered c.args.keys.now c.args.cipher c.args.self.now.bearer c.args.self.now.counts.receive c.args.dir
    c.args.pdu.now c.in_ok-count.count found.long found.reserved found.count below found.at_or_above

pub returns-clause-opens : goal.returns-clause-opens
returns-clause-opens c =
    let same : c.self.inside.bearer ≡ c.args.self.now.bearer = cc in
    rw (c.opened_at.ensures, same) (answered c).opens

pub returns-clause-refused : goal.returns-clause-refused
returns-clause-refused c =
    let same : c.self.inside.bearer ≡ c.args.self.now.bearer = cc in
    rw (c.opened_at.ensures, same) (answered c).refused

pub returns-clause-at_or_above : goal.returns-clause-at_or_above
returns-clause-at_or_above c =
    let same : c.self.inside.bearer ≡ c.args.self.now.bearer = cc in
    rw (c.opened_at.ensures, same) (answered c).at_or_above

pub returns-clause-was_sealed : goal.returns-clause-was_sealed
returns-clause-was_sealed c =
    let same : c.self.inside.bearer ≡ c.args.self.now.bearer = cc in
    rw (c.opened_at.ensures, same) (answered c).was_sealed

pub returns-clause-intact : goal.returns-clause-intact
returns-clause-intact c =
    srb_intact c.args.keys.now c.args.cipher c.args.self.now.bearer c.args.self.now.counts.receive c.args.dir
    c.args.pdu.now c.opened_at.result (search rules)

pub returns-in_err-count-clause-intact : goal.returns-in_err-count-clause-intact
returns-in_err-count-clause-intact c =
    srb_intact c.args.keys.now c.args.cipher c.args.self.now.bearer c.args.self.now.counts.receive c.args.dir
    c.args.pdu.now c.from_residual.result (search rules)
