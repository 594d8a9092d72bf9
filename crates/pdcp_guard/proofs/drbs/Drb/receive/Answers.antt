use Rattle.std.proofs.Common.{◌≡◌, ◌<◌, slice_index, Ok, rules, arith, ◌∙◌}
use Rattle.pdcp_guard.specs.Drb.{DrbOpens}
use Rattle.pdcp_guard.proofs.DrbFacts.{drb_intact, drb_sealed-opened}
use Rattle.pdcp_guard.proofs.drbs.Drb.receive.Goals as goal

pub returns-clause-was_sealed : goal.returns-clause-was_sealed
returns-clause-was_sealed c =
    let octet : slice_index c.args.pdu.now 1 < 256 = search rules in
    let same : c.self.inside.bearer ≡ c.args.self.now.bearer = cc in
    let opens : DrbOpens c.args.keys.now c.args.self.now.bearer c.args.self.now.counts.receive c.args.dir c.args.pdu.now c.opened_at.result =
    record {
      long = c.in_ok-count.ensures.long;
      first = c.in_ok-count.ensures.first;
      count = c.opened_at.ensures.count ∙ c.in_ok-count.ensures.count;
      below = omega arith;
      text = rw (c.opened_at.ensures.count, ← same) c.opened_at.ensures.text;
    } in
    drb_sealed-opened c.args.keys.now c.args.self.now.bearer c.args.self.now.counts.receive c.args.dir c.args.pdu.now c.opened_at.result octet opens

pub returns-clause-intact : goal.returns-clause-intact
returns-clause-intact c =
    drb_intact c.args.keys.now c.args.self.now.bearer c.args.self.now.counts.receive c.args.dir c.args.pdu.now
    (Ok c.opened_at.result) (search rules)

pub returns-in_err-count-clause-intact : goal.returns-in_err-count-clause-intact
returns-in_err-count-clause-intact c =
    drb_intact c.args.keys.now c.args.self.now.bearer c.args.self.now.counts.receive c.args.dir c.args.pdu.now
    c.from_residual.result (search rules)
