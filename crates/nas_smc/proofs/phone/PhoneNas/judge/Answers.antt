use Rattle.std.proofs.Common.{◌≡◌, Ok, rules}
use Rattle.lte_machine.specs.PhoneChoice.{header_for_phone}
use Rattle.nas_smc.proofs.Joining.{row_by, accepted_by}
use Rattle.nas_smc.proofs.phone.PhoneNas.judge.Goals as goal

pub returns-in-Ok-eq3-clause-row : goal.returns-in-Ok-eq3-clause-row
returns-in-Ok-eq3-clause-row c = λ radio.
    let same : header_for_phone c.args.pdu.now ≡ Ok 3 = search rules in
    row_by c.args.self.now c.args.pdu.now (Ok 3) same radio _ (c.command.ensures.row radio)

pub returns-in-Ok-eq3-clause-accepted : goal.returns-in-Ok-eq3-clause-accepted
returns-in-Ok-eq3-clause-accepted c = λ radio.
    let same : header_for_phone c.args.pdu.now ≡ Ok 3 = search rules in
    accepted_by c.args.self.now c.args.pdu.now (Ok 3) same radio _ (c.command.ensures.accepted radio)

pub returns-in-Ok-clause-row : goal.returns-in-Ok-clause-row
returns-in-Ok-clause-row c = λ radio.
    let same : header_for_phone c.args.pdu.now ≡ Ok c.in-Ok.header = search rules in
    row_by c.args.self.now c.args.pdu.now (Ok c.in-Ok.header) same radio _ (c.message.ensures.row radio)

pub returns-in-Ok-clause-accepted : goal.returns-in-Ok-clause-accepted
returns-in-Ok-clause-accepted c = λ radio.
    let same : header_for_phone c.args.pdu.now ≡ Ok c.in-Ok.header = search rules in
    accepted_by c.args.self.now c.args.pdu.now (Ok c.in-Ok.header) same radio _ (c.message.ensures.accepted radio)
