use Rattle.std.proofs.Common.{◌≡◌, true, rules}
use Rattle.key_model.specs.Reading.{octet_reading}
use Rattle.pdcp_guard.specs.AsKeys.{as_keys_of}
use Rattle.rec_base.specs.declared.bearers.Bearer.TheVariants.{Srb1}
use Rattle.lte_machine.specs.{Calls.use_out, PhoneRows.LinkSecured}
use Rattle.ue_context.specs.{Parts.linked, Parts.waiting, Step.to_phone}
use Rattle.ue_context.proofs.AirSteps.{accepted_so}
use Rattle.ue_context.proofs.waiting.Waiting.take_start.Goals as goal

pub returns : goal.returns
returns c = λ n.
    let start = c.args.start.now in
    let u = to_phone (as_keys_of octet_reading c.args.self.now.kenb start.algs) Srb1 start.count in
    let named : c.args.start.now.named ≡ true = search rules in
    let same : c.verified_use.result
    ≡ use_out
    (to_phone (as_keys_of octet_reading c.args.self.now.kenb c.args.start.now.algs) Srb1 c.args.start.now.count) =
    search rules in
    rw (named, same)
    (accepted_so (waiting n c.args.self.now) (linked n c.secure-link.result)
    (LinkSecured c.args.station c.args.air start.algs start.count) u c.secure-link.new.out
    (c.secure-link.ensures n))
