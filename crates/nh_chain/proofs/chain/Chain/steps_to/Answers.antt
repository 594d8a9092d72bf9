use Rattle.std.proofs.Common.{◌+◌, ◌-◌, ◌%◌, ◌∙◌, ap, sym}
use Rattle.key_model.specs.{HandoverLines.steps_to, Reading.octet_reading}
use Rattle.nh_chain.specs.Chain.{number_after}
use Rattle.nh_chain.proofs.ClimbFacts.{steps_between, climbed_number}
use Rattle.nh_chain.proofs.chain.Chain.steps_to.Goals as goal

pub returns-clause-steps : goal.returns-clause-steps
returns-clause-steps c =
    steps_between c.self.inside.ncc c.args.ncc c.self.invariant c.requires
    ∙ ap (λ chain. steps_to chain.number c.args.ncc) c.self.view_is

pub returns-clause-there : goal.returns-clause-there
returns-clause-there c =
    let own = c.self.inside.ncc in
    let steps = steps_between own c.args.ncc c.self.invariant c.requires in
    ap (λ chain. number_after octet_reading chain.number ((c.args.ncc + 8 - own) % 8)) (sym c.self.view_is)
    ∙ ap (λ n. number_after octet_reading own n) steps
    ∙ climbed_number own c.args.ncc c.self.invariant c.requires
