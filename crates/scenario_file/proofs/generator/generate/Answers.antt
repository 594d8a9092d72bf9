use Rattle.scenario_file.proofs.{Generated.generated_length, GeneratedFits.is_scenario}
use Rattle.scenario_file.proofs.generator.generate.Goals as goal

pub returns-clause-steps : goal.returns-clause-steps
returns-clause-steps c = rw c.in_ok-events.ensures.events (generated_length c.args.n c.args.seed)

pub returns-clause-is_scenario : goal.returns-clause-is_scenario
returns-clause-is_scenario c = rw (c.generated_setup-setup.ensures, c.in_ok-events.ensures.events) (is_scenario c.args.n c.args.seed c.requires.few)
