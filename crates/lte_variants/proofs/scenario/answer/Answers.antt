use Rattle.scenario_file.specs.Reading.{reading_of}
use Rattle.lte_variants.proofs.Exact.{of_text}
use Rattle.lte_variants.proofs.scenario.answer.Goals as goal

pub returns-in-Ok-clause-keys : goal.returns-in-Ok-clause-keys
returns-in-Ok-clause-keys g c = λ done.
    of_text (reading_of c.args.octets.now) c.in-Ok.scenario.setup c.in-Ok.scenario.events.items c.in-Ok.ensures.scenario
    (c.answer_scenario.ensures.keys done)
