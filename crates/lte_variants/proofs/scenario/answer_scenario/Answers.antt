use Rattle.std.proofs.Common.{◌≡◌, ◌≤◌, length, rules}
use Rattle.item_faults.specs.Entries.{most_steps}
use Rattle.variant_runs.specs.Original.{original_of, own_lines}
use Rattle.lte_variants.proofs.Running.{report_told}
use Rattle.lte_variants.proofs.scenario.answer_scenario.Goals as goal

pub returns-in-Ok-Some-clause-text : goal.returns-in-Ok-Some-clause-text
returns-in-Ok-Some-clause-text g c =
    let setup = c.args.scenario.setup in
    let events = c.args.scenario.events.items in
    let few : length events ≤ most_steps = search rules in
    let all : length (own_lines setup events) ≡ length events = search rules in
    let is : c.in-Ok-Some.study ≡ original_of setup events = search rules in
    report_told c.args.request.now setup events c.in-Ok-Some.study c.write_report-written.result c.status_of.result _ _ few all is
    c.status_of.ensures.value c.write_report-written.ensures

pub returns-in-Ok-Some-clause-keys : goal.returns-in-Ok-Some-clause-keys
returns-in-Ok-Some-clause-keys g c = λ done.
    let setup = c.args.scenario.setup in
    let events = c.args.scenario.events.items in
    let all : length (own_lines setup events) ≡ length events = search rules in
    c.keys_are_told.ensures.told all
