use Rattle.std.proofs.Common.{◌≡◌, ◌∙◌, flat_map, subst, rules}
use Rattle.key_model.specs.Reading.{octet_reading}
use Rattle.trace_keys.specs.Moved.{moved}
use Rattle.trace_rules.specs.Search.{hidden_from}
use Rattle.trace_rules.proofs.Members.{Sub}
use Rattle.trace_plain.specs.Sights.{is_covered}
use Rattle.trace_plain.proofs.ahead.led.Goals as goal

pub returns-clause-full : goal.returns-clause-full
returns-clause-full c = λ e.
    let from = hidden_from (moved octet_reading c.args.kasmes.now) (is_covered c.args.covered.now) c.args.family.now in
    let slice : c.as_slice.result.now ≡ c.in_ok-fresh.fresh.items = search rules in
    subst (λ xs. Sub (flat_map from xs) c.args.all.now) (slice ∙ c.in_ok-fresh.ensures.items) (c.in_ok-full.ensures.full e)
