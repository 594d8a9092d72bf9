use Rattle.std.proofs.Common.{◌+◌, sym, ap, ◌∙◌}
use Rattle.std.specs.Option.{option_map}
use Rattle.key_terms.proofs.Lookups.{index_hit, index_later}
use Rattle.key_terms.proofs.ladder.find_by.Goals as goal

pub returns-in-Some-clause-place : goal.returns-in-Some-clause-place
returns-in-Some-clause-place c =
    sym (index_hit c.args.index.now c.args.rows.now c.args.octets.now c.in-Some.place c.requires.index (sym c.number_of.ensures ∙ c.in-Some.is))

pub returns-in_err-place-clause-place : goal.returns-in_err-place-clause-place
returns-in_err-place-clause-place c =
    let none = sym c.number_of.ensures ∙ c.in_default.is in
    let place = index_later c.args.index.now c.args.rows.now c.args.octets.now c.len-mark.result c.position_of.result
    c.requires.index none c.len-mark.ensures c.position_of.ensures.place in
    c.from_residual.ensures ∙ sym (ap (option_map (λ j. c.len-mark.result + j)) c.in_err-place.was) ∙ place

pub returns-clause-place : goal.returns-clause-place
returns-clause-place c =
    let none = sym c.number_of.ensures ∙ c.in_default.is in
    let place = index_later c.args.index.now c.args.rows.now c.args.octets.now c.len-mark.result c.position_of.result
    c.requires.index none c.len-mark.ensures c.position_of.ensures.place in
    sym (ap (option_map (λ j. c.len-mark.result + j)) c.in_ok-place.was) ∙ place
