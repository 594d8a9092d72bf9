use Rattle.std.proofs.Common.{◌≡◌, sym, ap, ◌∙◌, arith, Some, None}
use Rattle.std.specs.Option.{option_map}
use Rattle.key_terms.specs.{declared.row.Row.Row, Ladder.row_of}
use Rattle.fleet_world.specs.{Meeting.has_row, Meeting.ladder_at, Worlds.others_in}
use Rattle.fleet_world.proofs.Searching.{others_length, first_is, none_is, and_this, row_found, row_not_found, met_is, met_none}
use Rattle.fleet_world.proofs.meeting.row_elsewhere.Goals as goal

pub returns-in-Some : goal.returns-in-Some
returns-in-Some c =
    let others = others_in c.args.phone c.args.worlds.now in
    let many = others_length c.args.phone c.args.worlds.now in
    let octets = c.args.octets.now in
    let here : row_of (ladder_at others c.loop-number.number) octets ≡ Some c.in-Some.row.0 = sym c.in-Some.ensures in
    sym (met_is octets others c.loop-number.number c.in-Some.row.0
    (first_is (has_row octets) others c.loop-number.number (omega (arith, many, c.loop-number-test.true))
    (row_found octets (ladder_at others c.loop-number.number) c.in-Some.row.0 here) c.loop-number.invariant)
    here)

pub loop-number-preserved : goal.loop-number-preserved
loop-number-preserved c =
    let others = others_in c.args.phone c.args.worlds.now in
    let octets = c.args.octets.now in
    let none : row_of (ladder_at others c.loop-number.number) octets ≡ None = sym c.row_at.ensures ∙ ap (option_map (λ (r : Row). r.0)) c.in_default.is in
    and_this (λ k. has_row octets (ladder_at others k)) c.loop-number.number c.loop-number.invariant
    (row_not_found octets (ladder_at others c.loop-number.number) none)

pub returns : goal.returns
returns c =
    let others = others_in c.args.phone c.args.worlds.now in
    let many = others_length c.args.phone c.args.worlds.now in
    sym (met_none c.args.octets.now others
    (none_is (has_row c.args.octets.now) others c.loop-number.number (omega (arith, many, c.loop-number-test.false))
    c.loop-number.invariant))
