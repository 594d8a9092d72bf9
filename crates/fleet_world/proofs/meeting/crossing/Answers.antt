use Rattle.std.proofs.Common.{◌≡◌, ◌+◌, ℕ, sym, ap, subst, ◌∙◌, ◌∷◌, drop, Some, None}
use Rattle.std.specs.Option.{option_map}
use Rattle.key_terms.specs.declared.row.Row.{Row}
use Rattle.fleet_world.specs.{Answers.cross_of, Worlds.ladders_in, Worlds.others_in}
use Rattle.fleet_world.specs.Meeting.{met_or, meeting_from, row_among, ladder_at}
use Rattle.fleet_world.proofs.Searching.{goes_at, ladder_is, ladder_of_phone, rows_left}
use Rattle.fleet_world.proofs.meeting.crossing.Goals as goal

pub returns-in-Some : goal.returns-in-Some
returns-in-Some c =
    let worlds = c.args.worlds.now in
    let others = others_in c.args.phone worlds in
    let world = c.index-worlds-phone.result in
    let is = c.index-worlds-phone.is in
    let goes = goes_at worlds c.args.phone world c.requires.goes c.requires.phone is in
    let rows : c.ladder-ladder.result.now.rows ≡ ladder_at (ladders_in worlds) c.args.phone =
    ladder_is world c.ladder-ladder.result.now.rows goes c.ladder-ladder.ensures ∙ sym (ladder_of_phone c.args.phone worlds world c.requires.phone is) in
    let k = c.loop-number.number in
    let left : drop k (ladder_at (ladders_in worlds) c.args.phone) ≡ c.row.result ∷ drop (k + 1) (ladder_at (ladders_in worlds) c.args.phone) =
    subst (λ rs. drop k rs ≡ c.row.result ∷ drop (k + 1) rs) rows (rows_left c.ladder-ladder.result.now.rows k c.row.result c.row.ensures.row) in
    let found : row_among others c.row.result.octets ≡ Some (c.in-Some.other, c.in-Some.other_row.0) = sym c.in-Some.ensures in
    sym (ap (option_map (cross_of c.args.phone)) (c.loop-number.invariant ∙ ap (meeting_from others k) left
    ∙ ap (λ o. met_or k o (meeting_from others (k + 1) (drop (k + 1) (ladder_at (ladders_in worlds) c.args.phone)))) found))

pub loop-number-preserved : goal.loop-number-preserved
loop-number-preserved c =
    let worlds = c.args.worlds.now in
    let others = others_in c.args.phone worlds in
    let world = c.index-worlds-phone.result in
    let is = c.index-worlds-phone.is in
    let goes = goes_at worlds c.args.phone world c.requires.goes c.requires.phone is in
    let rows : c.ladder-ladder.result.now.rows ≡ ladder_at (ladders_in worlds) c.args.phone =
    ladder_is world c.ladder-ladder.result.now.rows goes c.ladder-ladder.ensures ∙ sym (ladder_of_phone c.args.phone worlds world c.requires.phone is) in
    let k = c.loop-number.number in
    let left : drop k (ladder_at (ladders_in worlds) c.args.phone) ≡ c.row.result ∷ drop (k + 1) (ladder_at (ladders_in worlds) c.args.phone) =
    subst (λ rs. drop k rs ≡ c.row.result ∷ drop (k + 1) rs) rows (rows_left c.ladder-ladder.result.now.rows k c.row.result c.row.ensures.row) in
    let none : row_among others c.row.result.octets ≡ None = sym c.row_elsewhere.ensures ∙ ap (option_map (λ (at : ℕ × Row). (at.0, at.1.0))) c.in_default.is in
    c.loop-number.invariant ∙ ap (meeting_from others k) left
    ∙ ap (λ o. met_or k o (meeting_from others (k + 1) (drop (k + 1) (ladder_at (ladders_in worlds) c.args.phone)))) none
