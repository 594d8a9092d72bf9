use Rattle.std.proofs.Common.{◌≡◌, false, ◌++◌, append-nil, ap, sym, ◌∙◌, rules}
use Rattle.key_model.specs.Reading.{octet_reading}
use Rattle.trace_keys.specs.{Moved.moved, Places.place_of}
use Rattle.trace_keys.proofs.Placing.{placed}
use Rattle.trace_plain.specs.Sights.{is_there}
use Rattle.trace_plain.proofs.Dark.{none_shown}
use Rattle.trace_plain.proofs.widening.try_shown.Goals as goal

pub returns-else-there-clause-items : goal.returns-else-there-clause-items
returns-else-there-clause-items c =
    let covered = c.args.covered.now in
    let net = c.args.net.now in
    let move = c.args.by_move.now in
    let kasmes = c.args.kasmes.now in
    let sight = c.args.sight.now in
    let away : is_there sight (place_of net move) ≡ false = search rules in
    let none = none_shown covered sight (moved octet_reading kasmes net move) (place_of net move) (placed octet_reading kasmes net move) away in
    sym (append-nil c.args.out.now.items) ∙ ap (λ nets. c.args.out.now.items ++ nets) (sym none)
