use Rattle.std.proofs.Common.{◌≡◌, true, false, ◌++◌, append-nil, ap, sym, ◌∙◌, rules}
use Rattle.key_model.specs.Reading.{octet_reading}
use Rattle.trace_rules.specs.Search.{if_unseen}
use Rattle.trace_keys.specs.{Moved.moved, Outlook.behind, Outlook.may_show, Places.place_of}
use Rattle.trace_keys.proofs.{Outlooks.looks, Placing.placed}
use Rattle.trace_plain.specs.Sights.{is_covered, is_dark, leads}
use Rattle.trace_plain.proofs.Dark.{none_unseen}
use Rattle.trace_plain.proofs.Pruning.{leads_nowhere, leads_on, none_leading}
use Rattle.trace_plain.proofs.ahead.try_leading.Goals as goal

pub returns-in_ok-push_unseen-clause-items : goal.returns-in_ok-push_unseen-clause-items
returns-in_ok-push_unseen-clause-items c =
    let covered = c.args.covered.now in
    let net = c.args.net.now in
    let move = c.args.by_move.now in
    let sight = c.args.sight.now in
    let left = moved octet_reading c.args.kasmes.now net move in
    let may : may_show (behind net.serving move) sight ≡ true = search rules in
    let put : c.push_unseen.new.out.items ≡ c.args.out.now.items ++ if_unseen (is_covered covered) left = search rules in
    put ∙ ap (λ nets. c.args.out.now.items ++ nets) (sym (leads_on covered sight (behind net.serving move) left (looks c.args.kasmes.now net move) may))

pub returns-else-may-clause-items : goal.returns-else-may-clause-items
returns-else-may-clause-items c =
    let covered = c.args.covered.now in
    let net = c.args.net.now in
    let move = c.args.by_move.now in
    let sight = c.args.sight.now in
    let left = moved octet_reading c.args.kasmes.now net move in
    let may : may_show (behind net.serving move) sight ≡ false = search rules in
    sym (append-nil c.args.out.now.items)
    ∙ ap (λ nets. c.args.out.now.items ++ nets) (sym (leads_nowhere covered sight (behind net.serving move) left (looks c.args.kasmes.now net move) may))

pub returns-else-dark-clause-items : goal.returns-else-dark-clause-items
returns-else-dark-clause-items c =
    let covered = c.args.covered.now in
    let net = c.args.net.now in
    let move = c.args.by_move.now in
    let left = moved octet_reading c.args.kasmes.now net move in
    let seen : is_dark covered (place_of net move) ≡ false = search rules in
    let none = none_unseen covered left (place_of net move) (placed octet_reading c.args.kasmes.now net move) seen in
    sym (append-nil c.args.out.now.items) ∙ ap (λ nets. c.args.out.now.items ++ nets) (sym (none_leading covered (leads c.args.sight.now) left none))
