use Rattle.std.proofs.Common.{◌≡◌, ◌+◌, ◌<◌, ◌∷◌, true, [], length-drop, drop, flat_map, length, sym, ap, ◌∙◌, subst, arith, rules}
use Rattle.std.proofs.lemmas.List.{drop_more}
use Rattle.key_model.specs.Reading.{octet_reading}
use Rattle.trace_keys.specs.Moved.{moved}
use Rattle.trace_rules.specs.{Rules.IsIn, Search.hidden_from}
use Rattle.trace_rules.proofs.Members.{Sub, join_sub}
use Rattle.trace_plain.specs.Sights.{is_covered}
use Rattle.trace_plain.proofs.Steps.{no_items}
use Rattle.trace_plain.proofs.ahead.is_full.Goals as goal

pub loop-net-preserved : goal.loop-net-preserved
loop-net-preserved c = λ rest.
    let from = hidden_from (moved octet_reading c.args.kasmes.now) (is_covered c.args.covered.now) c.args.family.now in
    let nets = c.args.nets.now in
    let i = c.loop-net.net-index in
    let lt : i < length nets = omega (arith, c.loop-net-test.true) in
    let first : drop i nets ≡ c.net-item.result ∷ drop (i + 1) nets = drop_more nets i c.net-item.result lt ∙ ap (λ y. y ∷ drop (i + 1) nets) (sym c.net-item.is) in
    let there : c.has_all-there.result ≡ true = search rules in
    let slice : c.as_slice.result.now ≡ c.in_ok-more.more.items = search rules in
    let some : Sub c.in_ok-more.more.items c.args.all.now = subst (λ xs. Sub xs c.args.all.now) slice (c.has_all-there.ensures there) in
    let here : Sub (from c.net-item.result) c.args.all.now = subst (λ xs. Sub xs c.args.all.now) c.in_ok-more.ensures.items some in
    c.loop-net.invariant (subst (λ xs. Sub (flat_map from xs) c.args.all.now) (sym first)
    (join_sub (from c.net-item.result) (flat_map from (drop (i + 1) nets)) c.args.all.now here rest))

pub returns-clause-full : goal.returns-clause-full
returns-clause-full c = λ e.
    let from = hidden_from (moved octet_reading c.args.kasmes.now) (is_covered c.args.covered.now) c.args.family.now in
    let nets = c.args.nets.now in
    let i = c.loop-net.net-index in
    let over : drop i nets ≡ [] = no_items (drop i nets) (λ some. omega (arith, some, length-drop i nets, c.loop-net-test.false)) in
    c.loop-net.invariant (λ z j. absurd (subst (λ xs. IsIn z (flat_map from xs)) over j))
