use Rattle.std.proofs.Common.{◌≡◌, ◌+◌, ◌<◌, length, drop, flat_map, ap, arith, rules}
use Rattle.key_model.specs.Reading.{octet_reading}
use Rattle.trace_keys.specs.{Moved.moved, Same.same_net}
use Rattle.trace_rules.specs.Search.{hidden_from}
use Rattle.trace_plain.specs.{Once.once_from, Sights.is_covered}
use Rattle.trace_plain.proofs.Once.{added_on, once_longer}
use Rattle.trace_plain.proofs.widening.add_hidden.Goals as goal

pub loop-net-preserved : goal.loop-net-preserved
loop-net-preserved c =
    let from = hidden_from (moved octet_reading c.args.kasmes.now) (is_covered c.args.covered.now) c.args.family.now in
    let lt : c.loop-net.net-index < length c.args.nets.now = omega (arith, c.loop-net-test.true) in
    let put : c.add_all.new.self ≡ once_from same_net c.loop-net.all c.in_ok-more.more.items = search rules in
    added_on same_net from c.args.nets.now c.loop-net.net-index c.net-item.result c.loop-net.all c.add_all.new.self c.in_ok-more.more.items
    (once_from same_net c.args.all.now (flat_map from c.args.nets.now)) lt c.net-item.is c.in_ok-more.ensures.items put c.loop-net.invariant

pub returns-then-len-gt-MOST_NETS-clause-many : goal.returns-then-len-gt-MOST_NETS-clause-many
returns-then-len-gt-MOST_NETS-clause-many c = λ _.
    let from = hidden_from (moved octet_reading c.args.kasmes.now) (is_covered c.args.covered.now) c.args.family.now in
    let lt : c.loop-net.net-index < length c.args.nets.now = omega (arith, c.loop-net-test.true) in
    let put : c.add_all.new.self ≡ once_from same_net c.loop-net.all c.in_ok-more.more.items = search rules in
    let all = once_from same_net c.args.all.now (flat_map from c.args.nets.now) in
    let rest = flat_map from (drop (c.loop-net.net-index + 1) c.args.nets.now) in
    let whole =
    added_on same_net from c.args.nets.now c.loop-net.net-index c.net-item.result c.loop-net.all c.add_all.new.self c.in_ok-more.more.items all lt
    c.net-item.is c.in_ok-more.ensures.items put c.loop-net.invariant in
    let count : c.len.result ≡ length c.add_all.new.self = search rules in
    omega (arith, c.if-len-gt-MOST_NETS.true, count, once_longer same_net c.add_all.new.self rest, ap length whole)
