use Rattle.std.proofs.Common.{◌≡◌, ◌<◌, ◌≤◌, ◌&&◌, [], ◌∷◌, length, sym, subst, arith, rules}
use Rattle.key_model.specs.Reading.{octet_reading}
use Rattle.trace_keys.specs.Moved.{moved}
use Rattle.trace_keys.specs.Same.{same_net}
use Rattle.trace_plain.specs.{Explained.ExplainedTo, Kept.shown_once, Sights.fits, Sights.is_covered, Sights.leads}
use Rattle.trace_plain.proofs.Counting.{kept_next}
use Rattle.trace_plain.proofs.Steps.{advanced, begins, ends_at, ends_all, no_items}
use Rattle.trace_plain.proofs.search.explained.Goals as goal

pub loop-sight-init : goal.loop-sight-init
loop-sight-init c =
    let one : c.in_ok-nets.nets ≡ c.args.start.now ∷ [] = search rules in
    record {
      number = search rules;
      kept = one;
      before = begins (moved octet_reading c.args.kasmes.now) fits (is_covered c.args.covered.now) c.args.family.now c.args.bound c.args.start.now c.args.capture.now
          c.in_ok-nets.nets one;
    }

pub returns-then-not-some-clause-found : goal.returns-then-not-some-clause-found
returns-then-not-some-clause-found c =
    let inv = c.loop-sight.invariant in
    let moves = moved octet_reading c.args.kasmes.now in
    let covers = is_covered c.args.covered.now in
    let i = c.loop-sight.sight-index in
    let lt : i < length c.args.capture.now = omega (arith, c.loop-sight-test.true) in
    let ends = c.advance.new.nets in
    let none : ends ≡ [] = no_items ends (λ some. search rules) in
    let shut : c.both-closed.result ≡ (c.loop-sight.closed && c.in_ok-full.full) = search rules in
    let behind = advanced moves fits covers c.args.family.now c.args.bound c.args.start.now c.args.capture.now i c.sight-item.result c.loop-sight.nets ends c.loop-sight.closed c.in_ok-full.full c.both-closed.result
    lt c.sight-item.is inv.before c.in_ok-full.ensures.agree c.in_ok-full.ensures.full shut in
    subst (λ n. ExplainedTo moves fits covers c.args.family.now c.args.bound c.args.start.now c.args.capture.now n c.both-closed.result) (sym inv.number)
    (ends_at moves fits covers c.args.family.now c.args.bound c.args.start.now c.args.capture.now i c.loop-sight.nets ends c.loop-sight.closed c.both-closed.result lt inv.before behind none)

pub loop-sight-preserved : goal.loop-sight-preserved
loop-sight-preserved c =
    let inv = c.loop-sight.invariant in
    let moves = moved octet_reading c.args.kasmes.now in
    let covers = is_covered c.args.covered.now in
    let i = c.loop-sight.sight-index in
    let lt : i < length c.args.capture.now = omega (arith, c.loop-sight-test.true) in
    let ends = c.advance.new.nets in
    let some : 0 < length ends = search rules in
    let shut : c.both-closed.result ≡ (c.loop-sight.closed && c.in_ok-full.full) = search rules in
    let behind = advanced moves fits covers c.args.family.now c.args.bound c.args.start.now c.args.capture.now i c.sight-item.result c.loop-sight.nets ends c.loop-sight.closed c.in_ok-full.full c.both-closed.result
    lt c.sight-item.is inv.before c.in_ok-full.ensures.agree c.in_ok-full.ensures.full shut in
    let on : ends ≡ shown_once moves fits covers c.args.family.now c.args.bound same_net leads c.sight-item.result c.loop-sight.nets = search rules in
    record {
      number = omega (arith, inv.number);
      kept =
          kept_next moves fits covers c.args.family.now same_net leads c.args.bound c.args.start.now c.args.capture.now i c.sight-item.result c.loop-sight.nets ends
          lt c.sight-item.is inv.kept on;
      before = record { agree = behind.agree; some = some; shut = behind.shut };
    }

pub returns-clause-found : goal.returns-clause-found
returns-clause-found c =
    let inv = c.loop-sight.invariant in
    let moves = moved octet_reading c.args.kasmes.now in
    let covers = is_covered c.args.covered.now in
    let i = c.loop-sight.sight-index in
    let over : length c.args.capture.now ≤ i = omega (arith, c.loop-sight-test.false) in
    subst (λ n. ExplainedTo moves fits covers c.args.family.now c.args.bound c.args.start.now c.args.capture.now n c.loop-sight.closed) (sym inv.number)
    (ends_all moves fits covers c.args.family.now c.args.bound c.args.start.now c.args.capture.now i c.loop-sight.nets c.loop-sight.closed
    (omega (arith, c.loop-sight.auto.sight-index-end)) over inv.before)
