use Rattle.std.proofs.Common.{◌<◌, length, Some, sym, ap, subst, ◌∙◌, arith}
use Rattle.std.proofs.lemmas.Option.{slice_get_within}
use Rattle.net_bag.specs.{Class.digest, Chains.IsFirstFrom}
use Rattle.net_bag.proofs.Searching.{begins, goes_on, is_first, mark_within, left, nearer, IsCandidate}
use Rattle.net_bag.proofs.search.first_indexed.Goals as goal

pub loop-candidate-init : goal.loop-candidate-init
loop-candidate-init c =
    begins c.args.index.now c.args.records.now.records c.args.class.now c.args.octets.now c.first-candidate.result
    c.requires (subst (λ d. IsFirstFrom c.args.index.now d 0 c.first-candidate.result) c.digest.ensures
    c.first-candidate.ensures)

pub is_sent-requires : goal.is_sent-requires
is_sent-requires c =
    let here = subst (IsCandidate c.args.index.now c.args.records.now.records c.args.class.now c.args.octets.now) c.in-Some.is c.loop-candidate.invariant in
    let within = slice_get_within c.args.index.now c.in-Some.number (digest c.args.class.now c.args.octets.now) here.0 in
    let mark = mark_within c.args.index.now c.args.records.now.records c.requires in
    omega (arith, within, mark)

pub returns-then-is_sent : goal.returns-then-is_sent
returns-then-is_sent c =
    let here = subst (IsCandidate c.args.index.now c.args.records.now.records c.args.class.now c.args.octets.now) c.in-Some.is c.loop-candidate.invariant in
    is_first c.args.records.now.records c.args.class.now c.args.octets.now c.in-Some.number (c.is_sent.ensures ∙ ap Some c.if-is_sent.true) here.1

pub next-candidate-requires : goal.next-candidate-requires
next-candidate-requires c =
    let here = subst (IsCandidate c.args.index.now c.args.records.now.records c.args.class.now c.args.octets.now) c.in-Some.is c.loop-candidate.invariant in
    slice_get_within c.args.index.now c.in-Some.number (digest c.args.class.now c.args.octets.now) here.0

pub loop-candidate-smaller : goal.loop-candidate-smaller
loop-candidate-smaller c =
    let here = subst (IsCandidate c.args.index.now c.args.records.now.records c.args.class.now c.args.octets.now) c.in-Some.is c.loop-candidate.invariant in
    let next = c.next-candidate.ensures (digest c.args.class.now c.args.octets.now) here.0 in
    let less = nearer c.args.index.now (digest c.args.class.now c.args.octets.now) c.in-Some.number c.next-candidate.result here.0 next in
    subst (λ o. left c.next-candidate.result (length c.args.index.now) < left o (length c.args.index.now)) (sym c.in-Some.is) less

pub loop-candidate-preserved : goal.loop-candidate-preserved
loop-candidate-preserved c =
    let here = subst (IsCandidate c.args.index.now c.args.records.now.records c.args.class.now c.args.octets.now) c.in-Some.is c.loop-candidate.invariant in
    let next = c.next-candidate.ensures (digest c.args.class.now c.args.octets.now) here.0 in
    goes_on c.args.index.now c.args.records.now.records c.args.class.now c.args.octets.now c.in-Some.number
    c.next-candidate.result c.requires here (c.is_sent.ensures ∙ ap Some c.if-is_sent.false) next
