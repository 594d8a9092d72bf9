use Rattle.std.proofs.Common.{sym, ap, subst, length, ◌<◌, ◌∙◌, ◌++◌, ◌∷◌, [], arith, rules, ◌≡◌}
use Rattle.std.proofs.lemmas.List.{length-map}
use Rattle.std.specs.{HashMap.get, Option.IfSome, Str.bytes_eq}
use Rattle.net_bag.proofs.Chained.{chained_same, last_stands, chained_put}
use Rattle.net_bag.proofs.chains.Chains.push.Goals as goal

pub invariant_of-self-in_err-insert : goal.invariant_of-self-in_err-insert
invariant_of-self-in_err-insert c = (
  chained_same c.self.inside.chains c.insert.new.self c.self.inside.links.items c.reserve.new.self.items
      c.in_err-insert.ensures.err c.reserve.ensures.items c.self.invariant.0,
  omega (arith, c.reserve.ensures.len),
)

pub put_link-requires-clause-last : goal.put_link-requires-clause-last
put_link-requires-clause-last c =
    let last = last_stands (get bytes_eq c.self.inside.chains) c.self.inside.links.items c.args.digest
    c.chain_of-chain.result c.self.invariant.0 c.chain_of-chain.ensures in
    subst (λ ls. IfSome c.chain_of-chain.result (λ c'. c'.last < length ls)) (sym c.reserve.ensures.items) last

pub invariant_of-self-2 : goal.invariant_of-self-2
invariant_of-self-2 c =
    let number : c.len-number.result ≡ length c.reserve.new.self.items = search rules in
    let all = chained_put (get bytes_eq c.self.inside.chains) (get bytes_eq c.insert.new.self) c.self.inside.links.items
    c.reserve.new.self.items c.put_link.new.links.items c.args.digest c.chain_of-chain.result c.len-number.result
    c.chain_with.result c.self.invariant.0 c.reserve.ensures.items c.chain_of-chain.ensures number
    c.chain_with.ensures c.put_link.ensures.items c.in_ok-insert.ensures.updates.0 in
    let same = ap length c.reserve.ensures.items in
    let view = ap length c.self.view_is in
    let digests = length-map c.self.inside.links.items (λ l. l.digest) in
    (all.0, omega (arith, number, same, view, digests, c.len-number.ensures, c.put_link.ensures.len))

pub returns-clause-ok : goal.returns-clause-ok
returns-clause-ok c =
    let number : c.len-number.result ≡ length c.reserve.new.self.items = search rules in
    let all = chained_put (get bytes_eq c.self.inside.chains) (get bytes_eq c.insert.new.self) c.self.inside.links.items
    c.reserve.new.self.items c.put_link.new.links.items c.args.digest c.chain_of-chain.result c.len-number.result
    c.chain_with.result c.self.invariant.0 c.reserve.ensures.items c.chain_of-chain.ensures number
    c.chain_with.ensures c.put_link.ensures.items c.in_ok-insert.ensures.updates.0 in
    all.1 ∙ ap (λ ds. ds ++ c.args.digest ∷ []) c.self.view_is
