use Rattle.std.proofs.Common.{◌≡◌, ◌+◌, ◌<◌, ◌∷◌, [], length-drop, drop, length, sym, ap, ◌∙◌, subst, inl, inr, arith, rules, true}
use Rattle.std.specs.List.{list_any}
use Rattle.std.proofs.lemmas.List.{drop_more}
use Rattle.trace_keys.specs.Same.{same_net}
use Rattle.trace_keys.proofs.OneNet.{one_net}
use Rattle.trace_rules.specs.Rules.{IsIn}
use Rattle.trace_rules.proofs.Members.{Sub}
use Rattle.trace_plain.proofs.{Once.has_it, Steps.no_items}
use Rattle.trace_plain.proofs.nets.Nets.has_all.Goals as goal

pub loop-net-preserved : goal.loop-net-preserved
loop-net-preserved c = λ rest.
    let nets = c.args.nets.now in
    let i = c.loop-net.net-index in
    let lt : i < length nets = omega (arith, c.loop-net-test.true) in
    let first : drop i nets ≡ c.net-item.result ∷ drop (i + 1) nets = drop_more nets i c.net-item.result lt ∙ ap (λ y. y ∷ drop (i + 1) nets) (sym c.net-item.is) in
    let known : list_any (λ other. same_net other c.net-item.result) c.args.self.now ≡ true = search rules in
    let here : IsIn c.net-item.result c.args.self.now = has_it same_net one_net c.net-item.result c.args.self.now known in
    c.loop-net.invariant (subst (λ xs. Sub xs c.args.self.now) (sym first)
    (λ z i. elim i [ inl e ↦ subst (λ w. IsIn w c.args.self.now) e here | inr j ↦ rest z j ]))

pub returns : goal.returns
returns c = λ e.
    let over : drop c.loop-net.net-index c.args.nets.now ≡ [] = no_items (drop c.loop-net.net-index c.args.nets.now) (λ some. omega (arith, some, length-drop c.loop-net.net-index c.args.nets.now, c.loop-net-test.false)) in
    c.loop-net.invariant (λ z i. absurd (subst (IsIn z) over i))
