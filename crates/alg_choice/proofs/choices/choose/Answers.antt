use Rattle.std.proofs.Common.{rules, ◌≡◌, true, refl, sym, ◌∙◌}
use Rattle.alg_choice.specs.{Caps.holds_eea, Caps.holds_eia2, Choice.are_supported}
use Rattle.alg_choice.proofs.FindFacts.{find_passes, list_any-find, list_any-find_none}
use Rattle.alg_choice.proofs.choices.choose.Goals as goal

pub returns-in-Some-clause-supported : goal.returns-in-Some-clause-supported
unfolding are_supported
returns-in-Some-clause-supported c =
    let found = find_passes (holds_eea c.args.caps.now) c.args.priority.now c.in-Some.eea (sym c.first_held.ensures ∙ c.in-Some.is) in
    rw found (sym c.holds_eia2.ensures ∙ c.if-not-holds_eia2.false)

pub returns-in-Some-clause-ok : goal.returns-in-Some-clause-ok
returns-in-Some-clause-ok c =
    let holds : holds_eia2 c.args.caps.now ≡ true = search rules in
    let some = list_any-find (holds_eea c.args.caps.now) c.args.priority.now c.in-Some.eea (sym c.first_held.ensures ∙ c.in-Some.is) in
    ((λ _. (holds, some)), (λ _. refl))

pub returns-in-None-clause-ok : goal.returns-in-None-clause-ok
returns-in-None-clause-ok c =
    let none = list_any-find_none (holds_eea c.args.caps.now) c.args.priority.now (sym c.first_held.ensures ∙ c.in-None.is) in
    ((λ e. absurd (cc)), (λ h. let some = h.1 in absurd (cc)))
