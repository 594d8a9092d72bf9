use Rattle.std.proofs.Common.{refl, sym, ap, ◌∙◌}
use Rattle.lte_machine.specs.World.{record_at}
use Rattle.lte_world.specs.Settling.{told_in}
use Rattle.lte_world.proofs.Replying.{on_ok, none_tells, one_tells}
use Rattle.lte_world.proofs.Refusing.{none_delivered, one_delivered, delivery_can}
use Rattle.lte_world.proofs.system.System.deliver.Goals as goal

pub returns-in_default-clause-happens : goal.returns-in_default-clause-happens
returns-in_default-clause-happens c =
    none_delivered c.args.self.now c.args.self.now c.args.step c.args.i.now c.refused.new.line
    (sym c.in_default.is ∙ c.record_at.ensures ∙ ap (λ v. record_at c.args.i.now v.stores.records) c.self.view_is) c.refused.ensures

pub arrive-requires-clause-can : goal.arrive-requires-clause-can
arrive-requires-clause-can c =
    delivery_can c.args.self.now c.args.self.now c.args.step c.args.i.now c.in-Some.sent
    (sym c.in-Some.is ∙ c.record_at.ensures ∙ ap (λ v. record_at c.args.i.now v.stores.records) c.self.view_is) c.requires.can

pub returns-clause-happens : goal.returns-clause-happens
returns-clause-happens c =
    one_delivered c.args.self.now c.arrive.new.self c.args.step c.args.i.now
    (told_in c.arrive.result c.arrive.new.line) c.in-Some.sent
    (sym c.in-Some.is ∙ c.record_at.ensures ∙ ap (λ v. record_at c.args.i.now v.stores.records) c.self.view_is) c.arrive.ensures.arrives

pub returns-in_default-clause-told : goal.returns-in_default-clause-told
returns-in_default-clause-told c =
    none_tells c.args.self.now c.args.self.now refl _ c.args.i.now
    (sym c.in_default.is ∙ c.record_at.ensures ∙ ap (λ v. record_at c.args.i.now v.stores.records) c.self.view_is)
    c.clear.ensures

pub returns-clause-told : goal.returns-clause-told
returns-clause-told c =
    on_ok c.arrive.result (one_tells c.args.self.now c.args.self.now refl c.arrive.new.told c.args.i.now c.in-Some.sent
    (sym c.in-Some.is ∙ c.record_at.ensures ∙ ap (λ v. record_at c.args.i.now v.stores.records) c.self.view_is)
    c.arrive.ensures.told)
