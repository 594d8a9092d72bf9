use Rattle.std.proofs.Common.{refl, sym, ap, ◌∙◌, subst, None}
use Rattle.net_bag.specs.Bag.{first_sent}
use Rattle.lte_world.specs.{Replies.replies_by, Replies.input_at, Systems.ArrivalCan, Systems.Arrives, Settling.told_in}
use Rattle.lte_world.proofs.Replying.{on_ok, sent_tells, injected_tells}
use Rattle.lte_world.proofs.Refusing.{sent_before, octets_injected, injection_can}
use Rattle.lte_world.proofs.system.System.inject.Goals as goal

pub returns-in-Some-clause-happens : goal.returns-in-Some-clause-happens
returns-in-Some-clause-happens c =
    sent_before c.args.self.now c.args.self.now c.args.step c.args.to.now c.args.octets.now c.in-Some.number c.refused.new.line
    (sym c.in-Some.is
    ∙ c.found.ensures
    ∙ (λ j.
    first_sent (ap (λ v. v.stores.records) c.self.view_is j) (c.class.ensures j) (c.as_slice.ensures.value j)))
    c.refused.ensures

pub arrive-requires-clause-can : goal.arrive-requires-clause-can
arrive-requires-clause-can c =
    subst (ArrivalCan c.args.self.now c.args.to.now) (sym c.copied.ensures)
    (injection_can c.args.self.now c.args.self.now c.args.step c.args.to.now c.args.octets.now c.requires.may
    (sym c.in_default.is
    ∙ c.found.ensures
    ∙ (λ j.
    first_sent (ap (λ v. v.stores.records) c.self.view_is j) (c.class.ensures j) (c.as_slice.ensures.value j)))
    c.requires.can)

pub returns-clause-happens : goal.returns-clause-happens
returns-clause-happens c =
    octets_injected c.args.self.now c.arrive.new.self c.args.step c.args.to.now c.args.octets.now
    (told_in c.arrive.result c.arrive.new.line) c.requires.may
    (sym c.in_default.is
    ∙ c.found.ensures
    ∙ (λ j.
    first_sent (ap (λ v. v.stores.records) c.self.view_is j) (c.class.ensures j) (c.as_slice.ensures.value j)))
    (subst (λ pdu. Arrives c.args.self.now c.arrive.new.self c.args.to.now pdu None c.args.step (told_in c.arrive.result c.arrive.new.line))
    c.copied.ensures c.arrive.ensures.arrives)

pub returns-in-Some-clause-told : goal.returns-in-Some-clause-told
returns-in-Some-clause-told c =
    sent_tells c.args.self.now c.args.self.now refl _ c.args.to.now c.args.octets.now c.in-Some.number
    (sym c.in-Some.is
    ∙ c.found.ensures
    ∙ (λ j.
    first_sent (ap (λ v. v.stores.records) c.self.view_is j) (c.class.ensures j) (c.as_slice.ensures.value j)))
    c.clear.ensures

pub returns-clause-told : goal.returns-clause-told
returns-clause-told c =
    on_ok c.arrive.result (injected_tells c.args.self.now c.args.self.now refl c.arrive.new.told c.args.to.now
    c.args.octets.now (sym c.in_default.is
    ∙ c.found.ensures
    ∙ (λ j.
    first_sent (ap (λ v. v.stores.records) c.self.view_is j) (c.class.ensures j) (c.as_slice.ensures.value j)))
    (c.arrive.ensures.told
    ∙ ap (λ pdu.
    replies_by c.args.self.now.phone c.args.self.now.core c.args.self.now.stations (input_at c.args.to.now pdu))
    c.copied.ensures))
