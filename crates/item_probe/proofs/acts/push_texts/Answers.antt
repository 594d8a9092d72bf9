use Rattle.lte_events.specs.declared.acts.CoreAct.TheVariants as core
use Rattle.lte_events.specs.declared.acts.PhoneAct.TheVariants as phone
use Rattle.lte_events.specs.declared.events.Event.TheVariants as event
use Rattle.item_outcomes.specs.Probe.{text_nas_up, text_nas_down}
use Rattle.item_probe.proofs.{Chained.on_ok, Joining.two}
use Rattle.item_probe.proofs.acts.push_texts.Goals as goal

pub returns-clause-acts : goal.returns-clause-acts
returns-clause-acts c =
    on_ok c.push-2.result c.push-2.ensures.items (λ is.
    two c.args.acts.now.items c.push.new.self.items c.push-2.new.self.items c.phone_sends_nas.result c.core_sends_nas.result
    (event.Phone (phone.SendNas text_nas_up)) (event.Core (core.SendNas text_nas_down)) c.in_ok-push.ensures.items is
    c.phone_sends_nas.ensures c.core_sends_nas.ensures)
