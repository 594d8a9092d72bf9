use Rattle.std.proofs.Common.{refl}
use Rattle.rec_base.specs.declared.bearers.Bearer.TheVariants.{Drb1}
use Rattle.lte_events.specs.declared.acts.CoreAct.TheVariants as core
use Rattle.lte_events.specs.declared.acts.PhoneAct.TheVariants as phone
use Rattle.lte_events.specs.declared.events.Event.TheVariants as event
use Rattle.item_outcomes.specs.Probe.{text_anew}
use Rattle.item_probe.specs.Acts.{new_kasme}
use Rattle.item_probe.proofs.{Chained.on_ok, Joining.three}
use Rattle.item_probe.proofs.acts.push_renewal.Goals as goal

pub returns-clause-acts : goal.returns-clause-acts
returns-clause-acts c =
    on_ok c.push-3.result c.push-3.ensures.items (λ is.
    three c.args.acts.now.items c.push.new.self.items c.push-2.new.self.items c.push-3.new.self.items _ _ c.phone_sends.result
    (event.Auth 0 new_kasme c.args.setup.now.caps) (event.Core core.StartSmc) (event.Phone (phone.SendUser Drb1 text_anew))
    c.in_ok-push.ensures.items c.in_ok-push-2.ensures.items is refl refl c.phone_sends.ensures)
