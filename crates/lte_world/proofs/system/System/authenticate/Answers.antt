use Rattle.std.proofs.Common.{refl, ap, ◌∙◌}
use Rattle.lte_events.specs.{declared.events.Event.Event, declared.inputs.PhoneIn.PhoneIn, declared.inputs.CoreIn.CoreIn, declared.lines.Who.Who}
use Rattle.std.specs.Prelude.{None}
use Rattle.lte_machine.specs.Calls.{line_of_reply, phone_call, core_call}
use Rattle.lte_world.proofs.Authenticating.{auth_repeated, auth_coincidence, auth_new, happens_from}
use Rattle.lte_world.proofs.Replying.{repeated_tells, new_tells, two_told}
use Rattle.lte_world.proofs.system.System.authenticate.Goals as goal

pub returns-in-Repeated-clause-happens : goal.returns-in-Repeated-clause-happens
returns-in-Repeated-clause-happens c =
    happens_from (record {
      phone = c.self.inside.phone;
      core = c.self.inside.core;
      stations = c.self.inside.stations.items;
      stores = c.self.inside.network;
    })
    c.args.self.now _ c.self.view_is (Event.Auth c.args.ksi c.args.root c.args.caps) c.args.step _
    (auth_repeated (record {
      phone = c.self.inside.phone;
      core = c.self.inside.core;
      stations = c.self.inside.stations.items;
      stores = c.self.inside.network;
    })
    c.enroll.new.self c.args.ksi c.args.root c.args.caps c.args.step c.in-Repeated.row c.refused.new.line _
    c.in-Repeated.ensures.enrolled refl c.refused.ensures)

pub returns-in-Coincidence-clause-happens : goal.returns-in-Coincidence-clause-happens
returns-in-Coincidence-clause-happens c =
    happens_from (record {
      phone = c.self.inside.phone;
      core = c.self.inside.core;
      stations = c.self.inside.stations.items;
      stores = c.self.inside.network;
    })
    c.args.self.now _ c.self.view_is (Event.Auth c.args.ksi c.args.root c.args.caps) c.args.step _
    (auth_coincidence (record {
      phone = c.self.inside.phone;
      core = c.self.inside.core;
      stations = c.self.inside.stations.items;
      stores = c.self.inside.network;
    })
    c.enroll.new.self c.args.ksi c.args.root c.args.caps c.args.step c.in-Coincidence.proof _
    c.in-Coincidence.ensures.enrolled)

pub returns-clause-happens : goal.returns-clause-happens
returns-clause-happens c =
    happens_from (record {
      phone = c.self.inside.phone;
      core = c.self.inside.core;
      stations = c.self.inside.stations.items;
      stores = c.self.inside.network;
    })
    c.args.self.now _ c.self.view_is (Event.Auth c.args.ksi c.args.root c.args.caps) c.args.step _
    (auth_new (record {
      phone = c.self.inside.phone;
      core = c.self.inside.core;
      stations = c.self.inside.stations.items;
      stores = c.self.inside.network;
    })
    c.enroll.new.self c.args.ksi c.args.root c.args.caps c.args.step c.phone.new.phone c.core_too.new.core
    (phone_call c.self.inside.phone (PhoneIn.Auth c.args.ksi c.of_octets-root.result)).1
    (core_call c.self.inside.core (CoreIn.Auth c.args.ksi c.of_octets-root.result c.args.caps)).1 c.tell.new.line
    c.in-New.ensures.enrolled
    ((λ j.
    (c.phone.ensures.actor j, (phone_call c.self.inside.phone (PhoneIn.Auth c.args.ksi c.of_octets-root.result)).1))
    ∙ ap (λ k. phone_call c.self.inside.phone (PhoneIn.Auth c.args.ksi k)) c.of_octets-root.ensures)
    ((λ j. (
      c.core_too.ensures.actor j,
      (core_call c.self.inside.core (CoreIn.Auth c.args.ksi c.of_octets-root.result c.args.caps)).1,
    ))
    ∙ ap (λ k. core_call c.self.inside.core (CoreIn.Auth c.args.ksi k c.args.caps)) c.of_octets-root.ensures)
    (c.tell.ensures ∙ ap (λ o. line_of_reply c.args.step Who.Both None o) c.of.ensures))

pub returns-in-Repeated-clause-told : goal.returns-in-Repeated-clause-told
returns-in-Repeated-clause-told c =
    repeated_tells (record {
      phone = c.self.inside.phone;
      core = c.self.inside.core;
      stations = c.self.inside.stations.items;
      stores = c.self.inside.network;
    })
    c.args.self.now c.self.view_is _ c.enroll.new.self c.args.ksi c.args.root c.args.caps c.in-Repeated.row
    c.in-Repeated.ensures.enrolled c.clear.ensures

pub returns-clause-told : goal.returns-clause-told
returns-clause-told c =
    new_tells (record {
      phone = c.self.inside.phone;
      core = c.self.inside.core;
      stations = c.self.inside.stations.items;
      stores = c.self.inside.network;
    })
    c.args.self.now c.self.view_is _ c.enroll.new.self c.args.ksi c.args.root c.args.caps c.in-New.ensures.enrolled
    (two_told c.self.inside.phone c.self.inside.core c.args.ksi c.args.root c.of_octets-root.result c.of_octets-root.ensures c.args.caps
    _ _ c.phone.ensures.told c.core_too.ensures.told)
