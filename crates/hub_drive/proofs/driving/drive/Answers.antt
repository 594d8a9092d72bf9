use Rattle.hub_drive.proofs.{Gone.all_stopped, Texts.Reports, Texts.plan_report}
use Rattle.hub_drive.specs.{Driven.Plan, Plan.plan_of}
use Rattle.run_report.specs.Report.{Report, report_of}
use Rattle.hub_drive.proofs.Comes.{ok_text, ok_ends, fault_text, short_text, ok_made, fault_named, all_is_done}
use Rattle.hub_drive.proofs.driving.drive.Goals as goal

pub returns : goal.returns
returns g c =
    let plan : Plan = plan_of c.args.setup.now c.args.events.now.items in
    let r : Report = report_of c.args.setup.now c.args.events.now.items in
    let is : Reports plan r = plan_report c.args.setup.now c.args.events.now.items c.requires.is_scenario in
    let all = c.drive_plan.ensures in
    record {
      driven = all.driven;
      report = ok_text plan r c.drive_plan.result _ _ is all.driven;
      ends = ok_ends plan r c.drive_plan.result _ _ is all.driven;
      prefix = fault_text plan r c.drive_plan.result _ _ is all.driven;
      short = short_text plan r c.drive_plan.result _ _ is all.driven;
      made = ok_made plan c.drive_plan.result _ _ all.driven;
      failed = fault_named plan c.drive_plan.result _ _ all.driven;
      stopped = all_stopped all.driven.started all.driven.last _ all.driven.count all.driven.stopped (g.met.P.Peers.within c.drive_plan.new.peers);
      memory = all.memory;
      peer_cause = all.peer_cause;
      write_cause = all.write_cause;
      no_peer_fault = all.no_peer_fault;
      no_write_fault = all.no_write_fault;
      out = all.out;
      complete = all_is_done plan r c.drive_plan.result _ _ _ _ _ _ is all.driven all.peer_cause all.write_cause;
    }
