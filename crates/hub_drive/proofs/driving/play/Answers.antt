use Rattle.std.proofs.Common.{◌≡◌, None, length, Result, Err, IsErrOf, OnOk, ap, subst, sym}
use Rattle.lte_machine.specs.Run.{Running, first_world}
use Rattle.run_report.specs.declared.endings.Ending.{Ending}
use Rattle.hub_drive.proofs.Gone.{started_went, set_ups_start, started_did}
use Rattle.hub_drive.proofs.Running.{all_run_went, all_run_did}
use Rattle.hub_drive.specs.{declared.faults.DriveFault.DriveFault, Acts.calls, Went.Went, Plan.events_plan}
use Rattle.hub_drive.specs.declared.faults.DriveFault.TheVariants.{Memory, WriteFault}
use Rattle.hub_drive.specs.Exchanges.{roles_of, starts, seeds_of, set_ups}
use Rattle.hub_drive.specs.Outside.{Outside, outside, AllDone, AllRun}
use Rattle.hub_drive.proofs.Planned.{starts_cut, set_ups_cut, whole_went, seeds_good, events_count, plan_runs}
use Rattle.hub_drive.proofs.driving.play.Goals as goal

-- a fault that is handed on with another answer
same_fault : (A B : Type 0) (fault other : DriveFault) → IsErrOf {T = A} (Err fault) other → IsErrOf {T = B} (Err fault) other
same_fault A B fault other is = let one : fault ≡ other = cc in ap Err one

pub returns-in-Err-clause-went : goal.returns-in-Err-clause-went
returns-in-Err-clause-went g c =
    let written = (g.W.Edge.told c.args.out.now).written in
    let x : Outside = outside written (g.P.Peers.told c.args.peers.now) in
    let y : Outside = outside written (g.P.Peers.told c.start_all-count.new.peers) in
    let P : Result (Unit {0}) DriveFault → Type 0 = λ r. Went (starts (roles_of c.args.setup.now)) r x y in
    starts_cut c.args.setup.now c.args.events.now.items c.in-Err.fault x y (subst P c.in-Err.is (c.start_all-count.ensures.went written))

pub returns-in-Err-clause-write_cause : goal.returns-in-Err-clause-write_cause
returns-in-Err-clause-write_cause g c = λ is.
    let P : Result (Unit {0}) DriveFault → Type 0 = λ r. IsErrOf r WriteFault in
    absurd (c.start_all-count.ensures.no_write (subst P (sym c.in-Err.is) (same_fault Ending (Unit {0}) c.in-Err.fault _ is)))

pub returns-in-Err-clause-memory : goal.returns-in-Err-clause-memory
returns-in-Err-clause-memory g c = λ is.
    let P : Result (Unit {0}) DriveFault → Type 0 = λ r. IsErrOf r Memory in
    c.start_all-count.ensures.memory (subst P (sym c.in-Err.is) (same_fault Ending (Unit {0}) c.in-Err.fault _ is))

pub set_up_all-requires-clause-seeds : goal.set_up_all-requires-clause-seeds
set_up_all-requires-clause-seeds g c = seeds_good c.args.setup.now c.requires.is_scenario.can_start c.requires.cells

pub returns-in-Err-set_up_all-clause-went : goal.returns-in-Err-set_up_all-clause-went
returns-in-Err-set_up_all-clause-went g c =
    let written = (g.W.Edge.told c.args.out.now).written in
    let x : Outside = outside written (g.P.Peers.told c.args.peers.now) in
    let y : Outside = outside written (g.P.Peers.told c.start_all-count.new.peers) in
    let z : Outside = outside written (g.P.Peers.told c.set_up_all.new.peers) in
    let P : Result (Unit {0}) DriveFault → Type 0 = λ r. Went (starts (roles_of c.args.setup.now)) r x y in
    let did : AllDone (starts (roles_of c.args.setup.now)) x y = subst P c.in-Ok.is (c.start_all-count.ensures.went written) in
    set_ups_cut c.args.setup.now c.args.events.now.items c.in-Err-set_up_all.fault x y z did (c.in-Err-set_up_all.ensures.went written)

pub returns-in-Err-set_up_all-clause-running : goal.returns-in-Err-set_up_all-clause-running
returns-in-Err-set_up_all-clause-running g c =
    all_run_went {A = Unit {0}} _ (set_ups 0 (seeds_of c.args.setup.now)) (Err c.in-Err-set_up_all.fault)
    (outside None (g.P.Peers.told c.start_all-count.new.peers)) (outside None (g.P.Peers.told c.set_up_all.new.peers))
    c.start_all-count.ensures.running (c.in-Err-set_up_all.ensures.went None)

pub returns-in-Err-set_up_all-clause-count : goal.returns-in-Err-set_up_all-clause-count
returns-in-Err-set_up_all-clause-count g c =
    started_went {A = Unit {0}} _ (set_ups 0 (seeds_of c.args.setup.now)) (Err c.in-Err-set_up_all.fault)
    (outside None (g.P.Peers.told c.start_all-count.new.peers)) (outside None (g.P.Peers.told c.set_up_all.new.peers))
    (set_ups_start 0 (seeds_of c.args.setup.now)) c.start_all-count.ensures.count
    (c.in-Err-set_up_all.ensures.went None)

pub returns-in-Err-set_up_all-clause-write_cause : goal.returns-in-Err-set_up_all-clause-write_cause
returns-in-Err-set_up_all-clause-write_cause g c = λ is.
    absurd (c.in-Err-set_up_all.ensures.no_write (same_fault Ending (Unit {0}) c.in-Err-set_up_all.fault _ is))

pub returns-in-Err-set_up_all-clause-memory : goal.returns-in-Err-set_up_all-clause-memory
returns-in-Err-set_up_all-clause-memory g c = λ is.
    absurd (c.in-Err-set_up_all.ensures.no_memory (same_fault Ending (Unit {0}) c.in-Err-set_up_all.fault _ is))

pub run_all-requires-clause-running : goal.run_all-requires-clause-running
run_all-requires-clause-running g c =
    let Q : Result (Unit {0}) DriveFault → Type 0 = λ r. OnOk r (c.start_all-count.result.0 ≡ length (roles_of c.args.setup.now)) in
    let all : c.start_all-count.result.0 ≡ length (roles_of c.args.setup.now) = subst Q c.in-Ok.is c.start_all-count.ensures.all in
    subst (λ n. AllRun n (g.P.Peers.told c.set_up_all.new.peers)) all
    (all_run_did _ (calls (set_ups 0 (seeds_of c.args.setup.now))) _ _ c.start_all-count.ensures.running (c.in-Ok-set_up_all.ensures.went None).did)

pub returns-clause-went : goal.returns-clause-went
returns-clause-went g c =
    let written = (g.W.Edge.told c.args.out.now).written in
    let x : Outside = outside written (g.P.Peers.told c.args.peers.now) in
    let y : Outside = outside written (g.P.Peers.told c.start_all-count.new.peers) in
    let z : Outside = outside written (g.P.Peers.told c.set_up_all.new.peers) in
    let o : Outside = outside (g.W.Edge.told c.run_all.new.out).written (g.P.Peers.told c.run_all.new.peers) in
    let P : Result (Unit {0}) DriveFault → Type 0 = λ r. Went (starts (roles_of c.args.setup.now)) r x y in
    let did : AllDone (starts (roles_of c.args.setup.now)) x y = subst P c.in-Ok.is (c.start_all-count.ensures.went written) in
    whole_went c.args.setup.now c.args.events.now.items c.run_all.result x y z o did (c.in-Ok-set_up_all.ensures.went written) c.run_all.ensures.went

pub returns-clause-running : goal.returns-clause-running
returns-clause-running g c =
    plan_runs (events_plan c.args.setup.now 0 (Running (first_world c.args.setup.now)) c.args.events.now.items) _ c.run_all.result
    (outside (g.W.Edge.told c.args.out.now).written (g.P.Peers.told c.set_up_all.new.peers))
    (outside (g.W.Edge.told c.run_all.new.out).written (g.P.Peers.told c.run_all.new.peers))
    (all_run_did _ (calls (set_ups 0 (seeds_of c.args.setup.now))) _ _ c.start_all-count.ensures.running (c.in-Ok-set_up_all.ensures.went None).did)
    c.run_all.ensures.went

pub returns-clause-count : goal.returns-clause-count
returns-clause-count g c =
    events_count c.args.setup.now c.args.events.now.items _ (Running (first_world c.args.setup.now)) c.run_all.result
    (outside (g.W.Edge.told c.args.out.now).written (g.P.Peers.told c.set_up_all.new.peers))
    (outside (g.W.Edge.told c.run_all.new.out).written (g.P.Peers.told c.run_all.new.peers))
    (started_did _ (calls (set_ups 0 (seeds_of c.args.setup.now))) _ _ (set_ups_start 0 (seeds_of c.args.setup.now))
    c.start_all-count.ensures.count (c.in-Ok-set_up_all.ensures.went None).did)
    c.run_all.ensures.went
