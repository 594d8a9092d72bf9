-- A plan, event by event.
use Rattle.std.specs.{List.slice_get, Option.option_map}
use Rattle.std.proofs.Common.{◌≡◌, ℕ, zero, suc, map, All, Some, None, IfSome, ◌+◌, ◌<◌, ◌≤◌, Option, List, [], ◌∷◌, ◌++◌, length, drop, get_or, Result, Ok, Err, refl, ap, sym, subst, ◌∙◌, append_assoc, drop_of_length-le, arith}
use Rattle.std.proofs.{lemmas.Option.get_or_from_slice_get, lemmas.Option.slice_get_within, Math.Seq.drop-cons}
use Rattle.alg_choice.specs.declared.algs.Eea.{Eea}
use Rattle.edge_io.specs.{Octets.Grows, Peers.PeersTold, Told.Told, declared.peers.Role.Role}
use Rattle.edge_io.specs.declared.peers.Role.TheVariants as role
use Rattle.lte_events.specs.{Ranges.IsStation, Site.Site, declared.inputs.ActorIn.ActorIn, declared.replies.ActorOut.ActorOut, declared.setups.FirstNcc.FirstNcc, declared.setups.StationSetup.StationSetup, declared.events.Event.Event, declared.setups.Setup.Setup}
use Rattle.lte_events.specs.Ranges as range
use Rattle.lte_events.specs.declared.setups.FirstNcc.TheVariants.{One, Two}
use Rattle.role_wire.specs.{Ranges.IsSetup, declared.frames.RoleSetup.RoleSetup}
use Rattle.role_wire.specs.declared.frames.RoleSetup.TheVariants as first
use Rattle.run_report.specs.{declared.endings.Ending.Ending, Report.end_of, Events.told_of}
use Rattle.run_report.specs.declared.endings.Ending.TheVariants.{Done, Chance}
use Rattle.lte_machine.specs.Machines.{Kept}
use Rattle.lte_machine.specs.Run.{RunState, Running, EventReport, Reported, Coincided, first_world}
use Rattle.hub_drive.proofs.Composing.{calls-append, done_twice, cut_after, cut_at, cut_before}
use Rattle.hub_drive.proofs.Gone.{roles_started-append, started_did, started_went, replied_start}
use Rattle.hub_drive.proofs.{Running.all_run_did, Running.all_run_went, Event.writing_done}
use Rattle.hub_drive.specs.{declared.faults.DriveFault.DriveFault, declared.faults.DriveFault.TheVariants.Memory, Peerwise.roles_started, Went.CutAt}
use Rattle.hub_drive.specs.Acts.{Starting, Act, Calling, calls}
use Rattle.hub_drive.specs.Driven.{Plan, then_plan, PlanWent, Driven}
use Rattle.hub_drive.specs.Exchanges.{core_seed, roles_of, starts, seeds_of, set_ups}
use Rattle.hub_drive.specs.Outside.{Outside, outside, AllDone, AllRun, HasStarted, stopped_below}
use Rattle.hub_drive.specs.Plan.{event_plan, replies_at, turned, unless_ended, followed, events_plan, plan_of}

-- some of a plan is done, and this is to do
pub record PlanGoing (whole rest : Plan) (first now : Outside) : Type 0 where
  pub made : List Act
  pub is : whole ≡ then_plan made rest
  pub did : AllDone made first now

then_twice : (a b : List Act) (rest : Plan) → then_plan a (then_plan b rest) ≡ then_plan (a ++ b) rest
then_twice a b rest = ap (λ (acts : List Act). let p : Plan = record { acts = acts; ends = rest.ends } in p) (sym (append_assoc a b rest.acts))

followed_by : (first rest : Plan) (ending : Ending) → ending ≡ first.ends → followed first rest ≡ unless_ended ending first rest
followed_by first rest ending is = ap (λ (e : Ending). unless_ended e first rest) (sym is)

-- a part of it was done, which no coincidence ended
pub plan_on : (whole first rest : Plan) (o x y : Outside)
    → PlanGoing whole (followed first rest) o x
    → PlanWent first (Ok Done) x y
    → PlanGoing whole rest o y
plan_on whole first rest o x y so_far went = record {
  made = so_far.made ++ first.acts;
  is = so_far.is ∙ ap (then_plan so_far.made) (followed_by first rest Done went.1) ∙ then_twice so_far.made first.acts rest;
  did = done_twice so_far.made first.acts o x y so_far.did went.0;
}

-- acts before a plan that went so
pub then_went : (made : List Act) (plan : Plan) (result : Result Ending DriveFault) (o x y : Outside)
    → AllDone made o x
    → PlanWent plan result x y
    → PlanWent (then_plan made plan) result o y
then_went made plan (Ok ending) o x y did went = (done_twice made plan.acts o x y did went.0, went.1)
then_went made plan (Err fault) o x y did went = cut_after made plan.acts fault o x y did went

-- the rest went so
pub plan_goes : (whole rest : Plan) (result : Result Ending DriveFault) (o x y : Outside)
    → PlanGoing whole rest o x
    → PlanWent rest result x y
    → PlanWent whole result o y
plan_goes whole rest result o x y so_far went =
    let P : Plan → Type 0 = λ plan. PlanWent plan result o y in
    subst P (sym so_far.is) (then_went so_far.made rest result o x y so_far.did went)

-- a part of it was cut
cut_by : (first rest : Plan) (ending : Ending) (fault : DriveFault) (x y : Outside)
    → CutAt first.acts fault x y
    → CutAt (unless_ended ending first rest).acts fault x y
cut_by first rest Done fault x y cut = cut_before first.acts rest.acts fault x y cut
cut_by first rest Chance fault x y cut = cut

pub plan_cut : (whole first rest : Plan) (fault : DriveFault) (o x y : Outside)
    → PlanGoing whole (followed first rest) o x
    → PlanWent first (Err fault) x y
    → PlanWent whole (Err fault) o y
plan_cut whole first rest fault o x y so_far cut =
    plan_goes whole (followed first rest) (Err fault) o x y so_far (cut_by first rest first.ends fault x y cut)

-- a part of it was done, which a coincidence ended
pub plan_ended : (whole first rest : Plan) (o x y : Outside)
    → PlanGoing whole (followed first rest) o x
    → PlanWent first (Ok Chance) x y
    → PlanWent whole (Ok Chance) o y
plan_ended whole first rest o x y so_far went =
    let P : Plan → Type 0 = λ plan. PlanWent plan (Ok Chance) x y in
    plan_goes whole (followed first rest) (Ok Chance) o x y so_far (subst P (sym (followed_by first rest Chance went.1)) went)

-- THE WHOLE

abbrev pub firsts : Setup → List Act
firsts setup = starts (roles_of setup) ++ set_ups 0 (seeds_of setup)

pub starts_cut : (setup : Setup) (events : List Event) (fault : DriveFault) (x y : Outside)
    → CutAt (starts (roles_of setup)) fault x y
    → PlanWent (plan_of setup events) (Err fault) x y
unfolding plan_of
starts_cut setup events fault x y cut =
    let rest : Plan = events_plan setup 0 (Running (first_world setup)) events in
    cut_before (firsts setup) rest.acts fault x y (cut_before (starts (roles_of setup)) (set_ups 0 (seeds_of setup)) fault x y cut)

pub set_ups_cut : (setup : Setup) (events : List Event) (fault : DriveFault) (x y z : Outside)
    → AllDone (starts (roles_of setup)) x y
    → CutAt (set_ups 0 (seeds_of setup)) fault y z
    → PlanWent (plan_of setup events) (Err fault) x z
unfolding plan_of
set_ups_cut setup events fault x y z did cut =
    let rest : Plan = events_plan setup 0 (Running (first_world setup)) events in
    cut_before (firsts setup) rest.acts fault x z (cut_after (starts (roles_of setup)) (set_ups 0 (seeds_of setup)) fault x y z did cut)

pub whole_went : (setup : Setup) (events : List Event) (result : Result Ending DriveFault) (x y z o : Outside)
    → AllDone (starts (roles_of setup)) x y
    → AllDone (set_ups 0 (seeds_of setup)) y z
    → PlanWent (events_plan setup 0 (Running (first_world setup)) events) result z o → PlanWent (plan_of setup events) result x o
unfolding plan_of
whole_went setup events result x y z o did more went =
    then_went (firsts setup) (events_plan setup 0 (Running (first_world setup)) events) result x z o
    (done_twice (starts (roles_of setup)) (set_ups 0 (seeds_of setup)) x y z did more) went

-- memory ran out before the first act
pub nothing_done : (setup : Setup) (events : List Event) (x : Outside) → PlanWent (plan_of setup events) (Err Memory) x x
unfolding plan_of
nothing_done setup events x =
    starts_cut setup events Memory x x
    (cut_before (Calling (Starting role.Phone) ∷ []) _ Memory x x
    (cut_at (Calling (Starting role.Phone)) Memory x x refl))

-- what each starts with is in its ranges
stations_good : (cells : List Site) (ss : List StationSetup)
    → ((i : ℕ) (d : StationSetup) → i < length ss → IsStation (get_or ss i d))
    → 1 ≤ length cells
    → (k : ℕ) (d : RoleSetup)
    → k < length (map (λ (s : StationSetup). first.Station s.priority s.first cells) ss)
    → IsSetup (get_or (map (λ (s : StationSetup). first.Station s.priority s.first cells) ss) k d)
stations_good cells [] all some k d below = absurd (omega (arith, below))
stations_good cells (s ∷ ss) all some zero d below = ((all 0 s (omega arith)).1.0, some)
stations_good cells (s ∷ ss) all some (suc k) d below =
    stations_good cells ss (λ i e under. all (suc i) e (omega (arith, under))) some k d (omega (arith, below))

core_good : (first_ncc : FirstNcc) (priority : List Eea) (number : ℕ) (cells : List Site)
    → 1 ≤ number
    → 1 ≤ length cells
    → IsSetup (core_seed first_ncc priority number cells)
core_good One priority number cells least some = (least, some)
core_good Two priority number cells least some = (least, some)

pub seeds_good : (setup : Setup) → range.IsSetup setup → 1 ≤ length setup.cells → All IsSetup (seeds_of setup)
seeds_good setup is some = λ k d below. at k d below
  where
    at : (k : ℕ) (d : RoleSetup) → k < length (seeds_of setup) → IsSetup (get_or (seeds_of setup) k d)
    at zero d below = tt
    at (suc zero) d below = core_good setup.core_first_ncc setup.core_priority setup.core_first setup.cells is.core_first.0 some
    at (suc (suc k)) d below = stations_good setup.cells setup.stations is.stations some k d (omega (arith, below))

-- WHO IS STARTED

-- the events start nobody
told_start : (setup : Setup) (step : ℕ) (told : EventReport (List ℕ)) (replies : List (ActorIn × ActorOut))
    → roles_started (calls (event_plan setup step told replies).acts) ≡ []
told_start setup step (Reported line) replies = replied_start setup step replies
told_start setup step (Coincided coincidence) replies = refl

none_twice : (a b : List Act) → roles_started (calls a) ≡ [] → roles_started (calls b) ≡ [] → roles_started (calls (a ++ b)) ≡ []
none_twice a b first second =
    ap roles_started (calls-append a b) ∙ roles_started-append (calls a) (calls b)
    ∙ ap (λ (roles : List Role). roles ++ roles_started (calls b)) first ∙ second

followed_start : (p rest : Plan) (ending : Ending)
    → roles_started (calls p.acts) ≡ []
    → roles_started (calls rest.acts) ≡ []
    → roles_started (calls (unless_ended ending p rest).acts) ≡ []
followed_start p rest Done first second = none_twice p.acts rest.acts first second
followed_start p rest Chance first second = first

events_start : (setup : Setup) (events : List Event) (step : ℕ) (run : RunState (List ℕ) ℕ Kept)
    → roles_started (calls (events_plan setup step run events).acts) ≡ []
events_start setup [] step run = refl
events_start setup (e ∷ events) step run =
    let p : Plan = event_plan setup step (told_of run e) (replies_at run e) in
    let rest : Plan = events_plan setup (suc step) (turned run e) events in
    followed_start p rest p.ends (told_start setup step (told_of run e) (replies_at run e)) (events_start setup events (suc step) (turned run e))

-- a plan of events starts nobody, however far it goes, and stops nobody
pub events_count : (setup : Setup) (events : List Event) (count : ℕ) (run : RunState (List ℕ) ℕ Kept)
    (result : Result Ending DriveFault) (x y : Outside)
    → HasStarted count x.peers
    → PlanWent (events_plan setup 0 run events) result x y
    → HasStarted count y.peers
events_count setup events count run (Ok ending) x y has went =
    started_did count (calls (events_plan setup 0 run events).acts) x.peers y.peers
    (events_start setup events 0 run) has went.0.did
events_count setup events count run (Err fault) x y has went =
    started_went {A = Ending} count (events_plan setup 0 run events).acts (Err fault) x y
    (events_start setup events 0 run) has went

pub plan_runs : (plan : Plan) (count : ℕ) (result : Result Ending DriveFault) (x y : Outside)
    → AllRun count x.peers
    → PlanWent plan result x y
    → AllRun count y.peers
plan_runs plan count (Ok ending) x y run went = all_run_did count (calls plan.acts) x.peers y.peers run went.0.did
plan_runs plan count (Err fault) x y run went = all_run_went {A = Ending} count plan.acts (Err fault) x y run went

-- THE END

pub end_done : (setup : Setup) (events : List Event) (i n : ℕ) (run : RunState (List ℕ) ℕ Kept)
    (first now : Told) (peers : Option PeersTold)
    → length events ≤ i
    → n ≡ i
    → Grows first.written now.written (end_of n run)
    → PlanWent (events_plan setup i run (drop i events)) (Ok Done) (outside first.written peers) (outside now.written peers)
end_done setup events i n run first now peers past number grown =
    let P : List Event → Type 0 = λ es. PlanWent (events_plan setup i run es) (Ok Done) (outside first.written peers) (outside now.written peers) in
    let Q : ℕ → Type 0 = λ k. Grows first.written now.written (end_of k run) in
    subst P (sym (drop_of_length-le events past)) (writing_done (end_of i run) first now peers (subst Q number grown), refl)

-- EVENTS

-- what is left begins with the event at its place
pub event_left : (setup : Setup) (run : RunState (List ℕ) ℕ Kept) (events : List Event) (i n : ℕ) (e : Event) → slice_get events i ≡ Some e → n ≡ i
    → events_plan setup i run (drop i events)
    ≡ followed (event_plan setup n (told_of run e) (replies_at run e))
    (events_plan setup (i + 1) (turned run e) (drop (i + 1) events))
event_left setup run events i n e at number =
    let more : suc i ≡ i + 1 = omega arith in
    ap (events_plan setup i run) (drop-cons events i e (slice_get_within events i e at)
    ∙ ap (λ d. d ∷ drop (suc i) events) (get_or_from_slice_get events i e e at))
    ∙ ap (λ k. followed (event_plan setup i (told_of run e) (replies_at run e)) (events_plan setup k (turned run e) (drop k events))) more
    ∙ ap (λ k. followed (event_plan setup k (told_of run e) (replies_at run e)) (events_plan setup (i + 1) (turned run e) (drop (i + 1) events))) (sym number)

same_told : (told : Option PeersTold) → told ≡ option_map (stopped_below 0) told
same_told None = refl
same_told (Some t) = refl

none_are_started : (told : Option PeersTold) → IfSome told (λ t. t.roles ≡ []) → HasStarted 0 told
none_are_started None none = tt
none_are_started (Some t) none = ap length none

-- memory ran out before any peer was started
pub nothing_driven : (setup : Setup) (events : List Event) (written : Option (List ℕ)) (peers : Option PeersTold)
    → IfSome peers (λ t. t.roles ≡ [])
    → Driven (plan_of setup events) (Err Memory) (outside written peers) (outside written peers)
nothing_driven setup events written peers none = record {
  started = 0;
  last = peers;
  went = nothing_done setup events (outside written peers);
  count = none_are_started peers none;
  stopped = same_told peers;
}
