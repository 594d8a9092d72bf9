-- Peers that run go on running, whatever calls are made on them, and also where one fails.
use Rattle.std.proofs.Common.{◌≡◌, ℕ, ◌<◌, Option, Some, None, List, [], ◌∷◌, length, take, Result, Ok, Err, IfSome, refl, sym, subst, arith, length-append}
use Rattle.std.specs.Option.{option_map}
use Rattle.edge_io.proofs.Running.{running_sent, running_taken}
use Rattle.edge_io.specs.Peers.{PeersTold, IsRunning, sent_to, taken_from}
use Rattle.hub_drive.specs.declared.faults.DriveFault.{DriveFault}
use Rattle.hub_drive.specs.declared.faults.DriveFault.TheVariants.{Memory, PeerFault, Differs, WriteFault}
use Rattle.hub_drive.specs.Acts.{Call, Starting, Sending, Receiving, Act, Writing, Calling, calls}
use Rattle.hub_drive.specs.Outside.{Outside, done, all_done, Did, AllRun}
use Rattle.hub_drive.specs.Went.{CallFails, ActFails, Went}

runs_done : (peer : ℕ) (call : Call) (t : PeersTold) → IsRunning peer t → IsRunning peer (done call t)
runs_done peer (Starting role) t runs = record {
  started = omega (arith, length-append t.roles (role ∷ []), runs.started);
  not_stopped = runs.not_stopped;
}
runs_done peer (Sending q octets) t runs = running_sent peer q octets (Some t) (Some (sent_to q octets t)) runs refl
runs_done peer (Receiving q w) t runs =
    running_taken peer q (length w.octets) (Some t) (Some (taken_from q (length w.octets) t)) runs refl

runs_all_done : (peer : ℕ) (made : List Call) (t : PeersTold) → IsRunning peer t → IsRunning peer (all_done made t)
runs_all_done peer [] t runs = runs
runs_all_done peer (call ∷ made) t runs = runs_all_done peer made (done call t) (runs_done peer call t runs)

-- what runs in a state that another is made of runs in that
run_in : (count : ℕ) (f : PeersTold → PeersTold) (old new : Option PeersTold)
    → ((peer : ℕ) (t : PeersTold) → IsRunning peer t → IsRunning peer (f t))
    → AllRun count old
    → new ≡ option_map f old
    → AllRun count new
run_in count f None new keeps run is =
    let P : Option PeersTold → Type 0 = λ told. AllRun count told in
    subst P (sym is) tt
run_in count f (Some t) new keeps run is =
    let P : Option PeersTold → Type 0 = λ told. AllRun count told in
    subst P (sym is) (λ peer below. keeps peer t (run peer below))

pub all_run_did : (count : ℕ) (made : List Call) (old new : Option PeersTold) → AllRun count old → Did made old new → AllRun count new
all_run_did count made old new run did = run_in count (all_done made) old new (λ peer t runs. runs_all_done peer made t runs) run did.told

-- a call that failed stops nobody
run_failed : (count : ℕ) (call : Call) (old new : Option PeersTold) → AllRun count old → CallFails call old new → AllRun count new
run_failed count (Starting role) old new run fails =
    run_in count _ old new (λ peer t runs. record { started = runs.started; not_stopped = runs.not_stopped }) run fails
run_failed count (Sending q octets) old new run fails =
    run_in count _ old new (λ peer t runs.
    let now : IsRunning peer (sent_to q (take fails.count octets) t) =
    runs_done peer (Sending q (take fails.count octets)) t runs in
    record { started = now.started; not_stopped = now.not_stopped })
    run fails.told
run_failed count (Receiving q w) old new run fails =
    run_in count _ old new (λ peer t runs.
    let now : IsRunning peer (taken_from q fails.count t) =
    running_taken peer q fails.count (Some t) (Some (taken_from q fails.count t)) runs refl in
    record { started = now.started; not_stopped = now.not_stopped })
    run fails.told

run_cut : (count : ℕ) (act : Act) (fault : DriveFault) (x y : Outside) → AllRun count x.peers → ActFails act fault x y → AllRun count y.peers
run_cut count (Writing text) Memory x y run fails =
    let P : Option PeersTold → Type 0 = λ told. AllRun count told in
    subst P (sym fails.1) run
run_cut count (Writing text) WriteFault x y run fails =
    let P : Option PeersTold → Type 0 = λ told. AllRun count told in
    subst P (sym fails.1) run
run_cut count (Calling call) Memory x y run fails =
    let P : Outside → Type 0 = λ o. AllRun count o.peers in
    subst P (sym fails) run
run_cut count (Calling call) PeerFault x y run fails = run_failed count call x.peers y.peers run fails.1
run_cut count (Calling (Receiving q w)) (Differs step wanted got) x y run fails =
    run_in count _ x.peers y.peers (λ peer t runs. runs_done peer (Receiving q w) t runs) run fails.1.told
run_cut count act fault x y run fails = absurd fails

-- whatever comes of acts
pub all_run_went : {A : Type 0} (count : ℕ) (acts : List Act) (result : Result A DriveFault) (x y : Outside)
    → AllRun count x.peers
    → Went acts result x y
    → AllRun count y.peers
all_run_went count acts (Ok _) x y run went = all_run_did count (calls acts) x.peers y.peers run went.did
all_run_went count acts (Err fault) x y run went =
    run_cut count went.next fault went.between y
    (all_run_did count (calls went.made) x.peers went.between.peers run went.did.did)
    went.fails

-- one peer that runs
pub runs_did : (peer : ℕ) (made : List Call) (old new : Option PeersTold) → IfSome old (IsRunning peer) → Did made old new → IfSome new (IsRunning peer)
runs_did peer made None new run did =
    let P : Option PeersTold → Type 0 = λ told. IfSome told (IsRunning peer) in
    subst P (sym did.told) tt
runs_did peer made (Some t) new run did =
    let P : Option PeersTold → Type 0 = λ told. IfSome told (IsRunning peer) in
    subst P (sym did.told) (runs_all_done peer made t run)

-- one of those that run
pub one_of : (peer count : ℕ) (told : Option PeersTold) → peer < count → AllRun count told → IfSome told (IsRunning peer)
one_of peer count None below run = tt
one_of peer count (Some t) below run = run peer below
