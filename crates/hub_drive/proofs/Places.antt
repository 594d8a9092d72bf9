-- Starts and stops, and the places of the stations behind phone and core.
use Rattle.std.proofs.Common.{◌≡◌, ◌≢◌, ℕ, zero, suc, ◌+◌, ◌-◌, ◌≤◌, ◌<◌, Option, Some, None, List, [], ◌∷◌, ◌++◌, length, map, drop, slice_get, get_or, All, Bool, true, false, ◌||◌, ◌==◌, if◌then◌else◌, IsTrue, Err, IfSome, refl, ap, sym, subst, ◌∙◌, arith, length-append}
use Rattle.std.specs.Option.{option_map}
use Rattle.std.proofs.{Math.Seq.drop-cons, lemmas.List.drop_all, lemmas.List.length-map, lemmas.List.Elements.All-get_or}
use Rattle.std.proofs.lemmas.Option.{slice_get-map, slice_get-get_or, slice_get_within, get_or_from_slice_get}
use Rattle.edge_io.proofs.Changed.{slice_get-change}
use Rattle.edge_io.specs.{declared.peers.Role.Role, declared.peers.StartFault.StartFault}
use Rattle.edge_io.specs.declared.peers.Role.TheVariants as role
use Rattle.edge_io.specs.declared.peers.StartFault.TheVariants as fault
use Rattle.edge_io.specs.Peers.{PeersTold, IsRunning, started, stopped_at}
use Rattle.lte_events.specs.{Ranges.has_station, Reply.reply_of, Site.Site, declared.answers.Answer.TheVariants.Done, declared.inputs.ActorIn.ActorIn, declared.replies.ActorOut.ActorOut, declared.setups.Setup.Setup, declared.setups.StationSetup.StationSetup}
use Rattle.lte_events.specs.declared.inputs.ActorIn.TheVariants as input
use Rattle.rec_base.proofs.Numbers.{length-octets_of}
use Rattle.rec_base.specs.BigEndian.{octets_of}
use Rattle.role_wire.specs.{Frame.framed, Frame.frame_spelling, Reply.reply_spelling, declared.frames.RoleSetup.RoleSetup}
use Rattle.role_wire.specs.declared.frames.FrameIn.TheVariants.{Setup as SetupFrame, Input}
use Rattle.role_wire.specs.declared.frames.RoleSetup.TheVariants as first
use Rattle.hub_drive.proofs.Composing.{cut_at}
use Rattle.hub_drive.specs.declared.faults.DriveFault.TheVariants.{Memory, PeerFault}
use Rattle.hub_drive.specs.{Acts.Starting, Acts.Calling, Outside.outside, Outside.stopped_below, Went.CutAt}
use Rattle.hub_drive.specs.Exchanges.{core_seed, exchange, roles_of, seeds_of, starts, set_ups, station_peer, peer_of, replied, HasActor}

-- behind two items stand those of a list
behind_two : {X Y : Type 0} (a b : Y) (f : X → Y) (xs : List X) (place : ℕ) (d : X)
    → 2 ≤ place
    → place < 2 + length xs
    → slice_get (a ∷ b ∷ map f xs) place ≡ Some (f (get_or xs (place - 2) d))
behind_two a b f xs zero d low below = absurd (omega (arith, low))
behind_two a b f xs (suc zero) d low below = absurd (omega (arith, low))
behind_two a b f xs (suc (suc k)) d low below =
    let place : suc (suc k) - 2 ≡ k = omega arith in
    let within : k < length xs = omega (arith, below) in
    rw place (slice_get-map f xs k ∙ ap (option_map f) (slice_get-get_or xs k d within))

-- the role of a station
pub station_role : (setup : Setup) (ss : List StationSetup) (place : ℕ) (d : StationSetup)
    → ss ≡ setup.stations
    → place ≢ 0
    → place ≢ 1
    → place < length (roles_of setup)
    → slice_get (roles_of setup) place ≡ Some (role.Station (get_or ss (place - 2) d).id)
station_role setup ss place d same not_0 not_1 below =
    let f : StationSetup → Role = λ s. role.Station s.id in
    let P : List StationSetup → Type 0 = λ xs. slice_get (roles_of setup) place ≡ Some (f (get_or xs (place - 2) d)) in
    let within : place < 2 + length setup.stations = omega (arith, below, length-map setup.stations f) in
    subst P (sym same) (behind_two role.Phone role.Core f setup.stations place d (omega (arith, not_0, not_1)) within)

-- what a station starts with
pub station_seed : (setup : Setup) (ss : List StationSetup) (cells : List Site) (place : ℕ) (x : StationSetup)
    → ss ≡ setup.stations
    → cells ≡ setup.cells
    → x ≡ get_or ss (place - 2) x
    → place ≢ 0
    → place ≢ 1
    → place < length (seeds_of setup)
    → slice_get (seeds_of setup) place ≡ Some (first.Station x.priority x.first cells)
station_seed setup ss cells place x same same_cells is not_0 not_1 below =
    let f : StationSetup → RoleSetup = λ s. first.Station s.priority s.first setup.cells in
    let P : List StationSetup → Type 0 = λ xs. slice_get (seeds_of setup) place ≡ Some (f (get_or xs (place - 2) x)) in
    let Q : List Site → Type 0 = λ sites. slice_get (seeds_of setup) place ≡ Some (first.Station x.priority x.first sites) in
    let R : StationSetup → Type 0 = λ s. slice_get (seeds_of setup) place ≡ Some (f s) in
    let within : place < 2 + length setup.stations = omega (arith, below, length-map setup.stations f) in
    subst Q (sym same_cells)
    (subst R (sym is)
    (subst P (sym same)
    (behind_two (first.Phone setup.caps)
    (core_seed setup.core_first_ncc setup.core_priority setup.core_first setup.cells) f setup.stations place x
    (omega (arith, not_0, not_1)) within)))

-- what is left begins with the item at its place
pub drop_next : {X : Type 0} (xs : List X) (place : ℕ) (x : X) → slice_get xs place ≡ Some x → drop place xs ≡ x ∷ drop (place + 1) xs
drop_next xs place x is =
    let within : place < length xs = slice_get_within xs place x is in
    let more : suc place ≡ place + 1 = omega arith in
    drop-cons xs place x within
    ∙ ap (λ y. y ∷ drop (suc place) xs) (get_or_from_slice_get xs place x x is)
    ∙ ap (λ n. x ∷ drop n xs) more

same_told : (old : Option PeersTold) → option_map (λ (t : PeersTold). t) old ≡ old
same_told None = refl
same_told (Some t) = refl

-- a start for which memory was wanting
pub start_lacked : (written : Option (List ℕ)) (role : Role) (f : StartFault) (old new : Option PeersTold)
    → f ≡ fault.Memory
    → new ≡ option_map (started role (Err f)) old
    → CutAt (Calling (Starting role) ∷ []) Memory (outside written old) (outside written new)
start_lacked written role f old new is told =
    let P : StartFault → Type 0 = λ g. new ≡ option_map (started role (Err g)) old in
    let lacked : new ≡ option_map (started role (Err fault.Memory)) old = subst P is told in
    cut_at (Calling (Starting role)) Memory (outside written old) (outside written new)
    (ap (λ (t : Option PeersTold). outside written t) (lacked ∙ same_told old))

-- a start that failed
pub start_failed : (written : Option (List ℕ)) (role : Role) (f : StartFault) (old new : Option PeersTold)
    → f ≡ fault.Failed
    → new ≡ option_map (started role (Err f)) old
    → CutAt (Calling (Starting role) ∷ []) PeerFault (outside written old) (outside written new)
start_failed written role f old new is told =
    let P : StartFault → Type 0 = λ g. new ≡ option_map (started role (Err g)) old in
    cut_at (Calling (Starting role)) PeerFault (outside written old) (outside written new) (refl, subst P is told)

-- STOPS

-- one more is stopped
pub stop_next : (count : ℕ) (first old new : Option PeersTold)
    → old ≡ option_map (stopped_below count) first
    → new ≡ option_map (stopped_at count) old
    → new ≡ option_map (stopped_below (count + 1)) first
stop_next count None old new so_far told = told ∙ ap (λ (t : Option PeersTold). option_map (stopped_at count) t) so_far
stop_next count (Some t) old new so_far told =
    let more : suc count ≡ count + 1 = omega arith in
    told ∙ ap (λ (u : Option PeersTold). option_map (stopped_at count) u) so_far
    ∙ ap (λ n. Some (stopped_below n t)) more

-- and those behind it run
pub others_run : (count : ℕ) (old new : Option PeersTold) (most : ℕ)
    → new ≡ option_map (stopped_at count) old
    → IfSome old (λ t. (peer : ℕ) → count ≤ peer → peer < most → IsRunning peer t)
    → IfSome new (λ t. (peer : ℕ) → count + 1 ≤ peer → peer < most → IsRunning peer t)
others_run count None new most told run =
    let P : Option PeersTold → Type 0 = λ told. IfSome told (λ t. (peer : ℕ) → count + 1 ≤ peer → peer < most → IsRunning peer t) in
    subst P (sym told) tt
others_run count (Some t) new most told run =
    let P : Option PeersTold → Type 0 = λ told. IfSome told (λ t. (peer : ℕ) → count + 1 ≤ peer → peer < most → IsRunning peer t) in
    subst P (sym told) (λ peer low below.
    let runs : IsRunning peer t = run peer (omega (arith, low)) below in
    let place : slice_get (stopped_at count t).peers peer ≡ slice_get t.peers peer = slice_get-change count peer _ t.peers (omega (arith, low)) in
    record { started = runs.started; not_stopped = rw place runs.not_stopped })

-- WHAT IS LEFT TO DO

pub starts_next : (roles : List Role) (place : ℕ) (role : Role)
    → slice_get roles place ≡ Some role
    → starts (drop place roles) ≡ (Calling (Starting role) ∷ []) ++ starts (drop (place + 1) roles)
starts_next roles place role is = ap starts (drop_next roles place role is)

pub no_starts : (roles : List Role) (place : ℕ) → length roles ≤ place → starts (drop place roles) ≡ []
no_starts roles place past = ap starts (drop_all place roles past)

-- what holds of all items holds of one
pub all_at : {X : Type 0} (P : X → Type 0) (xs : List X) (place : ℕ) (x : X) → slice_get xs place ≡ Some x → All P xs → P x
all_at P xs place x is all =
    subst P (get_or_from_slice_get xs place x x is) (All-get_or P xs place x (slice_get_within xs place x is) all)

pub as_many : (setup : Setup) → length (roles_of setup) ≡ length (seeds_of setup)
as_many setup =
    let roles : length (map (λ (s : StationSetup). role.Station s.id) setup.stations) ≡ length setup.stations = length-map setup.stations _ in
    let seeds : length (map (λ (s : StationSetup). first.Station s.priority s.first setup.cells) setup.stations)
    ≡ length setup.stations =
    length-map setup.stations _ in
    omega (arith, roles, seeds)

pub set_ups_next : (seeds : List RoleSetup) (place : ℕ) (seed : RoleSetup) (frame reply : List ℕ)
    → slice_get seeds place ≡ Some seed
    → frame ≡ frame_spelling (SetupFrame seed)
    → reply ≡ reply_spelling (reply_of Done)
    → set_ups place (drop place seeds) ≡ exchange None place frame reply ++ set_ups (place + 1) (drop (place + 1) seeds)
set_ups_next seeds place seed frame reply is spelled ready =
    let more : suc place ≡ place + 1 = omega arith in
    ap (set_ups place) (drop_next seeds place seed is)
    ∙ ap (λ n. exchange None place (frame_spelling (SetupFrame seed)) (reply_spelling (reply_of Done)) ++ set_ups n (drop (place + 1) seeds)) more
    ∙ ap (λ (f : List ℕ). exchange None place f (reply_spelling (reply_of Done)) ++ set_ups (place + 1) (drop (place + 1) seeds)) (sym spelled)
    ∙ ap (λ (r : List ℕ). exchange None place frame r ++ set_ups (place + 1) (drop (place + 1) seeds)) (sym ready)

pub no_set_ups : (seeds : List RoleSetup) (place : ℕ) → length seeds ≤ place → set_ups place (drop place seeds) ≡ []
no_set_ups seeds place past = ap (set_ups place) (drop_all place seeds past)

pub replied_next : (setup : Setup) (step : ℕ) (replies : List (ActorIn × ActorOut)) (place : ℕ) (i : ActorIn) (out : ActorOut) (peer : ℕ) (frame reply : List ℕ)
    → slice_get replies place ≡ Some (i, out) → peer ≡ peer_of setup i → frame ≡ frame_spelling (Input i) → reply ≡ reply_spelling out
    → replied setup step (drop place replies) ≡ exchange (Some step) peer frame reply ++ replied setup step (drop (place + 1) replies)
replied_next setup step replies place i out peer frame reply is of spelled answered =
    ap (replied setup step) (drop_next replies place (i, out) is)
    ∙ ap (λ (p : ℕ). exchange (Some step) p (frame_spelling (Input i)) (reply_spelling out) ++ replied setup step (drop (place + 1) replies)) (sym of)
    ∙ ap (λ (f : List ℕ). exchange (Some step) peer f (reply_spelling out) ++ replied setup step (drop (place + 1) replies)) (sym spelled)
    ∙ ap (λ (r : List ℕ). exchange (Some step) peer frame r ++ replied setup step (drop (place + 1) replies)) (sym answered)

pub none_replied : (setup : Setup) (step : ℕ) (replies : List (ActorIn × ActorOut)) (place : ℕ)
    → length replies ≤ place
    → replied setup step (drop place replies) ≡ []
none_replied setup step replies place past = ap (replied setup step) (drop_all place replies past)

-- a frame begins with its length
pub has_length : (body : List ℕ) → 2 ≤ length (framed body)
unfolding framed
has_length body = omega (arith, length-append (octets_of 2 (length body)) body, length-octets_of 2 (length body))

-- the peer of a station is one of the peers
here_or_there : (from id : ℕ) (s : StationSetup) (ss : List StationSetup) (b : Bool)
    → (IsTrue (has_station ss id) → station_peer (suc from) id ss < suc from + length ss)
    → IsTrue (b || has_station ss id)
    → (if b then from else station_peer (suc from) id ss) < from + length (s ∷ ss)
here_or_there from id s ss true behind has = omega arith
here_or_there from id s ss false behind has = omega (arith, behind has)

pub station_within : (stations : List StationSetup) (from id : ℕ) → IsTrue (has_station stations id) → station_peer from id stations < from + length stations
station_within [] from id has = absurd cc
station_within (s ∷ ss) from id has = here_or_there from id s ss (s.id == id) (station_within ss (suc from) id) has

pub peer_within : (setup : Setup) (i : ActorIn) → HasActor setup i → peer_of setup i < length (roles_of setup)
peer_within setup (input.Phone i) has = omega arith
peer_within setup (input.Core i) has = omega arith
peer_within setup (input.Station id i) has =
    omega (arith, station_within setup.stations 2 id has, length-map setup.stations (λ (s : StationSetup). role.Station s.id))
