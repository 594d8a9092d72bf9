-- What comes of a plan, peer by peer.
use Rattle.std.proofs.Common.{Result, ◌≡◌, ℕ, zero, suc, ◌<◌, ◌≤◌, ◌==◌, ◌⊎◌, inl, inr, Bool, true, if◌then◌else◌, Option, Some, None, List, [], ◌∷◌, ◌++◌, length, take, drop, slice_get, Ok, Err, IfSome, refl, ap, sym, subst, ◌∙◌, append_assoc, take-append-drop, arith}
use Rattle.std.specs.{Io.StartsWith, Option.option_map, Option.option_map_or}
use Rattle.std.proofs.{Math.Nat.eq-or-lt_of_le, lemmas.Bool.eq-eqb, lemmas.List.append_cancel_left, lemmas.List.take_at}
use Rattle.edge_io.proofs.Changed.{length-change}
use Rattle.edge_io.specs.Peers.{PeerTold, PeersTold, change, to_give_of, is_stopped, failed_at, sent_to, taken_from}
use Rattle.hub_drive.specs.{declared.faults.DriveFault.DriveFault, Exchanges.set_ups, Exchanges.replied}
use Rattle.edge_io.specs.{declared.peers.Role.Role, declared.peers.PeerCall.TheVariants.Start}
use Rattle.lte_events.specs.{declared.inputs.ActorIn.ActorIn, declared.replies.ActorOut.ActorOut, declared.setups.Setup.Setup}
use Rattle.role_wire.specs.declared.frames.RoleSetup.{RoleSetup}
use Rattle.run_report.specs.declared.endings.Ending.{Ending}
use Rattle.hub_drive.proofs.Composing.{calls-append}
use Rattle.hub_drive.proofs.Peerwise.{there, kept_by, all_made}
use Rattle.hub_drive.specs.declared.faults.DriveFault.TheVariants.{Memory, PeerFault, Differs, WriteFault}
use Rattle.hub_drive.specs.Acts.{Wanted, Call, Starting, Sending, Receiving, Act, Writing, Calling, calls}
use Rattle.hub_drive.specs.Driven.{Plan, Driven, WhereTold, AllStopped, FailedNext, GivesAll}
use Rattle.hub_drive.specs.Outside.{Outside, outside, all_done, Did, HasStarted, stopped_below}
use Rattle.hub_drive.specs.Peerwise.{Made, name_of, receives, roles_started}
use Rattle.hub_drive.specs.Went.{CallFails, ActFails, CutAt, Differed, Went}

-- STOPS

stop_field : {A : Type 0} (field : PeerTold → A) (d : A) (q count : ℕ) (t : PeersTold)
    → ((p : PeerTold) → field (record p { stopped = true }) ≡ field p)
    → option_map_or field (slice_get (stopped_below count t).peers q) d ≡ option_map_or field (slice_get t.peers q) d
stop_field field d q zero t same = refl
stop_field field d q (suc count) t same =
    kept_by field d q count (λ p. record p { stopped = true }) same (stopped_below count t).peers ∙ stop_field field d q count t same

stop_roles : (count : ℕ) (t : PeersTold) → (stopped_below count t).roles ≡ t.roles
stop_roles zero t = refl
stop_roles (suc count) t = stop_roles count t

stop_failed : (count : ℕ) (t : PeersTold) → (stopped_below count t).failed_last ≡ t.failed_last
stop_failed zero t = refl
stop_failed (suc count) t = stop_failed count t

stop_many : (count : ℕ) (t : PeersTold) → length (stopped_below count t).peers ≡ length t.peers
stop_many zero t = refl
stop_many (suc count) t = length-change count (λ (p : PeerTold). record p { stopped = true }) (stopped_below count t).peers ∙ stop_many count t

-- stops change nothing else
made_stopped : (made : List Call) (count : ℕ) (old t : PeersTold) → Made made old t → Made made old (stopped_below count t)
made_stopped made count old t is = record {
  roles = stop_roles count t ∙ is.roles;
  many = stop_many count t ∙ is.many;
  sent = λ q below. stop_field (λ (p : PeerTold). p.sent) [] q count t (λ p. refl) ∙ is.sent q below;
  taken = λ q. is.taken q ∙ ap (λ (xs : List ℕ). receives q made ++ xs) (sym (stop_field (λ (p : PeerTold). p.to_give) [] q count t (λ p. refl)));
  failed = stop_failed count t ∙ is.failed;
}

stopped_at_once : (q : ℕ) (peers : List PeerTold) → q < length peers → is_stopped q (change q (λ p. record p { stopped = true }) peers) ≡ true
stopped_at_once zero [] below = absurd (omega (arith, below))
stopped_at_once (suc q) [] below = absurd (omega (arith, below))
stopped_at_once zero (p ∷ peers) below = refl
stopped_at_once (suc q) (p ∷ peers) below = stopped_at_once q peers (omega (arith, below))

stopped_already : (q k : ℕ) (peers : List PeerTold) → is_stopped q peers ≡ true → is_stopped q (change k (λ p. record p { stopped = true }) peers) ≡ true
stopped_already q k [] is = is
stopped_already zero zero (p ∷ peers) is = refl
stopped_already (suc q) zero (p ∷ peers) is = is
stopped_already zero (suc k) (p ∷ peers) is = is
stopped_already (suc q) (suc k) (p ∷ peers) is = stopped_already q k peers is

below_stopped : (q count : ℕ) (t : PeersTold) → q < count → q < length t.peers → is_stopped q (stopped_below count t).peers ≡ true
below_stopped q zero t below within = absurd (omega (arith, below))
below_stopped q (suc count) t below within = one (eq-or-lt_of_le (omega (arith, below))) (below_stopped q count t)
  where
    one : (q ≡ count) ⊎ (q < count)
        → (q < count → q < length t.peers → is_stopped q (stopped_below count t).peers ≡ true)
        → is_stopped q (stopped_below (suc count) t).peers ≡ true
    one (inl same) before =
        let P : ℕ → Type 0 = λ k. is_stopped q (change k (λ p. record p { stopped = true }) (stopped_below count t).peers) ≡ true in
        subst P same (stopped_at_once q (stopped_below count t).peers (omega (arith, within, stop_many count t)))
    one (inr lower) before = stopped_already q count (stopped_below count t).peers (before lower within)

pub all_stopped : (count : ℕ) (last after : Option PeersTold)
    → HasStarted count last
    → after ≡ option_map (stopped_below count) last
    → IfSome after (λ t. length t.roles ≤ length t.peers)
    → IfSome after AllStopped
all_stopped count None after started is within =
    let P : Option PeersTold → Type 0 = λ told. IfSome told AllStopped in
    subst P (sym is) tt
all_stopped count (Some t) after started is within =
    let P : Option PeersTold → Type 0 = λ told. IfSome told AllStopped in
    let Q : Option PeersTold → Type 0 = λ told. IfSome told (λ u. length u.roles ≤ length u.peers) in
    let few : length (stopped_below count t).roles ≤ length (stopped_below count t).peers = subst Q is within in
    let roles : length (stopped_below count t).roles ≡ length t.roles = ap length (stop_roles count t) in
    subst P (sym is) (λ q below. below_stopped q count t (omega (arith, below, roles, started)) (omega (arith, below, few, stop_many count t)))

-- WHAT WAS MADE

-- calls that were made, and then the stops
did_made : (made : List Call) (count : ℕ) (old last after : Option PeersTold)
    → Did made old last
    → after ≡ option_map (stopped_below count) last
    → WhereTold (Made made) old after
did_made made count None last after did is = tt
did_made made count (Some o) last after did is =
    let P : Option PeersTold → Type 0 = λ told. WhereTold (Made made) (Some o) told in
    let there : after ≡ Some (stopped_below count (all_done made o)) = is ∙ ap (λ (t : Option PeersTold). option_map (stopped_below count) t) did.told in
    subst P (sym there) (made_stopped made count o (all_done made o) (all_made made o did.gave))

pub whole_made : (plan : Plan) (ending : Ending) (before after : Outside)
    → Driven plan (Ok ending) before after
    → WhereTold (Made (calls plan.acts)) before.peers after.peers
whole_made plan ending before after driven = did_made (calls plan.acts) driven.started before.peers driven.last after.peers driven.went.0.did driven.stopped

-- THE CALL THAT FAILED

named : (call : Call) (old new : Option PeersTold) → CallFails call old new → IfSome old (λ t. IfSome new (λ u. u.failed_last ≡ Some (name_of call)))
named call None new fails = tt
named (Starting role) (Some t) new fails =
    let P : Option PeersTold → Type 0 = λ told. IfSome told (λ u. u.failed_last ≡ Some (name_of (Starting role))) in
    subst P (sym fails) refl
named (Sending peer octets) (Some t) new fails =
    let P : Option PeersTold → Type 0 = λ told. IfSome told (λ u. u.failed_last ≡ Some (name_of (Sending peer octets))) in
    subst P (sym fails.told) refl
named (Receiving peer w) (Some t) new fails =
    let P : Option PeersTold → Type 0 = λ told. IfSome told (λ u. u.failed_last ≡ Some (name_of (Receiving peer w))) in
    subst P (sym fails.told) refl

calls_cut : (acts made more : List Act) (call : Call) → acts ≡ made ++ Calling call ∷ more → calls acts ≡ calls made ++ call ∷ calls more
calls_cut acts made more call is = ap calls is ∙ calls-append made (Calling call ∷ more)

failed_told : (whole made more : List Call) (call : Call) (count : ℕ) (old between last after : Option PeersTold)
    → whole ≡ made ++ call ∷ more
    → Did made old between
    → CallFails call between last
    → after ≡ option_map (stopped_below count) last
    → WhereTold (FailedNext whole) old after
failed_told whole made more call count None between last after is did fails stops = tt
failed_told whole made more call count (Some o) between last after is did fails stops = at_last last refl
  where
    at_last : (l : Option PeersTold) → last ≡ l → IfSome after (λ n. FailedNext whole o n)
    at_last None none =
        let P : Option PeersTold → Type 0 = λ told. IfSome told (λ n. FailedNext whole o n) in
        subst P (sym (stops ∙ ap (λ (t : Option PeersTold). option_map (stopped_below count) t) none)) tt
    at_last (Some u) there =
        let P : Option PeersTold → Type 0 = λ told. IfSome told (λ n. FailedNext whole o n) in
        let Q : Option PeersTold → Type 0 = λ told. CallFails call told (Some u) in
        let R : Option PeersTold → Type 0 = λ told. CallFails call between told in
        let b : PeersTold = all_done made o in
        let failed : u.failed_last ≡ Some (name_of call) = named call (Some b) (Some u) (subst Q did.told (subst R there fails)) in
        subst P (sym (stops ∙ ap (λ (t : Option PeersTold). option_map (stopped_below count) t) there))
        (record {
          made = made;
          next = call;
          more = more;
          is = is;
          between = b;
          so_far = all_made made o did.gave;
          failed = stop_failed count u ∙ failed;
        })

by_act : (whole : List Act) (cut_made cut_more : List Act) (act : Act) (count : ℕ) (x y : Outside)
    (before : Option PeersTold) (after : Option PeersTold)
    → whole ≡ cut_made ++ act ∷ cut_more
    → Did (calls cut_made) before x.peers
    → ActFails act PeerFault x y
    → after ≡ option_map (stopped_below count) y.peers
    → WhereTold (FailedNext (calls whole)) before after
by_act whole cut_made cut_more (Writing text) count x y before after is did fails stops = absurd fails
by_act whole cut_made cut_more (Calling call) count x y before after is did fails stops =
    failed_told (calls whole) (calls cut_made) (calls cut_more) call count before x.peers y.peers after
    (calls_cut whole cut_made cut_more call is) did fails.1 stops

pub failed_next : (plan : Plan) (before after : Outside)
    → Driven plan (Err PeerFault) before after
    → WhereTold (FailedNext (calls plan.acts)) before.peers after.peers
failed_next plan before after driven =
    let cut : CutAt plan.acts PeerFault before (outside after.written driven.last) = driven.went in
    by_act plan.acts cut.made cut.more cut.next driven.started cut.between (outside after.written driven.last)
    before.peers after.peers cut.is cut.did.did cut.fails driven.stopped

-- A DIFFERENCE

receives-append : (q : ℕ) (a b : List Call) → receives q (a ++ b) ≡ receives q a ++ receives q b
receives-append q [] b = refl
receives-append q (Starting role ∷ a) b = receives-append q a b
receives-append q (Sending peer octets ∷ a) b = receives-append q a b
receives-append q (Receiving peer w ∷ a) b =
    ap (λ (xs : List ℕ). (if peer == q then w.octets else []) ++ xs) (receives-append q a b)
    ∙ sym (append_assoc (if peer == q then w.octets else []) (receives q a) (receives q b))

-- what a peer has to give where it begins with all that is to come, and some of it was taken
left_to_give : (p : ℕ) (made more : List Call) (w : Wanted) (given left : List ℕ)
    → StartsWith given (receives p (made ++ Receiving p w ∷ more))
    → given ≡ receives p made ++ left
    → take (length w.octets) left ≡ w.octets
left_to_give p made more w given left begins taken =
    let first : List ℕ = receives p made in
    let rest : List ℕ = receives p more in
    let all : List ℕ = receives p (made ++ Receiving p w ∷ more) in
    let behind : List ℕ = drop (length all) given in
    let here : receives p (Receiving p w ∷ more) ≡ w.octets ++ rest = ap (λ (b : Bool). (if b then w.octets else []) ++ rest) (eq-eqb p p refl) in
    let parts : all ≡ first ++ (w.octets ++ rest) = receives-append p made (Receiving p w ∷ more) ∙ ap (λ (xs : List ℕ). first ++ xs) here in
    let whole : first ++ left ≡ first ++ (w.octets ++ (rest ++ behind)) =
    sym taken ∙ sym (take-append-drop (length all) given) ∙ ap (λ (xs : List ℕ). xs ++ behind) (begins ∙ parts)
    ∙ append_assoc first (w.octets ++ rest) behind
    ∙ ap (λ (xs : List ℕ). first ++ xs) (append_assoc w.octets rest behind) in
    ap (λ (xs : List ℕ). take (length w.octets) xs) (append_cancel_left first left (w.octets ++ (rest ++ behind)) whole)
    ∙ take_at w.octets (rest ++ behind) (length w.octets) refl

no_other : (whole made more : List Call) (p : ℕ) (w : Wanted) (step : Option ℕ) (wanted got : List ℕ)
    (old between last : Option PeersTold)
    → whole ≡ made ++ Receiving p w ∷ more
    → Did made old between
    → Differed p w step wanted got between last
    → IfSome old (GivesAll whole)
    → IfSome old (λ o. ⊥)
no_other whole made more p w step wanted got None between last is did differs gives = tt
no_other whole made more p w step wanted got (Some o) between last is did differs gives =
    let P : Option PeersTold → Type 0 = λ told. IfSome told (λ t. take (length w.octets) (to_give_of p t.peers) ≡ differs.received) in
    let Q : List Call → Type 0 = λ cs. StartsWith (to_give_of p o.peers) (receives p cs) in
    let b : PeersTold = all_done made o in
    let came : take (length w.octets) (to_give_of p b.peers) ≡ differs.received = subst P did.told differs.gave in
    let wanted_here : take (length w.octets) (to_give_of p b.peers) ≡ w.octets =
    left_to_give p made more w (to_give_of p o.peers) (to_give_of p b.peers) (subst Q is (gives p)) ((all_made made o did.gave).taken p) in
    differs.other (sym came ∙ wanted_here)

other_by_act : (whole : List Act) (cut_made cut_more : List Act) (act : Act) (step : Option ℕ) (wanted got : List ℕ)
    (x y : Outside) (before : Option PeersTold)
    → whole ≡ cut_made ++ act ∷ cut_more
    → Did (calls cut_made) before x.peers
    → ActFails act (Differs step wanted got) x y
    → IfSome before (GivesAll (calls whole))
    → IfSome before (λ o. ⊥)
other_by_act whole cut_made cut_more (Writing text) step wanted got x y before is did fails gives = absurd fails
other_by_act whole cut_made cut_more (Calling (Starting role)) step wanted got x y before is did fails gives = absurd fails
other_by_act whole cut_made cut_more (Calling (Sending peer octets)) step wanted got x y before is did fails gives = absurd fails
other_by_act whole cut_made cut_more (Calling (Receiving peer w)) step wanted got x y before is did fails gives =
    no_other (calls whole) (calls cut_made) (calls cut_more) peer w step wanted got before x.peers y.peers
    (calls_cut whole cut_made cut_more (Receiving peer w) is) did fails.1 gives

-- where each peer gives what is to come, no reply differs
pub no_difference : (plan : Plan) (step : Option ℕ) (wanted got : List ℕ) (before after : Outside)
    → Driven plan (Err (Differs step wanted got)) before after
    → IfSome before.peers (GivesAll (calls plan.acts))
    → IfSome before.peers (λ o. ⊥)
no_difference plan step wanted got before after driven gives =
    let cut : CutAt plan.acts (Differs step wanted got) before (outside after.written driven.last) = driven.went in
    other_by_act plan.acts cut.made cut.more cut.next step wanted got cut.between (outside after.written driven.last)
    before.peers cut.is cut.did.did cut.fails gives

-- HOW MANY ARE STARTED

pub roles_started-append : (a b : List Call) → roles_started (a ++ b) ≡ roles_started a ++ roles_started b
roles_started-append [] b = refl
roles_started-append (Starting role ∷ a) b = ap (λ (roles : List Role). role ∷ roles) (roles_started-append a b)
roles_started-append (Sending peer octets ∷ a) b = roles_started-append a b
roles_started-append (Receiving peer w ∷ a) b = roles_started-append a b

-- the first of two lists that are nothing together
first_none : {X : Type 0} (a b : List X) → a ++ b ≡ [] → a ≡ []
first_none [] b none = refl
first_none (x ∷ a) b none = absurd cc

none_started_all : (made : List Call) (t : PeersTold) → roles_started made ≡ [] → (all_done made t).roles ≡ t.roles
none_started_all [] t none = refl
none_started_all (Starting role ∷ made) t none = absurd cc
none_started_all (Sending peer octets ∷ made) t none = none_started_all made (sent_to peer octets t) none
none_started_all (Receiving peer w ∷ made) t none = none_started_all made (taken_from peer (length w.octets) t) none

kept_in : (count : ℕ) (f : PeersTold → PeersTold) (old new : Option PeersTold)
    → ((t : PeersTold) → (f t).roles ≡ t.roles)
    → HasStarted count old
    → new ≡ option_map f old
    → HasStarted count new
kept_in count f None new same has is =
    let P : Option PeersTold → Type 0 = λ told. HasStarted count told in
    subst P (sym is) tt
kept_in count f (Some t) new same has is =
    let P : Option PeersTold → Type 0 = λ told. HasStarted count told in
    subst P (sym is) (ap length (same t) ∙ has)

pub started_did : (count : ℕ) (made : List Call) (old new : Option PeersTold)
    → roles_started made ≡ []
    → HasStarted count old
    → Did made old new
    → HasStarted count new
started_did count made old new none has did = kept_in count (all_done made) old new (λ t. none_started_all made t none) has did.told

started_failed : (count : ℕ) (call : Call) (old new : Option PeersTold) → HasStarted count old → CallFails call old new → HasStarted count new
started_failed count (Starting role) old new has fails = kept_in count (failed_at (Start role)) old new (λ t. refl) has fails
started_failed count (Sending peer octets) old new has fails = kept_in count _ old new (λ t. refl) has fails.told
started_failed count (Receiving peer w) old new has fails = kept_in count _ old new (λ t. refl) has fails.told

started_cut : (count : ℕ) (act : Act) (fault : DriveFault) (x y : Outside) → HasStarted count x.peers → ActFails act fault x y → HasStarted count y.peers
started_cut count (Writing text) Memory x y has fails =
    let P : Option PeersTold → Type 0 = λ told. HasStarted count told in
    subst P (sym fails.1) has
started_cut count (Writing text) WriteFault x y has fails =
    let P : Option PeersTold → Type 0 = λ told. HasStarted count told in
    subst P (sym fails.1) has
started_cut count (Calling call) Memory x y has fails =
    let P : Outside → Type 0 = λ o. HasStarted count o.peers in
    subst P (sym fails) has
started_cut count (Calling call) PeerFault x y has fails = started_failed count call x.peers y.peers has fails.1
started_cut count (Calling (Receiving peer w)) (Differs step wanted got) x y has fails =
    kept_in count (taken_from peer (length w.octets)) x.peers y.peers (λ t. refl) has fails.1.told
started_cut count act fault x y has fails = absurd fails

-- acts that start nobody start nobody, however far they go
pub started_went : {A : Type 0} (count : ℕ) (acts : List Act) (result : Result A DriveFault) (x y : Outside)
    → roles_started (calls acts) ≡ []
    → HasStarted count x.peers
    → Went acts result x y
    → HasStarted count y.peers
started_went count acts (Ok done) x y none has went = started_did count (calls acts) x.peers y.peers none has went.did
started_went count acts (Err fault) x y none has went =
    let parts : calls acts ≡ calls went.made ++ calls (went.next ∷ went.more) = ap calls went.is ∙ calls-append went.made (went.next ∷ went.more) in
    let first : roles_started (calls went.made) ≡ [] =
    first_none (roles_started (calls went.made)) (roles_started (calls (went.next ∷ went.more)))
    (sym (roles_started-append (calls went.made) (calls (went.next ∷ went.more)))
    ∙ ap roles_started (sym parts)
    ∙ none)
    in
    started_cut count went.next fault went.between y (started_did count (calls went.made) x.peers went.between.peers first has went.did.did) went.fails

pub set_ups_start : (peer : ℕ) (seeds : List RoleSetup) → roles_started (calls (set_ups peer seeds)) ≡ []
set_ups_start peer [] = refl
set_ups_start peer (seed ∷ seeds) = set_ups_start (suc peer) seeds

pub replied_start : (setup : Setup) (step : ℕ) (replies : List (ActorIn × ActorOut)) → roles_started (calls (replied setup step replies)) ≡ []
replied_start setup step [] = refl
replied_start setup step (r ∷ replies) = replied_start setup step replies
