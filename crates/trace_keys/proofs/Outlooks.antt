-- The outlook behind a move is that of the net it leaves, and what a move sends is what the outlook tells.
use Rattle.std.proofs.Common.{◌≡◌, ℕ, Bool, true, false, Option, None, Some, List, slice_get, refl}
use Rattle.std.specs.Prelude.{if◌then◌else◌, ◌&&◌, nat_eq, nat_lt, not}
use Rattle.std.proofs.lemmas.Bool.Decides.{Decides-eqb}
use Rattle.annex_a_keys.specs.Cell.{Place}
use Rattle.key_model.specs.{Reading.octet_reading, HandoverTable.NumberedKey}
use Rattle.nh_chain.specs.Station.{opened}
use Rattle.trace_rules.specs.Rules.{Done}
use Rattle.trace_keys.specs.declared.{moves.Move.Move, moves.Unanswered.Unanswered, outlook.Outlook.Outlook}
use Rattle.trace_keys.specs.declared.moves.Unanswered.TheVariants.{Refused, Lost, Given}
use Rattle.trace_keys.specs.declared.moves.Move.TheVariants.{Renew, Offer, Take, Switch, Ask, Prepare, Require, Arrive, Cancel, Refresh, Leave}
use Rattle.trace_keys.specs.Net.{Target, Offer as OfferOf, Serving, Net, Sight}
use Rattle.nas_count.specs.Estimate.{nas_count_limit}
use Rattle.trace_keys.specs.Moved.{is_fresh, renewed, offered, offers, begins, took, taken_on, may_come, prepared, required, arrived, cancelled, refreshed, asked, moved_in, if_connected, moved}
use Rattle.trace_keys.specs.Outlook.{outlook_by, of_renewal, of_change, of_request, of_arrival, of_cancel, outlook_of, behind_in, behind, may_go, ncc_at}

abbrev Octets : Type 0
Octets = List ℕ

abbrev Left : Type 0
Left = Option (Done (Net Octets ℕ) (Sight Octets))

-- what a move leaves has this outlook
abbrev pub Looks : Left → Option Outlook → Type 0
Looks None o = Unit {0}
Looks (Some done) o = outlook_by done.net.serving ≡ o

looks_if : (b : Bool) (done : Done (Net Octets ℕ) (Sight Octets)) (o : Option Outlook) → outlook_by done.net.serving ≡ o → Looks (if b then Some done else None) o
looks_if true done o e = e
looks_if false done o e = tt

looks_begins : (root : Octets) (kasme count station : ℕ) (cell : Place) (early taken : Bool)
    → outlook_by (begins octet_reading root kasme count station cell early taken).net.serving ≡ of_renewal station early
looks_begins root kasme count station cell true taken = refl
looks_begins root kasme count station cell false taken = refl

looks_renewed : (root : Option Octets) (net : Net Octets ℕ) (kasme count station : ℕ) (cell : Place) (early taken : Bool)
    → Looks (renewed octet_reading root net kasme count station cell early taken) (of_renewal station early)
looks_renewed None net kasme count station cell early taken = tt
looks_renewed (Some root) net kasme count station cell early taken =
    looks_if (is_fresh net kasme count) (begins octet_reading root kasme count station cell early taken) (of_renewal station early)
    (looks_begins root kasme count station cell early taken)

looks_offered : (root : Option Octets) (net : Net Octets ℕ) (s : Serving Octets ℕ) (kasme count : ℕ) (early : Bool)
    → Looks (offered octet_reading root net s kasme count early) (Some (outlook_of s))
looks_offered None net s kasme count early = tt
looks_offered (Some root) net s kasme count early =
    looks_if (is_fresh net kasme count) (offers octet_reading root net s kasme count early) (Some (outlook_of s)) refl

looks_took : (s : Serving Octets ℕ) (o : Option (OfferOf Octets ℕ)) → Looks (took octet_reading s o) (of_change s.station o)
looks_took s None = tt
looks_took s (Some o) = looks_if (nat_lt o.count nas_count_limit) (taken_on octet_reading s o) (of_change s.station (Some o)) refl

looks_asked : (net : Net Octets ℕ) (s : Serving Octets ℕ) (what : Unanswered) → Looks (Some (asked octet_reading net s what)) (of_request s what)
looks_asked net s Refused = refl
looks_asked net s Lost = refl
looks_asked net s Given = refl

looks_arrived : (net : Net Octets ℕ) (s : Serving Octets ℕ) (t : Option (Target Octets ℕ)) → Looks (arrived net s t) (of_arrival s.core.number t)
looks_arrived net s None = tt
looks_arrived net s (Some t) = refl

looks_cancelled : (net : Net Octets ℕ) (s : Serving Octets ℕ) (t : Option (Target Octets ℕ)) → Looks (cancelled net s t) (of_cancel s.station s.core.number s.key t)
looks_cancelled net s None = tt
looks_cancelled net s (Some t) = refl

looks_in : (kasmes : List Octets) (net : Net Octets ℕ) (s : Serving Octets ℕ) (move : Move) → Looks (moved_in octet_reading kasmes net s move) (behind_in s move)
looks_in kasmes net s (Renew kasme count station cell early taken) = tt
looks_in kasmes net s (Offer kasme count early) = looks_offered (slice_get kasmes kasme) net s kasme count early
looks_in kasmes net s Take = looks_took s s.offer
looks_in kasmes net s Switch = refl
looks_in kasmes net s (Ask what) = looks_asked net s what
looks_in kasmes net s (Prepare station cell goes) =
    looks_if (not (nat_eq station s.station) && may_come goes s.target) (prepared octet_reading net s (opened octet_reading s.key cell) station cell goes) _ refl
looks_in kasmes net s (Require station cell goes) = looks_if (may_come goes s.target) (required octet_reading net s station cell goes) _ refl
looks_in kasmes net s Arrive = looks_arrived net s s.target
looks_in kasmes net s Cancel = looks_cancelled net s s.target
looks_in kasmes net s (Refresh station cell) =
    looks_if (nat_eq station s.station) (refreshed net s (opened octet_reading s.key cell) cell) _ refl
looks_in kasmes net s Leave = refl

renewal_looks : (s : Option (Serving Octets ℕ)) (kasme count station : ℕ) (cell : Place) (early taken : Bool) (o : Left)
    → Looks o (of_renewal station early)
    → Looks o (behind s (Renew kasme count station cell early taken))
renewal_looks None kasme count station cell early taken o is = is
renewal_looks (Some s) kasme count station cell early taken o is = is

looks_if_connected : (kasmes : List Octets) (net : Net Octets ℕ) (s : Option (Serving Octets ℕ)) (move : Move)
    → Looks (if_connected octet_reading kasmes net s move) (behind s move)
looks_if_connected kasmes net None move = tt
looks_if_connected kasmes net (Some s) move = looks_in kasmes net s move

pub looks : (kasmes : List Octets) (net : Net Octets ℕ) (move : Move) → Looks (moved octet_reading kasmes net move) (behind net.serving move)
looks kasmes net (Renew kasme count station cell early taken) =
    renewal_looks net.serving kasme count station cell early taken (renewed octet_reading (slice_get kasmes kasme) net kasme count station cell early taken)
    (looks_renewed (slice_get kasmes kasme) net kasme count station cell early taken)
looks kasmes net move = looks_if_connected kasmes net net.serving move

-- a key has the NCC that is told
abbrev pub HasNcc : ℕ → Option (NumberedKey Octets ℕ) → Type 0
HasNcc ncc None = Unit {0}
HasNcc ncc (Some pair) = ncc ≡ pair.number

-- what a move sends goes where it may, with the NCC that is told
abbrev pub IsTold : Option Outlook → Option (Sight Octets) → Type 0
IsTold o None = Unit {0}
IsTold o (Some sent) = (may_go o sent.at ≡ true) × HasNcc (ncc_at o sent.at) sent.pair

abbrev pub Tells : Option Outlook → Left → Type 0
Tells o None = Unit {0}
Tells o (Some done) = IsTold o done.sent

tells_if : (o : Option Outlook) (b : Bool) (done : Done (Net Octets ℕ) (Sight Octets)) → IsTold o done.sent → Tells o (if b then Some done else None)
tells_if o true done e = e
tells_if o false done e = tt

same_itself : (n : ℕ) → nat_eq n n ≡ true
same_itself n = (Decides-eqb n n).1 refl

tells_renewed : (o : Option Outlook) (root : Option Octets) (net : Net Octets ℕ) (kasme count station : ℕ) (cell : Place) (early taken : Bool)
    → Tells o (renewed octet_reading root net kasme count station cell early taken)
tells_renewed o None net kasme count station cell early taken = tt
tells_renewed o (Some root) net kasme count station cell early taken =
    tells_if o (is_fresh net kasme count) (begins octet_reading root kasme count station cell early taken) (refl, refl)

tells_offered : (root : Option Octets) (net : Net Octets ℕ) (s : Serving Octets ℕ) (kasme count : ℕ) (early : Bool)
    → Tells (Some (outlook_of s)) (offered octet_reading root net s kasme count early)
tells_offered None net s kasme count early = tt
tells_offered (Some root) net s kasme count early =
    tells_if (Some (outlook_of s)) (is_fresh net kasme count) (offers octet_reading root net s kasme count early) (same_itself s.station, refl)

tells_took : (s : Serving Octets ℕ) (o : Option (OfferOf Octets ℕ)) → Tells (Some (outlook_of s)) (took octet_reading s o)
tells_took s None = tt
tells_took s (Some o) = tells_if (Some (outlook_of s)) (nat_lt o.count nas_count_limit) (taken_on octet_reading s o) (same_itself s.station, tt)

tells_arrived : (o : Option Outlook) (net : Net Octets ℕ) (s : Serving Octets ℕ) (t : Option (Target Octets ℕ)) → Tells o (arrived net s t)
tells_arrived o net s None = tt
tells_arrived o net s (Some t) = tt

tells_cancelled : (o : Option Outlook) (net : Net Octets ℕ) (s : Serving Octets ℕ) (t : Option (Target Octets ℕ)) → Tells o (cancelled net s t)
tells_cancelled o net s None = tt
tells_cancelled o net s (Some t) = tt

tells_in : (kasmes : List Octets) (net : Net Octets ℕ) (s : Serving Octets ℕ) (move : Move) → Tells (Some (outlook_of s)) (moved_in octet_reading kasmes net s move)
tells_in kasmes net s (Renew kasme count station cell early taken) = tt
tells_in kasmes net s (Offer kasme count early) = tells_offered (slice_get kasmes kasme) net s kasme count early
tells_in kasmes net s Take = tells_took s s.offer
tells_in kasmes net s Switch = (same_itself s.station, refl)
tells_in kasmes net s (Ask what) = (same_itself s.station, tt)
tells_in kasmes net s (Prepare station cell goes) =
    tells_if (Some (outlook_of s)) (not (nat_eq station s.station) && may_come goes s.target)
    (prepared octet_reading net s (opened octet_reading s.key cell) station cell goes) (same_itself s.station, refl)
tells_in kasmes net s (Require station cell goes) =
    tells_if (Some (outlook_of s)) (may_come goes s.target) (required octet_reading net s station cell goes) (refl, refl)
tells_in kasmes net s Arrive = tells_arrived (Some (outlook_of s)) net s s.target
tells_in kasmes net s Cancel = tells_cancelled (Some (outlook_of s)) net s s.target
tells_in kasmes net s (Refresh station cell) =
    tells_if (Some (outlook_of s)) (nat_eq station s.station) (refreshed net s (opened octet_reading s.key cell) cell) tt
tells_in kasmes net s Leave = tt

tells_if_connected : (kasmes : List Octets) (net : Net Octets ℕ) (s : Option (Serving Octets ℕ)) (move : Move)
    → Tells (outlook_by s) (if_connected octet_reading kasmes net s move)
tells_if_connected kasmes net None move = tt
tells_if_connected kasmes net (Some s) move = tells_in kasmes net s move

pub tells : (kasmes : List Octets) (net : Net Octets ℕ) (move : Move) → Tells (outlook_by net.serving) (moved octet_reading kasmes net move)
tells kasmes net (Renew kasme count station cell early taken) =
    tells_renewed (outlook_by net.serving) (slice_get kasmes kasme) net kasme count station cell early taken
tells kasmes net move = tells_if_connected kasmes net net.serving move
