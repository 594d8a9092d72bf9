-- A lawful move sends where its place is, or nothing.
use Rattle.std.proofs.Common.{◌≡◌, ℕ, Bool, true, false, Option, None, Some, List, refl}
use Rattle.std.specs.Prelude.{slice_get, if◌then◌else◌, ◌&&◌, not, nat_eq, nat_lt}
use Rattle.annex_a_keys.specs.Cell.{Place}
use Rattle.key_model.specs.Reading.{Reading}
use Rattle.nh_chain.specs.Station.{opened}
use Rattle.trace_rules.specs.Rules.{Done}
use Rattle.trace_keys.specs.declared.{moves.Where.Where, moves.Move.Move}
use Rattle.trace_keys.specs.declared.moves.Where.TheVariants.{Setup, Change, Took, Request, Over}
use Rattle.trace_keys.specs.declared.moves.Move.TheVariants.{Renew, Offer, Take, Switch, Ask, Prepare, Require, Arrive, Cancel, Refresh, Leave}
use Rattle.trace_keys.specs.Net.{Target, Offer as OfferOf, Serving, Net, Sight}
use Rattle.nas_count.specs.Estimate.{nas_count_limit}
use Rattle.trace_keys.specs.Moved.{is_fresh, renewed, offered, offers, begins, took, taken_on, may_come, prepared, required, arrived, cancelled, refreshed, moved_in, if_connected, moved}
use Rattle.trace_keys.specs.Places.{place_in, place_by, place_of}

abbrev pub where_of : {K : Type 0} → Option (Sight K) → Option Where
where_of None = None
where_of (Some sight) = Some sight.at

-- what a move sends goes to this place
abbrev pub Placed : {N K : Type 0} → Option (Done N (Sight K)) → Option Where → Type 0
Placed None at = Unit {0}
Placed (Some done) at = where_of done.sent ≡ at

placed_if : {N K : Type 0} (b : Bool) (done : Done N (Sight K)) (at : Option Where) → where_of done.sent ≡ at → Placed (if b then Some done else None) at
placed_if true done at e = e
placed_if false done at e = tt

module _ {K C : Type 0} (r : Reading K C) where
  placed_renewed : (root : Option K) (net : Net K C) (kasme count station : ℕ) (cell : Place) (early taken : Bool)
      → Placed (renewed r root net kasme count station cell early taken) (Some (Setup station))
  placed_renewed None net kasme count station cell early taken = tt
  placed_renewed (Some root) net kasme count station cell early taken =
      placed_if (is_fresh net kasme count) (begins r root kasme count station cell early taken) (Some (Setup station)) refl

  placed_offered : (root : Option K) (net : Net K C) (s : Serving K C) (kasme count : ℕ) (early : Bool)
      → Placed (offered r root net s kasme count early) (Some (Change s.station))
  placed_offered None net s kasme count early = tt
  placed_offered (Some root) net s kasme count early =
      placed_if (is_fresh net kasme count) (offers r root net s kasme count early) (Some (Change s.station)) refl

  placed_took : (s : Serving K C) (o : Option (OfferOf K C)) → Placed (took r s o) (Some (Took s.station))
  placed_took s None = tt
  placed_took s (Some o) = placed_if (nat_lt o.count nas_count_limit) (taken_on r s o) (Some (Took s.station)) refl

  placed_arrived : (net : Net K C) (s : Serving K C) (t : Option (Target K C)) → Placed (arrived net s t) None
  placed_arrived net s None = tt
  placed_arrived net s (Some t) = refl

  placed_cancelled : (net : Net K C) (s : Serving K C) (t : Option (Target K C)) → Placed (cancelled net s t) None
  placed_cancelled net s None = tt
  placed_cancelled net s (Some t) = refl

  placed_in : (kasmes : List K) (net : Net K C) (s : Serving K C) (move : Move) → Placed (moved_in r kasmes net s move) (place_in s move)
  placed_in kasmes net s (Renew kasme count station cell early taken) = tt
  placed_in kasmes net s (Offer kasme count early) = placed_offered (slice_get kasmes kasme) net s kasme count early
  placed_in kasmes net s Take = placed_took s s.offer
  placed_in kasmes net s Switch = refl
  placed_in kasmes net s (Ask what) = refl
  placed_in kasmes net s (Prepare station cell goes) =
      placed_if (not (nat_eq station s.station) && may_come goes s.target) (prepared r net s (opened r s.key cell) station cell goes) (Some (Over s.station station)) refl
  placed_in kasmes net s (Require station cell goes) = placed_if (may_come goes s.target) (required r net s station cell goes) (Some (Request station)) refl
  placed_in kasmes net s Arrive = placed_arrived net s s.target
  placed_in kasmes net s Cancel = placed_cancelled net s s.target
  placed_in kasmes net s (Refresh station cell) = placed_if (nat_eq station s.station) (refreshed net s (opened r s.key cell) cell) None refl
  placed_in kasmes net s Leave = refl

  renewal_place : (s : Option (Serving K C)) (kasme count station : ℕ) (cell : Place) (early taken : Bool) (o : Option (Done (Net K C) (Sight K)))
      → Placed o (Some (Setup station))
      → Placed o (place_by s (Renew kasme count station cell early taken))
  renewal_place None kasme count station cell early taken o is = is
  renewal_place (Some s) kasme count station cell early taken o is = is

  placed_if_connected : (kasmes : List K) (net : Net K C) (s : Option (Serving K C)) (move : Move) → Placed (if_connected r kasmes net s move) (place_by s move)
  placed_if_connected kasmes net None move = tt
  placed_if_connected kasmes net (Some s) move = placed_in kasmes net s move

  pub placed : (kasmes : List K) (net : Net K C) (move : Move) → Placed (moved r kasmes net move) (place_of net move)
  placed kasmes net (Renew kasme count station cell early taken) =
      renewal_place net.serving kasme count station cell early taken (renewed r (slice_get kasmes kasme) net kasme count station cell early taken)
      (placed_renewed (slice_get kasmes kasme) net kasme count station cell early taken)
  placed kasmes net move = placed_if_connected kasmes net net.serving move
