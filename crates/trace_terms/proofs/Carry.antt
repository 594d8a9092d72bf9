-- A move does in one reading what it does in another.
use Rattle.std.proofs.Common.{◌≡◌, ℕ, Bool, true, false, Option, None, Some, List, map, refl, sym, ap, ◌∙◌}
use Rattle.std.proofs.lemmas.Option.{slice_get-map}
use Rattle.std.specs.Prelude.{◌+◌, slice_get, option_map, if◌then◌else◌, nat_eq, nat_lt, not, ◌&&◌}
use Rattle.annex_a_keys.specs.Cell.{Place}
use Rattle.key_model.specs.{Reading.Reading, Reading.Carries, HandoverTable.NumberedKey, HandoverLines.map_numbered, HandoverLines.star_line, HandoverLines.change_line}
use Rattle.nh_chain.specs.Chain.{ChainState, map_chain, present_pair, stepped, begun}
use Rattle.nh_chain.specs.Station.{StationKey, map_pair, map_station_key, base_of, opened, pair_after, restored_if, given_key, stored}
use Rattle.trace_keys.specs.declared.{moves.Move.Move, moves.Unanswered.Unanswered}
use Rattle.trace_keys.specs.declared.moves.Unanswered.TheVariants.{Refused, Lost, Given}
use Rattle.trace_keys.specs.declared.moves.Where.TheVariants.{Setup, Change, Took, Answer, Asked, Request, Over}
use Rattle.trace_keys.specs.declared.moves.Move.TheVariants.{Renew, Offer, Take, Switch, Ask, Prepare, Require, Arrive, Cancel, Refresh, Leave}
use Rattle.trace_keys.specs.Net.{Target, Offer as OfferOf, Serving, Net}
use Rattle.nas_count.specs.Estimate.{nas_count_limit}
use Rattle.trace_keys.specs.Moved.{is_fresh, chain_of, begins, renewed, offers, offered, taken_on, took, switched_to, switched, unanswered, asked, target_of, may_come, prepared, prepared_at, required, required_at, arrived, cancelled, refreshed, refreshed_at, moved_in, if_connected, moved}
use Rattle.trace_terms.specs.Carried.{map_target, map_offer, map_serving, map_connection, map_net, map_done}

if_map : {X Y : Type 0} (h : Option X → Option Y) (b : Bool) (x : X) (y : Y) → h None ≡ None → h (Some x) ≡ Some y → h (if b then Some x else None) ≡ (if b then Some y else None)
if_map h true x y none some = some
if_map h false x y none some = none

module _ {K C L D : Type 0} (r : Reading K C) (q : Reading L D) (f : K → L) (g : C → D) (c : Carries r q f g) where
  step_map : (chain : ChainState K C) → map_chain f g (stepped r chain) ≡ stepped q (map_chain f g chain)
  step_map chain = λ k. record { root = f chain.root; sync = c.nh chain.root chain.sync k; number = c.plus chain.number 1 k }

  begun_map : (root kenb : K) → map_chain f g (begun r root kenb) ≡ begun q (f root) (f kenb)
  begun_map root kenb = λ k. record { root = f root; sync = f kenb; number = c.first k }

  chain_map : (root : K) (count : ℕ) (early : Bool) → map_chain f g (chain_of r root (r.kenb root count) early) ≡ chain_of q (f root) (q.kenb (f root) count) early
  chain_map root count true =
      step_map (begun r root (r.kenb root count))
      ∙ ap (stepped q) (begun_map root (r.kenb root count) ∙ ap (begun q (f root)) (c.kenb root count))
  chain_map root count false = begun_map root (r.kenb root count) ∙ ap (begun q (f root)) (c.kenb root count)

  star_map : (base : NumberedKey K C) (cell : Place) → map_numbered f g (star_line r base cell.pci cell.earfcn) ≡ star_line q (map_numbered f g base) cell.pci cell.earfcn
  star_map base cell = λ k. record { key = c.star base.key cell.pci cell.earfcn k; number = g base.number }

  change_map : (kenb : K) (cell : Place) → map_numbered f g (change_line r kenb cell.pci cell.earfcn) ≡ change_line q (f kenb) cell.pci cell.earfcn
  change_map kenb cell = λ k. record { key = c.star kenb cell.pci cell.earfcn k; number = c.first k }

  base_map : (pair : Option (NumberedKey K C)) (kenb : K) (number : C) → map_numbered f g (base_of pair kenb number) ≡ base_of (map_pair f g pair) (f kenb) (g number)
  base_map None kenb number = refl
  base_map (Some pair) kenb number = refl

  open_map : (key : StationKey K C) (cell : Place) → map_numbered f g (opened r key cell).star ≡ (opened q (map_station_key f g key) cell).star
  open_map key cell =
      star_map (base_of key.pair key.kenb key.number) cell ∙ ap (λ base. star_line q base cell.pci cell.earfcn) (base_map key.pair key.kenb key.number)

  ncc_map : (number : C) (other : D) → g number ≡ other → r.ncc number ≡ q.ncc other
  ncc_map number other e = sym (c.ncc number) ∙ ap q.ncc e

  -- a KeNB
  begins_map : (root : K) (kasme count station : ℕ) (cell : Place) (early taken : Bool)
      → map_done f g (Some (begins r root kasme count station cell early taken)) ≡ Some (begins q (f root) kasme count station cell early taken)
  begins_map root kasme count station cell early taken =
      let chain = chain_map root count early in
      λ k. Some (record {
        net = record {
          kasme = kasme;
          count = if taken then count + 1 else count;
          serving = Some (record {
            core = chain k;
            station = station;
            cell = cell;
            key = record { kenb = c.kenb root count k; number = c.first k; pair = None };
            target = None;
            offer = None;
          });
        };
        sent = Some (record { at = Setup station; pair = Some (record { key = c.kenb root count k; number = 0 }) });
      })

  renewed_map : (root : Option K) (net : Net K C) (kasme count station : ℕ) (cell : Place) (early taken : Bool)
      → map_done f g (renewed r root net kasme count station cell early taken) ≡ renewed q (option_map f root) (map_net f g net) kasme count station cell early taken
  renewed_map None net kasme count station cell early taken = refl
  renewed_map (Some root) net kasme count station cell early taken =
      if_map (map_done f g) (is_fresh net kasme count) (begins r root kasme count station cell early taken) (begins q (f root) kasme count station cell early taken)
      refl (begins_map root kasme count station cell early taken)

  -- a key change
  offers_map : (root : K) (net : Net K C) (s : Serving K C) (kasme count : ℕ) (early : Bool)
      → map_done f g (Some (offers r root net s kasme count early)) ≡ Some (offers q (f root) (map_net f g net) (map_serving f g s) kasme count early)
  offers_map root net s kasme count early =
      let chain = chain_map root count early in
      λ k. Some (record {
        net = record {
          kasme = net.kasme;
          count = net.count;
          serving = Some (record (map_serving f g s) { offer = Some (record { kasme = kasme; count = count; kenb = c.kenb root count k; core = chain k }) });
        };
        sent = Some (record { at = Change s.station; pair = Some (record { key = c.kenb root count k; number = 0 }) });
      })

  offered_map : (root : Option K) (net : Net K C) (s : Serving K C) (kasme count : ℕ) (early : Bool)
      → map_done f g (offered r root net s kasme count early) ≡ offered q (option_map f root) (map_net f g net) (map_serving f g s) kasme count early
  offered_map None net s kasme count early = refl
  offered_map (Some root) net s kasme count early =
      if_map (map_done f g) (is_fresh net kasme count) (offers r root net s kasme count early) (offers q (f root) (map_net f g net) (map_serving f g s) kasme count early)
      refl (offers_map root net s kasme count early)

  taken_map : (s : Serving K C) (o : OfferOf K C) (p : OfferOf L D) → map_offer f g (Some o) ≡ Some p → map_done f g (Some (taken_on r s o)) ≡ Some (taken_on q (map_serving f g s) (record { kasme = o.kasme; count = o.count; kenb = f o.kenb; core = map_chain f g o.core }))
  taken_map s o p e =
      let star = change_map o.kenb s.cell in
      λ k. Some (record {
        net = record {
          kasme = o.kasme;
          count = o.count + 1;
          serving = Some (record {
            core = map_chain f g o.core;
            station = s.station;
            cell = s.cell;
            key = given_key (star k);
            target = map_target f g s.target;
            offer = None;
          });
        };
        sent = Some (record { at = Took s.station; pair = None });
      })

  took_map : (s : Serving K C) (o : Option (OfferOf K C)) → map_done f g (took r s o) ≡ took q (map_serving f g s) (map_offer f g o)
  took_map s None = refl
  took_map s (Some o) =
      let other : OfferOf L D = record { kasme = o.kasme; count = o.count; kenb = f o.kenb; core = map_chain f g o.core } in
      if_map (map_done f g) (nat_lt o.count nas_count_limit) (taken_on r s o) (taken_on q (map_serving f g s) other) refl (taken_map s o other refl)

  -- a path switch, and a request without an answer
  switched_to_map : (s : Serving K C) → map_serving f g (switched_to r s) ≡ switched_to q (map_serving f g s)
  switched_to_map s =
      let core = step_map s.core in
      λ k. record (map_serving f g s) { core = core k; key = stored (map_station_key f g s.key) (present_pair (core k)) }

  next_ncc : (s : Serving K C) → r.ncc (r.plus s.core.number 1) ≡ q.ncc (q.plus (g s.core.number) 1)
  next_ncc s = ncc_map (r.plus s.core.number 1) (q.plus (g s.core.number) 1) (c.plus s.core.number 1)

  switched_map : (net : Net K C) (s : Serving K C) → map_done f g (Some (switched r net s)) ≡ Some (switched q (map_net f g net) (map_serving f g s))
  switched_map net s =
      let core = step_map s.core in
      λ k. Some (record {
        net = record { kasme = net.kasme; count = net.count; serving = Some (switched_to_map s k) };
        sent = Some (record { at = Answer s.station; pair = Some (record { key = (core k).sync; number = next_ncc s k }) });
      })

  unanswered_map : (s : Serving K C) (what : Unanswered) → map_serving f g (unanswered r s what) ≡ unanswered q (map_serving f g s) what
  unanswered_map s Refused = refl
  unanswered_map s Lost = let core = step_map s.core in λ k. record (map_serving f g s) { core = core k }
  unanswered_map s Given = switched_to_map s

  asked_map : (net : Net K C) (s : Serving K C) (what : Unanswered) → map_done f g (Some (asked r net s what)) ≡ Some (asked q (map_net f g net) (map_serving f g s) what)
  asked_map net s what = λ k. Some (record {
    net = record { kasme = net.kasme; count = net.count; serving = Some (unanswered_map s what k) };
    sent = Some (record { at = Asked s.station; pair = None });
  })

  -- a handover that is prepared
  may_map : (goes : Bool) (before : Option (Target K C)) → may_come goes before ≡ may_come goes (map_target f g before)
  may_map true before = refl
  may_map false None = refl
  may_map false (Some t) = refl

  target_map : (goes : Bool) (before : Option (Target K C)) (station : ℕ) (cell : Place) (star : NumberedKey K C) (spent : Option (NumberedKey K C)) (other : NumberedKey L D)
      → map_numbered f g star ≡ other
      → map_target f g (target_of goes before (record { station = station; cell = cell; star = star; spent = spent }))
      ≡ target_of goes (map_target f g before) (record { station = station; cell = cell; star = other; spent = map_pair f g spent })
  target_map true before station cell star spent other e = λ k. Some (record { station = station; cell = cell; star = e k; spent = map_pair f g spent })
  target_map false before station cell star spent other e = refl

  prepared_map : (net : Net K C) (s : Serving K C) (station : ℕ) (cell : Place) (goes : Bool)
      → map_done f g (Some (prepared r net s (opened r s.key cell) station cell goes))
      ≡ Some (prepared q (map_net f g net) (map_serving f g s) (opened q (map_station_key f g s.key) cell) station cell goes)
  prepared_map net s station cell goes =
      let star = open_map s.key cell in
      let ncc = ncc_map (opened r s.key cell).star.number (opened q (map_station_key f g s.key) cell).star.number (ap (λ x. x.number) star) in
      let target = target_map goes s.target station cell (opened r s.key cell).star s.key.pair (opened q (map_station_key f g s.key) cell).star star in
      λ k. Some (record {
        net = record {
          kasme = net.kasme;
          count = net.count;
          serving = Some (record (map_serving f g s) { key = record { kenb = f s.key.kenb; number = g s.key.number; pair = None }; target = target k });
        };
        sent = Some (record { at = Over s.station station; pair = Some (record { key = (star k).key; number = ncc k }) });
      })

  prepared_at_map : (net : Net K C) (s : Serving K C) (station : ℕ) (cell : Place) (goes : Bool)
      → map_done f g (prepared_at r net s station cell goes) ≡ prepared_at q (map_net f g net) (map_serving f g s) station cell goes
  prepared_at_map net s station cell goes =
      let old = prepared r net s (opened r s.key cell) station cell goes in
      let new = prepared q (map_net f g net) (map_serving f g s) (opened q (map_station_key f g s.key) cell) station cell goes in
      if_map (map_done f g) (not (nat_eq station s.station) && may_come goes s.target) old new refl (prepared_map net s station cell goes)
      ∙ ap (λ b. if not (nat_eq station s.station) && b then Some new else None) (may_map goes s.target)

  required_map : (net : Net K C) (s : Serving K C) (station : ℕ) (cell : Place) (goes : Bool)
      → map_done f g (Some (required r net s station cell goes)) ≡ Some (required q (map_net f g net) (map_serving f g s) station cell goes)
  required_map net s station cell goes =
      let core = step_map s.core in
      let base = present_pair (stepped r s.core) in
      let other = present_pair (stepped q (map_chain f g s.core)) in
      let star = star_map base cell ∙ ap (λ x. star_line q (present_pair x) cell.pci cell.earfcn) core in
      let target = target_map goes s.target station cell (star_line r base cell.pci cell.earfcn) None (star_line q other cell.pci cell.earfcn) star in
      λ k. Some (record {
        net = record { kasme = net.kasme; count = net.count; serving = Some (record (map_serving f g s) { core = core k; target = target k }) };
        sent = Some (record { at = Request station; pair = Some (record { key = (core k).sync; number = next_ncc s k }) });
      })

  required_at_map : (net : Net K C) (s : Serving K C) (station : ℕ) (cell : Place) (goes : Bool)
      → map_done f g (required_at r net s station cell goes) ≡ required_at q (map_net f g net) (map_serving f g s) station cell goes
  required_at_map net s station cell goes =
      let old = required r net s station cell goes in
      let new = required q (map_net f g net) (map_serving f g s) station cell goes in
      if_map (map_done f g) (may_come goes s.target) old new refl (required_map net s station cell goes)
      ∙ ap (λ b. if b then Some new else None) (may_map goes s.target)

  arrived_map : (net : Net K C) (s : Serving K C) (t : Option (Target K C)) → map_done f g (arrived net s t) ≡ arrived (map_net f g net) (map_serving f g s) (map_target f g t)
  arrived_map net s None = refl
  arrived_map net s (Some t) = refl

  after_map : (pair : Option (NumberedKey K C)) (back : NumberedKey K C) → map_pair f g (pair_after pair back) ≡ pair_after (map_pair f g pair) (map_numbered f g back)
  after_map None back = refl
  after_map (Some newer) back = refl

  restored_map : (key : StationKey K C) (spent : Option (NumberedKey K C)) → map_station_key f g (restored_if key spent) ≡ restored_if (map_station_key f g key) (map_pair f g spent)
  restored_map key None = refl
  restored_map key (Some back) = let pair = after_map key.pair back in λ k. record { kenb = f key.kenb; number = g key.number; pair = pair k }

  cancelled_map : (net : Net K C) (s : Serving K C) (t : Option (Target K C)) → map_done f g (cancelled net s t) ≡ cancelled (map_net f g net) (map_serving f g s) (map_target f g t)
  cancelled_map net s None = refl
  cancelled_map net s (Some t) =
      let key = restored_map s.key t.spent in
      λ k. Some (record {
        net = record { kasme = net.kasme; count = net.count; serving = Some (record (map_serving f g s) { key = key k; target = None }) };
        sent = None;
      })

  refreshed_map : (net : Net K C) (s : Serving K C) (cell : Place)
      → map_done f g (Some (refreshed net s (opened r s.key cell) cell)) ≡ Some (refreshed (map_net f g net) (map_serving f g s) (opened q (map_station_key f g s.key) cell) cell)
  refreshed_map net s cell =
      let star = open_map s.key cell in
      λ k. Some (record {
        net = record { kasme = net.kasme; count = net.count; serving = Some (record (map_serving f g s) { cell = cell; key = given_key (star k); target = None }) };
        sent = None;
      })

  in_map : (kasmes : List K) (net : Net K C) (s : Serving K C) (move : Move)
      → map_done f g (moved_in r kasmes net s move) ≡ moved_in q (map f kasmes) (map_net f g net) (map_serving f g s) move
  in_map kasmes net s (Renew kasme count station cell early taken) = refl
  in_map kasmes net s (Offer kasme count early) =
      offered_map (slice_get kasmes kasme) net s kasme count early
      ∙ ap (λ root. offered q root (map_net f g net) (map_serving f g s) kasme count early) (sym (slice_get-map f kasmes kasme))
  in_map kasmes net s Take = took_map s s.offer
  in_map kasmes net s Switch = switched_map net s
  in_map kasmes net s (Ask what) = asked_map net s what
  in_map kasmes net s (Prepare station cell goes) = prepared_at_map net s station cell goes
  in_map kasmes net s (Require station cell goes) = required_at_map net s station cell goes
  in_map kasmes net s Arrive = arrived_map net s s.target
  in_map kasmes net s Cancel = cancelled_map net s s.target
  in_map kasmes net s (Refresh station cell) =
      if_map (map_done f g) (nat_eq station s.station) (refreshed net s (opened r s.key cell) cell) _ refl (refreshed_map net s cell)
  in_map kasmes net s Leave = refl

  connected_map : (kasmes : List K) (net : Net K C) (s : Option (Serving K C)) (move : Move)
      → map_done f g (if_connected r kasmes net s move) ≡ if_connected q (map f kasmes) (map_net f g net) (map_connection f g s) move
  connected_map kasmes net None move = refl
  connected_map kasmes net (Some s) move = in_map kasmes net s move

  pub moved_map : (kasmes : List K) (net : Net K C) (move : Move) → map_done f g (moved r kasmes net move) ≡ moved q (map f kasmes) (map_net f g net) move
  moved_map kasmes net (Renew kasme count station cell early taken) =
      renewed_map (slice_get kasmes kasme) net kasme count station cell early taken
      ∙ ap (λ root. renewed q root (map_net f g net) kasme count station cell early taken) (sym (slice_get-map f kasmes kasme))
  moved_map kasmes net move = connected_map kasmes net net.serving move
