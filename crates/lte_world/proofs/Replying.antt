-- What is kept of the replies of an event is what its actors replied.
use Rattle.std.proofs.Common.{◌≡◌, sym, ap, ◌∙◌, subst, ℕ, ◌==◌, ◌+◌, List, [], ◌∷◌, ◌++◌, map, option_map, Option, Some, None, Result, Ok, Err}
use Rattle.std.specs.Prelude.{ℤ, OnOk, position, slice_get}
use Rattle.std.specs.Str.{bytes_eq}
use Rattle.alg_choice.specs.declared.caps.Caps.{Caps}
use Rattle.lte_events.specs.{declared.acts.PhoneAct.PhoneAct, declared.acts.StationAct.StationAct, declared.acts.CoreAct.CoreAct, declared.addresses.Address.Address, declared.events.Event.Event, declared.inputs.ActorIn.ActorIn, declared.inputs.PhoneIn.PhoneIn, declared.inputs.StationIn.StationIn, declared.inputs.CoreIn.CoreIn, declared.replies.ActorOut.ActorOut, Class.class_of}
use Rattle.key_terms.specs.{declared.proof.Proof.Proof, declared.row.Row.Row}
use Rattle.net_bag.specs.{Bag.first_sent, declared.view.BagView.BagView}
use Rattle.lte_machine.specs.{Calls.phone_call, Calls.core_call, Machines.Kept, CoreState.Core, PhoneState.Phone, StationState.Station}
use Rattle.lte_machine.specs.Ladder.{Clash, ladder_of, root_row}
use Rattle.lte_machine.specs.World.{World, station_of_id, record_at}
use Rattle.store_laws.specs.Records.{view_of}
use Rattle.lte_world.specs.{declared.network.Enrolled.Enrolled, Networks.Stores, Networks.Fits}
use Rattle.lte_world.specs.Enrolling.{with_root, EnrolledBy, EnrolledAs}
use Rattle.lte_world.specs.Replies.{ToldAt, station_replies, replies_by, input_at, replies_in, auth_replies, delivered_replies, injected_replies, replies_of, Tells}
use Rattle.lte_world.specs.Systems.{Actors, Are, StepsAt}
use Rattle.lte_world.proofs.Authenticating.{not_new_repeated, not_new_coincidence, not_repeated_coincidence}
use Rattle.lte_world.proofs.{Getting.station_at, Getting.station_nowhere, Stations.same_some}
use Rattle.lte_world.proofs.Refusing.{chosen_in, no_view, found_in}

pub first_is : (told : List (ActorIn × ActorOut)) (x : ActorIn × ActorOut) (out : ActorOut)
    → told ≡ x ∷ []
    → option_map (λ r. r.1) (slice_get told 0) ≡ Some out
    → out ≡ x.1
first_is told x out is at = sym (same_some (ap (λ xs. option_map (λ r. r.1) (slice_get xs 0)) (sym is) ∙ at))

-- A TURN OF A STATION

module _ (a now : Actors) (view : a ≡ now) (ids : List ℕ) (are : map (λ s. s.id) a.stations ≡ ids) (id : ℕ)
    (i : StationIn) (told : List (ActorIn × ActorOut)) where
  pub told_nowhere : position (λ x. x == id) ids ≡ None → told ≡ [] → told ≡ station_replies id i (station_of_id id now.stations)
  told_nowhere e none =
      none
      ∙ ap (station_replies id i) (sym (station_nowhere ids a.stations are id e))
      ∙ ap (λ v. station_replies id i (station_of_id id v.stations)) view

  pub told_there : (k : ℕ)
      → position (λ x. x == id) ids ≡ Some k
      → (after : List (Station (List ℕ) ℕ)) (out : ActorOut)
      → StepsAt a.stations after k i out
      → told ≡ (ActorIn.Station id i, out) ∷ []
      → told ≡ station_replies id i (station_of_id id now.stations)
  told_there k e after out steps is =
      is ∙ ap (λ o. (ActorIn.Station id i, o) ∷ []) (ap (λ d. d.1) steps.called)
      ∙ ap (station_replies id i) (sym (station_at ids a.stations are id k e ∙ steps.stands))
      ∙ ap (λ v. station_replies id i (station_of_id id v.stations)) view

-- the first reply is that of the step
pub first_steps : {before after : List (Station (List ℕ) ℕ)} {place id : ℕ} {i : StationIn}
    (told : List (ActorIn × ActorOut)) (out : ActorOut) → (t : ToldAt before after place id i told)
    → option_map (λ r. r.1) (slice_get told 0) ≡ Some out → StepsAt before after place i out
first_steps {before} {after} {place} {id} {i} told out t first = subst (StepsAt before after place i) (sym (first_is told _ out t.is first)) t.steps

-- EVENTS

pub on_ok : {P : Type 0} (r : Result (Unit {0}) Proof) → P → OnOk r P
on_ok (Ok done) h = h
on_ok (Err proof) h = tt

module _ (a now : Actors) (view : a ≡ now) (told : List (ActorIn × ActorOut)) where
  -- the same replies in each world that has these actors
  in_world : (i : ActorIn) → told ≡ replies_by now.phone now.core now.stations i → (w : World (List ℕ) ℕ Kept) → Are w now → told ≡ replies_in w i
  in_world i is w are = is ∙ (λ j. replies_by (are.phone j) (are.core j) (are.stations j) i)

  pub phone_tells : (act put : PhoneAct)
      → put ≡ act
      → told ≡ replies_by now.phone now.core now.stations (ActorIn.Phone (PhoneIn.Act put))
      → Tells now (Event.Phone act) told
  unfolding replies_of
  phone_tells act put same is w are =
      in_world (ActorIn.Phone (PhoneIn.Act act))
      (is ∙ ap (λ x. replies_by now.phone now.core now.stations (ActorIn.Phone (PhoneIn.Act x))) same) w are

  pub station_tells : (id : ℕ) (act put : StationAct)
      → put ≡ act
      → told ≡ replies_by now.phone now.core now.stations (ActorIn.Station id (StationIn.Act put))
      → Tells now (Event.Station id act) told
  unfolding replies_of
  station_tells id act put same is w are =
      in_world (ActorIn.Station id (StationIn.Act act))
      (is ∙ ap (λ x. replies_by now.phone now.core now.stations (ActorIn.Station id (StationIn.Act x))) same) w are

  pub core_tells : (act put : CoreAct)
      → put ≡ act
      → told ≡ replies_by now.phone now.core now.stations (ActorIn.Core (CoreIn.Act put))
      → Tells now (Event.Core act) told
  unfolding replies_of
  core_tells act put same is w are =
      in_world (ActorIn.Core (CoreIn.Act act))
      (is ∙ ap (λ x. replies_by now.phone now.core now.stations (ActorIn.Core (CoreIn.Act x))) same) w are

  -- a record
  pub none_tells : (i : ℤ) → None ≡ record_at i now.stores.records → told ≡ [] → Tells now (Event.Deliver i) told
  unfolding replies_of
  none_tells i none is w are =
      is ∙ ap (delivered_replies w) (sym (no_view (record_at i w.sent) (sym (none ∙ chosen_in w now are i))))

  record_tells : (w : World (List ℕ) ℕ Kept) (sent : BagView)
      → Are w now
      → told ≡ replies_by now.phone now.core now.stations (input_at sent.to sent.octets)
      → (o : Option Kept)
      → Some sent ≡ option_map view_of o
      → told ≡ delivered_replies w o
  record_tells w sent are is None e = absurd cc
  record_tells w sent are is (Some x) e =
      let same : sent ≡ view_of x = cc in
      in_world (input_at x.to x.octets) (is ∙ ap (λ (v : BagView). replies_by now.phone now.core now.stations (input_at v.to v.octets)) same) w are

  pub one_tells : (i : ℤ) (sent : BagView)
      → Some sent ≡ record_at i now.stores.records
      → told ≡ replies_by now.phone now.core now.stations (input_at sent.to sent.octets)
      → Tells now (Event.Deliver i) told
  unfolding replies_of
  one_tells i sent found is w are = record_tells w sent are is (record_at i w.sent) (found ∙ chosen_in w now are i)

  -- octets
  pub sent_tells : (to : Address) (pdu : List ℕ) (number : ℕ)
      → Some number ≡ first_sent now.stores.records (class_of to) pdu
      → told ≡ []
      → Tells now (Event.Inject to pdu) told
  unfolding replies_of
  sent_tells to pdu number found is w are = is ∙ ap (injected_replies w to pdu) (found ∙ found_in now now 0 w are (class_of to) pdu)

  pub injected_tells : (to : Address) (pdu : List ℕ)
      → None ≡ first_sent now.stores.records (class_of to) pdu
      → told ≡ replies_by now.phone now.core now.stations (input_at to pdu)
      → Tells now (Event.Inject to pdu) told
  unfolding replies_of
  injected_tells to pdu none is w are =
      in_world (input_at to pdu) is w are ∙ ap (injected_replies w to pdu) (none ∙ found_in now now 0 w are (class_of to) pdu)

  -- an authentication
  module _ (stores : Stores) (ksi : ℕ) (root : List ℕ) (caps : Caps) where
    pub repeated_tells : (n : Row) → EnrolledAs a.stores stores root (Enrolled.Repeated n) → told ≡ [] → Tells now (Event.Auth ksi root caps) told
    unfolding EnrolledAs replies_of
    repeated_tells n h is w are =
        by (root_row bytes_eq root (ladder_of bytes_eq w.history).rows)
        (ladder_of bytes_eq (with_root w root).history).clash
        (h w (subst (λ v. Fits w v.stores) (sym view) are.stores))
      where
        by : (o : Option ℕ) (c : Option (Clash (List ℕ))) → EnrolledBy o c w root stores (Enrolled.Repeated n) → told ≡ auth_replies w ksi root caps o
        by (Some k) c e = is
        by None (Some c) e = absurd (not_repeated_coincidence a stores ksi root caps 0 e)
        by None None e = absurd (not_new_repeated a stores ksi root caps 0 (sym e.0))

    pub new_tells : EnrolledAs a.stores stores root Enrolled.New
        → told
        ≡ (ActorIn.Phone (PhoneIn.Auth ksi root), (phone_call a.phone (PhoneIn.Auth ksi root)).1)
        ∷ (ActorIn.Core (CoreIn.Auth ksi root caps), (core_call a.core (CoreIn.Auth ksi root caps)).1) ∷ []
        → Tells now (Event.Auth ksi root caps) told
    unfolding EnrolledAs replies_of
    new_tells h is w are =
        by (root_row bytes_eq root (ladder_of bytes_eq w.history).rows)
        (ladder_of bytes_eq (with_root w root).history).clash
        (h w (subst (λ v. Fits w v.stores) (sym view) are.stores))
      where
        both : told ≡ auth_replies w ksi root caps None
        both =
            is
            ∙ (λ j. (ActorIn.Phone (PhoneIn.Auth ksi root), (phone_call (view j).phone (PhoneIn.Auth ksi root)).1)
            ∷ (ActorIn.Core (CoreIn.Auth ksi root caps), (core_call (view j).core (CoreIn.Auth ksi root caps)).1)
            ∷ [])
            ∙ (λ j. (ActorIn.Phone (PhoneIn.Auth ksi root), (phone_call (are.phone j) (PhoneIn.Auth ksi root)).1)
            ∷ (ActorIn.Core (CoreIn.Auth ksi root caps), (core_call (are.core j) (CoreIn.Auth ksi root caps)).1)
            ∷ [])

        by : (o : Option ℕ) (c : Option (Clash (List ℕ))) → EnrolledBy o c w root stores Enrolled.New → told ≡ auth_replies w ksi root caps o
        by (Some k) c e = absurd (not_new_repeated a stores ksi root caps 0 e.0)
        by None (Some c) e = absurd (not_new_coincidence a stores ksi root caps 0 e)
        by None None e = both

-- phone and core reply one after the other
pub two_told : (phone : Phone (List ℕ) ℕ) (core : Core (List ℕ) ℕ) (ksi : ℕ) (root made : List ℕ) → made ≡ root → (caps : Caps)
    → (first both : List (ActorIn × ActorOut))
    → first ≡ (ActorIn.Phone (PhoneIn.Auth ksi made), (phone_call phone (PhoneIn.Auth ksi made)).1) ∷ []
    → both ≡ first ++ (ActorIn.Core (CoreIn.Auth ksi made caps), (core_call core (CoreIn.Auth ksi made caps)).1) ∷ []
    → both
    ≡ (ActorIn.Phone (PhoneIn.Auth ksi root), (phone_call phone (PhoneIn.Auth ksi root)).1)
    ∷ (ActorIn.Core (CoreIn.Auth ksi root caps), (core_call core (CoreIn.Auth ksi root caps)).1) ∷ []
two_told phone core ksi root made same caps first both one two =
    two ∙ ap (λ xs. xs ++ (ActorIn.Core (CoreIn.Auth ksi made caps), (core_call core (CoreIn.Auth ksi made caps)).1) ∷ []) one
    ∙ (λ j. (ActorIn.Phone (PhoneIn.Auth ksi (same j)), (phone_call phone (PhoneIn.Auth ksi (same j))).1)
    ∷ (ActorIn.Core (CoreIn.Auth ksi (same j) caps), (core_call core (CoreIn.Auth ksi (same j) caps)).1) ∷ [])
