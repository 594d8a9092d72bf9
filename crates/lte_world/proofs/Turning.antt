-- A turn of an actor in the program is its turn in the machine.
use Rattle.std.proofs.Common.{◌≡◌, refl, sym, ap, subst, ◌∙◌, ℕ, List, Option, Some, None, Result, Ok, ◌==◌, map, position, slice_set}
use Rattle.std.specs.{Prelude.option_map, List.IsDistinct, Str.bytes_eq}
use Rattle.rec_base.specs.declared.uses.Use.{Use}
use Rattle.lte_events.specs.{declared.inputs.PhoneIn.PhoneIn, Reply.reply_of, declared.answers.Answer.TheVariants.NoUe, declared.inputs.CoreIn.CoreIn, declared.inputs.StationIn.StationIn, declared.lines.Line.Line, declared.lines.Who.Who, declared.replies.ActorOut.ActorOut}
use Rattle.key_model.specs.Reading.{octet_reading}
use Rattle.key_terms.specs.{declared.proof.Proof.Proof, declared.row.Holder.Holder}
use Rattle.lte_machine.specs.Calls.{use_in, use_out, actor_out, line_of_reply, phone_input, core_input, station_input, phone_call, core_call}
use Rattle.lte_machine.specs.{Ciphers.annex_b, CoreState.Core, Ladder.Clash, Ladder.ladder_of, Machines.Kept, Machines.tuple_of, Opening.open_octets, PhoneState.Phone, Reply.Reply, StationState.Station, Tuples.Coincidence, Tuples.tuple_coincidence, Wire.KeyUse}
use Rattle.lte_machine.specs.CoreStep.{core_step, core_opens, core_pdu_in}
use Rattle.lte_machine.specs.PhoneStep.{phone_step, phone_opens, phone_pdu_in}
use Rattle.lte_machine.specs.StationStep.{station_step, station_opens, station_pdu_in}
use Rattle.lte_machine.specs.Step.{by_ladder, by_coincidence, attempts_at}
use Rattle.lte_machine.specs.World as world
use Rattle.lte_machine.specs.World.{World, line_of, phone_after, core_after, station_after, station_turn, turn_of, put_station, station_of_id}
use Rattle.store_laws.specs.Additions.{CanKeep}
use Rattle.lte_world.specs.Networks.{Stores, Fits}
use Rattle.lte_world.specs.Settling.{after, Settles, SettledBy, SettledAs}
use Rattle.lte_world.specs.Systems.{octets, Actors, Are, CameOut, comes, PhoneTurns, PhoneCan, CoreTurns, CoreCan, StationTurns, StationCan, StepsAt}
use Rattle.lte_world.proofs.Refusing.{by_world_out}
use Rattle.lte_machine.proofs.StationIds.{station_step_id}
use Rattle.lte_world.proofs.Stations.{same_some, put_at, ids_kept, stands_at, station_is, no_station}

-- what was settled of a reply, with the actors as they are then
module _ (w : World (List ℕ) ℕ Kept) (by : world.Holder) (r : Reply (List ℕ) ℕ) (who : Who) (stores : Stores)
    (result : Result Line Proof) (u : World (List ℕ) ℕ Kept) (actors : Actors) (f : Fits (after w by r) stores → Are u actors) where
  came_by : (c : Option (Clash (List ℕ))) → SettledBy None c w by r who stores result → CameOut (by_ladder c (u, line_of octets w who r)) actors result
  came_by None h = (h.0, f h.1)
  came_by (Some c) h = h

  came_out : u.history ≡ (after w by r).history → (c : Option (Coincidence (List ℕ)))
      → SettledBy c (ladder_of bytes_eq (after w by r).history).clash w by r who stores result
      → CameOut (by_coincidence bytes_eq c (u, line_of octets w who r)) actors result
  came_out same (Some coincidence) h = h
  came_out same None h =
      came_by (ladder_of bytes_eq u.history).clash (subst (λ x. SettledBy None (ladder_of bytes_eq x).clash w by r who stores result) (sym same) h)

use_back : (o : Option (KeyUse (List ℕ))) → option_map use_in (option_map use_out o) ≡ o
use_back None = refl
use_back (Some u) = refl

module _ (a : Actors) (sender : Option Use) (step : ℕ) (result : Result Line Proof) (out : ActorOut) (stores : Stores)
    (w : World (List ℕ) ℕ Kept) (came : Option Kept)
    (are : Are w a) (from : sender ≡ option_map use_out (tuple_of came)) (ev : w.events ≡ step) where
  same_sender : option_map use_in sender ≡ tuple_of came
  same_sender = ap (option_map use_in) from ∙ use_back (tuple_of came)

  abbrev shown : Reply (List ℕ) ℕ → Option (Coincidence (List ℕ))
  shown r = tuple_coincidence bytes_eq (tuple_of came) r.accepted

  -- what was settled shows what the sender in the machine shows
  settled_by : (by : world.Holder) (r : Reply (List ℕ) ℕ) (who : Who)
      → SettledBy (tuple_coincidence bytes_eq (option_map use_in sender) r.accepted) (ladder_of bytes_eq (after w by r).history).clash w by r who stores result
      → SettledBy (shown r) (ladder_of bytes_eq (after w by r).history).clash w by r who stores result
  settled_by by r who h =
      subst (λ t. SettledBy (tuple_coincidence bytes_eq t r.accepted) (ladder_of bytes_eq (after w by r).history).clash w by r who stores result) same_sender h

  -- the phone, whatever its step is
  phone_done : (d : Phone (List ℕ) ℕ × Reply (List ℕ) ℕ) (phone : Phone (List ℕ) ℕ) → phone ≡ d.0 → out ≡ actor_out d.1 → CanKeep (phone_after octets w d).0 →
      SettledAs a.stores stores out sender Holder.Phone Who.Phone step result →
      CameOut (by_coincidence bytes_eq (shown d.1) (phone_after octets w d)) (record a { phone = phone; stores = stores }) result
  phone_done d phone is told can settled =
      let h = settled w world.AtPhone d.1 are.stores told refl ev (record { history = can.history; held = can.held }) in
      came_out w world.AtPhone d.1 Who.Phone stores result (phone_after octets w d).0 (record a { phone = phone; stores = stores })
      (λ f. record {
        phone = is;
        core = are.core;
        stations = are.stations;
        stores = record { records = f.records; uses = f.uses; calm = f.calm; rows = f.rows };
      })
      refl (shown d.1) (settled_by world.AtPhone d.1 Who.Phone h)

  core_done : (d : Core (List ℕ) ℕ × Reply (List ℕ) ℕ) (core : Core (List ℕ) ℕ) → core ≡ d.0 → out ≡ actor_out d.1 → CanKeep (core_after octets w d).0 →
      SettledAs a.stores stores out sender Holder.Core Who.Core step result →
      CameOut (by_coincidence bytes_eq (shown d.1) (core_after octets w d)) (record a { core = core; stores = stores }) result
  core_done d core is told can settled =
      let h = settled w world.AtCore d.1 are.stores told refl ev (record { history = can.history; held = can.held }) in
      came_out w world.AtCore d.1 Who.Core stores result (core_after octets w d).0 (record a { core = core; stores = stores })
      (λ f. record {
        phone = are.phone;
        core = is;
        stations = are.stations;
        stores = record { records = f.records; uses = f.uses; calm = f.calm; rows = f.rows };
      })
      refl (shown d.1) (settled_by world.AtCore d.1 Who.Core h)

  station_done : (id : ℕ) (d : Station (List ℕ) ℕ × Reply (List ℕ) ℕ) (stations : List (Station (List ℕ) ℕ)) →
      stations ≡ put_station id d.0 a.stations → out ≡ actor_out d.1 → CanKeep (station_after octets w id d).0 →
      SettledAs a.stores stores out sender (Holder.Station id) (Who.Station id) step result →
      CameOut (by_coincidence bytes_eq (shown d.1) (station_after octets w id d)) (record a { stations = stations; stores = stores }) result
  station_done id d stations is told can settled =
      let h = settled w (world.AtStation id) d.1 are.stores told refl ev (record { history = can.history; held = can.held }) in
      came_out w (world.AtStation id) d.1 (Who.Station id) stores result (station_after octets w id d).0 (record a { stations = stations; stores = stores })
      (λ f. record {
        phone = are.phone;
        core = are.core;
        stations = is ∙ ap (put_station id d.0) are.stations;
        stores = record { records = f.records; uses = f.uses; calm = f.calm; rows = f.rows };
      })
      refl (shown d.1) (settled_by (world.AtStation id) d.1 (Who.Station id) h)

-- THE PHONE

abbrev stepped_phone : Phone (List ℕ) ℕ → PhoneIn → Phone (List ℕ) ℕ × Reply (List ℕ) ℕ
stepped_phone s i =
    phone_step octet_reading s (phone_input i) (open_octets annex_b (phone_opens octet_reading s (phone_input i)) (phone_pdu_in (phone_input i)))

module _ (a : Actors) (i : PhoneIn) (phone : Phone (List ℕ) ℕ) (out : ActorOut) (called : (phone, out) ≡ phone_call a.phone i) where
  phone_is : (w : World (List ℕ) ℕ Kept) → Are w a → (phone ≡ (stepped_phone w.phone i).0) × (out ≡ actor_out (stepped_phone w.phone i).1)
  phone_is w are =
      let whole : (phone, out) ≡ phone_call w.phone i = called ∙ ap (λ s. phone_call s i) are.phone in
      (ap (λ x. x.0) whole, ap (λ x. x.1) whole)

  pub phone_settles : PhoneCan a i → Settles a.stores out
  phone_settles p = record {
    before = p.before;
    by = world.AtPhone;
    reply = (stepped_phone p.before.phone i).1;
    fits = p.are.stores;
    is = (phone_is p.before p.are).1;
    can = record { history = p.can.history; held = p.can.held };
  }

  pub phone_turns : (sender : Option Use) (step : ℕ) (result : Result Line Proof) (stores : Stores) →
      SettledAs a.stores stores out sender Holder.Phone Who.Phone step result →
      PhoneTurns a (record a { phone = phone; stores = stores }) i sender step result
  unfolding PhoneTurns
  phone_turns sender step result stores settled w came are from ev can =
      let is = phone_is w are in
      phone_done a sender step result out stores w came are from ev (stepped_phone w.phone i) phone is.0 is.1 can settled

-- THE CORE

abbrev stepped_core : Core (List ℕ) ℕ → CoreIn → Core (List ℕ) ℕ × Reply (List ℕ) ℕ
stepped_core s i =
    core_step octet_reading s (core_input i) (open_octets annex_b (core_opens octet_reading s (core_input i)) (core_pdu_in (core_input i)))

module _ (a : Actors) (i : CoreIn) (core : Core (List ℕ) ℕ) (out : ActorOut) (called : (core, out) ≡ core_call a.core i) where
  core_is : (w : World (List ℕ) ℕ Kept) → Are w a → (core ≡ (stepped_core w.core i).0) × (out ≡ actor_out (stepped_core w.core i).1)
  core_is w are =
      let whole : (core, out) ≡ core_call w.core i = called ∙ ap (λ s. core_call s i) are.core in
      (ap (λ x. x.0) whole, ap (λ x. x.1) whole)

  pub core_settles : CoreCan a i → Settles a.stores out
  core_settles p = record {
    before = p.before;
    by = world.AtCore;
    reply = (stepped_core p.before.core i).1;
    fits = p.are.stores;
    is = (core_is p.before p.are).1;
    can = record { history = p.can.history; held = p.can.held };
  }

  pub core_turns : (sender : Option Use) (step : ℕ) (result : Result Line Proof) (stores : Stores) →
      SettledAs a.stores stores out sender Holder.Core Who.Core step result →
      CoreTurns a (record a { core = core; stores = stores }) i sender step result
  unfolding CoreTurns
  core_turns sender step result stores settled w came are from ev can =
      let is = core_is w are in
      core_done a sender step result out stores w came are from ev (stepped_core w.core i) core is.0 is.1 can settled

pub phone_turns_from : (a now : Actors) → a ≡ now → (i : PhoneIn) (phone : Phone (List ℕ) ℕ) (out : ActorOut) →
    (phone, out) ≡ phone_call a.phone i →
    (sender : Option Use) (step : ℕ) (result : Result Line Proof) (stores : Stores) →
    SettledAs a.stores stores out sender Holder.Phone Who.Phone step result → PhoneTurns now (record a { phone = phone; stores = stores }) i sender step result
phone_turns_from a now view i phone out called sender step result stores settled =
    subst (λ x. PhoneTurns x (record a { phone = phone; stores = stores }) i sender step result) view
    (phone_turns a i phone out called sender step result stores settled)

pub phone_settles_from : (a now : Actors)
    → a ≡ now
    → (i : PhoneIn) (phone : Phone (List ℕ) ℕ) (out : ActorOut)
    → (phone, out) ≡ phone_call a.phone i
    → PhoneCan now i
    → Settles a.stores out
phone_settles_from a now view i phone out called can = phone_settles a i phone out called (subst (λ x. PhoneCan x i) (sym view) can)

pub core_turns_from : (a now : Actors) → a ≡ now → (i : CoreIn) (core : Core (List ℕ) ℕ) (out : ActorOut) →
    (core, out) ≡ core_call a.core i → (sender : Option Use) (step : ℕ) (result : Result Line Proof) (stores : Stores) →
    SettledAs a.stores stores out sender Holder.Core Who.Core step result → CoreTurns now (record a { core = core; stores = stores }) i sender step result
core_turns_from a now view i core out called sender step result stores settled =
    subst (λ x. CoreTurns x (record a { core = core; stores = stores }) i sender step result) view
    (core_turns a i core out called sender step result stores settled)

pub core_settles_from : (a now : Actors)
    → a ≡ now
    → (i : CoreIn) (core : Core (List ℕ) ℕ) (out : ActorOut)
    → (core, out) ≡ core_call a.core i
    → CoreCan now i
    → Settles a.stores out
core_settles_from a now view i core out called can = core_settles a i core out called (subst (λ x. CoreCan x i) (sym view) can)

-- A STATION

abbrev stepped_station : Station (List ℕ) ℕ → StationIn → Station (List ℕ) ℕ × Reply (List ℕ) ℕ
stepped_station s i =
    station_step octet_reading s (station_input i) (open_octets annex_b (station_opens octet_reading s (station_input i)) (station_pdu_in (station_input i)))

-- and it keeps its number
pub ids_after : (before after : List (Station (List ℕ) ℕ)) (place : ℕ) (i : StationIn) (out : ActorOut)
    → StepsAt before after place i out
    → map (λ s. s.id) after ≡ map (λ s. s.id) before
ids_after before after place i out steps =
    let kept : steps.new.id ≡ steps.old.id =
    ap (λ x. x.0.id) steps.called
    ∙ station_step_id octet_reading steps.old (station_input i)
    (open_octets annex_b (station_opens octet_reading steps.old (station_input i))
    (station_pdu_in (station_input i)))
    in
    ap (map (λ s. s.id)) steps.put ∙ ids_kept before steps.new steps.old place steps.stands kept

module _ (a : Actors) (id : ℕ) (ids : List ℕ) (same : map (λ s. s.id) a.stations ≡ ids) (i : StationIn) where
  -- what comes of it, by the station of this number
  abbrev Out : World (List ℕ) ℕ Kept → Option Kept → Option (Station (List ℕ) ℕ) → Actors → Result Line Proof → Type 0
  Out w came o b result = CameOut (comes w (attempts_at octets (station_input i) came o) (turn_of octets w id (station_input i) came o)) b result

  -- there is none
  pub no_turn : position (λ x. x == id) ids ≡ None
      → (sender : Option Use) (step : ℕ) (line : Line)
      → line ≡ line_of_reply step Who.World None (reply_of NoUe)
      → StationTurns a a id i sender step (Ok line)
  unfolding StationTurns
  no_turn none sender step line told w came are from ev can =
      let nobody : station_of_id id w.stations ≡ None = ap (station_of_id id) (sym are.stations) ∙ no_station a.stations ids same id none in
      subst (λ o. Out w came o a (Ok line)) (sym nobody) (by_world_out w a step NoUe line are ev told)

  -- it stands at this place
  module _ (place : ℕ) (found : position (λ x. x == id) ids ≡ Some place) (stations : List (Station (List ℕ) ℕ))
      (out : ActorOut) (steps : StepsAt a.stations stations place i out) where
    new_is : steps.new ≡ (stepped_station steps.old i).0
    new_is = ap (λ x. x.0) steps.called

    out_is : out ≡ actor_out (stepped_station steps.old i).1
    out_is = ap (λ x. x.1) steps.called

    in_world : (w : World (List ℕ) ℕ Kept) → Are w a → station_of_id id w.stations ≡ Some steps.old
    in_world w are = ap (station_of_id id) (sym are.stations) ∙ station_is a.stations ids same id place steps.old found steps.stands

    can_keep : (w : World (List ℕ) ℕ Kept) (came : Option Kept)
        → Are w a
        → CanKeep (station_turn octets w id (station_input i) came).0
        → CanKeep (station_after octets w id (stepped_station steps.old i)).0
    can_keep w came are can = subst (λ o. CanKeep (turn_of octets w id (station_input i) came o).0) (in_world w are) can

    own : steps.old.id ≡ id
    own = let at = stands_at a.stations ids same id place found in ap (λ s. s.id) (same_some (sym steps.stands ∙ at.1)) ∙ at.2

    put_is : IsDistinct (λ x y. x == y) ids → stations ≡ put_station id (stepped_station steps.old i).0 a.stations
    put_is distinct =
        steps.put ∙ ap (slice_set a.stations place) new_is
        ∙ sym (put_at a.stations (stepped_station steps.old i).0 steps.old place id (subst (IsDistinct (λ x y. x == y)) (sym same) distinct) steps.stands own)

    pub station_settles : StationCan a id i → Settles a.stores out
    station_settles p =
        let can = can_keep p.before p.came p.are p.can in
        record {
          before = p.before;
          by = world.AtStation id;
          reply = (stepped_station steps.old i).1;
          fits = p.are.stores;
          is = out_is;
          can = record { history = can.history; held = can.held };
        }

    pub station_turns : IsDistinct (λ x y. x == y) ids →
        (sender : Option Use) (step : ℕ) (result : Result Line Proof) (stores : Stores) →
        SettledAs a.stores stores out sender (Holder.Station id) (Who.Station id) step result →
        StationTurns a (record a { stations = stations; stores = stores }) id i sender step result
    unfolding StationTurns
    station_turns distinct sender step result stores settled w came are from ev can =
        subst (λ o. Out w came o (record a { stations = stations; stores = stores }) result) (sym (in_world w are))
        (station_done a sender step result out stores w came are from ev id (stepped_station steps.old i) stations
        (put_is distinct) out_is (can_keep w came are can) settled)

module _ (a now : Actors) (view : a ≡ now) (id : ℕ) (ids : List ℕ) (same : map (λ s. s.id) a.stations ≡ ids) (i : StationIn) where
  pub no_turn_from : position (λ x. x == id) ids ≡ None
      → (sender : Option Use) (step : ℕ) (line : Line)
      → line ≡ line_of_reply step Who.World None (reply_of NoUe)
      → StationTurns now now id i sender step (Ok line)
  no_turn_from none sender step line told = subst (λ x. StationTurns x x id i sender step (Ok line)) view (no_turn a id ids same i none sender step line told)

  module _ (place : ℕ) (found : position (λ x. x == id) ids ≡ Some place) (stations : List (Station (List ℕ) ℕ))
      (out : ActorOut) (steps : StepsAt a.stations stations place i out) where
    pub station_settles_from : StationCan now id i → Settles a.stores out
    station_settles_from can = station_settles a id ids same i place found stations out steps (subst (λ x. StationCan x id i) (sym view) can)

    pub station_turns_from : IsDistinct (λ x y. x == y) ids →
        (sender : Option Use) (step : ℕ) (result : Result Line Proof) (stores : Stores) →
        SettledAs a.stores stores out sender (Holder.Station id) (Who.Station id) step result →
        StationTurns now (record a { stations = stations; stores = stores }) id i sender step result
    station_turns_from distinct sender step result stores settled =
        subst (λ x. StationTurns x (record a { stations = stations; stores = stores }) id i sender step result) view
        (station_turns a id ids same i place found stations out steps distinct sender step result stores settled)
