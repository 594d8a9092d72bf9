-- The uses of a world are those of the records sent, and its holders those who derived a key or received it.
use Rattle.std.proofs.Common.{◌≡◌, refl, sym, ap, ◌∙◌, subst, ℕ, Bool, List, [], ◌∷◌, ◌++◌, map, Option, Some, None, option_map, Result, Ok, Err}
use Rattle.std.specs.List.{flat_map, position_from, AllByRecursion as AllOf}
use Rattle.std.proofs.{lemmas.List.append-nil, lemmas.Grind.flat_map-append}
use Rattle.alg_choice.specs.declared.caps.Caps.{Caps}
use Rattle.rec_base.specs.declared.faults.RecFault.{RecFault}
use Rattle.lte_events.specs.{declared.addresses.Address.Address, declared.answers.Answer.Answer, declared.events.Event.Event, Class.class_of}
use Rattle.lte_events.specs.declared.answers.Answer.TheVariants.{NoUe, NoRecord, Sent, RepeatedRoot}
use Rattle.s1x2_rec.specs.Content.{Content}
use Rattle.key_model.specs.{Derivation.Derivation, Term.Term}
use Rattle.lte_machine.specs.Ladder.{OfRoot, Of, row_key}
use Rattle.lte_machine.specs.{Opening.Opening, Opening.Outcome, Reply.Reply, Machines.machine_by, Run.run}
use Rattle.lte_machine.specs.PhoneState.{Phone, PhoneInput, PhoneActs, PhoneNasPdu, PhoneAirPdu}
use Rattle.lte_machine.specs.PhoneStep.{phone_step, phone_opens, phone_pdu_in}
use Rattle.lte_machine.specs.StationState.{Station, StationInput, StationActs, AirPdu, StationRecord, OnS1, OnX2}
use Rattle.lte_machine.specs.StationStep.{key_read, station_key, station_step, station_opens, station_pdu_in}
use Rattle.lte_machine.specs.CoreState.{Core, CoreInput, CoreActs, CoreNasPdu, CoreRecord}
use Rattle.lte_machine.specs.CoreStep.{core_step, core_opens, core_pdu_in, core_received}
use Rattle.lte_machine.specs.Wire.{KeyUse, Outgoing, uses_of}
use Rattle.lte_machine.specs.World.{Machine, World, Holder, AtPhone, AtCore, AtStation, holds, with_one, uses_in, phone_after, core_after, station_after, by_world, phone_turn, core_turn, turn_of, station_of_id, auth_unless, known_root, next_root, content_in, arrives, record_at, delivery, is_sent, injected, happens}
use Rattle.lte_machine.proofs.{Routing.happens_each, KnownLists.all_append}
use Rattle.lte_properties.specs.Accounts.{UsesAreThoseSent, IsRowOf, key_at, key_of_record, key_delivered, with_read, each_holds, Gains, HoldersGain}

-- USES

uses_kept : (us : List (KeyUse Term)) (sent : List (Outgoing Term ℕ)) (o : Option (Outgoing Term ℕ))
    → us ≡ flat_map uses_of sent
    → us ++ uses_in o ≡ flat_map uses_of (with_one o sent)
uses_kept us sent None h = append-nil us ∙ h
uses_kept us sent (Some x) h =
    ap (λ v. v ++ uses_of x) h
    ∙ ap (λ v. flat_map uses_of sent ++ v) (sym (append-nil (uses_of x)))
    ∙ sym (flat_map-append uses_of sent (x ∷ []))

module _ (same : Term → Term → Bool) (root : ℕ → List ℕ → Term) (octets : Outgoing Term ℕ → List ℕ)
    (sender : Option (Outgoing Term ℕ) → Option (KeyUse Term))
    (opener : Opening Term → List ℕ → Option (Outgoing Term ℕ) → Outcome) where
  abbrev m : Machine Term ℕ (Outgoing Term ℕ)
  m = machine_by same root octets sender opener

  module _ (w : World Term ℕ (Outgoing Term ℕ)) (h : UsesAreThoseSent w) where
    one : (o : Option (Outgoing Term ℕ)) → w.uses ++ uses_in o ≡ flat_map uses_of (with_one o w.sent)
    one o = uses_kept w.uses w.sent o h

    happens_uses : (e : Event) → UsesAreThoseSent (happens m w e).0
    happens_uses =
        happens_each m w (λ done a. UsesAreThoseSent done.0) (λ ksi key caps. h)
        (λ input came turn. one (phone_step m.reading w.phone input (opener (phone_opens m.reading w.phone input) (phone_pdu_in input) came)).1.sent)
        (λ input came. one (core_step m.reading w.core input (opener (core_opens m.reading w.core input) (core_pdu_in input) came)).1.sent)
        (λ id input came s there own. one (station_step m.reading s input (opener (station_opens m.reading s input) (station_pdu_in input) came)).1.sent)
        (λ answer. h)

  pub uses_are_sent : (w : World Term ℕ (Outgoing Term ℕ)) (es : List Event) → UsesAreThoseSent w → UsesAreThoseSent (run m w es)
  uses_are_sent w [] h = h
  uses_are_sent w (e ∷ es) h = uses_are_sent (happens m w e).0 es (happens_uses w h e)

-- HOLDERS

outs_held : {K : Type 0} (holder : Holder) (ds : List (Derivation K))
    → map (λ d. record { holder = holder; key = d.out }) ds
    ≡ flat_map (each_holds (holder ∷ [])) (map row_key (map Of ds))
outs_held holder [] = refl
outs_held holder (d ∷ ds) = ap (λ v. record { holder = holder; key = d.out } ∷ v) (outs_held holder ds)

holds_is : {K : Type 0} (holder : Holder) (came : Option K) (ds : List (Derivation K))
    → holds holder came ds ≡ flat_map (each_holds (holder ∷ [])) (with_read came (map row_key (map Of ds)))
holds_is holder None ds = outs_held holder ds
holds_is holder (Some key) ds = ap (λ v. record { holder = holder; key = key } ∷ v) (outs_held holder ds)

core_read : {K C : Type 0} (read : Result (Content K C) RecFault) → core_received (CoreRecord read) ≡ option_map (λ k. k.key) (key_read read)
core_read (Ok content) = refl
core_read (Err fault) = refl

module _ {K C S : Type 0} (m : Machine K C S) (w : World K C S) where
  only_derived : (ds : List (Derivation K)) → AllOf (IsRowOf m) (map Of ds)
  only_derived [] = tt
  only_derived (d ∷ ds) = (tt, only_derived ds)

  phone_gains : (d : Phone K C × Reply K C) → Gains m w d.1.received (phone_after m w d)
  phone_gains d = record {
    derived = map Of d.1.derived;
    history = refl;
    roots = only_derived d.1.derived;
    held = ap (λ v. w.held ++ v) (holds_is AtPhone d.1.received d.1.derived);
  }

  core_gains : (d : Core K C × Reply K C) → Gains m w d.1.received (core_after m w d)
  core_gains d = record {
    derived = map Of d.1.derived;
    history = refl;
    roots = only_derived d.1.derived;
    held = ap (λ v. w.held ++ v) (holds_is AtCore d.1.received d.1.derived);
  }

  station_gains : (id : ℕ) (d : Station K C × Reply K C) → Gains m w d.1.received (station_after m w id d)
  station_gains id d = record {
    derived = map Of d.1.derived;
    history = refl;
    roots = only_derived d.1.derived;
    held = ap (λ v. w.held ++ v) (holds_is (AtStation id) d.1.received d.1.derived);
  }

  none_gains : (came : Option K) (answer : Answer) → Gains m w came (by_world m w answer)
  none_gains None answer = record { derived = []; history = sym (append-nil w.history); roots = tt; held = sym (append-nil w.held) }
  none_gains (Some key) answer = record { derived = []; history = sym (append-nil w.history); roots = tt; held = sym (append-nil w.held) }

  turn_gains : (id : ℕ) (input : StationInput K C) (came : Option S) (o : Option (Station K C))
      → Gains m w (option_map (λ k. k.key) (station_key input)) (turn_of m w id input came o)
  turn_gains id input came None = none_gains (option_map (λ k. k.key) (station_key input)) NoUe
  turn_gains id input came (Some s) = station_gains id (station_step m.reading s input (m.opener (station_opens m.reading s input) (station_pdu_in input) came))

  phone_turns : (input : PhoneInput K) (came : Option S) → Gains m w None (phone_turn m w input came)
  phone_turns input came = phone_gains (phone_step m.reading w.phone input (m.opener (phone_opens m.reading w.phone input) (phone_pdu_in input) came))

  core_turns : (input : CoreInput K C) (came : Option S) → Gains m w (core_received input) (core_turn m w input came)
  core_turns input came = core_gains (core_step m.reading w.core input (m.opener (core_opens m.reading w.core input) (core_pdu_in input) came))

  arrives_gains : (to : Address) (pdu : List ℕ) (came : Option S) → Gains m w (key_at to (content_in m came)) (arrives m w to pdu came)
  arrives_gains Address.PhoneNas pdu came = phone_turns (PhoneNasPdu pdu) came
  arrives_gains (Address.Phone station air bearer) pdu came = phone_turns (PhoneAirPdu station air bearer pdu) came
  arrives_gains Address.CoreNas pdu came = core_turns (CoreNasPdu pdu) came
  arrives_gains Address.CoreS1 pdu came =
      subst (λ o. Gains m w o (core_turn m w (CoreRecord (content_in m came)) came)) (core_read (content_in m came))
      (core_turns (CoreRecord (content_in m came)) came)
  arrives_gains (Address.StationAir station air bearer) pdu came = turn_gains station (AirPdu air bearer pdu) came (station_of_id station w.stations)
  arrives_gains (Address.StationS1 station) pdu came = turn_gains station (StationRecord OnS1 (content_in m came)) came (station_of_id station w.stations)
  arrives_gains (Address.StationX2 station) pdu came = turn_gains station (StationRecord OnX2 (content_in m came)) came (station_of_id station w.stations)

  no_key : (to : Address) → key_at to (content_in m None) ≡ None
  no_key Address.PhoneNas = refl
  no_key other = refl

  delivered_gains : (o : Option S) → Gains m w (key_of_record m o) (delivery m w o)
  delivered_gains None = none_gains None NoRecord
  delivered_gains (Some x) = arrives_gains (m.address x) (m.octets x) (Some x)

  injected_gains : (to : Address) (pdu : List ℕ) (o : Option ℕ) → Gains m w None (injected m w to pdu o)
  injected_gains to pdu None = subst (λ k. Gains m w k (arrives m w to pdu None)) (no_key to) (arrives_gains to pdu None)
  injected_gains to pdu (Some number) = none_gains None (Sent number)

  auth_gains : (ksi : ℕ) (kasme : List ℕ) (caps : Caps) (o : Option ℕ) → Gains m w None (auth_unless m w ksi (m.root (next_root w) kasme) caps o)
  auth_gains ksi kasme caps None = record {
    derived = OfRoot (m.root (next_root w) kasme) ∷ [];
    history = refl;
    roots = ((next_root w, kasme, refl), tt);
    held = refl;
  }
  auth_gains ksi kasme caps (Some row) = none_gains None (RepeatedRoot row)

  pub happens_gains : (e : Event) → Gains m w (key_delivered m w e) (happens m w e)
  happens_gains (Event.Auth ksi key caps) = auth_gains ksi key caps (known_root m w (m.root (next_root w) key))
  happens_gains (Event.Phone act) = phone_turns (PhoneActs act) None
  happens_gains (Event.Station id act) = turn_gains id (StationActs act) None (station_of_id id w.stations)
  happens_gains (Event.Core act) = core_turns (CoreActs act) None
  happens_gains (Event.Deliver i) = delivered_gains (record_at i w.sent)
  happens_gains (Event.Inject to pdu) = injected_gains to pdu (position_from (is_sent m (class_of to) pdu) 0 w.sent)

pub holders_gain : {K C S : Type 0} (m : Machine K C S) (w : World K C S) (es : List Event) → HoldersGain m w es
holders_gain m w [] = tt
holders_gain m w (e ∷ es) = (happens_gains m w e, holders_gain m (happens m w e).0 es)

-- each row of a run's history is a derivation or a root of the machine
pub rows_are : {K C S : Type 0} (m : Machine K C S) (w : World K C S) (es : List Event) → AllOf (IsRowOf m) w.history → AllOf (IsRowOf m) (run m w es).history
rows_are m w [] h = h
rows_are m w (e ∷ es) h =
    let g = happens_gains m w e in
    rows_are m (happens m w e).0 es (subst (AllOf (IsRowOf m)) (sym g.history) (all_append (IsRowOf m) w.history g.derived h g.roots))
