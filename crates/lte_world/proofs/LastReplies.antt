-- The replies that a world keeps are those of the last event of its journal, and of actors of its setup.
use Rattle.std.proofs.Common.{◌≡◌, refl, sym, ap, ◌∙◌, subst, ℕ, List, [], ◌∷◌, ◌++◌, length, Option, Some, None, Result, Ok, Err, inl, inr}
use Rattle.std.specs.Prelude.{◌⊎◌, OnOk, is_some}
use Rattle.std.specs.List.{position_from, AllByRecursion as AllOf}
use Rattle.alg_choice.specs.declared.caps.Caps.{Caps}
use Rattle.lte_events.specs.{Ranges.has_station, declared.addresses.Address.Address, declared.events.Event.Event, declared.inputs.ActorIn.ActorIn, declared.inputs.StationIn.StationIn, declared.replies.ActorOut.ActorOut, declared.setups.Setup.Setup, Class.class_of}
use Rattle.key_terms.specs.declared.proof.Proof.{Proof}
use Rattle.lte_machine.specs.{BothRuns.octet_run, Ciphers.annex_b, Machines.Kept, Opening.open_octets, Run.Running, Run.first_world, StationState.Station}
use Rattle.lte_machine.specs.World.{World, station_of_id, known_root, record_at, is_sent}
use Rattle.lte_machine.proofs.EventByEvent.{prefix_goes_on}
use Rattle.lte_world.specs.Replies.{station_replies, input_at, replies_in, auth_replies, delivered_replies, injected_replies, replies_of, Tells, RepliedLast, IsOfSetup}
use Rattle.lte_world.specs.{Systems.octets, Systems.Actors, Whole.Goes, Whole.Stands}
use Rattle.lte_world.proofs.StationsStand.{stations_stand}

-- LISTS

not_longer : (xs : List Event) (x : Event) → [] ≡ xs ++ x ∷ [] → ⊥
not_longer [] x e = cc
not_longer (y ∷ ys) x e = cc

same_ends : (xs ys : List Event) (x y : Event) → xs ++ x ∷ [] ≡ ys ++ y ∷ [] → (xs ≡ ys) × (x ≡ y)
same_ends [] [] x y e = (refl, cc)
same_ends [] (z ∷ ys) x y e = let rest : [] ≡ ys ++ y ∷ [] = cc in absurd (not_longer ys y rest)
same_ends (z ∷ xs) [] x y e = let rest : [] ≡ xs ++ x ∷ [] = cc in absurd (not_longer xs x rest)
same_ends (z ∷ xs) (v ∷ ys) x y e =
    let one : z ≡ v = cc in
    let more : xs ++ x ∷ [] ≡ ys ++ y ∷ [] = cc in
    let same = same_ends xs ys x y more in ((λ j. one j ∷ same.0 j), same.1)

abbrev Ends : List Event → Type 0
Ends xs = (xs ≡ []) ⊎ ((ys : List Event) × (y : Event) × (xs ≡ ys ++ y ∷ []))

with_front : (x : Event) (xs : List Event) → Ends xs → Ends (x ∷ xs)
with_front x xs (inl e) = inr ([], x, ap (λ zs. x ∷ zs) e)
with_front x xs (inr (ys, y, e)) = inr (x ∷ ys, y, ap (λ zs. x ∷ zs) e)

ends : (xs : List Event) → Ends xs
ends [] = inl refl
ends (x ∷ xs) = with_front x xs (ends xs)

-- THE LAST REPLIES

pub first_replied : (setup : Setup) (journal : List Event) (replies : List (ActorIn × ActorOut))
    → journal ≡ []
    → replies ≡ []
    → RepliedLast setup journal replies
first_replied setup journal replies empty none = record {
  last = λ before e w is runs. absurd (not_longer before e (sym empty ∙ is));
  none = λ is. none;
}

pub next_replied : (setup : Setup) (journal : List Event) (over : Option Proof) (a : Actors)
    → over ≡ None
    → Stands over (octet_run setup journal) a (length journal)
    → (e : Event) (told : List (ActorIn × ActorOut))
    → Tells a e told
    → (items : List Event) → items ≡ journal ++ e ∷ [] → RepliedLast setup items told
next_replied setup journal over a none st e told tells items are = record { last = last; none = λ is. absurd (not_longer journal e (sym is ∙ are)) }
  where
    last : (before : List Event) (d : Event) (w : World (List ℕ) ℕ Kept) → items ≡ before ++ d ∷ [] → octet_run setup before ≡ Running w → told ≡ replies_of w d
    last before d w is runs =
        let same = same_ends before journal d e (sym is ∙ are) in
        let here : octet_run setup journal ≡ Running w = ap (octet_run setup) (sym same.0) ∙ runs in
        let goes = subst (λ r. Goes r a (length journal)) here (subst (λ o. Stands o (octet_run setup journal) a (length journal)) none st) in
        tells w goes.0 ∙ ap (replies_of w) (sym same.1)

-- OF THE SETUP

module _ (setup : Setup) (w : World (List ℕ) ℕ Kept) (stand : (id : ℕ) → is_some (station_of_id id w.stations) ≡ has_station setup.stations id) where
  abbrev AreThere : List (ActorIn × ActorOut) → Type 0
  AreThere replies = AllOf (λ r. IsOfSetup setup r.0) replies

  station_there : (id : ℕ) (i : StationIn) (o : Option (Station (List ℕ) ℕ)) → is_some o ≡ has_station setup.stations id → AreThere (station_replies id i o)
  station_there id i None is = tt
  station_there id i (Some s) is = (sym is, tt)

  input_there : (i : ActorIn) → AreThere (replies_in w i)
  input_there (ActorIn.Phone i) = (tt, tt)
  input_there (ActorIn.Station id i) = station_there id i (station_of_id id w.stations) (stand id)
  input_there (ActorIn.Core i) = (tt, tt)

  auth_there : (ksi : ℕ) (kasme : List ℕ) (caps : Caps) (o : Option ℕ) → AreThere (auth_replies w ksi kasme caps o)
  auth_there ksi kasme caps None = (tt, (tt, tt))
  auth_there ksi kasme caps (Some row) = tt

  delivered_there : (o : Option Kept) → AreThere (delivered_replies w o)
  delivered_there None = tt
  delivered_there (Some x) = input_there (input_at x.to x.octets)

  injected_there : (to : Address) (pdu : List ℕ) (o : Option ℕ) → AreThere (injected_replies w to pdu o)
  injected_there to pdu None = input_there (input_at to pdu)
  injected_there to pdu (Some number) = tt

  event_there : (e : Event) → AreThere (replies_of w e)
  unfolding replies_of
  event_there (Event.Auth ksi kasme caps) = auth_there ksi kasme caps (known_root octets w kasme)
  event_there (Event.Phone act) = (tt, tt)
  event_there (Event.Station id act) = input_there (ActorIn.Station id (StationIn.Act act))
  event_there (Event.Core act) = (tt, tt)
  event_there (Event.Deliver i) = delivered_there (record_at i w.sent)
  event_there (Event.Inject to pdu) = injected_there to pdu (position_from (is_sent octets (class_of to) pdu) 0 w.sent)

pub replies_there : (setup : Setup) (journal : List Event) (replies : List (ActorIn × ActorOut))
    (u : World (List ℕ) ℕ Kept)
    → octet_run setup journal ≡ Running u
    → RepliedLast setup journal replies
    → AllOf (λ r. IsOfSetup setup r.0) replies
replies_there setup journal replies u runs h = by (ends journal)
  where
    by : Ends journal → AllOf (λ r. IsOfSetup setup r.0) replies
    by (inl empty) = subst (AllOf (λ r. IsOfSetup setup r.0)) (sym (h.none empty)) tt
    by (inr (before, e, is)) =
        let went = prefix_goes_on (open_octets annex_b) octets (Running (first_world setup)) before (e ∷ []) u (ap (octet_run setup) (sym is) ∙ runs) in
        subst (AllOf (λ r. IsOfSetup setup r.0)) (sym (h.last before e went.0 is went.1))
        (event_there setup went.0 (stations_stand setup before went.0 went.1) e)

-- A WORLD

pub told_ok : {P : Type 0} (r : Result (Unit {0}) Proof) → r ≡ Ok tt → OnOk r P → P
told_ok (Ok done) e h = h
told_ok (Err proof) e h = absurd cc
