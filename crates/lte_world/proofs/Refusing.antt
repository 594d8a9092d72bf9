-- Records that are delivered and octets that are injected; events that reach no actor.
use Rattle.std.proofs.Common.{◌≡◌, refl, sym, ap, subst, ◌∙◌, ℕ, ◌-◌, Bool, true, false, List, length, map, Option, Some, None, Result, Ok, nat_lt}
use Rattle.std.specs.Prelude.{option_map, ℤ, pos, negsuc}
use Rattle.std.specs.List.{position_from}
use Rattle.std.proofs.{lemmas.List.length-map, lemmas.Option.slice_get-map}
use Rattle.lte_events.specs.{Reply.reply_of, declared.addresses.Address.Address, declared.answers.Answer.Answer, declared.classes.Class.Class, declared.events.Event.Event, declared.lines.Line.Line, declared.lines.Who.Who, Class.class_of, Ranges.TakesInjected}
use Rattle.lte_events.specs.declared.answers.Answer.TheVariants.{NoRecord, Sent}
use Rattle.key_terms.specs.declared.proof.Proof.{Proof}
use Rattle.net_bag.specs.{Bag.first_sent, declared.view.BagView.BagView}
use Rattle.lte_machine.specs.{Calls.use_out, Calls.line_of_reply, Ciphers.annex_b, Machines.Kept}
use Rattle.lte_machine.specs.Step.{by_ladder, opens_none, delivery_attempts, injection_attempts}
use Rattle.lte_machine.specs.World.{World, by_world, newest_if, record_at, delivery, injected, is_sent}
use Rattle.store_laws.specs.{Additions.CanKeep, Records.view_of}
use Rattle.store_laws.proofs.Found.{first_is}
use Rattle.lte_world.specs.Systems.{octets, Actors, Are, CameOut, comes, Happens, EventCan, ReadsAt, Arrives, ArrivalCan}

-- an event that reaches no actor
pub by_world_out : (w : World (List ℕ) ℕ Kept) (a : Actors) (step : ℕ) (answer : Answer) (line : Line) → Are w a →
    w.events ≡ step → line ≡ line_of_reply step Who.World None (reply_of answer) →
    CameOut (comes w opens_none (by_world octets w answer)) a (Ok line)
by_world_out w a step answer line are ev is =
    subst (λ c. CameOut (by_ladder c (by_world octets w answer)) a (Ok line)) (sym are.stores.calm) (
      ap Ok (is ∙ ap (λ n. line_of_reply n Who.World None (reply_of answer)) (sym ev)),
      record {
        phone = are.phone;
        core = are.core;
        stations = are.stations;
        stores = record {
          records = are.stores.records;
          uses = are.stores.uses;
          calm = are.stores.calm;
          rows = are.stores.rows;
        };
      },
    )

-- RECORDS

newest_map : {A B : Type 0} (f : A → B) (b : Bool) (k : ℕ) (xs : List A) → newest_if b k (map f xs) ≡ option_map f (newest_if b k xs)
newest_map f true k xs = slice_get-map f xs k
newest_map f false k xs = refl

chosen_map : {A B : Type 0} (f : A → B) (i : ℤ) (xs : List A) → record_at i (map f xs) ≡ option_map f (record_at i xs)
chosen_map f (pos k) xs = slice_get-map f xs k
chosen_map f (negsuc k) xs =
    ap (λ n. newest_if (nat_lt k n) (n - 1 - k) (map f xs)) (length-map xs f) ∙ newest_map f (nat_lt k (length xs)) (length xs - 1 - k) xs

pub chosen_in : (w : World (List ℕ) ℕ Kept) (a : Actors) → Are w a → (i : ℤ) → record_at i a.stores.records ≡ option_map view_of (record_at i w.sent)
chosen_in w a are i = ap (record_at i) are.stores.records ∙ chosen_map view_of i w.sent

pub no_view : (o : Option Kept) → option_map view_of o ≡ None → o ≡ None
no_view None e = refl
no_view (Some x) e = absurd cc

reads_sent : (x : Kept) (to : Address) → ReadsAt to x.octets (Some x)
reads_sent x Address.PhoneNas = tt
reads_sent x (Address.Phone station air bearer) = tt
reads_sent x Address.CoreNas = tt
reads_sent x Address.CoreS1 = refl
reads_sent x (Address.StationAir station air bearer) = tt
reads_sent x (Address.StationS1 station) = refl
reads_sent x (Address.StationX2 station) = refl

reads_none : (to : Address) (pdu : List ℕ) → TakesInjected to → ReadsAt to pdu None
reads_none Address.PhoneNas pdu h = tt
reads_none (Address.Phone station air bearer) pdu h = tt
reads_none Address.CoreNas pdu h = tt
reads_none Address.CoreS1 pdu h = absurd h
reads_none (Address.StationAir station air bearer) pdu h = tt
reads_none (Address.StationS1 station) pdu h = absurd h
reads_none (Address.StationX2 station) pdu h = absurd h

module _ (a b : Actors) (step : ℕ) where
  -- none is delivered
  pub none_delivered : (i : ℤ) (line : Line)
      → None ≡ record_at i a.stores.records
      → line ≡ line_of_reply step Who.World None (reply_of NoRecord)
      → Happens a a (Event.Deliver i) step (Ok line)
  unfolding Happens
  none_delivered i line none is w are ev can =
      let nothing : record_at i w.sent ≡ None = no_view (record_at i w.sent) (sym (none ∙ chosen_in w a are i)) in
      subst (λ o. CameOut (comes w (delivery_attempts octets w o) (delivery octets w o)) a (Ok line)) (sym nothing)
      (by_world_out w a step NoRecord line are ev is)

  -- one is
  by_record : (i : ℤ) (result : Result Line Proof) (view : BagView) →
      Arrives a b view.to view.octets view.tuple step result → (w : World (List ℕ) ℕ Kept) → Are w a → w.events ≡ step →
      (o : Option Kept) → Some view ≡ option_map view_of o → CanKeep (delivery octets w o).0 →
      CameOut (comes w (delivery_attempts octets w o) (delivery octets w o)) b result
  unfolding Arrives
  by_record i result view h w are ev None e can = absurd cc
  by_record i result view h w are ev (Some x) e can =
      let is : view ≡ view_of x = cc in
      let arrives : Arrives a b x.to x.octets (option_map use_out x.tuple) step result = subst (λ v. Arrives a b v.to v.octets v.tuple step result) is h in
      arrives w (Some x) are refl ev (reads_sent x x.to) can

  pub one_delivered : (i : ℤ) (result : Result Line Proof) (view : BagView)
      → Some view ≡ record_at i a.stores.records
      → Arrives a b view.to view.octets view.tuple step result
      → Happens a b (Event.Deliver i) step result
  unfolding Happens
  one_delivered i result view found h w are ev can = by_record i result view h w are ev (record_at i w.sent) (found ∙ chosen_in w a are i) can

  can_by : (w : World (List ℕ) ℕ Kept) (view : BagView)
      → Are w a
      → (o : Option Kept)
      → Some view ≡ option_map view_of o
      → CanKeep (delivery octets w o).0
      → ArrivalCan a view.to view.octets
  can_by w view are None e can = absurd cc
  can_by w view are (Some x) e can =
      let is : view ≡ view_of x = cc in
      subst (λ v. ArrivalCan a v.to v.octets) (sym is) (record { before = w; came = Some x; are = are; reads = reads_sent x x.to; can = can })

  pub delivery_can : (i : ℤ) (view : BagView) → Some view ≡ record_at i a.stores.records → EventCan a (Event.Deliver i) → ArrivalCan a view.to view.octets
  delivery_can i view found p = can_by p.before view p.are (record_at i p.before.sent) (found ∙ chosen_in p.before a p.are i) p.can

  -- OCTETS

  pub found_in : (w : World (List ℕ) ℕ Kept)
      → Are w a
      → (class : Class) (pdu : List ℕ)
      → first_sent a.stores.records class pdu ≡ position_from (is_sent octets class pdu) 0 w.sent
  found_in w are class pdu = ap (λ rs. first_sent rs class pdu) are.stores.records ∙ first_is annex_b w.sent class pdu

  pub sent_before : (to : Address) (pdu : List ℕ) (number : ℕ) (line : Line) →
      Some number ≡ first_sent a.stores.records (class_of to) pdu →
      line ≡ line_of_reply step Who.World None (reply_of (Sent number)) →
      Happens a a (Event.Inject to pdu) step (Ok line)
  unfolding Happens
  sent_before to pdu number line found is w are ev can =
      subst (λ o. CameOut (comes w (injection_attempts octets w to pdu o) (injected octets w to pdu o)) a (Ok line)) (found ∙ found_in w are (class_of to) pdu)
      (by_world_out w a step (Sent number) line are ev is)

  pub octets_injected : (to : Address) (pdu : List ℕ) (result : Result Line Proof)
      → TakesInjected to
      → None ≡ first_sent a.stores.records (class_of to) pdu
      → Arrives a b to pdu None step result
      → Happens a b (Event.Inject to pdu) step result
  unfolding Happens Arrives
  octets_injected to pdu result takes none h w are ev can =
      let nothing = none ∙ found_in w are (class_of to) pdu in
      subst (λ o. CameOut (comes w (injection_attempts octets w to pdu o) (injected octets w to pdu o)) b result) nothing
      (h w None are refl ev (reads_none to pdu takes) (subst (λ o. CanKeep (injected octets w to pdu o).0) (sym nothing) can))

  pub injection_can : (to : Address) (pdu : List ℕ)
      → TakesInjected to
      → None ≡ first_sent a.stores.records (class_of to) pdu
      → EventCan a (Event.Inject to pdu)
      → ArrivalCan a to pdu
  injection_can to pdu takes none p =
      let nothing = none ∙ found_in p.before p.are (class_of to) pdu in
      record {
        before = p.before;
        came = None;
        are = p.are;
        reads = reads_none to pdu takes;
        can = subst (λ o. CanKeep (injected octets p.before to pdu o).0) (sym nothing) p.can;
      }
