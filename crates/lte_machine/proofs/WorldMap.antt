-- A machine in one reading goes as the same machine in another: one event.
use Rattle.std.proofs.Common.{◌≡◌, ℕ, zero, suc, ◌+◌, ◌-◌, ◌==◌, nat_lt, Bool, true, false, List, [], ◌∷◌, ◌++◌, length, map, Option, Some, None, refl, ap, sym, ◌∙◌}
use Rattle.std.specs.Prelude.{cond, ◌&&◌, ℤ, pos, negsuc, filter, slice_get, option_map}
use Rattle.std.specs.{List.position_from, Str.bytes_eq}
use Rattle.std.proofs.lemmas.List.{map-append}
use Rattle.alg_choice.specs.declared.caps.Caps.{Caps}
use Rattle.lte_events.specs.{declared.addresses.Address.Address, declared.answers.Answer.Answer, declared.classes.Class.Class, declared.events.Event.Event, declared.lines.Who.Who}
use Rattle.lte_events.specs.declared.answers.Answer.TheVariants.{Done, NoUe, NoRecord, Sent, RepeatedRoot}
use Rattle.key_model.specs.{Derivation.Derivation, Derivation.map_derivation, Reading.Carries, Use.map_use}
use Rattle.lte_machine.specs.Wire.{Ciphering, map_ciphering, Outgoing, SealedNas, SealedRrc, map_outgoing, ciphering_use}
use Rattle.lte_machine.specs.Opening.{Opening, Opened}
use Rattle.lte_machine.specs.Reply.{map_note, map_made, map_tried, map_took, Reply, only}
use Rattle.lte_machine.specs.Ladder.{RowOrigin, OfRoot, Of, map_row, ladder_of, root_row}
use Rattle.lte_machine.specs.PhoneState.{Phone, PhoneInput, PhoneAuth, PhoneActs, PhoneNasPdu, PhoneAirPdu, map_phone, map_phone_input}
use Rattle.lte_machine.specs.PhoneStep.{phone_step, phone_opens, phone_pdu_in}
use Rattle.lte_machine.specs.StationState.{Station, StationInput, StationActs, AirPdu, StationRecord, OnS1, OnX2, map_station, map_station_input, map_read}
use Rattle.lte_machine.specs.StationStep.{station_step, station_opens, station_pdu_in}
use Rattle.lte_machine.specs.CoreState.{Core, CoreInput, CoreAuth, CoreActs, CoreNasPdu, CoreRecord, map_core, map_core_input}
use Rattle.lte_machine.specs.CoreStep.{core_step, core_opens, core_pdu_in}
use Rattle.lte_events.specs.Class.{class_of, told_in, same_class}
use Rattle.lte_machine.specs.World.{Machine, World, Line, Holder, AtPhone, AtCore, AtStation, with_one, uses_in, holds, world_with, sent_line, line_of, phone_after, core_after, put_if, put_station, station_after, by_world, phone_turn, core_turn, station_of_id, turn_of, station_turn, authenticated, auth_unless, is_root_row, next_root, known_root, content_in, arrives, newest_if, record_at, delivery, is_sent, injected, happens}
use Rattle.lte_machine.specs.Carried.{map_holding, map_stations, map_world, map_line}
use Rattle.lte_machine.proofs.{PhoneMap.phone_opens_map, PhoneMap.phone_step_map, CoreMap.core_opens_map, CoreMap.core_step_map, StationMap.station_opens_map, StationMap.station_step_map, LadderMap.root_row-map, LadderMap.rows-map}
use Rattle.lte_machine.proofs.MapSteps.{map_opening, map_reply, map_phone_step}

-- f on keys, g on chain numbers and z on what is kept of a record carry one machine to another
pub record Agree {K C S L D T : Type 0} (m : Machine K C S) (q : Machine L D T) (f : K → L) (g : C → D) (z : S → T) : Type 0 where
  pub carries : Carries m.reading q.reading f g
  pub root : (number : ℕ) (octets : List ℕ) → f (m.root number octets) ≡ q.root number octets
  pub keep : (o : Option (Outgoing K C)) → option_map z (m.keep o) ≡ q.keep (option_map (map_outgoing f g) o)
  pub octets : (x : S) → q.octets (z x) ≡ m.octets x
  pub address : (x : S) → q.address (z x) ≡ m.address x
  pub sender : (o : Option S) → q.sender (option_map z o) ≡ option_map (map_use f) (m.sender o)
  pub opener : (p : Opening K) (pdu : List ℕ) (o : Option S) → q.opener (map_opening f p) pdu (option_map z o) ≡ m.opener p pdu o

abbrev pub map_told : {K C S L D T : Type 0} → (K → L) → (C → D) → (S → T) → World K C S × Line K → World L D T × Line L
map_told f g z t = (map_world f g z t.0, map_line f t.1)

-- lists

with_one-map : {A B : Type 0} (h : A → B) (o : Option A) (xs : List A) → map h (with_one o xs) ≡ with_one (option_map h o) (map h xs)
with_one-map h None xs = refl
with_one-map h (Some x) xs = map-append h xs (x ∷ [])

ciphering_use-map : {K L : Type 0} (f : K → L) (e : Option (Ciphering K)) → map (map_use f) (ciphering_use e) ≡ ciphering_use (option_map (map_ciphering f) e)
ciphering_use-map f None = refl
ciphering_use-map f (Some e) = refl

uses_in-map : {K C L D : Type 0} (f : K → L) (g : C → D) (o : Option (Outgoing K C)) → map (map_use f) (uses_in o) ≡ uses_in (option_map (map_outgoing f g) o)
uses_in-map f g (Some (SealedNas dir header u e text)) =
    map-append (map_use f) (ciphering_use e) (u ∷ []) ∙ ap (λ xs. xs ++ map_use f u ∷ []) (ciphering_use-map f e)
uses_in-map f g (Some (SealedRrc dir station air srb u e text)) =
    map-append (map_use f) (ciphering_use e) (u ∷ []) ∙ ap (λ xs. xs ++ map_use f u ∷ []) (ciphering_use-map f e)
uses_in-map f g other = refl

outs-map : {K L : Type 0} (f : K → L) (holder : Holder) (ds : List (Derivation K))
    → map (map_holding f) (map (λ d. record { holder = holder; key = d.out }) ds)
    ≡ map (λ d. record { holder = holder; key = d.out }) (map (map_derivation f) ds)
outs-map f holder [] = refl
outs-map f holder (d ∷ ds) = ap (λ xs. record { holder = holder; key = f d.out } ∷ xs) (outs-map f holder ds)

holds-map : {K L : Type 0} (f : K → L) (holder : Holder) (o : Option K) (ds : List (Derivation K))
    → map (map_holding f) (holds holder o ds) ≡ holds holder (option_map f o) (map (map_derivation f) ds)
holds-map f holder None ds = outs-map f holder ds
holds-map f holder (Some key) ds = ap (λ xs. record { holder = holder; key = f key } ∷ xs) (outs-map f holder ds)

origins-map : {K L : Type 0} (f : K → L) (ds : List (Derivation K)) → map (map_row f) (map Of ds) ≡ map Of (map (map_derivation f) ds)
origins-map f [] = refl
origins-map f (d ∷ ds) = ap (λ xs. Of (map_derivation f d) ∷ xs) (origins-map f ds)

length-map_of : {A B : Type 0} (h : A → B) (xs : List A) → length (map h xs) ≡ length xs
length-map_of h [] = refl
length-map_of h (x ∷ xs) = ap suc (length-map_of h xs)

slice_get-map : {A B : Type 0} (h : A → B) (xs : List A) (i : ℕ) → option_map h (slice_get xs i) ≡ slice_get (map h xs) i
slice_get-map h [] i = refl
slice_get-map h (x ∷ xs) zero = refl
slice_get-map h (x ∷ xs) (suc i) = slice_get-map h xs i

roots-map : {K L : Type 0} (f : K → L) (rows : List (RowOrigin K)) → length (filter is_root_row (map (map_row f) rows)) ≡ length (filter is_root_row rows)
roots-map f [] = refl
roots-map f (OfRoot key ∷ rows) = ap suc (roots-map f rows)
roots-map f (Of d ∷ rows) = roots-map f rows

module _ {K C S L D T : Type 0} (m : Machine K C S) (q : Machine L D T) (f : K → L) (g : C → D) (z : S → T) (a : Agree m q f g z) where
  -- of a record that comes to such an address
  abbrev pub BackAt : Address → Option S → Type 0
  BackAt Address.CoreS1 o = content_in q (option_map z o) ≡ map_read f g (content_in m o)
  BackAt (Address.StationS1 station) o = content_in q (option_map z o) ≡ map_read f g (content_in m o)
  BackAt (Address.StationX2 station) o = content_in q (option_map z o) ≡ map_read f g (content_in m o)
  BackAt other o = Unit {0}

  kept-map : (w : World K C S) (holder : Holder) (r : Reply K C)
      → map_world f g z (world_with m w holder r) ≡ world_with q (map_world f g z w) holder (map_reply f g r)
  kept-map w holder r = λ j. record {
    events = w.events + 1;
    phone = map_phone f g w.phone;
    core = map_core f g w.core;
    stations = map_stations f g w.stations;
    sent = (with_one-map z (m.keep r.sent) w.sent ∙ ap (λ o. with_one o (map z w.sent)) (a.keep r.sent)) j;
    uses = (map-append (map_use f) w.uses (uses_in r.sent) ∙ ap (λ xs. map (map_use f) w.uses ++ xs) (uses_in-map f g r.sent)) j;
    history = (map-append (map_row f) w.history (map Of r.derived) ∙ ap (λ xs. map (map_row f) w.history ++ xs) (origins-map f r.derived)) j;
    held =
        (map-append (map_holding f) w.held (holds holder r.received r.derived)
        ∙ ap (λ xs. map (map_holding f) w.held ++ xs) (holds-map f holder r.received r.derived))
        j;
    made = map (map_made f g) w.made;
    tried = map (map_tried f g) w.tried;
    took = map (map_took f g) w.took;
  }

  sent_line-map : (w : World K C S) (o : Option S) → sent_line m w o ≡ sent_line q (map_world f g z w) (option_map z o)
  sent_line-map w None = refl
  sent_line-map w (Some x) = λ j. Some (sym (length-map_of z w.sent) j, class_of (sym (a.address x) j))

  line_of-map : (w : World K C S) (actor : Who) (r : Reply K C) → map_line f (line_of m w actor r) ≡ line_of q (map_world f g z w) actor (map_reply f g r)
  line_of-map w actor r = λ j. record {
    step = w.events;
    who = actor;
    answer = r.answer;
    sent = (sent_line-map w (m.keep r.sent) ∙ ap (sent_line q (map_world f g z w)) (a.keep r.sent)) j;
    opened = r.opened;
    note = option_map (map_note f) r.note;
    alarm = r.alarm;
  }

  phone_after-map : (w : World K C S) (d : Phone K C × Reply K C)
      → map_told f g z (phone_after m w d) ≡ phone_after q (map_world f g z w) (map_phone_step f g d)
  phone_after-map w d = λ j. (
    record (kept-map w AtPhone d.1 j) { phone = map_phone f g d.0; took = with_one-map (map_took f g) d.1.took w.took j },
    line_of-map w Who.Phone d.1 j,
  )

  core_after-map : (w : World K C S) (d : Core K C × Reply K C)
      → map_told f g z (core_after m w d) ≡ core_after q (map_world f g z w) (map_core f g d.0, map_reply f g d.1)
  core_after-map w d = λ j. (record (kept-map w AtCore d.1 j) { core = map_core f g d.0 }, line_of-map w Who.Core d.1 j)

  put_if-map : (b : Bool) (new old : Station K C) → map_station f g (put_if b new old) ≡ put_if b (map_station f g new) (map_station f g old)
  put_if-map true new old = refl
  put_if-map false new old = refl

  put_station-map : (id : ℕ) (new : Station K C) (ss : List (Station K C))
      → map_stations f g (put_station id new ss) ≡ put_station id (map_station f g new) (map_stations f g ss)
  put_station-map id new [] = refl
  put_station-map id new (s ∷ ss) = λ j. put_if-map (s.id == id) new s j ∷ put_station-map id new ss j

  station_after-map : (w : World K C S) (id : ℕ) (d : Station K C × Reply K C)
      → map_told f g z (station_after m w id d)
      ≡ station_after q (map_world f g z w) id (map_station f g d.0, map_reply f g d.1)
  station_after-map w id d = λ j. (
    record (kept-map w (AtStation id) d.1 j) {
      stations = put_station-map id d.0 w.stations j;
      made = with_one-map (map_made f g) d.1.made w.made j;
      tried = with_one-map (map_tried f g) d.1.tried w.tried j;
    },
    line_of-map w (Who.Station id) d.1 j,
  )

  by_world-map : (w : World K C S) (answer : Answer) → map_told f g z (by_world m w answer) ≡ by_world q (map_world f g z w) answer
  by_world-map w answer = λ j. (record (map_world f g z w) { events = w.events + 1 }, line_of-map w Who.World (only answer) j)

  opened-map : (p : Opening K) (p' : Opening L) (pdu : List ℕ) (o : Option S) → map_opening f p ≡ p' → m.opener p pdu o ≡ q.opener p' pdu (option_map z o)
  opened-map p p' pdu o e = sym (a.opener p pdu o) ∙ ap (λ x. q.opener x pdu (option_map z o)) e

  phone_turn-map : (w : World K C S) (i : PhoneInput K) (pdu : List ℕ) → phone_pdu_in i ≡ pdu → phone_pdu_in (map_phone_input f i) ≡ pdu → (o : Option S)
      → map_told f g z (phone_turn m w i o) ≡ phone_turn q (map_world f g z w) (map_phone_input f i) (option_map z o)
  phone_turn-map w i pdu e e' o =
      phone_after-map w (phone_step m.reading w.phone i (m.opener (phone_opens m.reading w.phone i) (phone_pdu_in i) o))
      ∙ ap (phone_after q (map_world f g z w))
      (phone_step_map m.reading q.reading f g a.carries w.phone i
      (m.opener (phone_opens m.reading w.phone i) (phone_pdu_in i) o))
      ∙ ap (λ x. phone_after q (map_world f g z w) (phone_step q.reading (map_phone f g w.phone) (map_phone_input f i) x))
      (opened-map (phone_opens m.reading w.phone i)
      (phone_opens q.reading (map_phone f g w.phone) (map_phone_input f i)) (phone_pdu_in i) o
      (phone_opens_map m.reading q.reading f g a.carries w.phone i)
      ∙ ap (λ x. q.opener (phone_opens q.reading (map_phone f g w.phone) (map_phone_input f i)) x (option_map z o)) (e ∙ sym e'))

  core_turn-map : (w : World K C S) (i : CoreInput K C) (pdu : List ℕ) → core_pdu_in i ≡ pdu → core_pdu_in (map_core_input f g i) ≡ pdu → (o : Option S)
      → map_told f g z (core_turn m w i o) ≡ core_turn q (map_world f g z w) (map_core_input f g i) (option_map z o)
  core_turn-map w i pdu e e' o =
      core_after-map w (core_step m.reading w.core i (m.opener (core_opens m.reading w.core i) (core_pdu_in i) o))
      ∙ ap (core_after q (map_world f g z w))
      (core_step_map m.reading q.reading f g a.carries w.core i
      (m.opener (core_opens m.reading w.core i) (core_pdu_in i) o))
      ∙ ap (λ x. core_after q (map_world f g z w) (core_step q.reading (map_core f g w.core) (map_core_input f g i) x))
      (opened-map (core_opens m.reading w.core i) (core_opens q.reading (map_core f g w.core) (map_core_input f g i))
      (core_pdu_in i) o (core_opens_map m.reading q.reading f g a.carries w.core i)
      ∙ ap (λ x. q.opener (core_opens q.reading (map_core f g w.core) (map_core_input f g i)) x (option_map z o)) (e ∙ sym e'))

  turn_of-map : (w : World K C S) (id : ℕ) (i : StationInput K C) (pdu : List ℕ)
      → station_pdu_in i ≡ pdu
      → station_pdu_in (map_station_input f g i) ≡ pdu
      → (o : Option S) (s : Option (Station K C))
      → map_told f g z (turn_of m w id i o s) ≡ turn_of q (map_world f g z w) id (map_station_input f g i) (option_map z o) (option_map (map_station f g) s)
  turn_of-map w id i pdu e e' o None = by_world-map w NoUe
  turn_of-map w id i pdu e e' o (Some s) =
      station_after-map w id (station_step m.reading s i (m.opener (station_opens m.reading s i) (station_pdu_in i) o))
      ∙ ap (station_after q (map_world f g z w) id) (station_step_map a.carries s i (m.opener (station_opens m.reading s i) (station_pdu_in i) o))
      ∙ ap (λ x. station_after q (map_world f g z w) id (station_step q.reading (map_station f g s) (map_station_input f g i) x))
      (opened-map (station_opens m.reading s i) (station_opens q.reading (map_station f g s) (map_station_input f g i))
      (station_pdu_in i) o (station_opens_map a.carries s i)
      ∙ ap (λ x. q.opener (station_opens q.reading (map_station f g s) (map_station_input f g i)) x (option_map z o)) (e ∙ sym e'))

  found_if : (b : Bool) (s : Station K C) (o : Option (Station K C))
      → option_map (map_station f g) (cond b (Some s) o)
      ≡ cond b (Some (map_station f g s)) (option_map (map_station f g) o)
  found_if true s o = refl
  found_if false s o = refl

  pub station_of_id-map : (id : ℕ) (ss : List (Station K C)) → option_map (map_station f g) (station_of_id id ss) ≡ station_of_id id (map_stations f g ss)
  station_of_id-map id [] = refl
  station_of_id-map id (s ∷ ss) =
      found_if (s.id == id) s (station_of_id id ss)
      ∙ ap (λ o. cond (s.id == id) (Some (map_station f g s)) o) (station_of_id-map id ss)

  station_turn-map : (w : World K C S) (id : ℕ) (i : StationInput K C) (pdu : List ℕ)
      → station_pdu_in i ≡ pdu
      → station_pdu_in (map_station_input f g i) ≡ pdu
      → (o : Option S)
      → map_told f g z (station_turn m w id i o) ≡ station_turn q (map_world f g z w) id (map_station_input f g i) (option_map z o)
  station_turn-map w id i pdu e e' o =
      turn_of-map w id i pdu e e' o (station_of_id id w.stations)
      ∙ ap (turn_of q (map_world f g z w) id (map_station_input f g i) (option_map z o)) (station_of_id-map id w.stations)

  authenticated-map : (w : World K C S) (ksi : ℕ) (root : K) (caps : Caps)
      → map_told f g z (authenticated m w ksi root caps) ≡ authenticated q (map_world f g z w) ksi (f root) caps
  authenticated-map w ksi root caps = λ j. (
    record (map_world f g z w) {
      events = w.events + 1;
      phone = (phone_step_map m.reading q.reading f g a.carries w.phone (PhoneAuth ksi root) (Opened []) j).0;
      core = (core_step_map m.reading q.reading f g a.carries w.core (CoreAuth ksi root caps) (Opened []) j).0;
      history = map-append (map_row f) w.history (OfRoot root ∷ []) j;
      held = map-append (map_holding f) w.held (record { holder = AtPhone; key = root } ∷ record { holder = AtCore; key = root } ∷ []) j;
    },
    line_of-map w Who.Both (only Done) j,
  )

  auth_unless-map : (w : World K C S) (ksi : ℕ) (root : K) (caps : Caps) (o : Option ℕ)
      → map_told f g z (auth_unless m w ksi root caps o) ≡ auth_unless q (map_world f g z w) ksi (f root) caps o
  auth_unless-map w ksi root caps None = authenticated-map w ksi root caps
  auth_unless-map w ksi root caps (Some row) = by_world-map w (RepeatedRoot row)

  known_root-map : (w : World K C S) (root : K) → known_root m w root ≡ known_root q (map_world f g z w) (f root)
  known_root-map w root =
      root_row-map m.reading.same q.reading.same f a.carries.same root (ladder_of m.reading.same w.history).rows
      ∙ ap (root_row q.reading.same (f root)) (rows-map m.reading.same q.reading.same f a.carries.same w.history)

  -- a record that comes to its address, where it reads on S1 and X2 as it was meant
  pub arrives-map : (w : World K C S) (to : Address) (pdu : List ℕ) (o : Option S)
      → BackAt to o
      → map_told f g z (arrives m w to pdu o) ≡ arrives q (map_world f g z w) to pdu (option_map z o)
  arrives-map w Address.PhoneNas pdu o back = phone_turn-map w (PhoneNasPdu pdu) pdu refl refl o
  arrives-map w (Address.Phone station air bearer) pdu o back = phone_turn-map w (PhoneAirPdu station air bearer pdu) pdu refl refl o
  arrives-map w Address.CoreNas pdu o back = core_turn-map w (CoreNasPdu pdu) pdu refl refl o
  arrives-map w Address.CoreS1 pdu o back =
      core_turn-map w (CoreRecord (content_in m o)) [] refl refl o ∙ ap (λ c. core_turn q (map_world f g z w) (CoreRecord c) (option_map z o)) (sym back)
  arrives-map w (Address.StationAir station air bearer) pdu o back = station_turn-map w station (AirPdu air bearer pdu) pdu refl refl o
  arrives-map w (Address.StationS1 station) pdu o back =
      station_turn-map w station (StationRecord OnS1 (content_in m o)) [] refl refl o
      ∙ ap (λ c. station_turn q (map_world f g z w) station (StationRecord OnS1 c) (option_map z o)) (sym back)
  arrives-map w (Address.StationX2 station) pdu o back =
      station_turn-map w station (StationRecord OnX2 (content_in m o)) [] refl refl o
      ∙ ap (λ c. station_turn q (map_world f g z w) station (StationRecord OnX2 c) (option_map z o)) (sym back)

  newest_if-map : (b : Bool) (i : ℕ) (xs : List S) → option_map z (newest_if b i xs) ≡ newest_if b i (map z xs)
  newest_if-map true i xs = slice_get-map z xs i
  newest_if-map false i xs = refl

  pub chosen-map : (i : ℤ) (xs : List S) → option_map z (record_at i xs) ≡ record_at i (map z xs)
  chosen-map (pos i) xs = slice_get-map z xs i
  chosen-map (negsuc i) xs =
      newest_if-map (nat_lt i (length xs)) (length xs - 1 - i) xs
      ∙ ap (λ n. newest_if (nat_lt i n) (n - 1 - i) (map z xs)) (sym (length-map_of z xs))

  -- a record of the list that is delivered reads as it was meant
  abbrev pub BackIf : Option S → Type 0
  BackIf None = Unit {0}
  BackIf (Some x) = BackAt (m.address x) (Some x)

  delivered-map : (w : World K C S) (o : Option S) → BackIf o → map_told f g z (delivery m w o) ≡ delivery q (map_world f g z w) (option_map z o)
  delivered-map w None back = by_world-map w NoRecord
  delivered-map w (Some x) back =
      arrives-map w (m.address x) (m.octets x) (Some x) back
      ∙ (λ j. arrives q (map_world f g z w) (sym (a.address x) j) (sym (a.octets x) j) (Some (z x)))

  pub found-map : (class : Class) (octets : List ℕ) (i : ℕ) (xs : List S)
      → position_from (is_sent m class octets) i xs ≡ position_from (is_sent q class octets) i (map z xs)
  found-map class octets i [] = refl
  found-map class octets i (x ∷ xs) = λ j. cond (is_sent_same j) (Some i) (found-map class octets (i + 1) xs j)
    where
      is_sent_same : is_sent m class octets x ≡ is_sent q class octets (z x)
      is_sent_same = λ j. same_class class (class_of (sym (a.address x) j)) && bytes_eq (told_in class octets) (told_in class (sym (a.octets x) j))

  pub none_back : (to : Address) → BackAt to None
  none_back Address.CoreS1 = refl
  none_back (Address.StationS1 station) = refl
  none_back (Address.StationX2 station) = refl
  none_back other = tt

  injected-map : (w : World K C S) (to : Address) (octets : List ℕ) (o : Option ℕ)
      → map_told f g z (injected m w to octets o) ≡ injected q (map_world f g z w) to octets o
  injected-map w to octets None = arrives-map w to octets None (none_back to)
  injected-map w to octets (Some number) = by_world-map w (Sent number)

  -- of the records that an event may deliver
  abbrev pub BackOf : World K C S → Event → Type 0
  BackOf w (Event.Deliver i) = BackIf (record_at i w.sent)
  BackOf w other = Unit {0}

  pub happens-map : (w : World K C S) (e : Event) → BackOf w e → map_told f g z (happens m w e) ≡ happens q (map_world f g z w) e
  happens-map w (Event.Auth ksi octets caps) back =
      auth_unless-map w ksi (m.root (next_root w) octets) caps (known_root m w (m.root (next_root w) octets))
      ∙ ap (auth_unless q (map_world f g z w) ksi (f (m.root (next_root w) octets)) caps) (known_root-map w (m.root (next_root w) octets))
      ∙ ap (λ k. auth_unless q (map_world f g z w) ksi k caps (known_root q (map_world f g z w) k))
      (a.root (next_root w) octets ∙ ap (λ n. q.root n octets) (sym (roots-map f w.history)))
  happens-map w (Event.Phone act) back = phone_turn-map w (PhoneActs act) [] refl refl None
  happens-map w (Event.Station id act) back = station_turn-map w id (StationActs act) [] refl refl None
  happens-map w (Event.Core act) back = core_turn-map w (CoreActs act) [] refl refl None
  happens-map w (Event.Deliver i) back = delivered-map w (record_at i w.sent) back ∙ ap (delivery q (map_world f g z w)) (chosen-map i w.sent)
  happens-map w (Event.Inject to octets) back =
      injected-map w to octets (position_from (is_sent m (class_of to) octets) 0 w.sent)
      ∙ ap (injected q (map_world f g z w) to octets) (found-map (class_of to) octets 0 w.sent)
