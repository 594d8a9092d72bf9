-- What a station does, case by case: a property of what it does holds of any row, if it holds where nothing changes and in each case that
-- changes something. What is known of a row comes as a predicate on rows.
use Rattle.std.proofs.Common.{◌≡◌, refl, ℕ, List, Option, Some, None, Ok, Err}
use Rattle.alg_choice.specs.{declared.algs.Algs.Algs, declared.caps.Caps.Caps}
use Rattle.annex_a_keys.specs.Cell.{Place}
use Rattle.lte_events.specs.{declared.answers.Answer.Answer, declared.acts.StationAct.StationAct}
use Rattle.lte_events.specs.declared.answers.Answer.TheVariants.{Done, BadRecord}
use Rattle.key_model.specs.{HandoverTable.NumberedKey, Reading.Reading}
use Rattle.s1x2_rec.specs.{Content.map_content, Fields.Fields, Fields.ContextRelease}
use Rattle.ho_prep.specs.Prep.{Prep, at_air}
use Rattle.x2_handover.specs.declared.orders.Order.{Order}
use Rattle.lte_machine.specs.Bearers.{Srb, Drb, Which, which}
use Rattle.lte_machine.specs.Opening.{Outcome}
use Rattle.lte_machine.specs.Reply.{Origin, Reply, only, unseen}
use Rattle.lte_machine.specs.StationState.{Station, Context, Via, Interface, StationInput, StationActs, AirPdu, StationRecord}
use Rattle.lte_machine.specs.StationRows.{Admitted, RecordRow, RecordRefused, ContextGiven, ContextReleased, PairTaken, PreparedByS1, PreparedByX2, AttemptAnswered, PreparationCancelled, SourceReleased, KeyRenewed, AirRow, AirRefused, SecurityStarted, RrcOpened, PacketOpened, CompletedByS1, CompletedWithin, CompletedByX2, ActRow, ActRefused, StartedByX2, StartedByS1, StartedWithin, OrderSent, CancelledByX2, CancelledByS1, CancelledWithin, PathSwitchAsked, PacketSent, RrcSent, BearerSkipped, StationRow, OfRecord, OfAir, OfAct}
use Rattle.lte_machine.specs.StationRecords.{context_given, pair_taken, prepared_by_s1, prepared_by_x2, key_renewed, record_does}
use Rattle.lte_machine.specs.StationKeys.{completed_by_s1, completed_within, completed_by_x2, air_does, started_by_x2, started_by_s1, started_within, commands, asks_again, sends_packet, sends_rrc, act_does, station_does}
use Rattle.lte_machine.specs.StationChoice.{record_row, air_front, air_row, act_row}
use Rattle.lte_machine.specs.StationStep.{plain_station, station_row_of, station_key}
use Rattle.lte_machine.proofs.{Tests.Anything, RecordFacts.RecordHas, RecordFacts.record_has, AirFacts.AirHas, AirFacts.air_has, StationActFacts.StationActHas, StationActFacts.station_act_has}

-- by a record
pub record RecordCases {K C : Type 0} (r : Reading K C) (s : Station K C) (Known : RecordRow → Option (NumberedKey K C) → Type 0)
    (P : Station K C × Reply K C → Type 0) : Type 0 where
  pub nothing : (answer : Answer) → P (s, only answer)
  pub given : (conn : ℕ) (cell : Place) (caps : Caps) (algs : Algs) (air : ℕ) → (kenb : NumberedKey K C)
      → Known (ContextGiven conn cell caps algs air) (Some kenb) → P (context_given r conn cell caps algs air (Some kenb) s)
  pub released : (key : Option (NumberedKey K C)) → Known ContextReleased key → P (record_does r ContextReleased None s)
  pub taken : (conn : ℕ) (origin : Option Origin) → (pair : NumberedKey K C) → Known (PairTaken conn origin) (Some pair)
      → P (pair_taken conn origin (Some pair) s)
  pub by_s1 : (w : Admitted) → (pair : NumberedKey K C) → Known (PreparedByS1 w) (Some pair) → P (prepared_by_s1 r w (Some pair) s)
  pub by_x2 : (w : Admitted) → (star : NumberedKey K C) → Known (PreparedByX2 w) (Some star) → P (prepared_by_x2 r w (Some star) s)
  pub answered : (order : Order) (key : Option (NumberedKey K C)) → Known (AttemptAnswered order) key → P (record_does r (AttemptAnswered order) None s)
  pub cancelled : (from : Origin) (key : Option (NumberedKey K C)) → Known (PreparationCancelled from) key
      → P (record_does r (PreparationCancelled from) None s)
  pub left : (key : Option (NumberedKey K C)) → Known SourceReleased key → P (record_does r SourceReleased None s)
  pub renewed : (conn number air count : ℕ) (c : Context K C) → s.context ≡ Some c → (kenb : NumberedKey K C)
      → Known (KeyRenewed conn number air count) (Some kenb) →
      P (key_renewed r conn number air count (Some c) (Some kenb) s)

-- by a PDU
pub record AirCases {K C : Type 0} (r : Reading K C) (s : Station K C) (Known : AirRow → Type 0) (P : Station K C × Reply K C → Type 0) : Type 0 where
  pub nothing : (answer : Answer) → P (s, only answer)
  pub secured : (count : ℕ) → Known (SecurityStarted count) → P (air_does r (SecurityStarted count) s)
  pub opened : (srb : Srb) (count : ℕ) (text : Option (List ℕ)) → Known (RrcOpened srb count text) → P (air_does r (RrcOpened srb count text) s)
  pub packet : (drb : Drb) (count : ℕ) (text : List ℕ) → Known (PacketOpened drb count text) → P (air_does r (PacketOpened drb count text) s)
  pub by_s1 : (at count : ℕ) → Known (CompletedByS1 at count) → (p : Prep K C) → at_air at s.preps ≡ Some p → P (completed_by_s1 r count (Some p) s)
  pub within : (at count : ℕ) (origin : Option Origin) → Known (CompletedWithin at count origin) → (p : Prep K C) → at_air at s.preps ≡ Some p
      → P (completed_within r count origin (Some p) s)
  pub by_x2 : (at count number : ℕ) → Known (CompletedByX2 at count number) → (p : Prep K C) → at_air at s.preps ≡ Some p
      → P (completed_by_x2 r count number (Some p) s)

-- by an act
pub record ActCases {K C : Type 0} (r : Reading K C) (s : Station K C) (Known : ActRow → Type 0) (P : Station K C × Reply K C → Type 0) : Type 0 where
  pub nothing : (answer : Answer) → P (s, only answer)
  pub by_x2 : (number target : ℕ) (cell : Place) → Known (StartedByX2 number target cell) → (c : Context K C) → s.context ≡ Some c
      → P (started_by_x2 r number target cell (Some c) s)
  pub by_s1 : (number target : ℕ) (cell : Place) → Known (StartedByS1 number target cell) → (c : Context K C) → s.context ≡ Some c
      → P (started_by_s1 number target cell (Some c) s)
  pub within : (number air : ℕ) (cell : Place) → Known (StartedWithin number air cell) → (c : Context K C) → s.context ≡ Some c
      → P (started_within r number air cell (Some c) s)
  pub commanded : (via : Via) (order : Order) (count : ℕ) → Known (OrderSent via order count) → (c : Context K C) → s.context ≡ Some c
      → P (commands via order count (Some c) s)
  pub cancelled_x2 : (conn number target : ℕ) → Known (CancelledByX2 conn number target) → P (act_does r (CancelledByX2 conn number target) s)
  pub cancelled_s1 : (conn number : ℕ) (cell : Place) → Known (CancelledByS1 conn number cell) → P (act_does r (CancelledByS1 conn number cell) s)
  pub cancelled_within : (number : ℕ) → Known (CancelledWithin number) → P (act_does r (CancelledWithin number) s)
  pub asked : (number : ℕ) → Known (PathSwitchAsked number) → (c : Context K C) → s.context ≡ Some c → P (asks_again number (Some c) s)
  pub packet : (drb : Drb) (count : ℕ) (text : List ℕ) → Known (PacketSent drb count text) → (c : Context K C) → s.context ≡ Some c
      → P (sends_packet drb count text (Some c) s)
  pub text : (srb : Srb) (count : ℕ) (text : List ℕ) → Known (RrcSent srb count text) → (c : Context K C) → s.context ≡ Some c
      → P (sends_rrc srb count text (Some c) s)
  pub skipped : (on : Which) (n : ℕ) → Known (BearerSkipped on n) → P (act_does r (BearerSkipped on n) s)

module _ {K C : Type 0} (r : Reading K C) (s : Station K C) (P : Station K C × Reply K C → Type 0) where
  pub record_case : (Known : RecordRow → Option (NumberedKey K C) → Type 0) → RecordCases r s Known P
      → (row : RecordRow) (key : Option (NumberedKey K C)) → Known row key → P (record_does r row key s)
  record_case Known x (RecordRefused answer) key k = x.nothing answer
  record_case Known x (ContextGiven conn cell caps algs air) (Some kenb) k = x.given conn cell caps algs air kenb k
  record_case Known x ContextReleased key k = x.released key k
  record_case Known x (PairTaken conn origin) (Some pair) k = x.taken conn origin pair k
  record_case Known x (PreparedByS1 w) (Some pair) k = x.by_s1 w pair k
  record_case Known x (PreparedByX2 w) (Some star) k = x.by_x2 w star k
  record_case Known x (AttemptAnswered order) key k = x.answered order key k
  record_case Known x (PreparationCancelled from) key k = x.cancelled from key k
  record_case Known x SourceReleased key k = x.left key k
  record_case Known x (KeyRenewed conn number air count) key k = renews s.context refl key k where
    renews : (o : Option (Context K C)) → s.context ≡ o → (key : Option (NumberedKey K C)) → Known (KeyRenewed conn number air count) key
        → P (key_renewed r conn number air count o key s)
    renews None e key k = x.nothing Done
    renews (Some c) e None k = x.nothing Done
    renews (Some c) e (Some kenb) k = x.renewed conn number air count c e kenb k
  record_case other x rest more k = x.nothing Done

  -- of a preparation, or of the context, if there is one
  if_one : {A : Type 0} (o : Option A) (Q : Option A → Type 0) → Q None → ((x : A) → o ≡ Some x → Q (Some x)) → Q o
  if_one None Q n f = n
  if_one (Some x) Q n f = f x refl

  pub air_case : (Known : AirRow → Type 0) → AirCases r s Known P → (row : AirRow) → Known row → P (air_does r row s)
  air_case Known x (AirRefused answer) k = x.nothing answer
  air_case Known x (SecurityStarted count) k = x.secured count k
  air_case Known x (RrcOpened srb count text) k = x.opened srb count text k
  air_case Known x (PacketOpened drb count text) k = x.packet drb count text k
  air_case Known x (CompletedByS1 at count) k = if_one (at_air at s.preps) (λ o. P (completed_by_s1 r count o s)) (x.nothing Done) (x.by_s1 at count k)
  air_case Known x (CompletedWithin at count origin) k =
      if_one (at_air at s.preps) (λ o. P (completed_within r count origin o s)) (x.nothing Done) (x.within at count origin k)
  air_case Known x (CompletedByX2 at count number) k =
      if_one (at_air at s.preps) (λ o. P (completed_by_x2 r count number o s)) (x.nothing Done) (x.by_x2 at count number k)

  pub act_case : (Known : ActRow → Type 0) → ActCases r s Known P → (row : ActRow) → Known row → P (act_does r row s)
  act_case Known x (ActRefused answer) k = x.nothing answer
  act_case Known x (StartedByX2 number target cell) k =
      if_one s.context (λ o. P (started_by_x2 r number target cell o s)) (x.nothing Done) (x.by_x2 number target cell k)
  act_case Known x (StartedByS1 number target cell) k =
      if_one s.context (λ o. P (started_by_s1 number target cell o s)) (x.nothing Done) (x.by_s1 number target cell k)
  act_case Known x (StartedWithin number air cell) k =
      if_one s.context (λ o. P (started_within r number air cell o s)) (x.nothing Done) (x.within number air cell k)
  act_case Known x (OrderSent via order count) k = if_one s.context (λ o. P (commands via order count o s)) (x.nothing Done) (x.commanded via order count k)
  act_case Known x (CancelledByX2 conn number target) k = x.cancelled_x2 conn number target k
  act_case Known x (CancelledByS1 conn number cell) k = x.cancelled_s1 conn number cell k
  act_case Known x (CancelledWithin number) k = x.cancelled_within number k
  act_case Known x (PathSwitchAsked number) k = if_one s.context (λ o. P (asks_again number o s)) (x.nothing Done) (x.asked number k)
  act_case Known x (PacketSent drb count text) k = if_one s.context (λ o. P (sends_packet drb count text o s)) (x.nothing Done) (x.packet drb count text k)
  act_case Known x (RrcSent srb count text) k = if_one s.context (λ o. P (sends_rrc srb count text o s)) (x.nothing Done) (x.text srb count text k)
  act_case Known x (BearerSkipped on n) k = x.skipped on n k

-- where nothing need be known
abbrev pub Any : {A : Type 0} → A → Type 0
Any row = Unit {0}

-- any row
pub station_case : {K C : Type 0} (r : Reading K C) (s : Station K C) (P : Station K C × Reply K C → Type 0) → RecordCases r s Anything P
    → AirCases r s Any P → ActCases r s Any P →
    (row : StationRow) (key : Option (NumberedKey K C)) → P (station_does r row key s)
station_case r s P x y z (OfRecord row) key = record_case r s P Anything x row key tt
station_case r s P x y z (OfAir row) key = air_case r s P Any y row tt
station_case r s P x y z (OfAct row) key = act_case r s P Any z row tt

-- the row that is chosen, by what its choice established
module _ {K C : Type 0} (r : Reading K C) (s : Station K C) (P : Station K C × Reply K C → Type 0) where
  pub step_case : ((on : Interface) (fields : Fields) → RecordCases r s (λ row key. RecordHas r s on fields row) P)
      → ((air : ℕ) (on : Which) (pdu : List ℕ) → (outcome : Outcome) → AirCases r s (AirHas r s air on pdu outcome) P) →
      ((act : StationAct) → ActCases r s (StationActHas r s act) P) → (i : StationInput K C) (outcome : Outcome)
      → P (station_does r (station_row_of r s i outcome) (station_key i) s)
  step_case x y z (StationActs act) outcome = act_case r s P (StationActHas r s act) (z act) (act_row (plain_station r s) act) (station_act_has r s act)
  step_case x y z (AirPdu air bearer pdu) outcome =
      air_case r s P (AirHas r s air (which bearer) pdu outcome) (y air (which bearer) pdu outcome)
      (air_row (plain_station r s) (air_front (plain_station r s) air (which bearer) pdu) outcome)
      (air_has r s air (which bearer) pdu outcome)
  step_case x y z (StationRecord on (Ok content)) outcome =
      record_case r s P (λ row key. RecordHas r s on content.fields row) (x on content.fields)
      (record_row (plain_station r s) on (Ok (map_content unseen r.ncc content))) content.key (record_has r s on content)
  step_case x y z (StationRecord on (Err fault)) outcome = (x on (ContextRelease 0)).nothing (BadRecord fault)
