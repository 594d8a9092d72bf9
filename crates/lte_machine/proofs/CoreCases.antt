-- What the core does, case by case: a property of a step holds of any row, if it holds where nothing changes and in each case that
-- changes something. It speaks of the core before the step and of what the step does; where a row needs a partial context, the keys
-- of a procedure, a context in use or a connection, the core of its case has it. What is known of a row comes as a predicate on
-- cores and rows.
use Rattle.std.proofs.Common.{ℕ, Bool, List, Option, Some, None}
use Rattle.alg_choice.specs.{declared.algs.Algs.Algs, declared.caps.Caps.Caps}
use Rattle.annex_a_keys.specs.Cell.{Place}
use Rattle.lte_events.specs.{declared.answers.Answer.Answer, declared.answers.Answer.TheVariants.Done}
use Rattle.key_model.specs.Reading.{Reading}
use Rattle.nas_guard.specs.Keys.{Keys}
use Rattle.lte_machine.specs.Reply.{only}
use Rattle.lte_machine.specs.CoreState.{Core, CorePartial, CoreContext, CoreLink}
use Rattle.lte_machine.specs.CoreRows.{CoreNasRow, NasRefused, PlainReject, SmcComplete, SmcChange, ServiceAsked, NasOpened, SealedReject, CoreRecordRow, RecordRefused, PathSwitched, HandoverAsked, HandoverOrdered, HandoverNotified, HandoverCancelled, CoreActRow, ActRefused, SmcStarted, ContextSetUp, ContextReleased, NasSent, NasSkipped}
use Rattle.lte_machine.specs.CoreKeys.{CoreDone, core_does_nas, core_does_record, core_does_act}

-- a core with these
abbrev pub with_procedure : {K C : Type 0} → Core K C → Option (CorePartial K) → Option (Keys K) → Core K C
with_procedure s partial procedure = record s { partial = partial; procedure = procedure }

abbrev pub with_partial : {K C : Type 0} → Core K C → Option (CorePartial K) → Core K C
with_partial s partial = record s { partial = partial }

abbrev pub with_context : {K C : Type 0} → Core K C → Option (CoreContext K) → Core K C
with_context s context = record s { context = context }

abbrev pub with_link : {K C : Type 0} → Core K C → Option (CoreLink K C) → Core K C
with_link s link = record s { link = link }

-- a row has the property of a core where this is known of it; with a part of the core or without
module _ {K C Row : Type 0} (does : Row → Core K C → CoreDone K C) (Known : Core K C → Row → Type 0)
    (P : Core K C → CoreDone K C → Type 0) where
  abbrev pub Case : Core K C → Row → Type 0
  Case s row = Known s row → P s (does row s)

  module _ (s : Core K C) (row : Row) where
    pub by_procedure : ((k : Option (Keys K)) → Case (with_procedure s None k) row)
        → ((p : CorePartial K) → Case (with_procedure s (Some p) None) row)
        → ((p : CorePartial K) (keys : Keys K) → Case (with_procedure s (Some p) (Some keys)) row)
        → (o : Option (CorePartial K)) (k : Option (Keys K)) → Case (with_procedure s o k) row
    by_procedure n m f None k = n k
    by_procedure n m f (Some p) None = m p
    by_procedure n m f (Some p) (Some keys) = f p keys

    pub by_partial : Case (with_partial s None) row → ((p : CorePartial K) → Case (with_partial s (Some p)) row)
        → (o : Option (CorePartial K)) → Case (with_partial s o) row
    by_partial n f None = n
    by_partial n f (Some p) = f p

    pub by_context : Case (with_context s None) row → ((c : CoreContext K) → Case (with_context s (Some c)) row)
        → (o : Option (CoreContext K)) → Case (with_context s o) row
    by_context n f None = n
    by_context n f (Some c) = f c

    pub by_link : Case (with_link s None) row → ((link : CoreLink K C) → Case (with_link s (Some link)) row)
        → (o : Option (CoreLink K C)) → Case (with_link s o) row
    by_link n f None = n
    by_link n f (Some link) = f link

-- by a NAS message
module _ {K C : Type 0} (r : Reading K C) (Known : Core K C → CoreNasRow → Type 0) (P : Core K C → CoreDone K C → Type 0) where
  abbrev NasCase : Core K C → CoreNasRow → Type 0
  NasCase = Case (core_does_nas r) Known P

  pub record NasCases (s : Core K C) : Type 0 where
    pub nothing : (t : Core K C) (answer : Answer) → P t (t, only answer)
    pub closed : NasCase s PlainReject
    pub completed : (count : ℕ) (p : CorePartial K) (keys : Keys K) → NasCase (with_procedure s (Some p) (Some keys)) (SmcComplete count)
    pub changed : (count conn next station : ℕ) (p : CorePartial K) (keys : Keys K)
        → NasCase (with_procedure s (Some p) (Some keys)) (SmcChange count conn next station)
    pub asked : (count : ℕ) (c : CoreContext K) → NasCase (with_context s (Some c)) (ServiceAsked count)
    pub opened : (count : ℕ) (text : List ℕ) (c : CoreContext K) → NasCase (with_context s (Some c)) (NasOpened count text)
    pub rejected : (count : ℕ) (c : CoreContext K) → NasCase (with_context s (Some c)) (SealedReject count)

  pub nas_case : (s : Core K C) → NasCases s → (row : CoreNasRow) → NasCase s row
  nas_case s x (NasRefused answer) = λ h. x.nothing s answer
  nas_case s x PlainReject = x.closed
  nas_case s x (SmcComplete count) =
      by_procedure (core_does_nas r) Known P s (SmcComplete count) (λ k h. x.nothing _ Done) (λ p h. x.nothing _ Done)
      (x.completed count) s.partial s.procedure
  nas_case s x (SmcChange count conn next station) =
      by_procedure (core_does_nas r) Known P s (SmcChange count conn next station) (λ k h. x.nothing _ Done) (λ p h. x.nothing _ Done)
      (x.changed count conn next station) s.partial s.procedure
  nas_case s x (ServiceAsked count) =
      by_context (core_does_nas r) Known P s (ServiceAsked count) (λ h. x.nothing _ Done) (x.asked count) s.context
  nas_case s x (NasOpened count text) =
      by_context (core_does_nas r) Known P s (NasOpened count text) (λ h. x.nothing _ Done) (x.opened count text) s.context
  nas_case s x (SealedReject count) =
      by_context (core_does_nas r) Known P s (SealedReject count) (λ h. x.nothing _ Done) (x.rejected count) s.context

-- by a record on S1
module _ {K C : Type 0} (r : Reading K C) (Known : Core K C → CoreRecordRow → Type 0) (P : Core K C → CoreDone K C → Type 0) where
  abbrev RecordCase : Core K C → CoreRecordRow → Type 0
  RecordCase = Case (core_does_record r) Known P

  pub record RecordCases (s : Core K C) : Type 0 where
    pub nothing : (t : Core K C) (answer : Answer) → P t (t, only answer)
    pub switched : (conn station number : ℕ) (alarm : Bool) (link : CoreLink K C)
        → RecordCase (with_link s (Some link)) (PathSwitched conn station number alarm)
    pub asked : (conn source attempt : ℕ) (cell : Place) (target : ℕ) (caps : Caps) (link : CoreLink K C)
        → RecordCase (with_link s (Some link)) (HandoverAsked conn source attempt cell target caps)
    pub ordered : (conn source attempt : ℕ) (cell : Place) (ncc : ℕ) (algs : Algs) (air : ℕ)
        → RecordCase s (HandoverOrdered conn source attempt cell ncc algs air)
    pub notified : (station : ℕ) (link : CoreLink K C) → RecordCase (with_link s (Some link)) (HandoverNotified station)
    pub cancelled : (conn source attempt : ℕ) (cell : Place) (target : ℕ)
        → RecordCase s (HandoverCancelled conn source attempt cell target)

  pub record_case : (s : Core K C) → RecordCases s → (row : CoreRecordRow) → RecordCase s row
  record_case s x (RecordRefused answer) = λ h. x.nothing s answer
  record_case s x (PathSwitched conn station number alarm) =
      by_link (core_does_record r) Known P s (PathSwitched conn station number alarm) (λ h. x.nothing _ Done)
      (x.switched conn station number alarm) s.link
  record_case s x (HandoverAsked conn source attempt cell target caps) =
      by_link (core_does_record r) Known P s (HandoverAsked conn source attempt cell target caps) (λ h. x.nothing _ Done)
      (x.asked conn source attempt cell target caps) s.link
  record_case s x (HandoverOrdered conn source attempt cell ncc algs air) = x.ordered conn source attempt cell ncc algs air
  record_case s x (HandoverNotified station) =
      by_link (core_does_record r) Known P s (HandoverNotified station) (λ h. x.nothing _ Done) (x.notified station) s.link
  record_case s x (HandoverCancelled conn source attempt cell target) = x.cancelled conn source attempt cell target

-- by an act
module _ {K C : Type 0} (r : Reading K C) (Known : Core K C → CoreActRow → Type 0) (P : Core K C → CoreDone K C → Type 0) where
  abbrev ActCase : Core K C → CoreActRow → Type 0
  ActCase = Case (core_does_act r) Known P

  pub record ActCases (s : Core K C) : Type 0 where
    pub nothing : (t : Core K C) (answer : Answer) → P t (t, only answer)
    pub started : (ksi : ℕ) (algs : Algs) (caps : Caps) (count : ℕ) (p : CorePartial K)
        → ActCase (with_partial s (Some p)) (SmcStarted ksi algs caps count)
    pub set_up : (conn : ℕ) (cell : Place) (target : ℕ) (caps : Caps) (count : ℕ) (c : CoreContext K)
        → ActCase (with_context s (Some c)) (ContextSetUp conn cell target caps count)
    pub released : (conn station : ℕ) → ActCase s (ContextReleased conn station)
    pub sent : (count : ℕ) (text : List ℕ) (c : CoreContext K) → ActCase (with_context s (Some c)) (NasSent count text)
    pub skipped : (n : ℕ) (c : CoreContext K) → ActCase (with_context s (Some c)) (NasSkipped n)

  pub act_case : (s : Core K C) → ActCases s → (row : CoreActRow) → ActCase s row
  act_case s x (ActRefused answer) = λ h. x.nothing s answer
  act_case s x (SmcStarted ksi algs caps count) =
      by_partial (core_does_act r) Known P s (SmcStarted ksi algs caps count) (λ h. x.nothing _ Done)
      (x.started ksi algs caps count) s.partial
  act_case s x (ContextSetUp conn cell target caps count) =
      by_context (core_does_act r) Known P s (ContextSetUp conn cell target caps count) (λ h. x.nothing _ Done)
      (x.set_up conn cell target caps count) s.context
  act_case s x (ContextReleased conn station) = x.released conn station
  act_case s x (NasSent count text) =
      by_context (core_does_act r) Known P s (NasSent count text) (λ h. x.nothing _ Done) (x.sent count text) s.context
  act_case s x (NasSkipped n) =
      by_context (core_does_act r) Known P s (NasSkipped n) (λ h. x.nothing _ Done) (x.skipped n) s.context
