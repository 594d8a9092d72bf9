-- A row of the core is refused or done, and a refused step of the core leaves it as it was.
use Rattle.std.proofs.Common.{◌≡◌, ℕ, refl, ap, ◌∙◌}
use Rattle.std.specs.Prelude.{◌≢◌, Option, Some, None}
use Rattle.alg_choice.specs.declared.caps.Caps.{Caps}
use Rattle.lte_events.specs.{declared.answers.Answer.Answer, declared.answers.Answer.TheVariants.Done}
use Rattle.key_model.specs.Reading.{Reading}
use Rattle.lte_machine.specs.{CoreChoice.core_row, CoreState.Core, CoreState.CoreInput, Opening.Outcome}
use Rattle.lte_machine.specs.CoreKeys.{CoreDone, authenticated, core_does_nas, core_does_record, core_does_act, core_does}
use Rattle.lte_machine.specs.CoreRows.{CoreNasRow, NasRefused, PlainReject, SmcComplete, SmcChange, ServiceAsked, NasOpened, SealedReject, CoreRecordRow, RecordRefused, PathSwitched, HandoverAsked, HandoverOrdered, HandoverNotified, HandoverCancelled, CoreActRow, ActRefused, SmcStarted, ContextSetUp, ContextReleased, NasSent, NasSkipped, CoreRow, OfNas, OfRecord, OfAct, OfAuth}
use Rattle.lte_machine.specs.CoreStep.{plain_core, core_front_of, core_root, core_step}
use Rattle.lte_machine.proofs.CoreCases.{by_procedure, by_partial, by_context, by_link}
use Rattle.lte_machine.proofs.Tests.{Anything}

-- how a row ends: refused with this answer, or done
pub data Ends {Row : Type 0} (refused : Answer → Row) (row : Row) (answer : Answer) : Type 0 where
  IsRefused : row ≡ refused answer → Ends refused row answer
  IsDone : answer ≡ Done → Ends refused row answer

abbrev Answers : {K C : Type 0} → Core K C → CoreDone K C → Type 0
Answers s done = done.1.answer ≡ Done

module _ {K C : Type 0} (r : Reading K C) where
  pub nas_ends : (s : Core K C) (row : CoreNasRow) → Ends NasRefused row (core_does_nas r row s).1.answer
  nas_ends s (NasRefused answer) = IsRefused refl
  nas_ends s PlainReject = IsDone refl
  nas_ends s (SmcComplete count) =
      IsDone (by_procedure (core_does_nas r) Anything Answers s (SmcComplete count) (λ k h. refl) (λ p h. refl) (λ p k h. refl) s.partial s.procedure tt)
  nas_ends s (SmcChange count conn next station) =
      IsDone (by_procedure (core_does_nas r) Anything Answers s (SmcChange count conn next station) (λ k h. refl) (λ p h. refl) (λ p k h. refl)
      s.partial s.procedure tt)
  nas_ends s (ServiceAsked count) = IsDone (by_context (core_does_nas r) Anything Answers s (ServiceAsked count) (λ h. refl) (λ c h. refl) s.context tt)
  nas_ends s (NasOpened count text) =
      IsDone (by_context (core_does_nas r) Anything Answers s (NasOpened count text) (λ h. refl) (λ c h. refl) s.context tt)
  nas_ends s (SealedReject count) = IsDone (by_context (core_does_nas r) Anything Answers s (SealedReject count) (λ h. refl) (λ c h. refl) s.context tt)

  pub record_ends : (s : Core K C) (row : CoreRecordRow) → Ends RecordRefused row (core_does_record r row s).1.answer
  record_ends s (RecordRefused answer) = IsRefused refl
  record_ends s (PathSwitched conn station number alarm) =
      IsDone (by_link (core_does_record r) Anything Answers s (PathSwitched conn station number alarm) (λ h. refl) (λ l h. refl) s.link tt)
  record_ends s (HandoverAsked conn source attempt cell target caps) =
      IsDone (by_link (core_does_record r) Anything Answers s (HandoverAsked conn source attempt cell target caps) (λ h. refl) (λ l h. refl) s.link tt)
  record_ends s (HandoverOrdered conn source attempt cell ncc algs air) = IsDone refl
  record_ends s (HandoverNotified station) =
      IsDone (by_link (core_does_record r) Anything Answers s (HandoverNotified station) (λ h. refl) (λ l h. refl) s.link tt)
  record_ends s (HandoverCancelled conn source attempt cell target) = IsDone refl

  pub act_ends : (s : Core K C) (row : CoreActRow) → Ends ActRefused row (core_does_act r row s).1.answer
  act_ends s (ActRefused answer) = IsRefused refl
  act_ends s (SmcStarted ksi algs caps count) =
      IsDone (by_partial (core_does_act r) Anything Answers s (SmcStarted ksi algs caps count) (λ h. refl) (λ p h. refl) s.partial tt)
  act_ends s (ContextSetUp conn cell target caps count) =
      IsDone (by_context (core_does_act r) Anything Answers s (ContextSetUp conn cell target caps count) (λ h. refl) (λ c h. refl) s.context tt)
  act_ends s (ContextReleased conn station) = IsDone refl
  act_ends s (NasSent count text) = IsDone (by_context (core_does_act r) Anything Answers s (NasSent count text) (λ h. refl) (λ c h. refl) s.context tt)
  act_ends s (NasSkipped n) = IsDone (by_context (core_does_act r) Anything Answers s (NasSkipped n) (λ h. refl) (λ c h. refl) s.context tt)

  -- a row that is not done leaves the core
  left : {Row : Type 0} (refused : Answer → Row) (does : Row → Core K C → CoreDone K C) (s : Core K C) → ((answer : Answer) → (does (refused answer) s).0 ≡ s)
      → (row : Row) → Ends refused row (does row s).1.answer → (does row s).1.answer ≢ Done → (does row s).0 ≡ s
  left refused does s stays row (IsRefused e) h = ap (λ x. (does x s).0) e ∙ stays (does row s).1.answer
  left refused does s stays row (IsDone e) h = absurd (h e)

  authenticated_done : (ksi : ℕ) (caps : Caps) (root : Option K) (s : Core K C) → Answers s (authenticated ksi caps root s)
  authenticated_done ksi caps None s = refl
  authenticated_done ksi caps (Some root) s = refl

  does_left : (s : Core K C) (row : CoreRow) (root : Option K) → (core_does r row root s).1.answer ≢ Done → (core_does r row root s).0 ≡ s
  does_left s (OfNas row) root = left NasRefused (core_does_nas r) s (λ answer. refl) row (nas_ends s row)
  does_left s (OfRecord row) root = left RecordRefused (core_does_record r) s (λ answer. refl) row (record_ends s row)
  does_left s (OfAct row) root = left ActRefused (core_does_act r) s (λ answer. refl) row (act_ends s row)
  does_left s (OfAuth ksi caps) root = λ h. absurd (h (authenticated_done ksi caps root s))

  -- a refused step of the core changes nothing
  pub core_refused : (s : Core K C) (i : CoreInput K C) (outcome : Outcome) → (core_step r s i outcome).1.answer ≢ Done → (core_step r s i outcome).0 ≡ s
  core_refused s i outcome = does_left s (core_row (plain_core r s) (core_front_of r s i) outcome) (core_root i)
