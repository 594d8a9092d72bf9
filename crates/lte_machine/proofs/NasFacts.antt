-- What the core's choice of a row on a NAS message established: the one walk through its refusals. For the row that was chosen,
-- all that the passed tests say.
use Rattle.std.proofs.Common.{◌≡◌, refl, sym, subst, ℕ, ◌≤◌, ◌⊎◌, inl, inr, true, false, ◌==◌, List, length, Option, Some, None, option_map, Result, Ok, Err, nat_le, nat_lt, arith}
use Rattle.std.specs.Prelude.{⊤, IfSome, drop}
use Rattle.rec_base.specs.declared.faults.RecFault.{RecFault}
use Rattle.lte_events.specs.declared.answers.Answer.{Answer}
use Rattle.lte_events.specs.declared.answers.Answer.TheVariants.{OldConnection, Repeated}
use Rattle.key_model.specs.{Least.least, Reading.Reading}
use Rattle.nas_count.specs.{Estimate.estimate_of, Estimate.nas_count_limit, declared.sending.CountSpent.CountSpent as NoneLeft}
use Rattle.nas_guard.specs.{Keys.Keys, Keys.map_keys, Open.first_in, Open.sn_in}
use Rattle.nas_rec.specs.{Reading.read_nas, declared.records.NasRecord.NasRecord}
use Rattle.nas_rec.specs.declared.records.NasRecord.TheVariants.{SecurityModeComplete, SecurityModeReject, ServiceRequest, NasData}
use Rattle.lte_machine.specs.CoreState.{Core, CoreContext, CoreLink, map_core_context, map_core_link}
use Rattle.lte_machine.specs.CoreRows.{CoreNasRow, NasRefused, PlainReject, SmcComplete, SmcChange, ServiceAsked, NasOpened, SealedReject}
use Rattle.lte_machine.specs.CoreChoice.{CoreNasFront, NasSettled, OpensComplete, OpensProtected, core_takes, core_header, plain_text_row, plain_row, opens_complete, complete_front, opens_protected, protected_front, core_nas_front, NUMBERS, completed_row, complete_row, reject_row, protected_row, core_nas_row}
use Rattle.lte_machine.specs.{CoreStep.plain_core, Reply.unseen}
use Rattle.lte_machine.specs.Opening.{Outcome, Opened, Differs}
use Rattle.lte_machine.proofs.Tests.{by_test, same_of}

-- what a message comes to before it is opened, and its row
abbrev pub nas_front : {K C : Type 0} → Reading K C → Core K C → List ℕ → CoreNasFront
nas_front r s pdu = core_nas_front (plain_core r s).procedure (plain_core r s).context pdu (core_header pdu)

abbrev pub nas_row : {K C : Type 0} → Reading K C → Core K C → List ℕ → Outcome → CoreNasRow
nas_row r s pdu outcome = core_nas_row (plain_core r s).procedure s.next (plain_core r s).link (nas_front r s pdu) outcome

-- an answer that tells no number
abbrev pub NoNumber : Answer → Type 0
NoNumber (OldConnection held got) = ⊥
NoNumber (Repeated seen got) = ⊥
NoNumber other = ⊤

-- a plain Security Mode Reject, with a procedure and no context
pub record IsPlainReject {K C : Type 0} (s : Core K C) (pdu : List ℕ) : Type 0 where
  pub keys : Keys K
  pub running : s.procedure ≡ Some keys
  pub unprotected : s.context ≡ None
  pub header : core_header pdu ≡ Ok 0
  pub cause : ℕ
  pub reads : read_nas (drop 1 pdu) ≡ Ok (SecurityModeReject cause)

-- a message of header type 4, to be opened by the keys of the procedure
pub record ByProcedure {K C : Type 0} (s : Core K C) (pdu : List ℕ) (count : ℕ) : Type 0 where
  pub keys : Keys K
  pub running : s.procedure ≡ Some keys
  pub header : core_header pdu ≡ Ok 4
  pub long : nat_lt (length pdu) 6 ≡ false
  pub counted : estimate_of 0 (sn_in pdu) ≡ Ok count

-- a message of another header type, to be opened by the keys of the context in use
pub record ByContext {K C : Type 0} (s : Core K C) (pdu : List ℕ) (header count : ℕ) : Type 0 where
  pub context : CoreContext K
  pub in_use : s.context ≡ Some context
  pub header_is : core_header pdu ≡ Ok header
  pub long : nat_lt (length pdu) 6 ≡ false
  pub counted : estimate_of context.nas.receive (sn_in pdu) ≡ Ok count

-- a Security Mode Complete that opened
pub record Completes {K C : Type 0} (r : Reading K C) (s : Core K C) (pdu : List ℕ) (outcome : Outcome) (count : ℕ) : Type 0 where
  pub front : nas_front r s pdu ≡ OpensComplete count
  pub by : ByProcedure s pdu count
  pub text : List ℕ
  pub opened : outcome ≡ Opened text
  pub reads : read_nas text ≡ Ok SecurityModeComplete

-- a message under the context in use that opened, and its text
pub record Opens {K C : Type 0} (r : Reading K C) (s : Core K C) (pdu : List ℕ) (outcome : Outcome) (count : ℕ) (x : NasRecord) : Type 0 where
  pub header : ℕ
  pub front : nas_front r s pdu ≡ OpensProtected header count
  pub by : ByContext s pdu header count
  pub text : List ℕ
  pub opened : outcome ≡ Opened text
  pub reads : read_nas text ≡ Ok x

-- the connection that stands, and the next number, which is left
pub record Changes {K C : Type 0} (s : Core K C) (conn next station : ℕ) : Type 0 where
  pub link : CoreLink K C
  pub stands : s.link ≡ Some link
  pub conn_is : conn ≡ link.conn
  pub next_is : next ≡ s.next
  pub station_is : station ≡ link.station
  pub left : nat_le NUMBERS s.next ≡ false

-- what was established of a row
abbrev pub NasHas : {K C : Type 0} → Reading K C → Core K C → List ℕ → Outcome → CoreNasRow → Type 0
NasHas r s pdu outcome (NasRefused answer) = NoNumber answer
NasHas r s pdu outcome PlainReject = IsPlainReject s pdu
NasHas r s pdu outcome (SmcComplete count) = Completes r s pdu outcome count × ((s.link ≡ None) ⊎ (nat_le NUMBERS s.next ≡ true))
NasHas r s pdu outcome (SmcChange count conn next station) = Completes r s pdu outcome count × Changes s conn next station
NasHas r s pdu outcome (ServiceAsked count) = Opens r s pdu outcome count ServiceRequest
NasHas r s pdu outcome (NasOpened count text) = Opens r s pdu outcome count (NasData text)
NasHas {K = K} r s pdu outcome (SealedReject count) =
    (cause : ℕ) × (keys : Keys K) × (s.procedure ≡ Some keys) × Opens r s pdu outcome count (SecurityModeReject cause)

-- and of a front: what is settled is so however anything opens
abbrev pub FrontHas : {K C : Type 0} → Reading K C → Core K C → List ℕ → CoreNasFront → Type 0
FrontHas r s pdu (NasSettled row) = (outcome : Outcome) → NasHas r s pdu outcome row
FrontHas r s pdu (OpensComplete count) = ByProcedure s pdu count
FrontHas r s pdu (OpensProtected header count) = ByContext s pdu header count

-- the COUNT that a receiver takes is not below the next one (TS 24.301 4.4.3.1)
estimate_above : (next sn count : ℕ) → estimate_of next sn ≡ Ok count → next ≤ count
unfolding estimate_of least
estimate_above next sn count e =
    by_test (λ (n : Result ℕ NoneLeft). n ≡ Ok count → next ≤ count) (nat_lt (least next sn 256) nas_count_limit) _ _
    (λ b f. subst (λ n. next ≤ n) (taken (least next sn 256) f) (omega arith)) (λ b f. absurd cc) e
  where
    taken : (n : ℕ) → (let x : Result ℕ NoneLeft = Ok n in let y : Result ℕ NoneLeft = Ok count in x ≡ y) → n ≡ count
    taken n f = cc

module _ {K C : Type 0} (r : Reading K C) (s : Core K C) (pdu : List ℕ) where
  abbrev Has : CoreNasFront → Type 0
  Has front = FrontHas r s pdu front

  -- the header type
  abbrev HeaderHas : Result ℕ Answer → Type 0
  HeaderHas (Ok header) = ⊤
  HeaderHas (Err answer) = NoNumber answer

  header_has : HeaderHas (core_header pdu)
  unfolding core_header
  header_has =
      by_test HeaderHas (length pdu == 0) _ _ (λ e. tt) (λ e. by_test HeaderHas (core_takes (first_in pdu)) _ _ (λ f. tt) (λ f. tt))

  -- a plain message
  plain_text_has : (keys : Keys K)
      → s.procedure ≡ Some keys
      → s.context ≡ None
      → core_header pdu ≡ Ok 0
      → (read : Result NasRecord RecFault)
      → read_nas (drop 1 pdu) ≡ read
      → Has (NasSettled (plain_text_row read))
  plain_text_has keys e f h (Ok (SecurityModeReject cause)) g = λ o. record { keys = keys; running = e; unprotected = f; header = h; cause = cause; reads = g }
  plain_text_has keys e f h other g = λ o. tt

  plain_has : (p : Option (Keys K)) (c : Option (CoreContext K)) → s.procedure ≡ p → s.context ≡ c → core_header pdu ≡ Ok 0
      → Has (NasSettled (plain_row (option_map (map_keys unseen) p) (option_map (map_core_context unseen) c) pdu))
  plain_has None c e f h = λ o. tt
  plain_has (Some keys) (Some context) e f h = λ o. tt
  plain_has (Some keys) None e f h = plain_text_has keys e f h (read_nas (drop 1 pdu)) refl

  -- a message of header type 4, and one of another
  opens_complete_has : (keys : Keys K)
      → s.procedure ≡ Some keys
      → core_header pdu ≡ Ok 4
      → nat_lt (length pdu) 6 ≡ false
      → (count : Result ℕ NoneLeft)
      → estimate_of 0 (sn_in pdu) ≡ count
      → Has (opens_complete count)
  opens_complete_has keys e h l (Err spent) f = λ o. tt
  opens_complete_has keys e h l (Ok count) f = record { keys = keys; running = e; header = h; long = l; counted = f }

  complete_front_has : (p : Option (Keys K)) → s.procedure ≡ p → core_header pdu ≡ Ok 4 → nat_lt (length pdu) 6 ≡ false
      → Has (complete_front (option_map (map_keys unseen) p) pdu)
  complete_front_has None e h l = λ o. tt
  complete_front_has (Some keys) e h l = opens_complete_has keys e h l (estimate_of 0 (sn_in pdu)) refl

  opens_protected_has : (c : CoreContext K) (header : ℕ)
      → s.context ≡ Some c
      → core_header pdu ≡ Ok header
      → nat_lt (length pdu) 6 ≡ false
      → (count : Result ℕ NoneLeft)
      → estimate_of c.nas.receive (sn_in pdu) ≡ count → Has (opens_protected header count)
  opens_protected_has c header e h l (Err spent) f = λ o. tt
  opens_protected_has c header e h l (Ok count) f = record { context = c; in_use = e; header_is = h; long = l; counted = f }

  protected_front_has : (c : Option (CoreContext K)) (header : ℕ) → s.context ≡ c → core_header pdu ≡ Ok header → nat_lt (length pdu) 6 ≡ false
      → Has (protected_front (option_map (map_core_context unseen) c) header pdu)
  protected_front_has None header e h l = λ o. tt
  protected_front_has (Some c) header e h l = opens_protected_has c header e h l (estimate_of c.nas.receive (sn_in pdu)) refl

  by_header_has : (header : Result ℕ Answer)
      → core_header pdu ≡ header
      → HeaderHas header
      → Has (core_nas_front (plain_core r s).procedure (plain_core r s).context pdu header)
  by_header_has (Err answer) e h = λ o. h
  by_header_has (Ok header) e h =
      by_test Has (header == 0) _ _ (λ f. plain_has s.procedure s.context refl refl (typed 0 f)) (λ f.
      by_test Has (nat_lt (length pdu) 6) _ _ (λ l o. tt) (λ l.
      by_test Has (header == 4) _ _ (λ g. complete_front_has s.procedure refl (typed 4 g) l) (λ g. protected_front_has s.context header refl e l)))
    where
      typed : (n : ℕ) → (header == n) ≡ true → core_header pdu ≡ Ok n
      typed n f = subst (λ m. core_header pdu ≡ Ok m) (same_of header n f) e

  -- the front of a message
  pub front_has : Has (nas_front r s pdu)
  front_has = by_header_has (core_header pdu) refl header_has

  -- a message that opened
  completed_has : (outcome : Outcome) (count : ℕ) → Completes r s pdu outcome count → (o : Option (CoreLink K C)) → s.link ≡ o
      → NasHas r s pdu outcome (completed_row count s.next (option_map (map_core_link unseen r.ncc) o))
  completed_has outcome count c None e = (c, inl e)
  completed_has outcome count c (Some link) e =
      by_test (NasHas r s pdu outcome) (nat_le NUMBERS s.next) _ _ (λ f. (c, inr f))
      (λ f. (c, record { link = link; stands = e; conn_is = refl; next_is = refl; station_is = refl; left = f }))

  complete_has : (count : ℕ) (text : List ℕ)
      → nas_front r s pdu ≡ OpensComplete count
      → ByProcedure s pdu count
      → (read : Result NasRecord RecFault)
      → read_nas text ≡ read
      → NasHas r s pdu (Opened text) (complete_row count s.next (plain_core r s).link read)
  complete_has count text e b (Ok SecurityModeComplete) f =
      completed_has (Opened text) count (record { front = e; by = b; text = text; opened = refl; reads = f }) s.link refl
  complete_has count text e b other f = tt

  reject_has : (outcome : Outcome) (count cause : ℕ) → Opens r s pdu outcome count (SecurityModeReject cause) → (p : Option (Keys K)) → s.procedure ≡ p
      → NasHas r s pdu outcome (reject_row (option_map (map_keys unseen) p) count)
  reject_has outcome count cause x None e = tt
  reject_has outcome count cause x (Some keys) e = (cause, keys, e, x)

  protected_has : (header count : ℕ) (text : List ℕ)
      → nas_front r s pdu ≡ OpensProtected header count
      → ByContext s pdu header count
      → (read : Result NasRecord RecFault)
      → read_nas text ≡ read
      → NasHas r s pdu (Opened text) (protected_row (plain_core r s).procedure count read)
  protected_has header count text e b (Ok (SecurityModeReject cause)) f =
      reject_has (Opened text) count cause (record { header = header; front = e; by = b; text = text; opened = refl; reads = f }) s.procedure refl
  protected_has header count text e b (Ok ServiceRequest) f = record { header = header; front = e; by = b; text = text; opened = refl; reads = f }
  protected_has header count text e b (Ok (NasData data')) f = record { header = header; front = e; by = b; text = text; opened = refl; reads = f }
  protected_has header count text e b other f = tt

  row_has : (front : CoreNasFront) → nas_front r s pdu ≡ front → Has front → (outcome : Outcome)
      → NasHas r s pdu outcome (core_nas_row (plain_core r s).procedure s.next (plain_core r s).link front outcome)
  row_has (NasSettled row) e h outcome = h outcome
  row_has (OpensComplete count) e h (Differs wanted got) = tt
  row_has (OpensComplete count) e h (Opened text) = complete_has count text e h (read_nas text) refl
  row_has (OpensProtected header count) e h (Differs wanted got) = tt
  row_has (OpensProtected header count) e h (Opened text) = protected_has header count text e h (read_nas text) refl

  -- the row of a message
  pub nas_has : (outcome : Outcome) → NasHas r s pdu outcome (nas_row r s pdu outcome)
  nas_has outcome = row_has (nas_front r s pdu) refl front_has outcome

-- so a COUNT that is taken under the context in use is not below its next one
abbrev pub NextIn : {K : Type 0} → Option (CoreContext K) → ℕ → Type 0
NextIn o count = IfSome o (λ c. c.nas.receive ≤ count)

pub opens_above : {K C : Type 0} {r : Reading K C} {s : Core K C} {pdu : List ℕ} {outcome : Outcome} {count : ℕ} {x : NasRecord}
    → Opens r s pdu outcome count x → NextIn s.context count
opens_above {s = s} {pdu = pdu} {count = count} h =
    subst (λ o. NextIn o count) (sym h.by.in_use) (estimate_above h.by.context.nas.receive (sn_in pdu) count h.by.counted)
