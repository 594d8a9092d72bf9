-- What the phone's choice of a row on a NAS message established: the one walk through its refusals. For the front and the row that
-- were chosen, all that the passed tests say.
use Rattle.std.proofs.Common.{◌≡◌, refl, subst, ℕ, true, ◌==◌, List, Option, Some, None, option_map, Result, Ok, Err, nat_le}
use Rattle.std.specs.Prelude.{⊤}
use Rattle.alg_choice.specs.{Choice.are_supported, declared.algs.Algs.Algs, declared.caps.Caps.Caps}
use Rattle.rec_base.specs.declared.faults.RecFault.{RecFault}
use Rattle.lte_events.specs.declared.answers.Answer.{Answer}
use Rattle.key_model.specs.Reading.{Reading}
use Rattle.nas_count.specs.{Estimate.estimate_of, Estimate.nas_count_limit, declared.sending.CountSpent.CountSpent as NoneLeft}
use Rattle.nas_guard.specs.Open.{sn_in, sent_in}
use Rattle.nas_rec.specs.{Reading.read_nas, declared.records.NasRecord.NasRecord}
use Rattle.nas_rec.specs.declared.records.NasRecord.TheVariants.{SecurityModeCommand, NasData}
use Rattle.lte_machine.specs.Opening.{Outcome, Opened, Differs}
use Rattle.lte_machine.specs.PhoneChoice.{NasFront, NasSettled, AtCommand, AtMessage, header_for_phone, rejected, rejected_unspecified, capabilities_mismatch, command_at, command_read, command_front, message_at, message_front, nas_by_header, context_row, same_caps, command_row, message_read, nas_row}
use Rattle.lte_machine.specs.PhoneRows.{NasRow, NasRefused, RejectedPlain, RejectedUnder, ContextTaken, ContextTakenConnected, NasOpened}
use Rattle.lte_machine.specs.PhoneState.{Partial, NasContext, Link, Radio, Idle, Connecting, Connected, Phone, map_partial, map_context, map_radio}
use Rattle.lte_machine.specs.{PhoneStep.plain_phone, Reply.unseen}
use Rattle.lte_machine.proofs.{PhoneActFacts.HasCount, Tests.by_test, Tests.same_of}

-- what a message comes to before it is opened
abbrev pub phone_nas : {K C : Type 0} → Reading K C → Phone K C → List ℕ → NasFront
phone_nas r s pdu = nas_by_header s.caps (plain_phone r s).partial (plain_phone r s).context pdu (header_for_phone pdu)

-- a command for the partial context, to be opened by its keys, with algorithms of the phone's own
pub record Commands {K C : Type 0} (s : Phone K C) (pdu : List ℕ) (count : ℕ) (algs : Algs) (caps : Caps) : Type 0 where
  pub header_is : header_for_phone pdu ≡ Ok 3
  pub partial : Partial K
  pub holds : s.partial ≡ Some partial
  pub reads : read_nas (sent_in pdu) ≡ Ok (SecurityModeCommand partial.ksi algs caps)
  pub supported : are_supported s.caps algs ≡ true
  pub counted : estimate_of 0 (sn_in pdu) ≡ Ok count

-- another message, to be opened by the keys of the context in use
pub record ByContext {K C : Type 0} (s : Phone K C) (pdu : List ℕ) (count header : ℕ) : Type 0 where
  pub header_is : header_for_phone pdu ≡ Ok header
  pub context : NasContext K
  pub in_use : s.context ≡ Some context
  pub counted : estimate_of context.receive (sn_in pdu) ≡ Ok count

-- a command that opened, and replays the phone's capabilities
pub record TakesContext {K C : Type 0} (r : Reading K C) (s : Phone K C) (pdu : List ℕ) (outcome : Outcome) (algs : Algs) (count : ℕ) : Type 0 where
  pub caps : Caps
  pub front : phone_nas r s pdu ≡ AtCommand count algs caps
  pub by : Commands s pdu count algs caps
  pub text : List ℕ
  pub opened : outcome ≡ Opened text
  pub same : same_caps s.caps caps ≡ true

-- a text under the context in use that opened
pub record OpensText {K C : Type 0} (r : Reading K C) (s : Phone K C) (pdu : List ℕ) (outcome : Outcome) (count : ℕ) (sent : List ℕ) : Type 0 where
  pub header : ℕ
  pub front : phone_nas r s pdu ≡ AtMessage count header
  pub by : ByContext s pdu count header
  pub text : List ℕ
  pub opened : outcome ≡ Opened text
  pub reads : read_nas text ≡ Ok (NasData sent)

-- what was established of a row, and of a front: what is settled is so however anything opens
module _ {K C : Type 0} (r : Reading K C) (s : Phone K C) (pdu : List ℕ) where
  abbrev pub NasHas : Outcome → NasRow → Type 0
  NasHas outcome (NasRefused answer) = ⊤
  NasHas outcome (RejectedPlain answer cause) = s.context ≡ None
  NasHas outcome (RejectedUnder answer cause) = HasCount s
  NasHas outcome (ContextTaken algs count) = TakesContext r s pdu outcome algs count
  NasHas outcome (ContextTakenConnected algs count) = TakesContext r s pdu outcome algs count × (l : Link K C) × (s.radio ≡ Connected l)
  NasHas outcome (NasOpened count sent) = OpensText r s pdu outcome count sent

  abbrev pub FrontHas : NasFront → Type 0
  FrontHas (NasSettled row) = (outcome : Outcome) → NasHas outcome row
  FrontHas (AtCommand count algs caps) = Commands s pdu count algs caps
  FrontHas (AtMessage count header) = ByContext s pdu count header

  -- a Reject, by the context in use
  rejected_has : (outcome : Outcome) (answer : Answer) (cause : ℕ) (o : Option (NasContext K))
      → s.context ≡ o
      → NasHas outcome (rejected answer cause (option_map (map_context unseen) o))
  rejected_has outcome answer cause None e = e
  rejected_has outcome answer cause (Some c) e =
      by_test (NasHas outcome) (nat_le nas_count_limit c.send) _ _ (λ b. tt) (λ b. record { context = c; in_use = e; left = b })

  -- a command
  command_at_has : header_for_phone pdu ≡ Ok 3
      → (p : Partial K)
      → s.partial ≡ Some p
      → (algs : Algs) (caps : Caps)
      → read_nas (sent_in pdu) ≡ Ok (SecurityModeCommand p.ksi algs caps)
      → are_supported s.caps algs ≡ true → (count : Result ℕ NoneLeft) → estimate_of 0 (sn_in pdu) ≡ count → FrontHas (command_at algs caps count)
  command_at_has t p e algs caps f g (Err none) h = λ o. tt
  command_at_has t p e algs caps f g (Ok count) h = record { header_is = t; partial = p; holds = e; reads = f; supported = g; counted = h }

  command_read_has : header_for_phone pdu ≡ Ok 3 → (p : Partial K) → s.partial ≡ Some p → (read : Result NasRecord RecFault) → read_nas (sent_in pdu) ≡ read
      → FrontHas (command_read s.caps (plain_phone r s).context p.ksi pdu read)
  command_read_has t p e (Ok (SecurityModeCommand ksi algs caps)) f =
      by_test FrontHas (ksi == p.ksi) _ _
      (λ b. by_test FrontHas (are_supported s.caps algs) _ _
      (λ g. command_at_has t p e algs caps
      (subst (λ k. read_nas (sent_in pdu) ≡ Ok (SecurityModeCommand k algs caps)) (same_of ksi p.ksi b) f) g
      (estimate_of 0 (sn_in pdu)) refl)
      (λ g o. rejected_has o _ rejected_unspecified s.context refl))
      (λ b o. rejected_has o _ rejected_unspecified s.context refl)
  command_read_has t p e other f = λ o. tt

  command_front_has : header_for_phone pdu ≡ Ok 3
      → (p : Option (Partial K))
      → s.partial ≡ p
      → FrontHas (command_front s.caps (plain_phone r s).context pdu (option_map (map_partial unseen) p))
  command_front_has t None e = λ o. tt
  command_front_has t (Some p) e = command_read_has t p e (read_nas (sent_in pdu)) refl

  -- another message
  message_at_has : (header : ℕ)
      → header_for_phone pdu ≡ Ok header
      → (c : NasContext K)
      → s.context ≡ Some c
      → (count : Result ℕ NoneLeft)
      → estimate_of c.receive (sn_in pdu) ≡ count
      → FrontHas (message_at header count)
  message_at_has header t c e (Err none) f = λ o. tt
  message_at_has header t c e (Ok count) f = record { header_is = t; context = c; in_use = e; counted = f }

  message_front_has : (header : ℕ)
      → header_for_phone pdu ≡ Ok header
      → (c : Option (NasContext K))
      → s.context ≡ c
      → FrontHas (message_front header pdu (option_map (map_context unseen) c))
  message_front_has header t None e = λ o. tt
  message_front_has header t (Some c) e = message_at_has header t c e (estimate_of c.receive (sn_in pdu)) refl

  by_header_has : (header : Result ℕ Answer)
      → header_for_phone pdu ≡ header
      → FrontHas (nas_by_header s.caps (plain_phone r s).partial (plain_phone r s).context pdu header)
  by_header_has (Err answer) e = λ o. tt
  by_header_has (Ok header) e =
      by_test FrontHas (header == 3) _ _ (λ b. command_front_has (subst (λ h. header_for_phone pdu ≡ Ok h) (same_of header 3 b) e) s.partial refl)
      (λ b. message_front_has header e s.context refl)

  -- the front of a message
  pub front_has : FrontHas (phone_nas r s pdu)
  front_has = by_header_has (header_for_phone pdu) refl

  -- a command that opened
  context_has : (outcome : Outcome) (algs : Algs) (count : ℕ) → TakesContext r s pdu outcome algs count → (radio : Radio K C) → s.radio ≡ radio
      → NasHas outcome (context_row algs count (map_radio unseen r.ncc radio))
  context_has outcome algs count h Idle e = h
  context_has outcome algs count h (Connecting w) e = h
  context_has outcome algs count h (Connected l) e = (h, l, e)

  command_has : (count : ℕ) (algs : Algs) (caps : Caps) → phone_nas r s pdu ≡ AtCommand count algs caps → Commands s pdu count algs caps → (outcome : Outcome)
      → NasHas outcome (command_row s.caps (plain_phone r s).context (plain_phone r s).radio count algs caps outcome)
  command_has count algs caps e h (Differs wanted got) = rejected_has (Differs wanted got) _ rejected_unspecified s.context refl
  command_has count algs caps e h (Opened text) =
      by_test (NasHas (Opened text)) (same_caps s.caps caps) _ _
      (λ b. context_has (Opened text) algs count (record { caps = caps; front = e; by = h; text = text; opened = refl; same = b }) s.radio refl)
      (λ b. rejected_has (Opened text) _ capabilities_mismatch s.context refl)

  message_has : (count header : ℕ) (text : List ℕ)
      → phone_nas r s pdu ≡ AtMessage count header
      → ByContext s pdu count header
      → (read : Result NasRecord RecFault)
      → read_nas text ≡ read
      → NasHas (Opened text) (message_read count read)
  message_has count header text e h (Ok (NasData text')) f = record { header = header; front = e; by = h; text = text; opened = refl; reads = f }
  message_has count header text e h other f = tt

  row_has : (front : NasFront)
      → phone_nas r s pdu ≡ front
      → FrontHas front
      → (outcome : Outcome)
      → NasHas outcome (nas_row s.caps (plain_phone r s).context (plain_phone r s).radio front outcome)
  row_has (NasSettled row) e h outcome = h outcome
  row_has (AtCommand count algs caps) e h outcome = command_has count algs caps e h outcome
  row_has (AtMessage count header) e h (Differs wanted got) = tt
  row_has (AtMessage count header) e h (Opened text) = message_has count header text e h (read_nas text) refl

  -- the row of a message
  pub nas_has : (outcome : Outcome) → NasHas outcome (nas_row s.caps (plain_phone r s).context (plain_phone r s).radio (phone_nas r s pdu) outcome)
  nas_has outcome = row_has (phone_nas r s pdu) refl front_has outcome
