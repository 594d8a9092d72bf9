-- A new authentication and Security Mode: phone and core use one NAS context.
use Rattle.std.proofs.Common.{◌≡◌, ℕ, ◌+◌, ◌<◌, ◌≤◌, Bool, true, false, if◌then◌else◌, List, length, Option, Some, None, option_map, Ok, refl, ap, sym, subst, ◌∙◌, arith}
use Rattle.std.specs.Prelude.{◌==◌, ◌&&◌, nat_le, nat_lt}
use Rattle.std.proofs.lemmas.Bool.Decides.{nat_tests}
use Rattle.alg_choice.specs.{Choice.choice_of, Choice.are_supported, declared.algs.Algs.Algs, declared.caps.Caps.Caps}
use Rattle.rec_base.specs.declared.uses.Dir.TheVariants.{Up, Down}
use Rattle.lte_events.specs.declared.acts.CoreAct.{CoreAct}
use Rattle.lte_events.specs.declared.answers.Answer.TheVariants.{AlgUnsupported, CapsMismatch, WrongKsi, Short}
use Rattle.key_model.specs.{Term.Term, Reading.Reading, Reading.term_reading_by}
use Rattle.nas_count.specs.Estimate.{estimate_of}
use Rattle.nas_guard.specs.{Open.sn_in, Open.sent_in, Keys.map_keys}
use Rattle.nas_rec.specs.declared.records.NasRecord.TheVariants.{SecurityModeCommand, SecurityModeComplete}
use Rattle.nas_rec.specs.Reading.{read_nas}
use Rattle.lte_machine.specs.Wire.{nas_use, nas_ciphering, Outgoing}
use Rattle.lte_machine.specs.Opening.{OpensNas, Outcome, Opened}
use Rattle.lte_machine.specs.{Reply.Reply, Reply.unseen, PhoneChoice.header_for_phone, PhoneKeys.context_of, PhoneKeys.complete_of, CoreChoice.core_header, CoreKeys.smc_command, CoreKeys.new_context}
use Rattle.lte_machine.specs.PhoneState.{Partial, Radio, Idle, Connecting, Connected, Phone, PhoneNasPdu, nas_keys_of, map_partial, map_radio}
use Rattle.lte_machine.specs.PhoneRows as phone_rows
use Rattle.lte_machine.specs.PhoneChoice as at_phone
use Rattle.lte_machine.specs.PhoneKeys as by_phone
use Rattle.lte_machine.specs.PhoneStep.{plain_phone, phone_step, phone_opens}
use Rattle.lte_machine.specs.CoreState.{Core, CorePartial, CoreLink, CoreNasPdu, CoreActs, map_core_link, map_core_partial}
use Rattle.lte_machine.specs.CoreRows as rows
use Rattle.lte_machine.specs.CoreChoice as at_core
use Rattle.lte_machine.specs.CoreKeys as by_core
use Rattle.lte_machine.specs.CoreStep.{plain_core, core_step, core_opens}
use Rattle.lte_properties.proofs.Opening.Steps.{Opener}
use Rattle.lte_recovery.proofs.PhoneSteps.{Goes}

is_one : (a b : ℕ) → a ≡ b → (a == b) ≡ true
is_one a b f = grind (arith, nat_tests)

same_itself : (caps : Caps) → at_phone.same_caps caps caps ≡ true
same_itself caps = λ j. is_one caps.eea caps.eea refl j && is_one caps.eia caps.eia refl j

module _ (same : Term → Term → Bool) where
  abbrev r : Reading Term ℕ
  r = term_reading_by same

  abbrev pub partial_of : ℕ → Term → Caps → ℕ → CorePartial Term
  partial_of ksi root caps send = record { ksi = ksi; root = root; caps = caps; send = send }

  -- THE CORE STARTS A SECURITY MODE
  pub core_commands : (s : Core Term ℕ) (ksi : ℕ) (root : Term) (caps : Caps) (algs : Algs) (outcome : Outcome)
      → s.partial ≡ Some (partial_of ksi root caps 0)
      → s.procedure ≡ None
      → choice_of s.priority caps ≡ Ok algs
      → Goes (core_step r s (CoreActs CoreAct.StartSmc) outcome)
      (record s { partial = Some (partial_of ksi root caps 1); procedure = Some (nas_keys_of r root algs) })
      (Some (smc_command (nas_keys_of r root algs).int 0 ksi algs caps))
  core_commands s ksi root caps algs outcome partial procedure chosen =
      let row : at_core.core_act_row (plain_core r s) CoreAct.StartSmc ≡ rows.SmcStarted ksi algs caps 0 =
      (λ j. at_core.start_smc_row s.priority (option_map (map_core_partial unseen) (partial j)) (option_map (map_keys unseen) (procedure j)))
      ∙ ap (at_core.smc_row (map_core_partial unseen (partial_of ksi root caps 0))) chosen in
      let does : by_core.core_does_act r (at_core.core_act_row (plain_core r s) CoreAct.StartSmc) s
      ≡ by_core.smc_started r ksi algs caps 0 (Some (partial_of ksi root caps 0)) s =
      ap (λ x. by_core.core_does_act r x s) row ∙ ap (λ o. by_core.smc_started r ksi algs caps 0 o s) partial in
      (ap (λ d. d.0) does, ap (λ d. d.1.sent) does)

  -- THE PHONE TAKES THE CONTEXT
  pub record TakesContext (s : Phone Term ℕ) (root : Term) (algs : Algs) (a : Phone Term ℕ) (out : Option (Outgoing Term ℕ)) : Type 0 where
    pub caps : a.caps ≡ s.caps
    pub context : a.context ≡ Some (context_of r algs 0 root)
    pub sent : out ≡ Some (complete_of r algs root)

  abbrev pub Takes : Phone Term ℕ → Term → Algs → Phone Term ℕ × Reply Term ℕ → Type 0
  Takes s root algs d = TakesContext s root algs d.0 d.1.sent

  pub phone_takes_context : (opener : Opener) (pdu : List ℕ) (came : Option (Outgoing Term ℕ)) (text : List ℕ)
      (s : Phone Term ℕ) (ksi : ℕ) (root : Term) (algs : Algs)
      → s.partial ≡ Some (record { ksi = ksi; root = root })
      → header_for_phone pdu ≡ Ok 3
      → estimate_of 0 (sn_in pdu) ≡ Ok 0
      → read_nas (sent_in pdu) ≡ Ok (SecurityModeCommand ksi algs s.caps)
      → are_supported s.caps algs ≡ true
      → opener (OpensNas (nas_use Down (nas_keys_of r root algs).int 0) None) pdu came ≡ Opened text
      → Takes s root algs (phone_step r s (PhoneNasPdu pdu) (opener (phone_opens r s (PhoneNasPdu pdu)) pdu came))
  phone_takes_context opener pdu came text s ksi root algs partial header counts reads supported opens =
      let plain = plain_phone r s in
      let p : Partial Term = record { ksi = ksi; root = root } in
      let at = at_phone.nas_by_header plain.caps plain.partial plain.context pdu (header_for_phone pdu) in
      let front : at ≡ at_phone.AtCommand 0 algs s.caps =
      ap (at_phone.nas_by_header plain.caps plain.partial plain.context pdu) header
      ∙ ap (λ o. at_phone.command_front plain.caps plain.context pdu (option_map (map_partial unseen) o)) partial
      ∙ ap (at_phone.command_read plain.caps plain.context ksi pdu) reads
      ∙ ap (λ b. if b then by_support (are_supported s.caps algs) else wrong_key) (is_one ksi ksi refl)
      ∙ ap by_support supported
      ∙ ap (at_phone.command_at algs s.caps) counts in
      let expects : by_phone.nas_expects r at s ≡ OpensNas (nas_use Down (nas_keys_of r root algs).int 0) None =
      ap (λ f. by_phone.nas_expects r f s) front ∙ ap (by_phone.command_expects r 0 algs) partial in
      let outcome = opener (by_phone.nas_expects r at s) pdu came in
      let out : outcome ≡ Opened text = ap (λ o. opener o pdu came) expects ∙ opens in
      let row : at_phone.nas_row plain.caps plain.context plain.radio at outcome ≡ at_phone.context_row algs 0 plain.radio =
      (λ j. at_phone.nas_row plain.caps plain.context plain.radio (front j) (out j))
      ∙ ap (λ b. if b then at_phone.context_row algs 0 plain.radio else mismatched) (same_itself s.caps) in
      subst (λ x. Takes s root algs (by_phone.nas_does r x s)) (sym row) (by s.radio)
    where
      wrong_key : at_phone.NasFront
      wrong_key = at_phone.NasSettled (at_phone.rejected (WrongKsi ksi ksi) at_phone.rejected_unspecified (plain_phone r s).context)

      by_support : Bool → at_phone.NasFront
      by_support b =
          if b then at_phone.command_at algs s.caps (estimate_of 0 (sn_in pdu))
          else at_phone.NasSettled (at_phone.rejected (AlgUnsupported algs) at_phone.rejected_unspecified (plain_phone r s).context)

      mismatched : phone_rows.NasRow
      mismatched = at_phone.rejected (CapsMismatch s.caps s.caps) at_phone.capabilities_mismatch (plain_phone r s).context

      fits : (d : Phone Term ℕ × Reply Term ℕ) (e : Phone Term ℕ × Reply Term ℕ) → d ≡ e → Takes s root algs e → Takes s root algs d
      fits d e is k = subst (Takes s root algs) (sym is) k

      by : (radio : Radio Term ℕ) → Takes s root algs (by_phone.nas_does r (at_phone.context_row algs 0 (map_radio unseen r.ncc radio)) s)
      by Idle = fits _ _ (ap (by_phone.context_taken r algs 0 s) partial) (record { caps = refl; context = refl; sent = refl })
      by (Connecting w) = fits _ _ (ap (by_phone.context_taken r algs 0 s) partial) (record { caps = refl; context = refl; sent = refl })
      by (Connected l) = fits _ _ (ap (by_phone.context_taken_connected r algs 0 s) partial) (record { caps = refl; context = refl; sent = refl })

  -- THE CORE TAKES IT, and where a connection stands its key is to change at once
  pub record UsesContext (s : Core Term ℕ) (root : Term) (algs : Algs) (caps : Caps) (ksi : ℕ) (k : Core Term ℕ) : Type 0 where
    pub cells : k.cells ≡ s.cells
    pub context : k.context ≡ Some (new_context (partial_of ksi root caps 1) (nas_keys_of r root algs) 0)
    pub not_less : s.next ≤ k.next
    pub one_more : k.next ≤ s.next + 1

  pub core_takes_context : (opener : Opener) (pdu : List ℕ) (came : Option (Outgoing Term ℕ)) (text : List ℕ)
      (s : Core Term ℕ) (ksi : ℕ) (root : Term) (algs : Algs) (caps : Caps)
      → s.partial ≡ Some (partial_of ksi root caps 1)
      → s.procedure ≡ Some (nas_keys_of r root algs)
      → s.next < 4294967296
      → core_header pdu ≡ Ok 4
      → 6 ≤ length pdu
      → estimate_of 0 (sn_in pdu) ≡ Ok 0
      → opener (OpensNas (nas_use Up (nas_keys_of r root algs).int 0) (Some (nas_ciphering Up (nas_keys_of r root algs) 0))) pdu came ≡ Opened text
      → read_nas text ≡ Ok SecurityModeComplete
      → UsesContext s root algs caps ksi (core_step r s (CoreNasPdu pdu) (opener (core_opens r s (CoreNasPdu pdu)) pdu came)).0
  core_takes_context opener pdu came text s ksi root algs caps partial procedure numbers header long counts opens reads =
      let plain = plain_core r s in
      let keys = nas_keys_of r root algs in
      let enough : nat_lt (length pdu) 6 ≡ false = grind (arith, nat_tests) in
      let at = at_core.core_nas_front plain.procedure plain.context pdu (core_header pdu) in
      let front : at ≡ at_core.OpensComplete 0 =
      ap (at_core.core_nas_front plain.procedure plain.context pdu) header
      ∙ ap (λ b. if b then too_short else at_core.complete_front plain.procedure pdu) enough
      ∙ ap (λ o. at_core.complete_front (option_map (map_keys unseen) o) pdu) procedure
      ∙ ap at_core.opens_complete counts in
      let expects : by_core.core_nas_expects at s ≡ OpensNas (nas_use Up keys.int 0) (Some (nas_ciphering Up keys 0)) =
      ap (λ f. by_core.core_nas_expects f s) front ∙ ap (λ o. by_core.opens_by_procedure o 0) procedure in
      let outcome = opener (by_core.core_nas_expects at s) pdu came in
      let out : outcome ≡ Opened text = ap (λ o. opener o pdu came) expects ∙ opens in
      let row : at_core.core_nas_row plain.procedure plain.next plain.link at outcome ≡ at_core.completed_row 0 s.next plain.link =
      (λ j. at_core.core_nas_row plain.procedure plain.next plain.link (front j) (out j)) ∙ ap (at_core.complete_row 0 plain.next plain.link) reads in
      subst (λ x. UsesContext s root algs caps ksi (by_core.core_does_nas r x s).0) (sym row) (by s.link)
    where
      too_short : at_core.CoreNasFront
      too_short = at_core.NasSettled (rows.NasRefused Short)

      fits : (d e : Core Term ℕ) → d ≡ e → UsesContext s root algs caps ksi e → UsesContext s root algs caps ksi d
      fits d e is k = subst (UsesContext s root algs caps ksi) (sym is) k

      by : (link : Option (CoreLink Term ℕ)) → UsesContext s root algs caps ksi (by_core.core_does_nas r (at_core.completed_row 0 s.next (option_map (map_core_link unseen r.ncc) link)) s).0
      by None =
          fits _ _ (λ j. (by_core.smc_complete 0 (partial j) (procedure j) s).0)
          (record { cells = refl; context = refl; not_less = omega arith; one_more = omega arith })
      by (Some l) =
          let free : nat_le at_core.NUMBERS s.next ≡ false = grind (arith, nat_tests) in
          fits _ _ (ap (λ b. (by_core.core_does_nas r (if b then rows.SmcComplete 0 else rows.SmcChange 0 l.conn s.next l.station) s).0) free
          ∙ (λ j. (by_core.key_changed r 0 l.conn s.next l.station (partial j) (procedure j) s).0))
          (record { cells = refl; context = refl; not_less = omega arith; one_more = omega arith })
