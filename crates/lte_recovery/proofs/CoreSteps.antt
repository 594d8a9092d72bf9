-- The two steps of the core: it takes a Service Request, and sets up a connection for it.
use Rattle.std.proofs.Common.{◌≡◌, ℕ, ◌+◌, ◌<◌, ◌≤◌, Bool, false, if◌then◌else◌, List, length, Option, Some, None, option_map, Ok, ap, ◌∙◌, arith}
use Rattle.std.specs.Prelude.{nat_le, nat_lt}
use Rattle.std.proofs.lemmas.Bool.Decides.{nat_tests}
use Rattle.annex_a_keys.specs.Cell.{Place}
use Rattle.rec_base.specs.declared.uses.Dir.TheVariants.{Up}
use Rattle.lte_events.specs.{Site.station_of, declared.acts.CoreAct.CoreAct, declared.addresses.Address.TheVariants.StationS1}
use Rattle.lte_events.specs.declared.answers.Answer.TheVariants.{NumberSpent, Short}
use Rattle.key_model.specs.{Term.Term, Term.Kenb, Reading.Reading, Reading.term_reading_by}
use Rattle.nas_count.specs.Estimate.{estimate_of}
use Rattle.nas_guard.specs.Open.{sn_in}
use Rattle.nas_rec.specs.{declared.records.NasRecord.TheVariants.ServiceRequest, Reading.read_nas}
use Rattle.s1x2_rec.specs.Fields.{InitialContext}
use Rattle.lte_machine.specs.Wire.{nas_use, Outgoing, Between}
use Rattle.lte_machine.specs.Opening.{OpensNas, Outcome, Opened}
use Rattle.lte_machine.specs.{Reply.unseen, CoreChoice.core_header, CoreKeys.chain_from, CoreKeys.nas_taken}
use Rattle.lte_machine.specs.CoreState.{Core, CoreContext, CoreNasPdu, CoreActs, map_core_context}
use Rattle.lte_machine.specs.CoreRows as rows
use Rattle.lte_machine.specs.CoreChoice as at_core
use Rattle.lte_machine.specs.CoreKeys as by_core
use Rattle.lte_machine.specs.CoreStep.{plain_core, core_step, core_opens}
use Rattle.lte_properties.proofs.Opening.Steps.{Opener}
use Rattle.lte_recovery.proofs.PhoneSteps.{Goes}

abbrev too_short : at_core.CoreNasFront
too_short = at_core.NasSettled (rows.NasRefused Short)

-- a core whose next connection is triggered
abbrev pub asked_of : Core Term ℕ → CoreContext Term → ℕ → Core Term ℕ
asked_of s c count = record s { context = Some (nas_taken count c); trigger = Some count }

module _ (same : Term → Term → Bool) where
  abbrev r : Reading Term ℕ
  r = term_reading_by same

  -- IT TAKES A SERVICE REQUEST
  pub core_asked : (opener : Opener) (pdu : List ℕ) (came : Option (Outgoing Term ℕ)) (text : List ℕ) (s : Core Term ℕ) (c : CoreContext Term) (count : ℕ)
      → s.context ≡ Some c
      → core_header pdu ≡ Ok 1
      → 6 ≤ length pdu
      → estimate_of c.nas.receive (sn_in pdu) ≡ Ok count
      → opener (OpensNas (nas_use Up c.nas.keys.int count) None) pdu came ≡ Opened text
      → read_nas text ≡ Ok ServiceRequest
      → (core_step r s (CoreNasPdu pdu) (opener (core_opens r s (CoreNasPdu pdu)) pdu came)).0 ≡ asked_of s c count
  core_asked opener pdu came text s c count context header long counts opens reads =
      let plain = plain_core r s in
      let enough : nat_lt (length pdu) 6 ≡ false = grind (arith, nat_tests) in
      let at = at_core.core_nas_front plain.procedure plain.context pdu (core_header pdu) in
      let front : at ≡ at_core.OpensProtected 1 count =
      ap (at_core.core_nas_front plain.procedure plain.context pdu) header
      ∙ ap (λ b. if b then too_short else at_core.protected_front plain.context 1 pdu) enough
      ∙ ap (λ o. at_core.protected_front (option_map (map_core_context unseen) o) 1 pdu) context
      ∙ ap (at_core.opens_protected 1) counts in
      let expects : by_core.core_nas_expects at s ≡ OpensNas (nas_use Up c.nas.keys.int count) None =
      ap (λ f. by_core.core_nas_expects f s) front ∙ ap (λ o. by_core.opens_by_context o 1 count) context in
      let outcome = opener (by_core.core_nas_expects at s) pdu came in
      let out : outcome ≡ Opened text = ap (λ p. opener p pdu came) expects ∙ opens in
      let row : at_core.core_nas_row plain.procedure plain.next plain.link at outcome ≡ rows.ServiceAsked count =
      (λ j. at_core.core_nas_row plain.procedure plain.next plain.link (front j) (out j)) ∙ ap (at_core.protected_row plain.procedure count) reads in
      ap (λ k. (by_core.core_does_nas r k s).0) row ∙ ap (λ o. (by_core.service_asked count o s).0) context

  -- IT SETS UP A CONNECTION
  pub core_connects : (s : Core Term ℕ) (c : CoreContext Term) (cell : Place) (id count : ℕ) (outcome : Outcome)
      → s.context ≡ Some c
      → s.trigger ≡ Some count
      → station_of cell s.cells ≡ Some id
      → s.next < 4294967296
      → Goes (core_step r s (CoreActs (CoreAct.Connect cell)) outcome)
      (record s {
        trigger = None;
        next = s.next + 1;
        link = Some (record { conn = s.next; chain = chain_from r s.first_ncc c.nas.root (Kenb c.nas.root count); station = id });
      })
      (Some (Between (StationS1 id) (InitialContext s.next cell c.caps) (Some (record { key = Kenb c.nas.root count; number = 0 }))))
  core_connects s c cell id count outcome context trigger serves numbers =
      let free : nat_le at_core.NUMBERS s.next ≡ false = grind (arith, nat_tests) in
      let row : at_core.core_act_row (plain_core r s) (CoreAct.Connect cell) ≡ rows.ContextSetUp s.next cell id c.caps count =
      (λ j. at_core.connect_row s.next cell (serves j) (option_map (map_core_context unseen) (context j)) (trigger j))
      ∙ ap (λ b. if b then rows.ActRefused NumberSpent else rows.ContextSetUp s.next cell id c.caps count) free in
      let does : by_core.core_does_act r (at_core.core_act_row (plain_core r s) (CoreAct.Connect cell)) s
      ≡ by_core.context_set_up r s.next cell id c.caps count (Some c) s =
      ap (λ x. by_core.core_does_act r x s) row ∙ ap (λ o. by_core.context_set_up r s.next cell id c.caps count o s) context in
      (ap (λ d. d.0) does, ap (λ d. d.1.sent) does)
