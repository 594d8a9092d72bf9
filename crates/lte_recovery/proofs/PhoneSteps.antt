-- The three steps of the phone: it goes idle, asks for a connection, and takes the key of its connection.
use Rattle.std.proofs.Common.{◌≡◌, ℕ, ◌<◌, Bool, true, false, if◌then◌else◌, List, Option, Some, None, option_map, Ok, refl, ap, ◌∙◌, arith}
use Rattle.std.specs.Prelude.{◌==◌, ◌&&◌, nat_le}
use Rattle.std.proofs.lemmas.Bool.Decides.{nat_tests}
use Rattle.alg_choice.specs.{Choice.are_supported, declared.algs.Algs.Algs}
use Rattle.rec_base.specs.declared.bearers.Bearer.TheVariants.{Srb1}
use Rattle.rec_base.specs.declared.uses.Dir.TheVariants.{Up, Down}
use Rattle.lte_events.specs.{declared.acts.PhoneAct.PhoneAct, declared.answers.Answer.TheVariants.AlgUnsupported}
use Rattle.key_model.specs.{Term.Term, Term.Kenb, Reading.Reading, Reading.term_reading_by}
use Rattle.nas_count.specs.Estimate.{nas_count_limit}
use Rattle.nas_rec.specs.{declared.records.NasRecord.TheVariants.ServiceRequest, Spelling.spelling_of as nas_spelling}
use Rattle.nh_chain.specs.Chain.{begun}
use Rattle.pdcp_guard.specs.{AsKeys.as_keys_of, Srb.srb_count}
use Rattle.rrc_rec.specs.declared.records.RrcRecord.TheVariants.{SecurityModeCommand, SecurityModeComplete}
use Rattle.rrc_rec.specs.{Reading.read_rrc, Spelling.spelling_of as rrc_spelling}
use Rattle.lte_machine.specs.Bearers.{Signalling1, which, new_bearers, srb_sent, srb_taken}
use Rattle.lte_machine.specs.Wire.{nas_use, srb_use, Outgoing, SealedNas, SealedRrc}
use Rattle.lte_machine.specs.Opening.{OpensSrb, Outcome, Opened}
use Rattle.lte_machine.specs.{Reply.Reply, Reply.unseen, PhoneChoice.unciphered_text, PhoneKeys.one_nas_sent}
use Rattle.lte_machine.specs.PhoneState.{NasContext, Waiting, Link, Radio, Idle, Connecting, Connected, Phone, PhoneActs, PhoneAirPdu, map_context, map_radio}
use Rattle.lte_machine.specs.PhoneRows.{AirRefused, LinkSecured, ServiceRequested}
use Rattle.lte_machine.specs.PhoneChoice as at_phone
use Rattle.lte_machine.specs.PhoneKeys as by_phone
use Rattle.lte_machine.specs.PhoneStep.{plain_phone, phone_step, phone_opens}
use Rattle.lte_properties.proofs.Opening.Steps.{Opener}

-- a step leads to this state and sends this
abbrev pub Goes : {A : Type 0} → A × Reply Term ℕ → A → Option (Outgoing Term ℕ) → Type 0
Goes d a sent = (d.0 ≡ a) × (d.1.sent ≡ sent)

itself : (n : ℕ) → (n == n) ≡ true
itself n = grind (arith, nat_tests)

-- a phone that is idle
abbrev pub idle_of : Phone Term ℕ → Phone Term ℕ
idle_of s = record s { radio = Idle }

-- and one that asked for a connection
abbrev pub asking_of : Phone Term ℕ → NasContext Term → Phone Term ℕ
asking_of s c = record s {
  context = Some (one_nas_sent c);
  radio = Connecting (record { root = c.root; kenb = Kenb c.root c.send });
}

abbrev pub request_of : NasContext Term → Outgoing Term ℕ
request_of c = SealedNas Up 1 (nas_use Up c.keys.int c.send) None (nas_spelling ServiceRequest)

module _ (same : Term → Term → Bool) where
  abbrev r : Reading Term ℕ
  r = term_reading_by same

  abbrev pub link_of : ℕ → ℕ → Algs → Term → Term → Link Term ℕ
  link_of station air algs root kenb = record {
    station = station;
    air = air;
    chain = begun r root kenb;
    kenb = kenb;
    keys = as_keys_of r kenb algs;
    bearers = srb_sent Signalling1 (srb_taken Signalling1 0 new_bearers);
    by_handover = false;
  }

  -- IT GOES IDLE, if it is not
  pub phone_idles : (s : Phone Term ℕ) (outcome : Outcome) → (phone_step r s (PhoneActs PhoneAct.GoIdle) outcome).0 ≡ idle_of s
  phone_idles s outcome = by s.radio refl
    where
      by : (radio : Radio Term ℕ) → s.radio ≡ radio → (phone_step r s (PhoneActs PhoneAct.GoIdle) outcome).0 ≡ idle_of s
      by Idle is =
          ap (λ x. (by_phone.act_does r (at_phone.idle_row (map_radio unseen r.ncc x)) s).0) is ∙ (λ j. record s { radio = is j })
      by (Connecting waiting) is = ap (λ x. (by_phone.act_does r (at_phone.idle_row (map_radio unseen r.ncc x)) s).0) is
      by (Connected l) is = ap (λ x. (by_phone.act_does r (at_phone.idle_row (map_radio unseen r.ncc x)) s).0) is

  -- IT ASKS: a Service Request under its next COUNT
  pub phone_asks : (s : Phone Term ℕ) (c : NasContext Term) (outcome : Outcome)
      → s.radio ≡ Idle
      → s.context ≡ Some c
      → c.send < nas_count_limit
      → Goes (phone_step r s (PhoneActs PhoneAct.ServiceRequest) outcome) (asking_of s c) (Some (request_of c))
  phone_asks s c outcome idle context left =
      let free : nat_le nas_count_limit c.send ≡ false = grind (arith, nat_tests) in
      let row : at_phone.service_row (plain_phone r s).context (plain_phone r s).radio ≡ ServiceRequested =
      (λ j. at_phone.service_row (option_map (map_context unseen) (context j)) (map_radio unseen r.ncc (idle j)))
      ∙ ap (λ b. at_phone.unless_spent b ServiceRequested) free in
      let does : by_phone.act_does r (at_phone.service_row (plain_phone r s).context (plain_phone r s).radio) s ≡ by_phone.service_requested r s (Some c) =
      ap (λ x. by_phone.act_does r x s) row ∙ ap (by_phone.service_requested r s) context in
      (ap (λ d. d.0) does, ap (λ d. d.1.sent) does)

  -- IT TAKES THE KEY of the connection that it asked for
  pub phone_takes : (opener : Opener) (pdu : List ℕ) (came : Option (Outgoing Term ℕ)) (text : List ℕ)
      (s : Phone Term ℕ) (w : Waiting Term) (station air : ℕ) (algs : Algs)
      → s.radio ≡ Connecting w
      → srb_count 0 pdu ≡ Ok 0
      → read_rrc (unciphered_text pdu) ≡ Ok (SecurityModeCommand algs station air)
      → are_supported s.caps algs ≡ true
      → opener (OpensSrb (srb_use Down (as_keys_of r w.kenb algs).rrc_int Signalling1 0) None) pdu came ≡ Opened text
      → Goes (phone_step r s (PhoneAirPdu station air Srb1 pdu) (opener (phone_opens r s (PhoneAirPdu station air Srb1 pdu)) pdu came))
      (record s { radio = Connected (link_of station air algs w.root w.kenb) })
      (Some (SealedRrc Up station air Signalling1 (srb_use Up (as_keys_of r w.kenb algs).rrc_int Signalling1 0) None (rrc_spelling SecurityModeComplete)))
  phone_takes opener pdu came text s w station air algs radio counts reads supported opens =
      let at = at_phone.air_front s.caps station air pdu (which Srb1) (map_radio unseen r.ncc s.radio) in
      let named : ((station == station) && (air == air)) ≡ true = λ j. itself station j && itself air j in
      let front : at ≡ at_phone.AtStart 0 algs true station air =
      ap (λ x. at_phone.air_front s.caps station air pdu (which Srb1) (map_radio unseen r.ncc x)) radio
      ∙ ap (at_phone.start_at s.caps station air pdu) counts
      ∙ ap (at_phone.start_read s.caps station air 0) reads
      ∙ ap (λ b. if b then at_phone.AtStart 0 algs ((station == station) && (air == air)) station air else unsupported) supported
      ∙ ap (λ b. at_phone.AtStart 0 algs b station air) named in
      let expects : by_phone.air_expects r at s ≡ OpensSrb (srb_use Down (as_keys_of r w.kenb algs).rrc_int Signalling1 0) None =
      ap (λ f. by_phone.air_expects r f s) front ∙ ap (by_phone.start_expects r 0 algs) radio in
      let outcome = opener (by_phone.air_expects r at s) pdu came in
      let out : outcome ≡ Opened text = ap (λ p. opener p pdu came) expects ∙ opens in
      let row : at_phone.air_row s.caps at outcome ≡ LinkSecured station air algs 0 = λ j. at_phone.air_row s.caps (front j) (out j) in
      let does : by_phone.air_does r (at_phone.air_row s.caps at outcome) s ≡ by_phone.link_secured r station air algs 0 s (Connecting w) =
      ap (λ k. by_phone.air_does r k s) row ∙ ap (by_phone.link_secured r station air algs 0 s) radio in
      (ap (λ d. d.0) does, ap (λ d. d.1.sent) does)
    where
      unsupported : at_phone.AirFront
      unsupported = at_phone.AirSettled (AirRefused (AlgUnsupported algs))
