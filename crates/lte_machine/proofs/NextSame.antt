-- Over terms, an event has one outcome whether records open by the uses of their senders or by their octets: a record for
-- which the two differ is a coincidence.
use Rattle.std.proofs.Common.{◌≡◌, ℕ, Bool, List, [], ◌∷◌, Option, Some, None, refl, ap, sym, ◌∙◌}
use Rattle.std.specs.List.{position_from}
use Rattle.lte_events.specs.{declared.addresses.Address.Address, declared.events.Event.Event, Class.class_of}
use Rattle.key_model.specs.{HandoverTable.NumberedKey, Term.Term}
use Rattle.s1x2_rec.specs.Fields.{Fields}
use Rattle.lte_machine.specs.{Wire.Outgoing, Ciphers.Ciphers, Ciphers.octets_of, Tuples.Coincidence, Machines.machine_over, Machines.opening_by_octets}
use Rattle.lte_machine.specs.Opening.{Opening, open_octets, open_by_uses}
use Rattle.lte_machine.specs.PhoneState.{PhoneInput, PhoneActs, PhoneNasPdu, PhoneAirPdu}
use Rattle.lte_machine.specs.PhoneStep.{phone_step, phone_opens, phone_pdu_in}
use Rattle.lte_machine.specs.StationState.{Station, StationInput, StationActs, AirPdu, StationRecord, OnS1, OnX2}
use Rattle.lte_machine.specs.StationStep.{station_step, station_opens, station_pdu_in}
use Rattle.lte_machine.specs.CoreState.{CoreInput, CoreActs, CoreNasPdu}
use Rattle.lte_machine.specs.CoreStep.{core_step, core_opens, core_pdu_in}
use Rattle.lte_machine.specs.World.{Machine, World, phone_after, core_after, station_after, phone_turn, core_turn, turn_of, station_of_id, content_in, arrives, record_at, delivery, injected, is_sent, happens}
use Rattle.lte_machine.specs.Step.{attempted, arrival_attempts, attempts_at, delivery_attempts, injection_attempts, opening_coincidence, by_coincidence, next}
use Rattle.lte_machine.specs.Run.{RunState, Running, Stopped, turn, replay, event_report, report, after, reported}
use Rattle.lte_machine.proofs.Opens.{Respects, unsent_alike, sent_alike}
use Rattle.lte_machine.proofs.CipherLaws.{AreCiphers}

module _ (same : Term → Term → Bool) (c : Ciphers Term) (good : AreCiphers c) (respects : Respects same c)
    (between : Fields → Option (NumberedKey Term ℕ) → List ℕ) where
  abbrev m : Machine Term ℕ (Outgoing Term ℕ)
  m = machine_over same c between

  abbrev q : Machine Term ℕ (Outgoing Term ℕ)
  q = opening_by_octets same c between

  abbrev W : Type 0
  W = World Term ℕ (Outgoing Term ℕ)

  -- the octets are those of what came
  abbrev Came : Option (Outgoing Term ℕ) → List ℕ → Type 0
  Came None pdu = Unit {0}
  Came (Some x) pdu = octets_of c between x ≡ pdu

  -- no coincidence
  abbrev Calm : Opening Term → List ℕ → Option (Outgoing Term ℕ) → Type 0
  Calm p pdu o = opening_coincidence (open_octets c) m (record { opening = p; octets = pdu; came = o }) ≡ None

  alike : (p : Opening Term) (pdu : List ℕ) (o : Option (Outgoing Term ℕ)) → Came o pdu → Calm p pdu o → open_by_uses same c p pdu o ≡ open_octets c p pdu
  alike p pdu None came calm = unsent_alike {C = ℕ} c good same respects between p pdu calm
  alike p pdu (Some x) came calm =
      ap (λ t. open_by_uses same c p t (Some x)) (sym came)
      ∙ sent_alike c good same respects between p x
      (ap (λ t. opening_coincidence (open_octets c) m (record { opening = p; octets = t; came = Some x })) came
      ∙ calm)
      ∙ ap (open_octets c p) came

  phone_same : (w : W) (i : PhoneInput Term) (o : Option (Outgoing Term ℕ))
      → Came o (phone_pdu_in i)
      → Calm (phone_opens m.reading w.phone i) (phone_pdu_in i) o
      → phone_turn m w i o ≡ phone_turn q w i o
  phone_same w i o came calm =
      ap (λ x. phone_after q w (phone_step m.reading w.phone i x))
      (alike (phone_opens m.reading w.phone i) (phone_pdu_in i) o came calm)

  core_same : (w : W) (i : CoreInput Term ℕ) (o : Option (Outgoing Term ℕ))
      → Came o (core_pdu_in i)
      → Calm (core_opens m.reading w.core i) (core_pdu_in i) o
      → core_turn m w i o ≡ core_turn q w i o
  core_same w i o came calm = ap (λ x. core_after q w (core_step m.reading w.core i x)) (alike (core_opens m.reading w.core i) (core_pdu_in i) o came calm)

  station_same : (w : W) (id : ℕ) (i : StationInput Term ℕ) (o : Option (Outgoing Term ℕ)) (s : Option (Station Term ℕ)) → Came o (station_pdu_in i)
      → opening_coincidence (open_octets c) m (attempts_at m i o s) ≡ None → turn_of m w id i o s ≡ turn_of q w id i o s
  station_same w id i o None came calm = refl
  station_same w id i o (Some s) came calm =
      ap (λ x. station_after q w id (station_step m.reading s i x))
      (alike (station_opens m.reading s i) (station_pdu_in i) o came calm)

  -- a record on S1 or X2 is not opened
  record_same : (w : W) (id : ℕ) (i : StationInput Term ℕ) (o : Option (Outgoing Term ℕ)) (s : Option (Station Term ℕ))
      → ((t : Station Term ℕ) (p : List ℕ)
      → m.opener (station_opens m.reading t i) p o ≡ q.opener (station_opens m.reading t i) p o)
      → turn_of m w id i o s ≡ turn_of q w id i o s
  record_same w id i o None e = refl
  record_same w id i o (Some s) e = ap (λ x. station_after q w id (station_step m.reading s i x)) (e s (station_pdu_in i))

  arrives_same : (w : W) (to : Address) (pdu : List ℕ) (o : Option (Outgoing Term ℕ))
      → Came o pdu
      → opening_coincidence (open_octets c) m (arrival_attempts m w to pdu o) ≡ None
      → arrives m w to pdu o ≡ arrives q w to pdu o
  arrives_same w Address.PhoneNas pdu o came calm = phone_same w (PhoneNasPdu pdu) o came calm
  arrives_same w (Address.Phone station air bearer) pdu o came calm = phone_same w (PhoneAirPdu station air bearer pdu) o came calm
  arrives_same w Address.CoreNas pdu o came calm = core_same w (CoreNasPdu pdu) o came calm
  arrives_same w Address.CoreS1 pdu o came calm = refl
  arrives_same w (Address.StationAir station air bearer) pdu o came calm =
      station_same w station (AirPdu air bearer pdu) o (station_of_id station w.stations) came calm
  arrives_same w (Address.StationS1 station) pdu o came calm =
      record_same w station (StationRecord OnS1 (content_in m o)) o (station_of_id station w.stations) (λ t p. refl)
  arrives_same w (Address.StationX2 station) pdu o came calm =
      record_same w station (StationRecord OnX2 (content_in m o)) o (station_of_id station w.stations) (λ t p. refl)

  delivered_same : (w : W) (o : Option (Outgoing Term ℕ))
      → opening_coincidence (open_octets c) m (delivery_attempts m w o) ≡ None
      → delivery m w o ≡ delivery q w o
  delivered_same w None calm = refl
  delivered_same w (Some x) calm = arrives_same w (m.address x) (m.octets x) (Some x) refl calm

  injected_same : (w : W) (to : Address) (octets : List ℕ) (o : Option ℕ)
      → opening_coincidence (open_octets c) m (injection_attempts m w to octets o) ≡ None
      → injected m w to octets o ≡ injected q w to octets o
  injected_same w to octets None calm = arrives_same w to octets None tt calm
  injected_same w to octets (Some number) calm = refl

  happens_same : (w : W) (e : Event) → opening_coincidence (open_octets c) m (attempted m w e) ≡ None → happens m w e ≡ happens q w e
  happens_same w (Event.Auth ksi octets caps) calm = refl
  happens_same w (Event.Phone act) calm = phone_same w (PhoneActs act) None tt calm
  happens_same w (Event.Station id act) calm = station_same w id (StationActs act) None (station_of_id id w.stations) tt calm
  happens_same w (Event.Core act) calm = core_same w (CoreActs act) None tt calm
  happens_same w (Event.Deliver i) calm = delivered_same w (record_at i w.sent) calm
  happens_same w (Event.Inject to octets) calm = injected_same w to octets (position_from (is_sent m (class_of to) octets) 0 w.sent) calm

  attempted_same : (w : W) (e : Event) → attempted m w e ≡ attempted q w e
  attempted_same w (Event.Auth ksi octets caps) = refl
  attempted_same w other = refl

  -- an event has one outcome in both
  pub next_same : (w : W) (e : Event) → next (open_octets c) m w e ≡ next (open_octets c) q w e
  next_same w e =
      by_value (opening_coincidence (open_octets c) m (attempted m w e)) refl
      ∙ ap (λ a. by_coincidence same (opening_coincidence (open_octets c) q a) (happens q w e)) (attempted_same w e)
    where
      by_value : (o : Option (Coincidence Term)) → opening_coincidence (open_octets c) m (attempted m w e) ≡ o
          → by_coincidence same (opening_coincidence (open_octets c) m (attempted m w e)) (happens m w e)
          ≡ by_coincidence same (opening_coincidence (open_octets c) m (attempted m w e)) (happens q w e)
      by_value (Some coincidence) is = (λ j. by_coincidence same (is j) (happens m w e)) ∙ sym (λ j. by_coincidence same (is j) (happens q w e))
      by_value None is = ap (by_coincidence same (opening_coincidence (open_octets c) m (attempted m w e))) (happens_same w e is)

  pub turn_same : (r : RunState Term ℕ (Outgoing Term ℕ)) (e : Event) → turn (open_octets c) m r e ≡ turn (open_octets c) q r e
  turn_same (Stopped coincidence) e = refl
  turn_same (Running w) e = ap after (next_same w e)

  -- and so has a run
  pub replay_same : (r : RunState Term ℕ (Outgoing Term ℕ)) (es : List Event) → replay (open_octets c) m r es ≡ replay (open_octets c) q r es
  replay_same r [] = refl
  replay_same r (e ∷ es) = replay_same (turn (open_octets c) m r e) es ∙ ap (λ x. replay (open_octets c) q x es) (turn_same r e)

  says_same : (r : RunState Term ℕ (Outgoing Term ℕ)) (e : Event) → event_report (open_octets c) m r e ≡ event_report (open_octets c) q r e
  says_same (Stopped coincidence) e = refl
  says_same (Running w) e = ap reported (next_same w e)

  pub tale_same : (r : RunState Term ℕ (Outgoing Term ℕ)) (es : List Event) → report (open_octets c) m r es ≡ report (open_octets c) q r es
  tale_same r [] = refl
  tale_same r (e ∷ es) = λ j. says_same r e j ∷ (tale_same (turn (open_octets c) m r e) es ∙ ap (λ x. report (open_octets c) q x es) (turn_same r e)) j
