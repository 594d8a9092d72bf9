-- A step of the phone is carried where the readings are.
use Rattle.std.proofs.Common.{◌≡◌, ℕ, Bool, true, false, List, Option, Some, None, refl, sym, ◌∙◌, ap}
use Rattle.std.specs.Prelude.{option_map}
use Rattle.std.proofs.lemmas.List.{map-append}
use Rattle.alg_choice.specs.{declared.algs.Algs.Algs, Algs.identity_of, Algs.eia2_identity}
use Rattle.annex_a_keys.specs.Cell.{Place}
use Rattle.lte_events.specs.declared.answers.Answer.{Answer}
use Rattle.key_model.specs.{Reading.Reading, Reading.Carries, Derivation.map_derivation}
use Rattle.nh_chain.specs.Reach.{Reached, reached_after}
use Rattle.pdcp_guard.specs.AsKeys.{as_derivations}
use Rattle.lte_machine.specs.Bearers.{Srb, Drb, Which}
use Rattle.lte_machine.specs.Opening.{Outcome, accepted_of}
use Rattle.lte_machine.specs.Reply.{finished, unseen, Before, map_before, Came, Commanded, Changed, map_came}
use Rattle.lte_machine.specs.PhoneState.{Partial, map_partial, NasContext, map_context, map_link, Radio, Idle, Connecting, Connected, map_radio, Phone, map_phone, PhoneInput, PhoneAuth, map_phone_input}
use Rattle.lte_machine.specs.PhoneRows.{Authenticated, NasRow, NasRefused, RejectedPlain, RejectedUnder, ContextTaken, ContextTakenConnected, NasOpened, AirRow, AirRefused, LinkSecured, HandedOver, RrcOpened, PacketOpened, ActRow, ActRefused, ServiceRequested, CompleteResent, WentIdle, PacketSent, RrcSent, NasSent, NasSkipped, BearerSkipped, PhoneRow, OfAuth, OfNas, OfAir, OfAct, KeyChanged}
use Rattle.lte_machine.specs.PhoneChoice.{NasFront, NasSettled, AtCommand, AtMessage, AirFront, AirSettled, AtStart, AtSignalling, AtPacket, PhoneFront, Settled, FromNas, FromAir, phone_front, phone_row}
use Rattle.lte_machine.specs.PhoneKeys.{command_expects, message_expects, nas_expects, start_expects, signalling_expects, packet_expects, air_expects, phone_expects, authenticated, rejected_under, context_taken, context_taken_connected, nas_opened, nas_does, link_secured, arrived, handed_over, rrc_opened, packet_opened, air_does, service_requested, complete_resent, packet_sent, rrc_sent, nas_sent, nas_skipped, bearer_skipped, act_does, phone_does, before_of, reached_anew, changed_unless, key_changed}
use Rattle.lte_machine.specs.PhoneStep.{phone_root, plain_phone, plain_input, front_of, phone_opens, phone_step}
use Rattle.nh_chain.proofs.CarryFacts.{reached_after-map, map_reached}
use Rattle.lte_machine.proofs.MapSteps.{map_opening, map_phone_step, accepted-map, ciphering_if-map}

module _ {K C L D : Type 0} (r : Reading K C) (q : Reading L D) (f : K → L) (g : C → D) (c : Carries r q f g) where
  -- the plain view is the same

  plain_partial : (o : Option (Partial K)) → option_map (map_partial unseen) (option_map (map_partial f) o) ≡ option_map (map_partial unseen) o
  plain_partial None = refl
  plain_partial (Some p) = refl

  plain_context : (o : Option (NasContext K)) → option_map (map_context unseen) (option_map (map_context f) o) ≡ option_map (map_context unseen) o
  plain_context None = refl
  plain_context (Some n) = refl

  plain_radio : (radio : Radio K C) → map_radio unseen q.ncc (map_radio f g radio) ≡ map_radio unseen r.ncc radio
  plain_radio Idle = refl
  plain_radio (Connecting w) = refl
  plain_radio (Connected l) = rw (c.ncc l.chain.number) refl

  plain_phone-map : (s : Phone K C) → plain_phone q (map_phone f g s) ≡ plain_phone r s
  plain_phone-map s = λ j. record {
    caps = s.caps;
    partial = plain_partial s.partial j;
    context = plain_context s.context j;
    radio = plain_radio s.radio j;
  }

  plain_input-map : (i : PhoneInput K) → plain_input (map_phone_input f i) ≡ plain_input i
  plain_input-map (PhoneAuth ksi root) = refl
  plain_input-map other = refl

  front_of-map : (s : Phone K C) (i : PhoneInput K) → front_of r s i ≡ front_of q (map_phone f g s) (map_phone_input f i)
  front_of-map s i = λ j. phone_front (sym (plain_phone-map s) j) (sym (plain_input-map i) j)

  phone_root-map : (i : PhoneInput K) → option_map f (phone_root i) ≡ phone_root (map_phone_input f i)
  phone_root-map (PhoneAuth ksi root) = refl
  phone_root-map other = refl

  -- the uses that an opening needs

  command_expects-map : (count : ℕ) (algs : Algs) (o : Option (Partial K))
      → map_opening f (command_expects r count algs o) ≡ command_expects q count algs (option_map (map_partial f) o)
  command_expects-map count algs None = refl
  command_expects-map count algs (Some p) = rw (c.alg p.root 2 eia2_identity) refl

  message_expects-map : (count header : ℕ) (o : Option (NasContext K))
      → map_opening f (message_expects count header o) ≡ message_expects count header (option_map (map_context f) o)
  message_expects-map count header None = refl
  message_expects-map count header (Some n) = rw (ciphering_if-map f) refl

  nas_expects-map : (front : NasFront) (s : Phone K C) → map_opening f (nas_expects r front s) ≡ nas_expects q front (map_phone f g s)
  nas_expects-map (NasSettled row) s = refl
  nas_expects-map (AtCommand count algs caps) s = command_expects-map count algs s.partial
  nas_expects-map (AtMessage count header) s = message_expects-map count header s.context

  start_expects-map : (count : ℕ) (algs : Algs) (radio : Radio K C)
      → map_opening f (start_expects r count algs radio) ≡ start_expects q count algs (map_radio f g radio)
  start_expects-map count algs Idle = refl
  start_expects-map count algs (Connecting w) = rw (c.alg w.kenb 4 eia2_identity) refl
  start_expects-map count algs (Connected l) = refl

  signalling_expects-map : (srb : Srb) (count : ℕ) (radio : Radio K C)
      → map_opening f (signalling_expects srb count radio) ≡ signalling_expects srb count (map_radio f g radio)
  signalling_expects-map srb count (Connected l) = refl
  signalling_expects-map srb count other = refl

  packet_expects-map : (drb : Drb) (count : ℕ) (radio : Radio K C)
      → map_opening f (packet_expects drb count radio) ≡ packet_expects drb count (map_radio f g radio)
  packet_expects-map drb count (Connected l) = refl
  packet_expects-map drb count other = refl

  air_expects-map : (front : AirFront) (s : Phone K C) → map_opening f (air_expects r front s) ≡ air_expects q front (map_phone f g s)
  air_expects-map (AirSettled row) s = refl
  air_expects-map (AtStart count algs named station air) s = start_expects-map count algs s.radio
  air_expects-map (AtSignalling srb count own) s = signalling_expects-map srb count s.radio
  air_expects-map (AtPacket drb count) s = packet_expects-map drb count s.radio

  phone_expects-map : (front : PhoneFront) (s : Phone K C) → map_opening f (phone_expects r front s) ≡ phone_expects q front (map_phone f g s)
  phone_expects-map (Settled row) s = refl
  phone_expects-map (FromNas front) s = nas_expects-map front s
  phone_expects-map (FromAir front) s = air_expects-map front s

  -- the rows on NAS messages

  authenticated-map : (ksi : ℕ) (s : Phone K C) (root : Option K)
      → map_phone_step f g (authenticated ksi s root) ≡ authenticated ksi (map_phone f g s) (option_map f root)
  authenticated-map ksi s None = refl
  authenticated-map ksi s (Some root) = refl

  rejected_under-map : (answer : Answer) (cause : ℕ) (s : Phone K C) (o : Option (NasContext K))
      → map_phone_step f g (rejected_under answer cause s o)
      ≡ rejected_under answer cause (map_phone f g s) (option_map (map_context f) o)
  rejected_under-map answer cause s None = refl
  rejected_under-map answer cause s (Some n) = refl

  context_taken-map : (algs : Algs) (count : ℕ) (s : Phone K C) (o : Option (Partial K))
      → map_phone_step f g (context_taken r algs count s o)
      ≡ context_taken q algs count (map_phone f g s) (option_map (map_partial f) o)
  context_taken-map algs count s None = refl
  context_taken-map algs count s (Some p) =
      rw (c.kenb p.root 0, c.alg p.root 1 (identity_of algs.eea), c.alg p.root 2 eia2_identity) refl

  context_taken_connected-map : (algs : Algs) (count : ℕ) (s : Phone K C) (o : Option (Partial K))
      → map_phone_step f g (context_taken_connected r algs count s o)
      ≡ context_taken_connected q algs count (map_phone f g s) (option_map (map_partial f) o)
  context_taken_connected-map algs count s None = refl
  context_taken_connected-map algs count s (Some p) =
      rw (c.alg p.root 1 (identity_of algs.eea), c.alg p.root 2 eia2_identity) refl

  nas_opened-map : (count : ℕ) (text : List ℕ) (s : Phone K C) (o : Option (NasContext K))
      → map_phone_step f g (nas_opened count text s o)
      ≡ nas_opened count text (map_phone f g s) (option_map (map_context f) o)
  nas_opened-map count text s None = refl
  nas_opened-map count text s (Some n) = refl

  nas_does-map : (row : NasRow) (s : Phone K C) → map_phone_step f g (nas_does r row s) ≡ nas_does q row (map_phone f g s)
  nas_does-map (NasRefused answer) s = refl
  nas_does-map (RejectedPlain answer cause) s = refl
  nas_does-map (RejectedUnder answer cause) s = rejected_under-map answer cause s s.context
  nas_does-map (ContextTaken algs count) s = context_taken-map algs count s s.partial
  nas_does-map (ContextTakenConnected algs count) s = context_taken_connected-map algs count s s.partial
  nas_does-map (NasOpened count text) s = nas_opened-map count text s s.context

  -- the rows on PDUs of radio bearers

  link_secured-map : (station air : ℕ) (algs : Algs) (count : ℕ) (s : Phone K C) (radio : Radio K C)
      → map_phone_step f g (link_secured r station air algs count s radio)
      ≡ link_secured q station air algs count (map_phone f g s) (map_radio f g radio)
  link_secured-map station air algs count s Idle = refl
  link_secured-map station air algs count s (Connecting w) =
      rw (c.alg w.kenb 3 (identity_of algs.eea), c.alg w.kenb 4 eia2_identity, c.alg w.kenb 5 (identity_of algs.eea), ← c.ncc r.first, c.first) refl
  link_secured-map station air algs count s (Connected l) = refl

  arrived-map : (algs : Algs) (station air : ℕ) (s : Phone K C) (came : Came K C) (x : Reached K C)
      → map_phone_step f g (arrived r algs station air s came x)
      ≡ arrived q algs station air (map_phone f g s) (map_came f g came) (map_reached f g x)
  arrived-map algs station air s came x =
      rw (
        map-append (map_derivation f) x.made (as_derivations r x.star.key algs),
        c.alg x.star.key 3 (identity_of algs.eea),
        c.alg x.star.key 4 eia2_identity,
        c.alg x.star.key 5 (identity_of algs.eea),
        ← c.ncc x.star.number,
      )
      refl

  handed_over-map : (cell : Place) (steps : ℕ) (algs : Algs) (station air : ℕ) (s : Phone K C) (radio : Radio K C)
      → map_phone_step f g (handed_over r cell steps algs station air s radio)
      ≡ handed_over q cell steps algs station air (map_phone f g s) (map_radio f g radio)
  handed_over-map cell steps algs station air s Idle = refl
  handed_over-map cell steps algs station air s (Connecting w) = refl
  handed_over-map cell steps algs station air s (Connected l) =
      arrived-map algs station air s (Commanded (before_of l)) (reached_after r l.chain l.kenb steps cell)
      ∙ ap (arrived q algs station air (map_phone f g s) (Commanded (before_of (map_link f g l)))) (reached_after-map r q f g c l.chain l.kenb steps cell)

  reached_anew-map : (root : K) (cell : Place) → map_reached f g (reached_anew r root cell) ≡ reached_anew q (f root) cell
  reached_anew-map root cell = rw (c.star (r.kenb root 0) cell.pci cell.earfcn, c.kenb root 0, c.first) refl

  changed_unless-map : (cell : Place) (algs : Algs) (station air : ℕ) (s : Phone K C) (before : Before K C)
      (root : K) (same : Bool)
      → map_phone_step f g (changed_unless r cell algs station air s before root same)
      ≡ changed_unless q cell algs station air (map_phone f g s) (map_before f g before) (f root) same
  changed_unless-map cell algs station air s before root true = refl
  changed_unless-map cell algs station air s before root false =
      arrived-map algs station air s (Changed before root) (reached_anew r root cell)
      ∙ ap (arrived q algs station air (map_phone f g s) (Changed (map_before f g before) (f root))) (reached_anew-map root cell)

  key_changed-map : (cell : Place) (algs : Algs) (station air : ℕ) (s : Phone K C) (radio : Radio K C)
      (o : Option (NasContext K))
      → map_phone_step f g (key_changed r cell algs station air s radio o)
      ≡ key_changed q cell algs station air (map_phone f g s) (map_radio f g radio) (option_map (map_context f) o)
  key_changed-map cell algs station air s (Connected l) (Some n) =
      changed_unless-map cell algs station air s (before_of l) n.root (r.same n.root l.chain.root)
      ∙ ap (changed_unless q cell algs station air (map_phone f g s) (before_of (map_link f g l)) (f n.root)) (sym (c.same n.root l.chain.root))
  key_changed-map cell algs station air s other rest = refl

  rrc_opened-map : (srb : Srb) (count : ℕ) (text : List ℕ) (s : Phone K C) (radio : Radio K C)
      → map_phone_step f g (rrc_opened srb count text s radio)
      ≡ rrc_opened srb count text (map_phone f g s) (map_radio f g radio)
  rrc_opened-map srb count text s (Connected l) = refl
  rrc_opened-map srb count text s other = refl

  packet_opened-map : (drb : Drb) (count : ℕ) (text : List ℕ) (s : Phone K C) (radio : Radio K C)
      → map_phone_step f g (packet_opened drb count text s radio)
      ≡ packet_opened drb count text (map_phone f g s) (map_radio f g radio)
  packet_opened-map drb count text s (Connected l) = refl
  packet_opened-map drb count text s other = refl

  air_does-map : (row : AirRow) (s : Phone K C) → map_phone_step f g (air_does r row s) ≡ air_does q row (map_phone f g s)
  air_does-map (AirRefused answer) s = refl
  air_does-map (LinkSecured station air algs count) s = link_secured-map station air algs count s s.radio
  air_does-map (HandedOver cell steps algs station air) s = handed_over-map cell steps algs station air s s.radio
  air_does-map (KeyChanged cell algs station air) s = key_changed-map cell algs station air s s.radio s.context
  air_does-map (RrcOpened srb count text) s = rrc_opened-map srb count text s s.radio
  air_does-map (PacketOpened drb count text) s = packet_opened-map drb count text s s.radio

  -- the rows on acts of the phone's own

  service_requested-map : (s : Phone K C) (o : Option (NasContext K))
      → map_phone_step f g (service_requested r s o)
      ≡ service_requested q (map_phone f g s) (option_map (map_context f) o)
  service_requested-map s None = refl
  service_requested-map s (Some n) = rw (c.kenb n.root n.send) refl

  complete_resent-map : (s : Phone K C) (radio : Radio K C)
      → map_phone_step f g (complete_resent s radio) ≡ complete_resent (map_phone f g s) (map_radio f g radio)
  complete_resent-map s (Connected l) = refl
  complete_resent-map s other = refl

  packet_sent-map : (drb : Drb) (text : List ℕ) (s : Phone K C) (radio : Radio K C)
      → map_phone_step f g (packet_sent drb text s radio) ≡ packet_sent drb text (map_phone f g s) (map_radio f g radio)
  packet_sent-map drb text s (Connected l) = refl
  packet_sent-map drb text s other = refl

  rrc_sent-map : (srb : Srb) (text : List ℕ) (s : Phone K C) (radio : Radio K C)
      → map_phone_step f g (rrc_sent srb text s radio) ≡ rrc_sent srb text (map_phone f g s) (map_radio f g radio)
  rrc_sent-map srb text s (Connected l) = refl
  rrc_sent-map srb text s other = refl

  nas_sent-map : (text : List ℕ) (s : Phone K C) (o : Option (NasContext K))
      → map_phone_step f g (nas_sent text s o) ≡ nas_sent text (map_phone f g s) (option_map (map_context f) o)
  nas_sent-map text s None = refl
  nas_sent-map text s (Some n) = refl

  nas_skipped-map : (n : ℕ) (s : Phone K C) (o : Option (NasContext K))
      → map_phone_step f g (nas_skipped n s o) ≡ nas_skipped n (map_phone f g s) (option_map (map_context f) o)
  nas_skipped-map n s None = refl
  nas_skipped-map n s (Some m) = refl

  bearer_skipped-map : (bearer : Which) (n : ℕ) (s : Phone K C) (radio : Radio K C)
      → map_phone_step f g (bearer_skipped bearer n s radio)
      ≡ bearer_skipped bearer n (map_phone f g s) (map_radio f g radio)
  bearer_skipped-map bearer n s (Connected l) = refl
  bearer_skipped-map bearer n s other = refl

  act_does-map : (row : ActRow) (s : Phone K C) → map_phone_step f g (act_does r row s) ≡ act_does q row (map_phone f g s)
  act_does-map (ActRefused answer) s = refl
  act_does-map ServiceRequested s = service_requested-map s s.context
  act_does-map CompleteResent s = complete_resent-map s s.radio
  act_does-map WentIdle s = refl
  act_does-map (PacketSent drb text) s = packet_sent-map drb text s s.radio
  act_does-map (RrcSent srb text) s = rrc_sent-map srb text s s.radio
  act_does-map (NasSent text) s = nas_sent-map text s s.context
  act_does-map (NasSkipped n) s = nas_skipped-map n s s.context
  act_does-map (BearerSkipped bearer n) s = bearer_skipped-map bearer n s s.radio

  phone_does-map : (row : PhoneRow) (root : Option K) (s : Phone K C)
      → map_phone_step f g (phone_does r row root s) ≡ phone_does q row (option_map f root) (map_phone f g s)
  phone_does-map (OfAuth (Authenticated ksi)) root s = authenticated-map ksi s root
  phone_does-map (OfNas row) root s = nas_does-map row s
  phone_does-map (OfAir row) root s = air_does-map row s
  phone_does-map (OfAct row) root s = act_does-map row s

  -- what an input would open, and a step

  pub phone_opens_map : (s : Phone K C) (i : PhoneInput K) → map_opening f (phone_opens r s i) ≡ phone_opens q (map_phone f g s) (map_phone_input f i)
  phone_opens_map s i =
      phone_expects-map (front_of r s i) s
      ∙ (λ j. phone_expects q (front_of-map s i j) (map_phone f g s))

  pub phone_step_map : (s : Phone K C) (i : PhoneInput K) (outcome : Outcome)
      → map_phone_step f g (phone_step r s i outcome) ≡ phone_step q (map_phone f g s) (map_phone_input f i) outcome
  phone_step_map s i outcome =
      let done = phone_does-map (phone_row (plain_phone r s) (front_of r s i) outcome) (phone_root i) s
      ∙ (λ j. phone_does q (phone_row (sym (plain_phone-map s) j) (front_of-map s i j) outcome) (phone_root-map i j) (map_phone f g s)) in
      let accepted = accepted-map f (phone_opens r s i) outcome
      ∙ (λ j. accepted_of (phone_opens_map s i j) outcome) in
      λ j. ((done j).0, finished None (accepted j) (done j).1)
