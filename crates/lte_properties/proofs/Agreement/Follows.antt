-- What the phone had before each order that it obeyed is what it took last, and a connection is what it took last.
use Rattle.std.proofs.Common.{◌≡◌, refl, ap, ◌∙◌, ℕ, zero, suc, Bool, true, false, List, [], ◌∷◌, ◌++◌, Option, Some, None}
use Rattle.alg_choice.specs.declared.algs.Algs.{Algs}
use Rattle.annex_a_keys.specs.Cell.{Place}
use Rattle.lte_events.specs.{declared.answers.Answer.Answer, declared.events.Event.Event, declared.setups.Setup.Setup}
use Rattle.key_model.specs.{Term.Term, Reading.term_reading_by}
use Rattle.nh_chain.specs.Reach.{reached_after}
use Rattle.lte_machine.specs.Bearers.{Srb, Drb, Which}
use Rattle.lte_machine.specs.{Wire.KeyUse, Wire.Outgoing, Opening.Opening, Opening.Outcome, Reply.Before, Reply.Took, PhoneChoice.phone_row, Run.first_world}
use Rattle.lte_machine.specs.PhoneState.{Partial, NasContext, Link, Radio, Idle, Connecting, Connected, Phone, PhoneInput}
use Rattle.lte_machine.specs.PhoneRows.{AuthRow, Authenticated, NasRow, NasRefused, RejectedPlain, RejectedUnder, ContextTaken, ContextTakenConnected, NasOpened, AirRow, AirRefused, LinkSecured, HandedOver, KeyChanged, RrcOpened, PacketOpened, ActRow, ActRefused, ServiceRequested, CompleteResent, WentIdle, PacketSent, RrcSent, NasSent, NasSkipped, BearerSkipped, PhoneRow, OfAuth, OfNas, OfAir, OfAct}
use Rattle.lte_machine.specs.PhoneKeys.{PhoneDone, auth_does, rejected_under, context_taken, context_taken_connected, nas_opened, nas_does, link_secured, handed_over, before_of, changed_unless, key_changed, rrc_opened, packet_opened, air_does, service_requested, complete_resent, packet_sent, rrc_sent, nas_sent, nas_skipped, bearer_skipped, act_does, phone_does}
use Rattle.lte_machine.specs.PhoneStep.{plain_phone, front_of, phone_root, phone_opens, phone_pdu_in}
use Rattle.lte_machine.specs.World.{Machine, World, with_one, phone_turn, happens}
use Rattle.lte_machine.proofs.Routing.{happens_each}
use Rattle.lte_properties.specs.ChainHolds.{machine_by, run}
use Rattle.lte_properties.specs.Agreement.{Joins, Follow, TookLast}

-- what was taken, as it stands before the next order
abbrev taken_before : Took Term ℕ → Before Term ℕ
taken_before x = record { station = x.station; key = x.key; number = x.number }

-- what was taken last, if anything was
abbrev last_of : Option (Before Term ℕ) → List (Took Term ℕ) → Option (Before Term ℕ)
last_of o [] = o
last_of o (x ∷ xs) = last_of (Some (taken_before x)) xs

follow_more : (o : Option (Before Term ℕ)) (xs : List (Took Term ℕ)) (x : Took Term ℕ) → Follow o xs → Joins x.came (last_of o xs) → Follow o (xs ++ x ∷ [])
follow_more o [] x h j = (j, tt)
follow_more o (y ∷ ys) x h j = (h.0, follow_more (Some (taken_before y)) ys x h.1 j)

last_more : (o : Option (Before Term ℕ)) (xs : List (Took Term ℕ)) (x : Took Term ℕ) → last_of o (xs ++ x ∷ []) ≡ Some (taken_before x)
last_more o [] x = refl
last_more o (y ∷ ys) x = last_more (Some (taken_before y)) ys x

-- a connection is what was taken last
last_is : (took : List (Took Term ℕ)) (l : Link Term ℕ) → TookLast took (Connected l) → last_of None took ≡ Some (before_of l)
last_is took l k =
    let (xs, x, split, last) = k in
    let (station, _, key, number, _) = last in
    ap (last_of None) split ∙ last_more None xs x ∙ (λ j. Some (record { station = station j; key = key j; number = number j }))

-- after a step of the phone
abbrev Follows : List (Took Term ℕ) → PhoneDone Term ℕ → Type 0
Follows took d = Follow None (with_one d.1.took took) × TookLast (with_one d.1.took took) d.0.radio

module _ (same : Term → Term → Bool) (took : List (Took Term ℕ)) (h : Follow None took) where
  secured : (station air : ℕ) (algs : Algs) (count : ℕ) (s : Phone Term ℕ) (radio : Radio Term ℕ) → TookLast took s.radio
      → Follows took (link_secured (term_reading_by same) station air algs count s radio)
  secured station air algs count s (Connecting w) k = (follow_more None took _ h tt, (took, _, refl, (refl, refl, refl, refl, refl)))
  secured station air algs count s Idle k = (h, k)
  secured station air algs count s (Connected l) k = (h, k)

  handed : (cell : Place) (steps : ℕ) (algs : Algs) (station air : ℕ) (s : Phone Term ℕ) (radio : Radio Term ℕ) → TookLast took s.radio → TookLast took radio
      → Follows took (handed_over (term_reading_by same) cell steps algs station air s radio)
  handed cell steps algs station air s (Connected l) k last =
      (follow_more None took _ h (last_is took l last), (took, _, refl, (refl, refl, refl, number_is steps, refl)))
    where
      number_is : (n : ℕ)
          → (reached_after (term_reading_by same) l.chain l.kenb n cell).star.number
          ≡ (reached_after (term_reading_by same) l.chain l.kenb n cell).chain.number
      number_is zero = refl
      number_is (suc n) = refl
  handed cell steps algs station air s Idle k last = (h, k)
  handed cell steps algs station air s (Connecting w) k last = (h, k)

  changed : (cell : Place) (algs : Algs) (station air : ℕ) (s : Phone Term ℕ) (l : Link Term ℕ) (root : Term) (b : Bool)
      → TookLast took s.radio
      → TookLast took (Connected l)
      → Follows took (changed_unless (term_reading_by same) cell algs station air s (before_of l) root b)
  changed cell algs station air s l root true k last = (h, k)
  changed cell algs station air s l root false k last = (follow_more None took _ h (last_is took l last), (took, _, refl, (refl, refl, refl, refl, refl)))

  key_change : (cell : Place) (algs : Algs) (station air : ℕ) (s : Phone Term ℕ) (radio : Radio Term ℕ)
      (o : Option (NasContext Term))
      → TookLast took s.radio
      → TookLast took radio
      → Follows took (key_changed (term_reading_by same) cell algs station air s radio o)
  key_change cell algs station air s (Connected l) (Some c) k last = changed cell algs station air s l c.root (same c.root l.chain.root) k last
  key_change cell algs station air s other rest k last = (h, k)

  opened_rrc : (srb : Srb) (count : ℕ) (text : List ℕ) (s : Phone Term ℕ) (radio : Radio Term ℕ)
      → TookLast took s.radio
      → TookLast took radio
      → Follows took (rrc_opened srb count text s radio)
  opened_rrc srb count text s (Connected l) k last = (h, last)
  opened_rrc srb count text s Idle k last = (h, k)
  opened_rrc srb count text s (Connecting w) k last = (h, k)

  opened_packet : (drb : Drb) (count : ℕ) (text : List ℕ) (s : Phone Term ℕ) (radio : Radio Term ℕ)
      → TookLast took s.radio
      → TookLast took radio
      → Follows took (packet_opened drb count text s radio)
  opened_packet drb count text s (Connected l) k last = (h, last)
  opened_packet drb count text s Idle k last = (h, k)
  opened_packet drb count text s (Connecting w) k last = (h, k)

  air_follows : (row : AirRow) (s : Phone Term ℕ) → TookLast took s.radio → Follows took (air_does (term_reading_by same) row s)
  air_follows (AirRefused answer) s k = (h, k)
  air_follows (LinkSecured station air algs count) s k = secured station air algs count s s.radio k
  air_follows (HandedOver cell steps algs station air) s k = handed cell steps algs station air s s.radio k k
  air_follows (KeyChanged cell algs station air) s k = key_change cell algs station air s s.radio s.context k k
  air_follows (RrcOpened srb count text) s k = opened_rrc srb count text s s.radio k k
  air_follows (PacketOpened drb count text) s k = opened_packet drb count text s s.radio k k

  rejected : (answer : Answer) (cause : ℕ) (s : Phone Term ℕ) (o : Option (NasContext Term))
      → TookLast took s.radio
      → Follows took (rejected_under answer cause s o)
  rejected answer cause s None k = (h, k)
  rejected answer cause s (Some c) k = (h, k)

  taken : (algs : Algs) (count : ℕ) (s : Phone Term ℕ) (o : Option (Partial Term))
      → TookLast took s.radio
      → Follows took (context_taken (term_reading_by same) algs count s o)
  taken algs count s None k = (h, k)
  taken algs count s (Some p) k = (h, tt)

  taken_connected : (algs : Algs) (count : ℕ) (s : Phone Term ℕ) (o : Option (Partial Term))
      → TookLast took s.radio
      → Follows took (context_taken_connected (term_reading_by same) algs count s o)
  taken_connected algs count s None k = (h, k)
  taken_connected algs count s (Some p) k = (h, k)

  opened_nas : (count : ℕ) (text : List ℕ) (s : Phone Term ℕ) (o : Option (NasContext Term)) → TookLast took s.radio → Follows took (nas_opened count text s o)
  opened_nas count text s None k = (h, k)
  opened_nas count text s (Some c) k = (h, k)

  nas_follows : (row : NasRow) (s : Phone Term ℕ) → TookLast took s.radio → Follows took (nas_does (term_reading_by same) row s)
  nas_follows (NasRefused answer) s k = (h, k)
  nas_follows (RejectedPlain answer cause) s k = (h, k)
  nas_follows (RejectedUnder answer cause) s k = rejected answer cause s s.context k
  nas_follows (ContextTaken algs count) s k = taken algs count s s.partial k
  nas_follows (ContextTakenConnected algs count) s k = taken_connected algs count s s.partial k
  nas_follows (NasOpened count text) s k = opened_nas count text s s.context k

  requested : (s : Phone Term ℕ) (o : Option (NasContext Term)) → TookLast took s.radio → Follows took (service_requested (term_reading_by same) s o)
  requested s None k = (h, k)
  requested s (Some c) k = (h, tt)

  resent : (s : Phone Term ℕ) (radio : Radio Term ℕ) → TookLast took s.radio → TookLast took radio → Follows took (complete_resent s radio)
  resent s (Connected l) k last = (h, last)
  resent s Idle k last = (h, k)
  resent s (Connecting w) k last = (h, k)

  sent_packet : (drb : Drb) (text : List ℕ) (s : Phone Term ℕ) (radio : Radio Term ℕ)
      → TookLast took s.radio
      → TookLast took radio
      → Follows took (packet_sent drb text s radio)
  sent_packet drb text s (Connected l) k last = (h, last)
  sent_packet drb text s Idle k last = (h, k)
  sent_packet drb text s (Connecting w) k last = (h, k)

  sent_rrc : (srb : Srb) (text : List ℕ) (s : Phone Term ℕ) (radio : Radio Term ℕ)
      → TookLast took s.radio
      → TookLast took radio
      → Follows took (rrc_sent srb text s radio)
  sent_rrc srb text s (Connected l) k last = (h, last)
  sent_rrc srb text s Idle k last = (h, k)
  sent_rrc srb text s (Connecting w) k last = (h, k)

  sent_nas : (text : List ℕ) (s : Phone Term ℕ) (o : Option (NasContext Term)) → TookLast took s.radio → Follows took (nas_sent text s o)
  sent_nas text s None k = (h, k)
  sent_nas text s (Some c) k = (h, k)

  left_nas : (n : ℕ) (s : Phone Term ℕ) (o : Option (NasContext Term)) → TookLast took s.radio → Follows took (nas_skipped n s o)
  left_nas n s None k = (h, k)
  left_nas n s (Some c) k = (h, k)

  left_bearer : (on : Which) (n : ℕ) (s : Phone Term ℕ) (radio : Radio Term ℕ)
      → TookLast took s.radio
      → TookLast took radio
      → Follows took (bearer_skipped on n s radio)
  left_bearer on n s (Connected l) k last = (h, last)
  left_bearer on n s Idle k last = (h, k)
  left_bearer on n s (Connecting w) k last = (h, k)

  act_follows : (row : ActRow) (s : Phone Term ℕ) → TookLast took s.radio → Follows took (act_does (term_reading_by same) row s)
  act_follows (ActRefused answer) s k = (h, k)
  act_follows ServiceRequested s k = requested s s.context k
  act_follows CompleteResent s k = resent s s.radio k k
  act_follows WentIdle s k = (h, tt)
  act_follows (PacketSent drb text) s k = sent_packet drb text s s.radio k k
  act_follows (RrcSent srb text) s k = sent_rrc srb text s s.radio k k
  act_follows (NasSent text) s k = sent_nas text s s.context k
  act_follows (NasSkipped n) s k = left_nas n s s.context k
  act_follows (BearerSkipped on n) s k = left_bearer on n s s.radio k k

  auth_follows : (row : AuthRow) (root : Option Term) (s : Phone Term ℕ) → TookLast took s.radio → Follows took (auth_does row root s)
  auth_follows (Authenticated ksi) None s k = (h, k)
  auth_follows (Authenticated ksi) (Some root) s k = (h, k)

  phone_follows : (row : PhoneRow) (root : Option Term) (s : Phone Term ℕ) → TookLast took s.radio → Follows took (phone_does (term_reading_by same) row root s)
  phone_follows (OfAuth row) root s k = auth_follows row root s k
  phone_follows (OfNas row) root s k = nas_follows row s k
  phone_follows (OfAir row) root s k = air_follows row s k
  phone_follows (OfAct row) root s k = act_follows row s k

-- in a world
abbrev pub InTurn : World Term ℕ (Outgoing Term ℕ) → Type 0
InTurn w = Follow None w.took × TookLast w.took w.phone.radio

module _ (same : Term → Term → Bool) (root : ℕ → List ℕ → Term) (octets : Outgoing Term ℕ → List ℕ)
    (sender : Option (Outgoing Term ℕ) → Option (KeyUse Term))
    (opener : Opening Term → List ℕ → Option (Outgoing Term ℕ) → Outcome) where
  abbrev m : Machine Term ℕ (Outgoing Term ℕ)
  m = machine_by same root octets sender opener

  module _ (w : World Term ℕ (Outgoing Term ℕ)) (h : InTurn w) where
    phone_goes : (input : PhoneInput Term) (came : Option (Outgoing Term ℕ)) → InTurn (phone_turn m w input came).0
    phone_goes input came =
        phone_follows same w.took h.0
        (phone_row (plain_phone (term_reading_by same) w.phone) (front_of (term_reading_by same) w.phone input)
        (opener (phone_opens (term_reading_by same) w.phone input) (phone_pdu_in input) came))
        (phone_root input) w.phone h.1

    pub happens_in_turn : (e : Event) → InTurn (happens m w e).0
    happens_in_turn e =
        happens_each m w (λ done a. InTurn done.0) (λ ksi key caps. h) (λ input came turn. phone_goes input came) (λ input came. h)
        (λ id input came s there own. h) (λ answer. h) e

  run_in_turn : (w : World Term ℕ (Outgoing Term ℕ)) (es : List Event) → InTurn w → InTurn (run m w es)
  run_in_turn w [] h = h
  run_in_turn w (e ∷ es) h = run_in_turn (happens m w e).0 es (happens_in_turn w h e)

  -- in every run
  pub in_turn : (setup : Setup) (es : List Event) → InTurn (run m (first_world setup) es)
  in_turn setup es = run_in_turn (first_world setup) es (tt, tt)
