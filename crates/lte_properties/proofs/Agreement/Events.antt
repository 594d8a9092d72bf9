-- Every event, and every run, keeps agreement's invariant.
use Rattle.std.proofs.Common.{◌≡◌, ◌==◌, ◌≤◌, le_trans, refl, sym, ap, ◌∙◌, ℕ, Bool, List, [], ◌∷◌, Option, Some, None}
use Rattle.std.proofs.lemmas.Bool.{eqb-true, eqb-false}
use Rattle.lte_machine.specs.CoreState.{CoreLink, CoreActs, CoreNasPdu, CoreRecord}
use Rattle.alg_choice.specs.declared.caps.Caps.{Caps}
use Rattle.rec_base.specs.declared.faults.RecFault.{RecFault}
use Rattle.lte_events.specs.{declared.addresses.Address.Address, declared.events.Event.Event, Site.Site, Ranges.IsEvent}
use Rattle.key_model.specs.{Term.Term, Reading.term_reading_by}
use Rattle.lte_machine.specs.Wire.{KeyUse, Outgoing, Between, address_of}
use Rattle.lte_machine.specs.{Opening.Opening, Opening.Outcome, CoreStep.core_step}
use Rattle.lte_machine.specs.PhoneState.{PhoneInput, PhoneAuth, PhoneActs, PhoneNasPdu, PhoneAirPdu}
use Rattle.lte_machine.specs.StationState.{Interface, OnS1, OnX2}
use Rattle.lte_machine.specs.World.{Machine, Line, phone_turn, authenticated, next_root, content_in, happens}
use Rattle.lte_machine.specs.Step.{Attempted, phone_attempts, core_attempts}
use Rattle.lte_machine.proofs.Routing.{address_on, IsTurn, PhoneGets, Turns, happens_by}
use Rattle.lte_machine.proofs.Worlds.{TheWorld}
use Rattle.lte_properties.proofs.Agreement.Came.{CameTo, none_came, sent_came}
use Rattle.lte_properties.specs.{ChainBelow.AllOf, ChainAbove.StationAbove, ChainAbove.InFlight}
use Rattle.lte_properties.specs.ChainHolds.{machine_by, run, noted, core_numbers, Holds}
use Rattle.lte_properties.proofs.Agreement.Openings.{IsHonest, IsCalm, outcome_of, Honest, Calm, Along}
use Rattle.lte_properties.proofs.ChainNumbers.Lists.{OfSome, all_both, each_of}
use Rattle.lte_properties.proofs.Agreement.Ghost.{CoreLinkOk, StationOk, SentOk, BetweenOk}
use Rattle.lte_properties.proofs.Agreement.Later.{Later, later_itself, later_after}
use Rattle.lte_properties.proofs.{Agreement.PhoneWalk.by_test, Agreement.ToldIsFound.SiteOk, Agreement.CoreOpens.core_nas_zero, Agreement.StationContext.CellFits, ChainNumbers.World.FitsAll, ChainNumbers.World.happens_holds}
use Rattle.lte_properties.proofs.Agreement.Core.{equal_below, StaysOff, as_before, CoreGoes, core_unread_goes, core_record_goes, core_nas_goes, core_act_goes}
use Rattle.lte_properties.proofs.Agreement.World.{Conns, ghost, WorldOk, Goes, OctetsTell, Settled, ReadOk, by_world_goes, phone_turn_goes, phone_air_goes, core_turn_goes, IsAt, station_acts_goes, station_air_goes, station_record_goes}

module _ (same : Term → Term → Bool) (root : ℕ → List ℕ → Term) (octets : Outgoing Term ℕ → List ℕ)
    (sender : Option (Outgoing Term ℕ) → Option (KeyUse Term))
    (opener : Opening Term → List ℕ → Option (Outgoing Term ℕ) → Outcome) (tell : OctetsTell octets) (cells : List Site)
    (cells_ok : AllOf SiteOk cells) where
  abbrev m : Machine Term ℕ (Outgoing Term ℕ)
  m = machine_by same root octets sender opener

  abbrev IsHonestAt : Attempted Term (Outgoing Term ℕ) → Type 0
  IsHonestAt a = IsHonest a.opening a.came (outcome_of m a)

  abbrev IsCalmAt : Attempted Term (Outgoing Term ℕ) → Type 0
  IsCalmAt a = IsCalm a.opening a.came (outcome_of m a)

  -- what comes to an address, and what it fits
  abbrev Comes : Conns → TheWorld → Address → List ℕ → Option (Outgoing Term ℕ) → Type 0
  Comes c w to pdu came = CameTo (ghost c w) to pdu came × OfSome (λ x. (address_of x ≡ to) × FitsAll w x) came

  abbrev Left : Conns → TheWorld → TheWorld × Line Term → Attempted Term (Outgoing Term ℕ) → Type 0
  Left c w done a = IsHonestAt a → IsCalmAt a → Goes cells c w done.0

  phone_goes : (c : Conns) (w : TheWorld)
      → WorldOk cells c w
      → Settled w
      → (input : PhoneInput Term) (came : Option (Outgoing Term ℕ))
      → IsTurn input
      → PhoneGets IsEvent (Comes c w) input came
      → Left c w (phone_turn m w input came) (phone_attempts m w input came)
  phone_goes c w h settled (PhoneAuth ksi key) came turn k honest calm = absurd turn
  phone_goes c w h settled (PhoneActs act) came turn k honest calm =
      phone_turn_goes same root octets sender opener tell cells cells_ok c w (PhoneActs act) came h tt
  phone_goes c w h settled (PhoneNasPdu pdu) came turn k honest calm =
      phone_turn_goes same root octets sender opener tell cells cells_ok c w (PhoneNasPdu pdu) came h tt
  phone_goes c w h settled (PhoneAirPdu station air bearer pdu) came turn k honest calm =
      phone_air_goes same root octets sender opener tell cells cells_ok c w station air bearer pdu came h settled k.0 honest calm

  core_read_goes : (c : Conns) (w : TheWorld)
      → WorldOk cells c w
      → (came : Option (Outgoing Term ℕ))
      → ReadOk (BetweenOk (ghost c w) Address.CoreS1) came
      → (outcome : Outcome)
      → CoreGoes cells (ghost c w) (core_step (term_reading_by same) w.core (CoreRecord (content_in m came)) outcome)
  core_read_goes c w h (Some (Between to fields key)) k outcome = core_record_goes same cells (ghost c w) h.tried Address.CoreS1 fields key k w.core h.core
  core_read_goes c w h other k outcome = core_unread_goes same cells (ghost c w) h.tried RecFault.Short w.core h.core

  read_came : (c : Conns) (w : TheWorld) (on : Interface) (id : ℕ) (pdu : List ℕ) (came : Option (Outgoing Term ℕ))
      → CameTo (ghost c w) (address_on on id) pdu came
      → ReadOk (BetweenOk (ghost c w) (address_on on id)) came
  read_came c w OnS1 id pdu came k = k
  read_came c w OnX2 id pdu came k = k

  -- an authentication
  authenticated_goes : (c : Conns) (w : TheWorld) (ksi : ℕ) (key : Term) (caps : Caps) → WorldOk cells c w → Goes cells c w (authenticated m w ksi key caps).0
  authenticated_goes c w ksi key caps h = (
    c,
    later_itself (ghost c w),
    record {
      core = h.core;
      radio = h.radio;
      stations = h.stations;
      sent = h.sent;
      made = h.made;
      tried = h.tried;
      took = h.took;
      once = h.once;
    },
    as_before w.core.link c.top,
  )

  turns : (c : Conns) (w : TheWorld) → WorldOk cells c w → Settled w → Turns m w IsEvent (Comes c w) (IsAt cells c w) (Left c w)
  turns c w h settled = record {
    auth = λ ksi key caps is new honest calm. authenticated_goes c w ksi (root (next_root w) key) caps h;
    phone = phone_goes c w h settled;
    core_acts = λ act is honest calm.
        core_turn_goes same root octets sender opener tell cells cells_ok c w (CoreActs act) None h
        (core_act_goes same cells (ghost c w) h.tried act w.core h.core);
    core_nas = λ pdu came k honest calm.
        core_turn_goes same root octets sender opener tell cells cells_ok c w (CoreNasPdu pdu) came h
        (core_nas_goes same cells (ghost c w) h.tried pdu (outcome_of m (core_attempts m w (CoreNasPdu pdu) came)) w.core h.core
        (core_nas_zero same w.core pdu came k.0 (outcome_of m (core_attempts m w (CoreNasPdu pdu) came)) honest));
    core_record = λ pdu came k honest calm.
        core_turn_goes same root octets sender opener tell cells cells_ok c w (CoreRecord (content_in m came)) came h
        (core_read_goes c w h came k.0 (outcome_of m (core_attempts m w (CoreRecord (content_in m came)) came)));
    station_acts = λ id act is s f honest calm. station_acts_goes same root octets sender opener tell cells cells_ok c w id act is h s f;
    station_air = λ id air bearer pdu came k s f honest calm.
        station_air_goes same root octets sender opener tell cells cells_ok c w id air bearer pdu came k.0 h s f honest;
    station_record = λ on id pdu came k s f honest calm.
        station_record_goes same root octets sender opener tell cells cells_ok c w on id came
        (read_came c w on id pdu came k.0) k.1 h s f;
    none = λ answer honest calm. by_world_goes same root octets sender opener tell cells cells_ok c w answer h;
  }

  -- each record that was sent, and each station
  sent_comes : (c : Conns) (w : TheWorld) → WorldOk cells c w → AllOf (λ x. Comes c w (address_of x) (octets x) (Some x)) w.sent
  sent_comes c w h =
      all_both (SentOk (ghost c w)) (FitsAll w) (λ x. Comes c w (address_of x) (octets x) (Some x))
      (λ x k f. (sent_came octets tell (ghost c w) x k, (refl, f))) w.sent h.sent (each_of InFlight w.sent)

  all_are : (c : Conns) (w : TheWorld)
      → WorldOk cells c w
      → Settled w
      → AllOf StationAbove w.stations
      → AllOf (λ s. AllOf (InFlight s) w.sent) w.stations
      → AllOf (IsAt cells c w) w.stations
  all_are c w h settled above flight =
      all_both (λ s. StationOk cells (ghost c w) s × StationAbove s)
      (λ s. CellFits s.context × AllOf (InFlight s) w.sent) (IsAt cells c w)
      (λ s a b. (a.0, a.1, b.0, b.1)) w.stations
      (all_both (StationOk cells (ghost c w)) StationAbove (λ s. StationOk cells (ghost c w) s × StationAbove s) (λ s a b. (a, b)) w.stations h.stations above)
      (all_both (λ s. CellFits s.context) (λ s. AllOf (InFlight s) w.sent)
      (λ s. CellFits s.context × AllOf (InFlight s) w.sent) (λ s a b. (a, b)) w.stations settled.fits flight)

  -- every event
  pub happens_goes : (c : Conns) (w : TheWorld) (e : Event) → IsEvent e → WorldOk cells c w → Settled w
      → AllOf StationAbove w.stations → AllOf (λ s. AllOf (InFlight s) w.sent) w.stations
      → Honest m w e → Calm m w e → Goes cells c w (happens m w e).0
  happens_goes c w e is h settled above flight honest calm =
      happens_by (turns c w h settled) (λ to pdu. (none_came (ghost c w) to pdu, tt)) (sent_comes c w h) (all_are c w h settled above flight) e is honest calm

  -- the greatest number of each connection so far is at most the core's, or its last
  pub fits_after : (top : ℕ → ℕ) (c d : Conns) (u : TheWorld) → WorldOk cells d u → StaysOff u.core.link c.top d.top → ((conn : ℕ) → c.top conn ≤ top conn)
      → (conn : ℕ) → d.top conn ≤ noted u.core.link top conn
  fits_after top c d u ok off fits conn = by_link u.core.link ok.core.0 off
    where
      by_link : (o : Option (CoreLink Term ℕ)) → CoreLinkOk (ghost d u) o → StaysOff o c.top d.top → d.top conn ≤ noted o top conn
      by_link None k f = le_trans (f conn tt) (fits conn)
      by_link (Some link) k f =
          by_test (λ n. d.top conn ≤ n) (conn == link.conn) _ _
          (λ b. equal_below (ap d.top (eqb-true conn link.conn b) ∙ sym k.number))
          (λ b. le_trans (f conn (λ e. eqb-false conn link.conn b (sym e))) (fits conn))

  -- what a run leaves, where the core's numbers end so
  abbrev pub RunGoes : Conns → TheWorld → TheWorld → (ℕ → ℕ) → Type 0
  RunGoes c w u top =
      (d : Conns) × Later (ghost c w) (ghost d u) × WorldOk cells d u × ((conn : ℕ) → d.top conn ≤ top conn)

  -- every run
  pub run_goes : (top : ℕ → ℕ) (c : Conns) (w : TheWorld) (es : List Event)
      → Holds top w
      → WorldOk cells c w
      → ((conn : ℕ) → c.top conn ≤ top conn)
      → AllOf IsEvent es
      → Along (λ v e. Settled v) m w es → Along (Honest m) m w es → Along (Calm m) m w es → RunGoes c w (run m w es) (core_numbers m w top es)
  run_goes top c w [] holds h fits is settled honest calm = (c, later_itself (ghost c w), h, fits)
  run_goes top c w (e ∷ es) holds h fits is settled honest calm =
      let u = (happens m w e).0 in
      let (d, later, ok, off) = happens_goes c w e is.0 h settled.0 holds.above holds.flight honest.0 calm.0 in
      let next = happens_holds same root octets sender opener top w e holds in
      let (last, rest, ends, fit) = run_goes (noted u.core.link top) d u es next ok (fits_after top c d u ok off fits) is.1 settled.1 honest.1 calm.1 in
      (last, later_after (ghost c w) (ghost d u) (ghost last (run m u es)) later rest, ends, fit)
