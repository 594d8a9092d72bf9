-- Agreement's invariant of a world, and what an event leaves of it.
use Rattle.std.proofs.Common.{◌≡◌, refl, sym, ◌∙◌, subst, ℕ, ◌≤◌, Bool, List, Option, Some, None, Ok}
use Rattle.std.specs.Prelude.{⊤}
use Rattle.std.proofs.lemmas.Bool.{eqb-false}
use Rattle.rec_base.specs.{declared.bearers.Bearer.Bearer, declared.uses.Dir.Dir}
use Rattle.lte_events.specs.{declared.acts.StationAct.StationAct, declared.answers.Answer.Answer, Site.Site, Ranges.IsStationAct}
use Rattle.key_model.specs.{Term.Term, HandoverTable.NumberedKey, Reading.term_reading_by}
use Rattle.s1x2_rec.specs.Fields.{Fields}
use Rattle.lte_machine.specs.{Bearers.Srb, Bearers.which, Opening.Opening, Opening.Outcome, PhoneChoice.unciphered_text, PhoneChoice.phone_row, PhoneKeys.PhoneDone, StationStep.station_step, CoreState.CoreInput, CoreKeys.CoreDone, CoreStep.core_step, CoreChoice.core_header}
use Rattle.lte_machine.specs.Wire.{KeyUse, Ciphering, Outgoing, SealedNas, SealedRrc, Between, address_of}
use Rattle.lte_machine.specs.Reply.{Made, Tried, Took, Reply}
use Rattle.lte_machine.specs.PhoneState.{PhoneInput, PhoneAirPdu, Radio, Idle, Connecting, Connected}
use Rattle.lte_machine.specs.PhoneStep.{plain_phone, front_of, phone_root, phone_step}
use Rattle.lte_machine.specs.StationState.{Station, StationInput, StationActs, AirPdu, StationRecord, Interface}
use Rattle.lte_machine.specs.World.{Machine, with_one, phone_after, core_after, station_after, by_world, phone_turn, core_turn, turn_of, content_in}
use Rattle.lte_machine.specs.Step.{phone_attempts, core_attempts, attempts_at}
use Rattle.lte_machine.proofs.{Routing.address_on, Routing.Found, Worlds.TheWorld}
use Rattle.lte_properties.specs.{ChainBelow.AllOf, ChainAbove.StationAbove, ChainAbove.InFlight, ChainHolds.machine_by}
use Rattle.lte_properties.proofs.Freshness.PhoneUses.{TookInOrder, RadioInOrder, PhoneInOrder}
use Rattle.lte_properties.specs.Agreement.{made_at, OneOf, TriedOnce, Obeys, Follow}
use Rattle.lte_properties.proofs.Agreement.Seen.{NotBoth, seen_beside, once_more}
use Rattle.lte_properties.proofs.{Agreement.Follows.InTurn, Agreement.Order.new_at, ChainNumbers.World.FitsAll, Agreement.StationContext.CellFits, Agreement.StationAct.act_goes, Agreement.StationOpens.CameUp, Agreement.StationOpens.air_goes}
use Rattle.lte_properties.proofs.Agreement.Openings.{IsHonest, IsCalm, outcome_of}
use Rattle.lte_properties.proofs.ChainNumbers.Lists.{OfSome, all_one, all_map, all_put}
use Rattle.lte_properties.proofs.Agreement.Ghost.{Ghost, tried_at, SeenBy, CoreOk, RadioOk, StationOk, SentOk, MadeOk, TriedOk, TookOk, OutOk, BetweenOk}
use Rattle.lte_properties.proofs.Agreement.Later.{Later, later_itself, ctx_later, preps_later, radio_later, sent_later, made_later, tried_later, took_later}
use Rattle.lte_properties.proofs.Agreement.Phone.{PhoneGoes, NewTook, PhoneNeeds, took_more, phone_goes}
use Rattle.lte_properties.proofs.Agreement.PhoneWalk.{CameDown, NothingYet, air_walks}
use Rattle.lte_properties.proofs.Agreement.ToldIsFound.{told_more, fresh_beside, SiteOk}
use Rattle.lte_properties.proofs.Agreement.Station.{StationGoes, NewMade, NewTried, record_goes}
use Rattle.lte_properties.proofs.Agreement.Core.{StaysOff, as_before, CoreGoes}

-- of each connection its KASME, the COUNT of its KeNB and its greatest number; the next connection
pub record Conns : Type 0 where
  pub root : ℕ → Term
  pub count : ℕ → ℕ
  pub top : ℕ → ℕ
  pub next : ℕ

abbrev pub ghost : Conns → TheWorld → Ghost
ghost c w = record {
  root = c.root;
  count = c.count;
  top = c.top;
  next = c.next;
  made = w.made;
  tried = w.tried;
  took = w.took;
}

-- the invariant
pub record WorldOk (cells : List Site) (c : Conns) (w : TheWorld) : Type 0 where
  pub core : CoreOk cells (ghost c w) w.core
  pub radio : RadioOk (ghost c w) w.phone.radio
  pub stations : AllOf (StationOk cells (ghost c w)) w.stations
  pub sent : AllOf (SentOk (ghost c w)) w.sent
  pub made : AllOf (MadeOk (ghost c w)) w.made
  pub tried : AllOf (TriedOk cells (ghost c w)) w.tried
  pub took : AllOf (TookOk (ghost c w)) w.took
  pub once : TriedOnce w

-- what an event leaves: the invariant, and all that was told before
abbrev pub Goes : List Site → Conns → TheWorld → TheWorld → Type 0
Goes cells c w u = (d : Conns) × Later (ghost c w) (ghost d u) × WorldOk cells d u × StaysOff u.core.link c.top d.top

-- what an unciphered record's octets hold is its text
abbrev pub PlainReads : (Outgoing Term ℕ → List ℕ) → Type 0
PlainReads octets =
    (dir : Dir) (station air : ℕ) (srb : Srb) (i : KeyUse Term) (text : List ℕ)
    → unciphered_text (octets (SealedRrc dir station air srb i None text)) ≡ text

-- and the header type of a NAS message to the core stands in its octets
abbrev pub HeaderReads : (Outgoing Term ℕ → List ℕ) → Type 0
HeaderReads octets =
    (dir : Dir) (header : ℕ) (i : KeyUse Term) (e : Option (Ciphering Term)) (text : List ℕ) (h : ℕ)
    → core_header (octets (SealedNas dir header i e text)) ≡ Ok h → h ≡ header

-- what octets tell of a record before it is opened
pub record OctetsTell (octets : Outgoing Term ℕ → List ℕ) : Type 0 where
  pub text : PlainReads octets
  pub header : HeaderReads octets

-- nothing made or tried at numbers from here on
abbrev Fresh : List (Made Term ℕ) → List (Tried Term ℕ) → ℕ → ℕ → Type 0
Fresh made tried id next = (n : ℕ) → next ≤ n → (made_at made id n ≡ None) × (tried_at tried id n ≡ None)

out_ok : (o : Option (Outgoing Term ℕ)) (g : Ghost) → OutOk g o → OfSome (SentOk g) o
out_ok None g h = tt
out_ok (Some x) g h = h

new_took : (o : Option (Took Term ℕ)) (g : Ghost) → NewTook g o → OfSome (TookOk g) o
new_took None g h = tt
new_took (Some x) g h = h

-- the parts of other actors stay, where more is told
module _ (cells : List Site) (c d : Conns) (w u : TheWorld) (l : Later (ghost c w) (ghost d u)) where
  -- of a station, where nothing of its own was told
  station_stays : (s : Station Term ℕ) → u.made ≡ w.made → u.tried ≡ w.tried → StationOk cells (ghost c w) s → StationOk cells (ghost d u) s
  station_stays s made tried h = record {
    context = ctx_later (ghost c w) (ghost d u) l s.id s.context h.context;
    preps = preps_later (ghost c w) (ghost d u) l s.id s.preps h.preps;
    fresh = subst (λ x. Fresh x u.tried s.id s.next) (sym made) (subst (λ x. Fresh w.made x s.id s.next) (sym tried) h.fresh);
    cells = h.cells;
    id = h.id;
    next = h.next;
    ring = h.ring;
    seen = subst (λ xs. AllOf (SeenBy s.id s.seen) xs) (sym made) h.seen;
  }

  stations_stay : (ss : List (Station Term ℕ))
      → u.made ≡ w.made
      → u.tried ≡ w.tried
      → AllOf (StationOk cells (ghost c w)) ss
      → AllOf (StationOk cells (ghost d u)) ss
  stations_stay ss made tried h = all_map (StationOk cells (ghost c w)) (StationOk cells (ghost d u)) (λ s k. station_stays s made tried k) ss h

  sent_stays : (xs : List (Outgoing Term ℕ)) → AllOf (SentOk (ghost c w)) xs → AllOf (SentOk (ghost d u)) xs
  sent_stays xs h = all_map (SentOk (ghost c w)) (SentOk (ghost d u)) (sent_later (ghost c w) (ghost d u) l) xs h

  made_stays : (xs : List (Made Term ℕ)) → AllOf (MadeOk (ghost c w)) xs → AllOf (MadeOk (ghost d u)) xs
  made_stays xs h = all_map (MadeOk (ghost c w)) (MadeOk (ghost d u)) (made_later (ghost c w) (ghost d u) l) xs h

  tried_stays : (xs : List (Tried Term ℕ)) → AllOf (TriedOk cells (ghost c w)) xs → AllOf (TriedOk cells (ghost d u)) xs
  tried_stays xs h = all_map (TriedOk cells (ghost c w)) (TriedOk cells (ghost d u)) (tried_later (ghost c w) (ghost d u) l cells) xs h

  took_stays : (xs : List (Took Term ℕ)) → AllOf (TookOk (ghost c w)) xs → AllOf (TookOk (ghost d u)) xs
  took_stays xs h = all_map (TookOk (ghost c w)) (TookOk (ghost d u)) (took_later (ghost c w) (ghost d u) l) xs h

-- what other invariants say of a world: the phone follows its keys in order, and the cell of a context is a cell
pub record Settled (w : TheWorld) : Type 0 where
  pub turn : InTurn w
  pub order : PhoneInOrder w
  pub fits : AllOf (λ s. CellFits s.context) w.stations

-- what is asked of a station that takes a turn
abbrev pub IsAt : List Site → Conns → TheWorld → Station Term ℕ → Type 0
IsAt cells c w s = StationOk cells (ghost c w) s × StationAbove s × CellFits s.context × AllOf (InFlight s) w.sent

-- so where the present key is to change, the phone took nothing yet
not_yet : (g : Ghost) (radio : Radio Term ℕ)
    → Follow None g.took
    → TookInOrder g.took
    → RadioInOrder g.took radio
    → AllOf (Obeys g.made) g.took
    → NothingYet g radio
not_yet g Idle follow order radio obeys = tt
not_yet g (Connecting w) follow order radio obeys = tt
not_yet g (Connected l) follow order radio obeys = λ station air m there from. new_at g.made station air m there l.kenb from g.took follow order radio obeys

-- what came in a record on S1 or X2
abbrev pub ReadOk : (Fields → Option (NumberedKey Term ℕ) → Type 0) → Option (Outgoing Term ℕ) → Type 0
ReadOk P (Some (Between to fields key)) = P fields key
ReadOk P other = ⊤

module _ (same : Term → Term → Bool) (root : ℕ → List ℕ → Term) (octets : Outgoing Term ℕ → List ℕ)
    (sender : Option (Outgoing Term ℕ) → Option (KeyUse Term))
    (opener : Opening Term → List ℕ → Option (Outgoing Term ℕ) → Outcome) (tell : OctetsTell octets) (cells : List Site)
    (cells_ok : AllOf SiteOk cells) where
  abbrev m : Machine Term ℕ (Outgoing Term ℕ)
  m = machine_by same root octets sender opener

  pub by_world_goes : (c : Conns) (w : TheWorld) (answer : Answer) → WorldOk cells c w → Goes cells c w (by_world m w answer).0
  by_world_goes c w answer h = (
    c,
    later_itself (ghost c w),
    record {
      core = h.core;
      radio = h.radio;
      stations = h.stations;
      sent = h.sent;
      made = h.made;
      tried = h.tried;
      took = h.took;
      once = h.once;
    },
    as_before w.core.link c.top,
  )

  -- THE PHONE

  phone_after_goes : (c : Conns) (w : TheWorld) (d : PhoneDone Term ℕ) → WorldOk cells c w → PhoneGoes (ghost c w) d → Goes cells c w (phone_after m w d).0
  phone_after_goes c w d h k =
      let u = (phone_after m w d).0 in
      let l : Later (ghost c w) (ghost c u) = took_more (ghost c w) d.1.took in (
        c,
        l,
        record {
          core = h.core;
          radio = k.0;
          stations = stations_stay cells c c w u l w.stations refl refl h.stations;
          sent = all_one (SentOk (ghost c u)) d.1.sent w.sent (sent_stays cells c c w u l w.sent h.sent) (out_ok d.1.sent (ghost c u) k.2);
          made = made_stays cells c c w u l w.made h.made;
          tried = tried_stays cells c c w u l w.tried h.tried;
          took = all_one (TookOk (ghost c u)) d.1.took w.took (took_stays cells c c w u l w.took h.took) (new_took d.1.took (ghost c u) k.1);
          once = h.once;
        },
        as_before w.core.link c.top,
      )

  pub phone_turn_goes : (c : Conns) (w : TheWorld) (input : PhoneInput Term) (came : Option (Outgoing Term ℕ)) → WorldOk cells c w
      → PhoneNeeds (ghost c w) w.phone.radio
      (phone_row (plain_phone (term_reading_by same) w.phone) (front_of (term_reading_by same) w.phone input)
      (outcome_of m (phone_attempts m w input came)))
      → Goes cells c w (phone_turn m w input came).0
  phone_turn_goes c w input came h needs =
      phone_after_goes c w (phone_step (term_reading_by same) w.phone input (outcome_of m (phone_attempts m w input came))) h
      (phone_goes same (ghost c w) h.made
      (phone_row (plain_phone (term_reading_by same) w.phone) (front_of (term_reading_by same) w.phone input) (outcome_of m (phone_attempts m w input came)))
      (phone_root input) w.phone h.radio needs)

  pub phone_air_goes : (c : Conns) (w : TheWorld) (station air : ℕ) (bearer : Bearer) (pdu : List ℕ)
      (came : Option (Outgoing Term ℕ))
      → WorldOk cells c w
      → Settled w
      → CameDown (ghost c w) station air (which bearer) pdu came
      → let a = phone_attempts m w (PhoneAirPdu station air bearer pdu) came in
      IsHonest a.opening a.came (outcome_of m a) → IsCalm a.opening a.came (outcome_of m a)
      → Goes cells c w (phone_turn m w (PhoneAirPdu station air bearer pdu) came).0
  phone_air_goes c w station air bearer pdu came h settled k honest calm =
      phone_turn_goes c w (PhoneAirPdu station air bearer pdu) came h
      (air_walks same (ghost c w) w.phone station air pdu (which bearer) came k
      (not_yet (ghost c w) w.phone.radio settled.turn.0 settled.order.0 settled.order.1
      (all_map (TookOk (ghost c w)) (Obeys w.made) (λ x t. t.obeys) w.took h.took))
      h.radio (outcome_of m (phone_attempts m w (PhoneAirPdu station air bearer pdu) came)) honest calm)

  -- THE CORE

  core_after_goes : (c : Conns) (w : TheWorld) (d : CoreDone Term ℕ) → WorldOk cells c w → CoreGoes cells (ghost c w) d → Goes cells c w (core_after m w d).0
  core_after_goes c w d h k =
      let u = (core_after m w d).0 in
      let (root, count, top, next, later, ok, sent, off) = k in
      let e : Conns = record { root = root; count = count; top = top; next = next } in
      let l : Later (ghost c w) (ghost e u) = later in (
        e,
        l,
        record {
          core = ok;
          radio = radio_later (ghost c w) (ghost e u) l w.phone.radio h.radio;
          stations = stations_stay cells c e w u l w.stations refl refl h.stations;
          sent = all_one (SentOk (ghost e u)) d.1.sent w.sent (sent_stays cells c e w u l w.sent h.sent) (out_ok d.1.sent (ghost e u) sent);
          made = made_stays cells c e w u l w.made h.made;
          tried = tried_stays cells c e w u l w.tried h.tried;
          took = took_stays cells c e w u l w.took h.took;
          once = h.once;
        },
        off,
      )

  pub core_turn_goes : (c : Conns) (w : TheWorld) (input : CoreInput Term ℕ) (came : Option (Outgoing Term ℕ)) → WorldOk cells c w
      → CoreGoes cells (ghost c w) (core_step (term_reading_by same) w.core input (outcome_of m (core_attempts m w input came)))
      → Goes cells c w (core_turn m w input came).0
  core_turn_goes c w input came h k = core_after_goes c w (core_step (term_reading_by same) w.core input (outcome_of m (core_attempts m w input came))) h k

  -- A STATION

  -- of another station, whose numbers are its own
  beside : (c : Conns) (w u : TheWorld) (l : Later (ghost c w) (ghost c u)) (s : Station Term ℕ) → StationOk cells (ghost c w) s
      → ((n : ℕ) → s.next ≤ n → (made_at u.made s.id n ≡ None) × (tried_at u.tried s.id n ≡ None))
      → AllOf (SeenBy s.id s.seen) u.made
      → StationOk cells (ghost c u) s
  beside c w u l s h fresh seen =
      record {
        context = ctx_later (ghost c w) (ghost c u) l s.id s.context h.context;
        preps = preps_later (ghost c w) (ghost c u) l s.id s.preps h.preps;
        fresh = fresh;
        cells = h.cells;
        id = h.id;
        next = h.next;
        ring = h.ring;
        seen = seen;
      }

  new_made : (o : Option (Made Term ℕ)) (g h : Ghost) → NewMade g h o → OfSome (MadeOk h) o
  new_made None g h k = tt
  new_made (Some x) g h k = k.0

  once_after : (o : Option (Made Term ℕ)) (made : List (Made Term ℕ)) (h g : Ghost) → g.made ≡ made → NewMade g h o → AllOf (λ m. AllOf (OneOf m) made) made
      → AllOf (λ m. AllOf (OneOf m) (with_one o made)) (with_one o made)
  once_after None made h g is k once = once
  once_after (Some m) made h g is k once = once_more m made (subst (AllOf (NotBoth m)) is k.1) once

  new_tried : (o : Option (Tried Term ℕ)) (g : Ghost) (id : ℕ) → NewTried cells g id o → OfSome (TriedOk cells g) o
  new_tried None g id h = tt
  new_tried (Some x) g id h = h

  station_after_goes : (c : Conns) (w : TheWorld) (id : ℕ) (s : Station Term ℕ) (d : Station Term ℕ × Reply Term ℕ) → s.id ≡ id → WorldOk cells c w
      → StationGoes cells (ghost c w) s d → Goes cells c w (station_after m w id d).0
  station_after_goes c w id s d is h k =
      let u = (station_after m w id d).0 in
      let (own, made, tried, sent, _, by_made, by_tried) = k in
      let l : Later (ghost c w) (ghost c u) = told_more (ghost c w) d.1.made d.1.tried in (
        c,
        l,
        record {
          core = h.core;
          radio = radio_later (ghost c w) (ghost c u) l w.phone.radio h.radio;
          stations = all_put (StationOk cells (ghost c w)) (StationOk cells (ghost c u)) id d.0 w.stations own
              (λ t other ok. beside c w u l t ok
              (fresh_beside (ghost c w) d.1.made d.1.tried s.id t.id t.next by_made by_tried (λ e. eqb-false t.id id other (sym e ∙ is)) ok.fresh)
              (seen_beside w.made d.1.made s.id t.id t.seen by_made (λ e. eqb-false t.id id other (sym e ∙ is)) ok.seen))
              h.stations;
          sent = all_one (SentOk (ghost c u)) d.1.sent w.sent (sent_stays cells c c w u l w.sent h.sent) (out_ok d.1.sent (ghost c u) sent);
          made = all_one (MadeOk (ghost c u)) d.1.made w.made (made_stays cells c c w u l w.made h.made) (new_made d.1.made (ghost c w) (ghost c u) made);
          tried =
              all_one (TriedOk cells (ghost c u)) d.1.tried w.tried (tried_stays cells c c w u l w.tried h.tried)
              (new_tried d.1.tried (ghost c u) s.id tried);
          took = took_stays cells c c w u l w.took h.took;
          once = once_after d.1.made w.made (ghost c u) (ghost c w) refl made h.once;
        },
        as_before w.core.link c.top,
      )

  -- the turn of a station
  station_goes : (c : Conns) (w : TheWorld) (id : ℕ) (input : StationInput Term ℕ) (came : Option (Outgoing Term ℕ)) (s : Station Term ℕ) → WorldOk cells c w
      → s.id ≡ id → StationGoes cells (ghost c w) s (station_step (term_reading_by same) s input (outcome_of m (attempts_at m input came (Some s))))
      → Goes cells c w (turn_of m w id input came (Some s)).0
  station_goes c w id input came s h is k =
      station_after_goes c w id s (station_step (term_reading_by same) s input (outcome_of m (attempts_at m input came (Some s)))) is h k

  pub station_acts_goes : (c : Conns) (w : TheWorld) (id : ℕ) (act : StationAct) → IsStationAct act → WorldOk cells c w → (s : Station Term ℕ)
      → Found w (IsAt cells c w) id s → Goes cells c w (turn_of m w id (StationActs act) None (Some s)).0
  station_acts_goes c w id act is h s f =
      let (ok, above, _, _) = f.holds in
      station_goes c w id (StationActs act) None s h f.own
      (act_goes same cells cells_ok (ghost c w) h.made h.tried s ok above.0 act is)

  pub station_air_goes : (c : Conns) (w : TheWorld) (id air : ℕ) (bearer : Bearer) (pdu : List ℕ)
      (came : Option (Outgoing Term ℕ))
      → CameUp (ghost c w) id air came
      → WorldOk cells c w → (s : Station Term ℕ) → Found w (IsAt cells c w) id s
      → let a = attempts_at m (AirPdu air bearer pdu) came (Some s) in IsHonest a.opening a.came (outcome_of m a)
      → Goes cells c w (turn_of m w id (AirPdu air bearer pdu) came (Some s)).0
  station_air_goes c w id air bearer pdu came k h s f honest =
      station_goes c w id (AirPdu air bearer pdu) came s h f.own
      (air_goes same cells (ghost c w) s f.holds.0 air came (subst (λ n. CameUp (ghost c w) n air came) (sym f.own) k)
      (outcome_of m (attempts_at m (AirPdu air bearer pdu) came (Some s))) (which bearer) pdu honest)

  -- and to a record that comes to it
  pub station_record_goes : (c : Conns) (w : TheWorld) (on : Interface) (id : ℕ) (came : Option (Outgoing Term ℕ))
      → ReadOk (BetweenOk (ghost c w) (address_on on id)) came
      → OfSome (λ x. (address_of x ≡ address_on on id) × FitsAll w x) came → WorldOk cells c w → (s : Station Term ℕ) → Found w (IsAt cells c w) id s
      → Goes cells c w (turn_of m w id (StationRecord on (content_in m came)) came (Some s)).0
  station_record_goes c w on id (Some (Between to fields key)) k fits h s f =
      station_goes c w id (StationRecord on (content_in m (Some (Between to fields key)))) (Some (Between to fields key)) s h f.own
      (record_goes same cells (ghost c w) h.made h.tried s f.holds.0 on fields key (
        subst (λ n. BetweenOk (ghost c w) (address_on on n) fields key) (sym f.own) k,
        λ e. (
          f.holds.2,
          subst (λ a. InFlight s (Between a fields key)) (fits.0 ∙ (λ j. address_on (e j) (sym f.own j))) (fits.1 s f.holds.3),
        ),
      ))
  station_record_goes c w on id other k fits h s f =
      station_goes c w id (StationRecord on (content_in m other)) other s h f.own (f.holds.0, tt, tt, tt, refl, tt, tt)
