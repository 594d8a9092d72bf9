-- Packets open to what was sent, in every world of every run.
use Rattle.std.proofs.Common.{◌≡◌, refl, ℕ, ◌+◌, ◌<◌, ◌≤◌, Bool, List, [], ◌∷◌, Option, Some, None, arith}
use Rattle.std.specs.Prelude.{IsTrue}
use Rattle.alg_choice.specs.{Choice.choice_of, declared.caps.Caps.Caps}
use Rattle.rec_base.specs.declared.uses.Dir.TheVariants.{Down}
use Rattle.lte_events.specs.{declared.addresses.Address.Address, declared.answers.Answer.TheVariants.Done, declared.events.Event.Event, declared.setups.Setup.Setup, Site.Site}
use Rattle.key_model.specs.{Term.Term, Term.Root, HandoverTable.NumberedKey, Reading.Reading, Reading.term_reading_by}
use Rattle.s1x2_rec.specs.Fields.{Fields}
use Rattle.lte_machine.specs.Wire.{KeyUse, Outgoing, SealedNas, SealedRrc, UserPacket, Between, address_of}
use Rattle.lte_machine.specs.{Ciphers.Ciphers, Ciphers.octets_of, Opening.Opening, Opening.Outcome, PhoneStep.phone_opens, Run.first_world, Step.Attempted, Step.phone_attempts, Machines.machine_over, Machines.sender_of, Distinct.keys_of}
use Rattle.lte_machine.specs.PhoneState.{PhoneInput, PhoneAuth, PhoneActs, PhoneNasPdu, PhoneAirPdu}
use Rattle.lte_machine.specs.PhoneRows as phone
use Rattle.lte_machine.specs.StationState.{StationActs, AirPdu, StationRecord}
use Rattle.lte_machine.specs.CoreState.{CoreActs, CoreNasPdu, CoreRecord}
use Rattle.lte_machine.specs.World.{Machine, Line, phone_turn, content_in, authenticated, next_root, happens}
use Rattle.lte_machine.proofs.{ActFacts.act_has, PhoneActFacts.act_has as phone_act_has, CipherLaws.AreCiphers, Worlds.TheWorld}
use Rattle.lte_machine.proofs.Routing.{IsTurn, PhoneGets, Turns, happens_by}
use Rattle.lte_properties.specs.{ChainBelow.AllOf, Packets.OpensToSent, SecondCase.SecondAtStarting, Reach.AllReach}
use Rattle.lte_properties.specs.ChainHolds.{machine_by, run, noted, Holds}
use Rattle.lte_properties.proofs.Agreement.Openings.{Honest, Calm, Along, OpensByTerms}
use Rattle.lte_properties.proofs.{Opening.Openings.SenderIs, Opening.Openings.SameRoot, ChainNumbers.Lists.all_map, ChainNumbers.Lists.one_root_more, ChainNumbers.World.happens_holds, ChainNumbers.World.first_holds, Agreement.Ghost.Ghost, Agreement.Ghost.StationOk, Agreement.Later.Later, Agreement.ToldIsFound.SiteOk, Agreement.Events.happens_goes, Agreement.Opener.octets_tell, Opening.Opens.OpensBack, SameKeys.IsReflexive, Opening.Delivered.opens_where_fits, Opening.NasRows.phone_goes, Opening.NasRows.core_auth_goes, Opening.NasOpens.CameDown, Opening.NasOpens.nas_pdu_needs, Opening.Air.AirOk, Opening.Air.air_later, Opening.AirWalk.station_act_needs, Opening.Fits.packets_fit, Freshness.PhoneRun.phone_always_in_order, Opening.Heard.always_heard, Opening.Second.second_at, Named.Reaches.sites, Named.Reaches.first_named, Named.World.run_named, Named.World.addresses_named}
use Rattle.lte_properties.proofs.Agreement.World.{Conns, ghost, WorldOk, Settled}
use Rattle.lte_properties.proofs.Agreement.Holds.{cells_of, no_conns, first_ok}
use Rattle.lte_properties.proofs.Agreement.Whole.{honest_along, settled_from_first, calm_over, new_kenb}
use Rattle.lte_properties.proofs.Opening.Nas.{Choices, SentOk, More, phone_more, core_more, sent_more}
use Rattle.lte_properties.proofs.Opening.World.{PacketsOk, Keeps, chosen_at, chosen_below, chosen_there, by_world_keeps, phone_turn_keeps, core_turn_keeps, station_turn_keeps}
use Rattle.lte_events.specs.Ranges.{has_station, IsEvent, IsSetup}

-- what stands in a world: agreement's invariant, and what is known of packets
abbrev pub Stands : List Site → TheWorld → Type 0
Stands cells w = record { conns : Conns; choices : Choices; agrees : WorldOk cells conns w; packets : PacketsOk choices conns w }

module _ (same : Term → Term → Bool) (sender : Option (Outgoing Term ℕ) → Option (KeyUse Term))
    (opener : Opening Term → List ℕ → Option (Outgoing Term ℕ) → Outcome) (c : Ciphers Term) (good : AreCiphers c)
    (between : Fields → Option (NumberedKey Term ℕ) → List ℕ) (cells : List Site) where
  abbrev q : Reading Term ℕ
  q = term_reading_by same

  abbrev m : Machine Term ℕ (Outgoing Term ℕ)
  m = machine_by same Root (octets_of c between) sender opener

  -- A RECORD THAT WAS SENT, AND OCTETS THAT NOBODY SENT

  -- what comes to the phone on NAS
  abbrev CameTo : Choices → TheWorld → Address → List ℕ → Option (Outgoing Term ℕ) → Type 0
  CameTo g w to pdu came = to ≡ Address.PhoneNas → CameDown same g (next_root w) c good pdu came

  sent_came : (g : Choices) (w : TheWorld) (x : Outgoing Term ℕ) → SentOk g (next_root w) x → CameTo g w (address_of x) (octets_of c between x) (Some x)
  sent_came g w (SealedNas Down header u e text) h = λ is. (refl, h)
  sent_came g w (SealedRrc Down station air srb u e text) h = λ is. absurd cc
  sent_came g w (UserPacket Down station air drb e text) h = λ is. absurd cc
  sent_came g w (Between to fields key) h = λ is. tt
  sent_came g w other h = λ is. absurd cc

  -- AN AUTHENTICATION

  authenticated_keeps : (g : Choices) (k d : Conns) (w : TheWorld) (ksi : ℕ) (octets : List ℕ) (caps : Caps) → ksi ≤ 6 → PacketsOk g k w
      → Later (ghost k w) (ghost d (authenticated m w ksi (Root (next_root w) octets) caps).0)
      → Keeps d (authenticated m w ksi (Root (next_root w) octets) caps).0
  authenticated_keeps g k d w ksi octets caps fits h later =
      let n = next_root w in
      let root = Root n octets in
      let u = (authenticated m w ksi root caps).0 in
      let algs = choice_of w.core.priority caps in
      let g' = chosen_at g n algs in
      let count : next_root u ≡ n + 1 = one_root_more w.history root in
      let low : n < next_root u = omega arith in
      let more : More g n g' (next_root u) = (omega arith, λ i below. chosen_below g n algs i below) in (
        g',
        record {
          core =
              (core_auth_goes same g' (next_root u) ksi caps (Some root) w.core
              (core_more g g' n (next_root u) more w.core h.core)
              (fits, record { number = n; octets = octets; is = refl; low = low; so = chosen_there g n algs })).0;
          phone =
              (phone_goes same g' (next_root u) (phone.OfAuth (phone.Authenticated ksi)) (Some root) w.phone
              (phone_more g g' n (next_root u) more w.phone h.phone)
              (record { number = n; octets = octets; is = refl; low = low; so = tt })).0;
          nas = nas_after g g' n (next_root u) more w.sent h.nas;
          air = air_after (ghost k w) (ghost d u) later w.sent h.air;
        },
      )
    where
      nas_after : (g h : Choices) (n l : ℕ) → More g n h l → (xs : List (Outgoing Term ℕ)) → AllOf (SentOk g n) xs → AllOf (SentOk h l) xs
      nas_after g h n l more [] k = tt
      nas_after g h n l more (x ∷ xs) k = (sent_more g h n l more x k.0, nas_after g h n l more xs k.1)

      air_after : (g h : Ghost) → Later g h → (xs : List (Outgoing Term ℕ)) → AllOf (AirOk g) xs → AllOf (AirOk h) xs
      air_after g h l [] k = tt
      air_after g h l (x ∷ xs) k = (air_later g h l x k.0, air_after g h l xs k.1)

  -- EVERY EVENT

  module _ (g : Choices) (k d : Conns) (w : TheWorld) (ok : WorldOk cells k w) (h : PacketsOk g k w) where
    -- what an event leaves, where the message accepted in it has one sender
    abbrev Left : TheWorld × Line Term → Attempted Term (Outgoing Term ℕ) → Type 0
    Left done a =
        (done.1.answer ≡ Done → SenderIs (keys_of done.0.history) a.opening (sender_of a.came) (opener a.opening a.octets a.came))
        → Later (ghost k w) (ghost d done.0) → Keeps d done.0

    phone_keeps : (input : PhoneInput Term) (came : Option (Outgoing Term ℕ))
        → IsTurn input
        → PhoneGets IsEvent (CameTo g w) input came
        → Left (phone_turn m w input came) (phone_attempts m w input came)
    phone_keeps (PhoneAuth ksi key) came turn is one later = absurd turn
    phone_keeps (PhoneActs act) (Some x) turn is one later = absurd is
    phone_keeps (PhoneActs act) None turn is one later =
        phone_turn_keeps same sender opener c good between cells g k d w (PhoneActs act) None ok h
        (act, phone_act_has q w.phone act, is) (act, phone_act_has q w.phone act, is) later
    phone_keeps (PhoneNasPdu pdu) came turn is one later =
        phone_turn_keeps same sender opener c good between cells g k d w (PhoneNasPdu pdu) came ok h
        (nas_pdu_needs same g (next_root w) c good w.phone pdu came (is refl) w.history
        (opener (phone_opens q w.phone (PhoneNasPdu pdu)) pdu came) one)
        tt later
    phone_keeps (PhoneAirPdu station air bearer pdu) came turn is one later =
        phone_turn_keeps same sender opener c good between cells g k d w (PhoneAirPdu station air bearer pdu) came ok h tt tt later

    turns : Turns m w IsEvent (CameTo g w) (StationOk cells (ghost k w)) Left
    turns = record {
      auth = λ ksi octets caps is new one later. authenticated_keeps g k d w ksi octets caps is.0 h later;
      phone = phone_keeps;
      core_acts = λ act is one later.
          core_turn_keeps same sender opener c good between cells g k d w (CoreActs act) None h tt
          (act, act_has q w.core act, is) later;
      core_nas = λ pdu came is one later. core_turn_keeps same sender opener c good between cells g k d w (CoreNasPdu pdu) came h tt tt later;
      core_record = λ pdu came is one later.
          core_turn_keeps same sender opener c good between cells g k d w
          (CoreRecord (content_in m came)) came h tt tt later;
      station_acts = λ id act is s f one later.
          station_turn_keeps same sender opener c good between cells g k d w id (StationActs act) None s h (λ o. station_act_needs q s act is) f.holds later;
      station_air = λ id air bearer pdu came is s f one later.
          station_turn_keeps same sender opener c good between cells g k d w id (AirPdu air bearer pdu) came s h (λ o. tt) f.holds later;
      station_record = λ on id pdu came is s f one later.
          station_turn_keeps same sender opener c good between cells g k d w id (StationRecord on (content_in m came)) came s h (λ o. tt) f.holds later;
      none = λ answer one later. by_world_keeps same sender opener c good between cells g k d w answer h later;
    }

  pub happens_keeps : (g : Choices) (k d : Conns) (w : TheWorld) (e : Event) → IsEvent e → WorldOk cells k w → PacketsOk g k w → SameRoot m w e
      → Later (ghost k w) (ghost d (happens m w e).0) → Keeps d (happens m w e).0
  happens_keeps g k d w e is ok h one later =
      happens_by (turns g k d w ok h) (λ to pdu e. tt)
      (all_map (SentOk g (next_root w)) (λ x. CameTo g w (address_of x) (octets_of c between x) (Some x))
      (sent_came g w) w.sent h.nas)
      ok.stations e is one later

  -- EVERY RUN

  pub run_stands : AllOf SiteOk cells → (top : ℕ → ℕ) (w : TheWorld) (es : List Event) → Holds top w → Stands cells w → AllOf IsEvent es
      → Along (λ v e. Settled v) m w es → Along (Honest m) m w es → Along (Calm m) m w es → Along (SameRoot m) m w es → Stands cells (run m w es)
  run_stands sites top w [] holds h is settled honest calm one = h
  run_stands sites top w (e ∷ es) holds h is settled honest calm one =
      let u = (happens m w e).0 in
      let (conns, later, agrees, _) = happens_goes same Root (octets_of c between) sender opener (octets_tell c good between) cells sites h.conns
      w e is.0 h.agrees settled.0 holds.above holds.flight honest.0 calm.0 in
      let (choices, packets) = happens_keeps h.choices h.conns conns w e is.0 h.agrees h.packets one.0 later in
      run_stands sites (noted u.core.link top) u es (happens_holds same Root (octets_of c between) sender opener top w e holds)
      (record { conns = conns; choices = choices; agrees = agrees; packets = packets })
      is.1 settled.1 honest.1 calm.1 one.1

-- before the first event nothing was sent
pub first_stands : (setup : Setup) → IsSetup setup → Stands setup.cells (first_world setup)
first_stands setup is = record {
  conns = no_conns setup;
  choices = λ n. choice_of [] (record { eea = 0; eia = 0 });
  agrees = first_ok setup is;
  packets = record { core = (tt, refl, tt); phone = (tt, tt); nas = tt; air = tt };
}

-- of a machine whose opener compares the uses of SRB records as terms, and whose NAS messages come of the KASME under which they
-- are accepted
module _ (same : Term → Term → Bool) (itself : IsReflexive same) (c : Ciphers Term) (good : AreCiphers c)
    (between : Fields → Option (NumberedKey Term ℕ) → List ℕ)
    (opener : Opening Term → List ℕ → Option (Outgoing Term ℕ) → Outcome) (by_terms : OpensByTerms c opener)
    (setup : Setup) (is : IsSetup setup) (events : List Event) (are : AllOf IsEvent events)
    (one : Along (SameRoot (record (machine_over same c between) { opener = opener }))
    (record (machine_over same c between) { opener = opener }) (first_world setup) events) where
  abbrev over : Machine Term ℕ (Outgoing Term ℕ)
  over = record (machine_over same c between) { opener = opener }

  abbrev last : TheWorld
  last = run over (first_world setup) events

  -- both invariants hold in every world of a run
  stands : Stands setup.cells last
  stands =
      run_stands same sender_of opener c good between setup.cells (cells_of setup is) (λ conn. 0) (first_world setup)
      events (first_holds setup) (first_stands setup is) are
      (settled_from_first same itself (octets_of c between) sender_of opener setup is events are)
      (honest_along same Root (octets_of c between) sender_of opener c by_terms (first_world setup) events)
      (calm_over same itself c good between opener by_terms setup is events are) one

  -- an opener that opens what comes under the uses it was sealed with opens packets to what was sent
  pub packets_open : (back : Opening Term → List ℕ → Option (Outgoing Term ℕ) → Outcome)
      → OpensBack c back
      → OpensToSent (record (machine_over same c between) { opener = back }) last
  packets_open back opens =
      opens_where_fits same Root sender_of back c good opens between last
      (packets_fit setup.cells stands.conns stands.choices last stands.agrees stands.packets)

  -- the second case of opening comes at a starting station alone, by whatever opener
  pub second_case : (back : Opening Term → List ℕ → Option (Outgoing Term ℕ) → Outcome)
      → SecondAtStarting (record (machine_over same c between) { opener = back }) last
  second_case back =
      second_at same sender_of back c good between setup.cells stands.choices stands.conns last stands.agrees stands.packets (always_heard over setup events)
      (new_kenb last.phone.radio last.took (phone_always_in_order same itself (octets_of c between) sender_of opener setup events).1)

  -- and each record goes to a station of the setup, if it goes to a station
  pub all_reach : AllReach setup last
  all_reach =
      addresses_named (λ id. IsTrue (has_station setup.stations id)) setup.cells (sites setup is) stands.conns last
      (run_named (λ id. IsTrue (has_station setup.stations id)) setup.cells (sites setup is) same Root
      (octets_of c between) sender_of opener (first_world setup) events (first_named setup is))
      last.sent (run_named (λ id. IsTrue (has_station setup.stations id)) setup.cells (sites setup is) same Root
      (octets_of c between) sender_of opener (first_world setup) events (first_named setup is)).sent
      stands.agrees.sent stands.packets.air
