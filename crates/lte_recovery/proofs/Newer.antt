-- The core's next connection number is above all that a station saw.
use Rattle.std.proofs.Common.{sym, subst, ℕ, ◌<◌, ◌≤◌, arith, Bool, List, [], ◌∷◌, Option, Some, None, Result, Ok, Err}
use Rattle.std.specs.{Prelude.⊤, List.AllByRecursion as AllOf}
use Rattle.rec_base.specs.declared.faults.RecFault.{RecFault}
use Rattle.key_model.specs.{Term.Term, Term.Root, HandoverTable.NumberedKey, Reading.Reading, Reading.term_reading_by}
use Rattle.s1x2_rec.specs.{Content.Content, Fields.Fields, Content.map_content}
use Rattle.lte_events.specs.{Ranges.IsEvent, Site.Site, declared.addresses.Address.Address, declared.events.Event.Event, declared.setups.StationSetup.StationSetup}
use Rattle.lte_machine.specs.{Ciphers.Ciphers, Ciphers.octets_of, Machines.machine_by, Opening.Opening, Opening.Outcome, Reply.Reply, Run.run, Run.stations_of, StationChoice.record_row, Reply.unseen}
use Rattle.lte_machine.specs.StationState.{Station, StationInput, StationActs, AirPdu, StationRecord, Interface}
use Rattle.lte_machine.specs.StationRows as rows
use Rattle.lte_machine.specs.StationStep.{plain_station, station_step, station_opens, station_pdu_in}
use Rattle.lte_machine.specs.Wire.{KeyUse, Outgoing, Between}
use Rattle.lte_machine.specs.World.{Machine, happens, turn_of, content_in}
use Rattle.lte_machine.proofs.{CipherLaws.AreCiphers, Routing.Turns, Routing.happens_by, RecordFacts.RecordHas, RecordFacts.record_has}
use Rattle.lte_machine.proofs.StationCases.{RecordCases, AirCases, ActCases, record_case, air_case, act_case, Any}
use Rattle.lte_properties.specs.ChainHolds.{Holds, noted}
use Rattle.lte_properties.proofs.{ChainNumbers.Lists.OfSome, ChainNumbers.Lists.all_put, ChainNumbers.World.happens_holds, Agreement.Events.happens_goes, Agreement.Opener.octets_tell, Agreement.ToldIsFound.SiteOk}
use Rattle.lte_properties.proofs.Agreement.Ghost.{Ghost, BetweenOk, SentOk}
use Rattle.lte_properties.proofs.Agreement.Openings.{Honest, Calm, Along}
use Rattle.lte_properties.proofs.Agreement.World.{Conns, ghost, WorldOk, Settled}
use Rattle.lte_recovery.specs.Reconnection.{TheWorld}

-- ONE STEP OF A STATION

module _ (same : Term → Term → Bool) (g : Ghost) (s : Station Term ℕ) (low : s.last < g.next) where
  abbrev r : Reading Term ℕ
  r = term_reading_by same

  abbrev Below : Station Term ℕ × Reply Term ℕ → Type 0
  Below d = d.0.last < g.next

  abbrev Known : Interface → Address → Fields → rows.RecordRow → Option (NumberedKey Term ℕ) → Type 0
  Known on to fields row key = RecordHas r s on fields row × BetweenOk g to fields key

  by_record : (on : Interface) (to : Address) (fields : Fields) → RecordCases r s (Known on to fields) Below
  by_record on to fields = record {
    nothing = λ answer. low;
    given = λ conn cell caps algs air kenb k. (subst (λ x. BetweenOk g to x (Some kenb)) k.0.fields_is k.1).0;
    released = λ key k. low;
    taken = λ conn origin pair k. low;
    by_s1 = λ w pair k. let (is_drawn, _) = subst (λ x. BetweenOk g to x (Some pair)) k.0.fields_is k.1 in is_drawn.0;
    by_x2 = λ w star k. let (is_drawn, _) = subst (λ x. BetweenOk g to x (Some star)) k.0.fields_is k.1 in is_drawn.0;
    answered = λ order key k. low;
    cancelled = λ from key k. low;
    left = λ key k. low;
    renewed = λ conn number air count c e kenb k. (subst (λ x. BetweenOk g to x (Some kenb)) k.0.fields_is k.1).below;
  }

  by_air : AirCases r s Any Below
  by_air = record {
    nothing = λ answer. low;
    secured = λ count k. low;
    opened = λ srb count text k. low;
    packet = λ drb count text k. low;
    by_s1 = λ at count k p e. low;
    within = λ at count origin k p e. low;
    by_x2 = λ at count number k p e. low;
  }

  by_act : ActCases r s Any Below
  by_act = record {
    nothing = λ answer. low;
    by_x2 = λ number target cell k c e. low;
    by_s1 = λ number target cell k c e. low;
    within = λ number air cell k c e. low;
    commanded = λ via order count k c e. low;
    cancelled_x2 = λ conn number target k. low;
    cancelled_s1 = λ conn number cell k. low;
    cancelled_within = λ number k. low;
    asked = λ number k c e. low;
    packet = λ drb count text k c e. low;
    text = λ srb count text k c e. low;
    skipped = λ on n k. low;
  }

  -- a record that was read is so for some address
  abbrev pub ReadOk : Result (Content Term ℕ) RecFault → Type 0
  ReadOk (Err fault) = ⊤
  ReadOk (Ok content) = (to : Address) × BetweenOk g to content.fields content.key

  abbrev pub InputOk : StationInput Term ℕ → Type 0
  InputOk (StationRecord on read) = ReadOk read
  InputOk other = ⊤

  pub step_below : (i : StationInput Term ℕ) (outcome : Outcome) → InputOk i → (station_step r s i outcome).0.last < g.next
  step_below (StationActs act) outcome f = act_case r s Below Any by_act _ tt
  step_below (AirPdu air bearer pdu) outcome f = air_case r s Below Any by_air _ tt
  step_below (StationRecord on (Err fault)) outcome f = low
  step_below (StationRecord on (Ok content)) outcome f =
      record_case r s Below (Known on f.0 content.fields) (by_record on f.0 content.fields)
      (record_row (plain_station r s) on (Ok (map_content unseen r.ncc content))) content.key (record_has r s on content, f.1)

-- EVERY EVENT, AND EVERY RUN

module _ (same : Term → Term → Bool) (sender : Option (Outgoing Term ℕ) → Option (KeyUse Term))
    (opener : Opening Term → List ℕ → Option (Outgoing Term ℕ) → Outcome) (c : Ciphers Term) (good : AreCiphers c)
    (between : Fields → Option (NumberedKey Term ℕ) → List ℕ) (cells : List Site) where
  abbrev m : Machine Term ℕ (Outgoing Term ℕ)
  m = machine_by same Root (octets_of c between) sender opener

  abbrev pub AllBelow : ℕ → TheWorld → Type 0
  AllBelow n w = AllOf (λ s. s.last < n) w.stations

  read_ok : (g : Ghost) (s : Station Term ℕ) (low : s.last < g.next) (came : Option (Outgoing Term ℕ)) → OfSome (SentOk g) came → ReadOk same g s low (content_in m came)
  read_ok g s low None h = tt
  read_ok g s low (Some (Between to fields key)) h = (to, h)
  read_ok g s low (Some other) h = tt

  module _ (k : Conns) (w : TheWorld) (ok : WorldOk cells k w) (h : AllBelow k.next w) where
    turned : (id : ℕ) (i : StationInput Term ℕ) (came : Option (Outgoing Term ℕ)) (s : Station Term ℕ) (low : s.last < k.next)
        → InputOk same (ghost k w) s low i → AllBelow k.next (turn_of m w id i came (Some s)).0
    turned id i came s low f =
        let outcome = m.opener (station_opens m.reading s i) (station_pdu_in i) came in
        let d = station_step m.reading s i outcome in
        all_put (λ (t : Station Term ℕ). t.last < k.next) (λ (t : Station Term ℕ). t.last < k.next) id d.0 w.stations
        (step_below same (ghost k w) s low i outcome f) (λ t e old. old) h

    turns : Turns m w (λ e. Unit {0}) (λ to pdu came. OfSome (SentOk (ghost k w)) came) (λ s. s.last < k.next) (λ done a. AllBelow k.next done.0)
    turns = record {
      auth = λ ksi key caps is new. h;
      phone = λ i came turn is. h;
      core_acts = λ act is. h;
      core_nas = λ pdu came is. h;
      core_record = λ pdu came is. h;
      station_acts = λ id act is s f. turned id (StationActs act) None s f.holds tt;
      station_air = λ id air bearer pdu came is s f. turned id (AirPdu air bearer pdu) came s f.holds tt;
      station_record = λ on id pdu came is s f. turned id (StationRecord on (content_in m came)) came s f.holds (read_ok (ghost k w) s f.holds came is);
      none = λ answer. h;
    }

    happens_below : (e : Event) → AllBelow k.next (happens m w e).0
    happens_below e = happens_by turns (λ to pdu. tt) ok.sent h e tt

  grown : (a b : ℕ) → a ≤ b → (ss : List (Station Term ℕ)) → AllOf (λ s. s.last < a) ss → AllOf (λ s. s.last < b) ss
  grown a b le [] h = tt
  grown a b le (s ∷ ss) h = (let l : s.last < a = h.0 in omega arith, grown a b le ss h.1)

  pub run_below : AllOf SiteOk cells → (top : ℕ → ℕ) (k : Conns) (w : TheWorld) (es : List Event) → Holds top w → WorldOk cells k w → AllBelow k.next w
      → AllOf IsEvent es → Along (λ v e. Settled v) m w es → Along (Honest m) m w es → Along (Calm m) m w es
      → AllBelow (run m w es).core.next (run m w es)
  run_below sites top k w [] holds ok h is settled honest calm = subst (λ n. AllBelow n w) (sym ok.core.1) h
  run_below sites top k w (e ∷ es) holds ok h is settled honest calm =
      let u = (happens m w e).0 in
      let step = happens_goes same Root (octets_of c between) sender opener (octets_tell c good between) cells sites k
      w e is.0 ok settled.0 holds.above holds.flight honest.0 calm.0 in
      run_below sites (noted u.core.link top) step.0 u es (happens_holds same Root (octets_of c between) sender opener top w e holds) step.2
      (grown k.next step.0.next step.1.next u.stations (happens_below k w ok h e))
      is.1 settled.1 honest.1 calm.1

pub first_below : (n : ℕ) → 1 ≤ n → (cells : List Site) (ss : List StationSetup) → AllOf (λ s. s.last < n) (stations_of {K = Term} {C = ℕ} cells ss)
first_below n some cells [] = tt
first_below n some cells (s ∷ ss) = (omega arith, first_below n some cells ss)
