-- A station names the stations of its state, of the record that came, and of its cells alone, in its state and in what it sends.
use Rattle.std.proofs.Common.{◌≡◌, refl, sym, subst, ℕ, Bool, true, List, [], ◌∷◌, ◌++◌, Option, Some, None, option_map, Ok, Err}
use Rattle.std.specs.Prelude.{filter, not, nat_le, ⊤}
use Rattle.annex_a_keys.specs.Cell.{Place}
use Rattle.key_model.specs.{Reading.Reading, Reading.term_reading_by, Term.Term}
use Rattle.s1x2_rec.specs.{Content.map_content, Fields.Fields}
use Rattle.ho_prep.specs.declared.origins.By.{By}
use Rattle.ho_prep.specs.Prep.{Prep, at_air, is_of, is_at}
use Rattle.lte_events.specs.{declared.acts.StationAct.StationAct, Site.Site, Site.station_of}
use Rattle.lte_machine.specs.{Bearers.Which, Bearers.which, Opening.Outcome, StationRows.Admitted, StationStep.plain_station, StationStep.station_step}
use Rattle.lte_machine.specs.Reply.{Origin, Reply, unseen, Made}
use Rattle.lte_machine.specs.StationState.{Station, Context, Interface, StationInput, StationActs, AirPdu, StationRecord}
use Rattle.lte_machine.specs.StationKeys.{given_up, with_security, with_rrc_taken, with_packet_taken, with_skipped}
use Rattle.lte_machine.specs.StationRecords.{with_pair, with_answer, source_release}
use Rattle.lte_machine.specs.StationChoice.{record_row, air_front, air_row, act_row}
use Rattle.lte_properties.specs.ChainBelow.{AllOf}
use Rattle.lte_properties.proofs.ChainNumbers.Lists.{OfSome, all_append, all_filter, all_find}
use Rattle.lte_properties.proofs.Named.Facts.{OriginNamed, ByNamed, PrepNamed, TargetNamed, AttemptNamed, ContextNamed, StationNamed, FieldsNamed, SentNamed, InputNamed}
use Rattle.lte_machine.proofs.{Tests.changed_so, RecordFacts.RecordHas, RecordFacts.record_has}
use Rattle.lte_machine.proofs.StationCases.{RecordCases, AirCases, ActCases, record_case, air_case, act_case}
use Rattle.lte_machine.proofs.AirFacts.{AtPrepared, AirHas, air_has}
use Rattle.lte_machine.proofs.StationActFacts.{CancelsX2, StationActHas, station_act_has}

module _ (P : ℕ → Type 0) (cells : List Site) (sites : (cell : Place) (id : ℕ) → station_of cell cells ≡ Some id → P id) where
  -- CONTEXTS

  origin_within : (o : Option Origin) → OriginNamed P o
      → OriginNamed P (option_map (λ (p : ℕ × ℕ). record { source = p.0; attempt = p.1 }) (option_map (λ a. (a.source, a.attempt)) o))
  origin_within None h = tt
  origin_within (Some a) h = h

  -- WHAT A ROW DOES

  abbrev pub MadeNamed : Option (Made Term ℕ) → Type 0
  MadeNamed None = ⊤
  MadeNamed (Some m) = P m.station

  -- the station, what it sends, and what it makes; its number stays
  abbrev pub Done : Station Term ℕ → Station Term ℕ × Reply Term ℕ → Type 0
  Done s d = StationNamed P cells d.0 × SentNamed P d.1.sent × MadeNamed d.1.made × (d.0.id ≡ s.id)

  module _ (same : Term → Term → Bool) where
    abbrev r : Reading Term ℕ
    r = term_reading_by same

    released : (conn : ℕ) (origin : Option Origin) → OriginNamed P origin → SentNamed P (source_release {K = Term} {C = ℕ} conn origin)
    released conn None h = tt
    released conn (Some o) h = (h, tt)

    module _ (s : Station Term ℕ) (h : StationNamed P cells s) where
      -- its preparations, and where its context alone changes
      preps : AllOf (λ p. PrepNamed P p) s.preps
      preps = search

      with_context : (o : Option (Context Term ℕ)) → ContextNamed P o → StationNamed P cells (record s { context = o })
      with_context o k = search

      mapped : (f : Context Term ℕ → Context Term ℕ) → ((c : Context Term ℕ) → ContextNamed P (Some c) → ContextNamed P (Some (f c)))
          → StationNamed P cells (record s { context = option_map f s.context })
      mapped f k = with_context (option_map f s.context) (changed_so (λ o. ContextNamed P o) f k s.context h.2)

      gives_up : StationNamed P cells (record s { context = option_map given_up s.context })
      gives_up = mapped given_up (λ c k. (tt, k.1))

      -- the context, and a preparation
      here : (c : Context Term ℕ) → s.context ≡ Some c → ContextNamed P (Some c)
      here c e = subst (λ o. ContextNamed P o) e h.2

      found : (at : ℕ) (p : Prep Term ℕ) → at_air at s.preps ≡ Some p → PrepNamed P p
      found at p e = (subst (OfSome (λ q. PrepNamed P q × (is_at at q ≡ true))) e (all_find (λ p. PrepNamed P p) (is_at at) s.preps preps)).0

      admitted_preps : (w : Admitted) (p : Prep Term ℕ) → PrepNamed P p → AllOf (λ p. PrepNamed P p) (filter (λ q. nat_le w.conn q.conn) s.preps ++ p ∷ [])
      admitted_preps w p f =
          all_append (λ p. PrepNamed P p) (filter (λ q. nat_le w.conn q.conn) s.preps) (p ∷ [])
          (all_filter (λ p. PrepNamed P p) (λ q. nat_le w.conn q.conn) s.preps preps) (f, tt)

      record_named : (on : Interface) (fields : Fields) → FieldsNamed P fields → RecordCases r s (λ row key. RecordHas r s on fields row) (Done s)
      record_named on fields i =
          record {
            nothing = λ answer. (h, tt, tt, refl);
            given = λ conn cell caps algs air kenb k. ((h.0, h.1, (tt, tt), tt), tt, h.0, refl);
            released = λ key k. ((h.0, h.1, tt, tt), tt, tt, refl);
            taken = λ conn origin pair k. (
              mapped (with_pair pair) (λ c k. k),
              released conn origin (subst (OriginNamed P) (sym k.origin_is) (here k.context k.serving).1),
              tt,
              refl,
            );
            by_s1 = λ w pair k.
                let f : P w.from.source = subst (FieldsNamed P) k.fields_is i in
                ((h.0, h.1, h.2, admitted_preps w _ (f, tt)), (tt, f), h.0, refl);
            by_x2 = λ w star k.
                let f : P w.from.source = subst (FieldsNamed P) k.fields_is i in
                ((h.0, h.1, h.2, admitted_preps w _ (f, tt)), (f, tt), h.0, refl);
            answered = λ order key k. (
              mapped (with_answer order) (λ c k. (changed_so (λ o. AttemptNamed P o) _ (λ a m. m) c.attempt k.0, k.1)),
              tt,
              tt,
              refl,
            );
            cancelled = λ from key k. (
              (h.0, h.1, h.2, all_filter (λ p. PrepNamed P p) (λ p. not (is_of from.source from.attempt p)) s.preps preps),
              tt,
              tt,
              refl,
            );
            left = λ key k. (with_context None tt, tt, tt, refl);
            renewed = λ conn number air count c e kenb k. let d = here c e in ((h.0, h.1, (tt, d.1), ((h.0, origin_within c.origin d.1), tt)), tt, h.0, refl);
          }

      -- how the preparation came that completes
      by_named : (air : ℕ) (on : Which) (pdu : List ℕ) (at : ℕ) (by : By) (count : ℕ) → AtPrepared s air on pdu at by count → ByNamed P by
      by_named air on pdu at by count f = subst (ByNamed P) (sym f.by_is) (found air f.prep f.found).1

      air_named : (air : ℕ) (on : Which) (pdu : List ℕ) (outcome : Outcome) → AirCases r s (AirHas r s air on pdu outcome) (Done s)
      air_named air on pdu outcome =
          record {
            nothing = λ answer. (h, tt, tt, refl);
            secured = λ count k. (mapped (with_security count) (λ c k. k), tt, tt, refl);
            opened = λ srb count text k. (mapped (with_rrc_taken srb count) (λ c k. k), tt, tt, refl);
            packet = λ drb count text k. (mapped (with_packet_taken drb count) (λ c k. k), tt, tt, refl);
            by_s1 = λ at count k p e. ((h.0, h.1, (tt, tt), tt), (tt, h.0), tt, refl);
            within = λ at count origin (source, origin_is, (prepared, _)) p e. (
              (
                h.0,
                h.1,
                (tt, subst (OriginNamed P) (sym origin_is) (by_named air on pdu at (By.Intra source) count prepared)),
                tt,
              ),
              tt,
              tt,
              refl,
            );
            by_x2 = λ at count number k p e. let f = found at p e in ((h.0, h.1, (tt, f.0), tt), (tt, h.0), tt, refl);
          }

      -- the target of an attempt over X2 that is given up
      cancels_named : (act : StationAct) (conn number target : ℕ) → CancelsX2 s act conn number target → P target
      cancels_named act conn number target f =
          let g = f.gives_up in
          let target : TargetNamed P g.attempt.via g.attempt.station = subst (λ o. AttemptNamed P o) g.trying (here g.context g.serving).0 in
          subst P (sym f.target_is) (subst (λ v. TargetNamed P v g.attempt.station) g.via_is target)

      act_named : (act : StationAct) → ActCases r s (StationActHas r s act) (Done s)
      act_named act =
          record {
            nothing = λ answer. (h, tt, tt, refl);
            by_x2 = λ number target cell k c e.
                let d = here c e in
                let f = sites cell target (subst (λ x. station_of cell x ≡ Some target) h.1 k.site) in
                ((h.0, h.1, (f, d.1), preps), (f, h.0), tt, refl);
            by_s1 = λ number target cell k c e. let d = here c e in ((h.0, h.1, (tt, d.1), preps), (tt, h.0), tt, refl);
            within = λ number air cell k c e.
                let d = here c e in (
                  (h.0, h.1, (tt, d.1), all_append (λ p. PrepNamed P p) s.preps _ preps ((h.0, origin_within c.origin d.1), tt)),
                  tt,
                  h.0,
                  refl,
                );
            commanded = λ via order count k c e.
                let d = here c e in (
                  (
                    h.0,
                    h.1,
                    (changed_so (λ o. AttemptNamed P o) _ (λ a m. m) c.attempt d.0, d.1),
                    preps,
                  ),
                  tt,
                  tt,
                  refl,
                );
            cancelled_x2 = λ conn number target k. (gives_up, (cancels_named act conn number target k, tt), tt, refl);
            cancelled_s1 = λ conn number cell k. (gives_up, (tt, tt), tt, refl);
            cancelled_within = λ number k. (
              (h.0, h.1, gives_up.2, all_filter (λ p. PrepNamed P p) (λ p. not (is_of s.id number p)) s.preps preps),
              tt,
              tt,
              refl,
            );
            asked = λ number k c e. (with_context (Some c) (here c e), (tt, h.0), tt, refl);
            packet = λ drb count text k c e. (with_context (Some c) (here c e), tt, tt, refl);
            text = λ srb count text k c e. (with_context (Some c) (here c e), tt, tt, refl);
            skipped = λ on n k. (mapped (with_skipped on n) (λ c k. k), tt, tt, refl);
          }

    -- one step
    pub station_step_named : (s : Station Term ℕ) (i : StationInput Term ℕ) (outcome : Outcome)
        → StationNamed P cells s
        → InputNamed P i
        → Done s (station_step r s i outcome)
    station_step_named s (StationActs act) outcome h i =
        act_case r s (Done s) (StationActHas r s act) (act_named s h act) (act_row (plain_station r s) act)
        (station_act_has r s act)
    station_step_named s (AirPdu air bearer pdu) outcome h i =
        air_case r s (Done s) (AirHas r s air (which bearer) pdu outcome) (air_named s h air (which bearer) pdu outcome)
        (air_row (plain_station r s) (air_front (plain_station r s) air (which bearer) pdu) outcome) (air_has r s air (which bearer) pdu outcome)
    station_step_named s (StationRecord on (Ok content)) outcome h i =
        record_case r s (Done s) (λ row key. RecordHas r s on content.fields row) (record_named s h on content.fields i)
        (record_row (plain_station r s) on (Ok (map_content unseen r.ncc content))) content.key (record_has r s on content)
    station_step_named s (StationRecord on (Err fault)) outcome h i = (h, tt, tt, refl)
