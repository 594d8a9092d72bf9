-- A station's step keeps its state in range, and what it sends on S1 and X2 is in range.
use Rattle.std.proofs.Common.{◌≡◌, sym, subst, ℕ, ◌+◌, ◌≤◌, ◌<◌, Bool, List, [], ◌∷◌, ◌++◌, Option, Some, None, option_map, Ok, Err, arith}
use Rattle.std.specs.Prelude.{filter, not, nat_le}
use Rattle.std.specs.List.{AllByRecursion as AllOf}
use Rattle.annex_a_keys.specs.Cell.{Place, IsCell}
use Rattle.lte_events.specs.{Ranges.IsStationAct, declared.acts.HoKind.HoKind, declared.acts.StationAct.StationAct}
use Rattle.key_model.specs.{Chain.ncc_of, Reading.Reading, Reading.term_reading_by, Term.Term}
use Rattle.s1x2_rec.specs.{Content.map_content, Spelling.FieldsInRange}
use Rattle.s1x2_rec.specs.Fields.{Fields, InitialContext, HandoverRequest, ContextModification}
use Rattle.rec_base.specs.Ranges.{IsNumber}
use Rattle.alg_choice.specs.Caps.{IsCaps}
use Rattle.ho_prep.specs.declared.origins.By.{By}
use Rattle.ho_prep.specs.Prep.{Prep, at_air, is_of, is_at}
use Rattle.lte_machine.specs.{Bearers.Which, Bearers.which, Opening.Outcome, StationRows.Admitted, StationStep.plain_station, StationStep.station_step}
use Rattle.lte_machine.specs.Reply.{Origin, Reply, unseen}
use Rattle.lte_machine.specs.StationState.{Station, Context, Via, OverX2, OverS1, Interface, StationInput, StationActs, AirPdu, StationRecord}
use Rattle.lte_machine.specs.StationKeys.{given_up, with_security, with_rrc_taken, with_packet_taken, with_skipped}
use Rattle.lte_machine.specs.StationRecords.{with_pair, with_answer, source_release}
use Rattle.lte_machine.specs.StationChoice.{record_row, air_front, air_row, act_row}
use Rattle.lte_machine.proofs.RangeHolds.{SentRanged, OriginRanged, ByRanged, AttemptRanged, ContextRanged, PrepRanged, StationRanged, StationInputRanged}
use Rattle.lte_machine.proofs.Tests.{changed_so}
use Rattle.lte_machine.proofs.KnownLists.{OfSome, all_append, all_filter, all_find}
use Rattle.lte_machine.proofs.StationCases.{RecordCases, AirCases, ActCases, record_case, air_case, act_case}
use Rattle.lte_machine.proofs.RecordFacts.{Admits, RecordHas, record_has}
use Rattle.lte_machine.proofs.AirFacts.{AtPrepared, AirHas, air_has}
use Rattle.lte_machine.proofs.StationActFacts.{Starts, GivesUp, StationActHas, station_act_has}

-- NUMBERS

next_up : (n : ℕ) → 1 ≤ n + 1
next_up n = omega arith

-- an NCC has three bits
pub three_bits : (n : ℕ) → ncc_of n ≤ 7
three_bits n = omega arith

-- a number that was drawn has 32 bits
drawn : (number next : ℕ) → number ≡ next → next < 4294967296 → 1 ≤ next → IsNumber number
drawn number next e lt low = subst IsNumber (sym e) (low, lt)

-- CONTEXTS

origin_within : (o : Option Origin) → OriginRanged o →
    OriginRanged (option_map (λ (p : ℕ × ℕ). record { source = p.0; attempt = p.1 }) (option_map (λ a. (a.source, a.attempt)) o))
origin_within None h = tt
origin_within (Some a) h = h

-- WHAT A ROW DOES

-- a station and what it sends are in range
abbrev pub StationDone : Station Term ℕ × Reply Term ℕ → Type 0
StationDone d = StationRanged d.0 × SentRanged d.1.sent

module _ (same : Term → Term → Bool) where
  abbrev r : Reading Term ℕ
  r = term_reading_by same

  -- by a record

  release_ranged : (conn : ℕ) (origin : Option Origin) → IsNumber conn → OriginRanged origin → SentRanged (source_release {K = Term} {C = ℕ} conn origin)
  release_ranged conn None n h = tt
  release_ranged conn (Some o) n h = ((n, h.1), tt)

  -- of a context with another attempt, or none
  attempt_ranged : (c : Context Term ℕ) → ContextRanged (Some c) → {A : Type 0} → A
      → IsNumber c.conn × IsCell c.cell × IsCaps c.caps × A × OriginRanged c.origin
  attempt_ranged c k a = let (conn, cell, caps, _, origin) = k in (conn, cell, caps, a, origin)

  attempt_of : (c : Context Term ℕ) → ContextRanged (Some c) → AttemptRanged c.attempt
  attempt_of c k = k.3

  module _ (s : Station Term ℕ) (h : StationRanged s) where
    -- its preparations, and where its context alone changes
    preps : AllOf PrepRanged s.preps
    preps = h.3

    with_context : (o : Option (Context Term ℕ)) → ContextRanged o → StationRanged (record s { context = o })
    with_context o k = (h.0, h.1, k, preps)

    mapped : (f : Context Term ℕ → Context Term ℕ) → ((c : Context Term ℕ) → ContextRanged (Some c) → ContextRanged (Some (f c)))
        → StationRanged (record s { context = option_map f s.context })
    mapped f k = with_context (option_map f s.context) (changed_so (λ o. ContextRanged o) f k s.context h.2)

    gives_up : StationRanged (record s { context = option_map given_up s.context })
    gives_up = mapped given_up (λ c k. attempt_ranged c k tt)

    -- the context, and a preparation
    here : (c : Context Term ℕ) → s.context ≡ Some c → ContextRanged (Some c)
    here c e = subst ContextRanged e h.2

    found : (at : ℕ) (p : Prep Term ℕ) → at_air at s.preps ≡ Some p → PrepRanged p
    found at p e = subst (OfSome PrepRanged) e (all_find PrepRanged (is_at at) s.preps preps)

    -- a request that is admitted, with the air address drawn for it, and the preparations with one more
    admitted_ranged : (w : Admitted) → Admits r s w → FieldsInRange (HandoverRequest w.conn w.from.source w.from.attempt w.cell w.caps) →
        IsNumber w.conn × (w.from.source ≤ 7) × IsNumber w.from.attempt × IsCell w.cell × IsCaps w.caps × IsNumber w.air
    admitted_ranged w a i = let (conn, (source, (attempt, (cell, caps)))) = i in (conn, source, attempt, cell, caps, drawn w.air s.next a.air_is a.left h.1)

    admitted_preps : (w : Admitted) (p : Prep Term ℕ) → PrepRanged p → AllOf PrepRanged (filter (λ q. nat_le w.conn q.conn) s.preps ++ p ∷ [])
    admitted_preps w p f =
        all_append PrepRanged (filter (λ q. nat_le w.conn q.conn) s.preps) (p ∷ [])
        (all_filter PrepRanged (λ q. nat_le w.conn q.conn) s.preps preps) (f, tt)

    renewed_ranged : (fields : Fields)
        → FieldsInRange fields
        → (conn number held : ℕ)
        → fields ≡ ContextModification held conn
        → number ≡ s.next
        → s.next + 1 < 4294967296
        → IsNumber conn × IsNumber number
    renewed_ranged fields i conn number held says e lt =
        let f : IsNumber held × IsNumber conn = subst FieldsInRange says i in (f.1, drawn number s.next e (omega arith) h.1)

    record_ranged : (on : Interface) (fields : Fields) → FieldsInRange fields → RecordCases r s (λ row key. RecordHas r s on fields row) StationDone
    record_ranged on fields i =
        record {
          nothing = λ answer. (h, tt);
          given = λ conn cell caps algs air kenb k.
              let f : FieldsInRange (InitialContext conn cell caps) = subst FieldsInRange k.fields_is i in
              ((h.0, next_up air, (f.0, f.1.0, f.1.1, tt, tt), tt), tt);
          released = λ key k. ((h.0, h.1, tt, tt), tt);
          taken = λ conn origin pair k.
              let (held, _, _, _, from) = here k.context k.serving in (
                mapped (with_pair pair) (λ c k. k),
                release_ranged conn origin (subst IsNumber (sym k.conn_is) held) (subst OriginRanged (sym k.origin_is) from),
              );
          by_s1 = λ w pair k.
              let (conn, source, attempt, cell, caps, air) = admitted_ranged w k.admits (subst FieldsInRange k.fields_is i) in (
                (h.0, next_up w.air, h.2, admitted_preps w _ (conn, source, attempt, cell, caps, tt)),
                ((conn, (source, (attempt, (cell, (three_bits pair.number, air))))), tt),
              );
          by_x2 = λ w star k.
              let (conn, source, attempt, cell, caps, air) = admitted_ranged w k.admits (subst FieldsInRange k.fields_is i) in (
                (h.0, next_up w.air, h.2, admitted_preps w _ (conn, source, attempt, cell, caps, tt)),
                ((conn, (attempt, (cell, air))), tt),
              );
          answered = λ order key k. (
            mapped (with_answer order) (λ c k. attempt_ranged c k (changed_so (λ o. AttemptRanged o) _ (λ a m. m) c.attempt (attempt_of c k))),
            tt,
          );
          cancelled = λ from key k. ((h.0, h.1, h.2, all_filter PrepRanged (λ p. not (is_of from.source from.attempt p)) s.preps preps), tt);
          left = λ key k. (with_context None tt, tt);
          renewed = λ conn number air count c e kenb k.
              let (held, cell, caps, _, origin) = here c e in
              let f = renewed_ranged fields i conn number k.context.conn k.fields_is k.number_is k.left in (
                (h.0, next_up air, (held, cell, caps, (f.1, cell), origin), ((f.0, h.0, f.1, cell, caps, origin_within c.origin origin), tt)),
                tt,
              );
        }

    -- how the preparation came that completes
    by_ranged : (air : ℕ) (on : Which) (pdu : List ℕ) (at : ℕ) (by : By) (count : ℕ) → AtPrepared s air on pdu at by count → ByRanged by
    by_ranged air on pdu at by count f = let (_, _, _, _, _, by) = found air f.prep f.found in subst ByRanged (sym f.by_is) by

    air_ranged : (air : ℕ) (on : Which) (pdu : List ℕ) (outcome : Outcome) → AirCases r s (AirHas r s air on pdu outcome) StationDone
    air_ranged air on pdu outcome =
        record {
          nothing = λ answer. (h, tt);
          secured = λ count k. (mapped (with_security count) (λ c k. k), tt);
          opened = λ srb count text k. (mapped (with_rrc_taken srb count) (λ c k. k), tt);
          packet = λ drb count text k. (mapped (with_packet_taken drb count) (λ c k. k), tt);
          by_s1 = λ at count k p e.
              let (conn, _, _, cell, caps, _) = found at p e in ((h.0, h.1, (conn, cell, caps, tt, tt), tt), ((conn, (h.0, cell)), tt));
          within = λ at count origin k p e.
              let (conn, _, _, cell, caps, _) = found at p e in
              let (source, origin_is, (prepared, _)) = k in
              let from = subst OriginRanged (sym origin_is) (by_ranged air on pdu at (By.Intra source) count prepared) in
              ((h.0, h.1, (conn, cell, caps, tt, from), tt), tt);
          by_x2 = λ at count number k p e.
              let (conn, source, attempt, cell, caps, _) = found at p e in (
                (h.0, next_up number, (conn, cell, caps, tt, (source, attempt)), tt),
                ((conn, (h.0, (drawn number s.next k.0 k.1 h.1, (cell, caps)))), tt),
              );
        }

    -- a handover that begins draws its number, and its cell is in range
    starts_ranged : (act : StationAct) (kind : HoKind) (number target : ℕ) (cell : Place)
        → Starts s act kind number target cell
        → IsStationAct act
        → IsNumber number × IsCell cell
    starts_ranged act kind number target cell f i = (drawn number s.next f.number_is f.left h.1, subst IsStationAct f.act_is i)

    -- what is given up is of the context, and in range
    gives_up_ranged : (act : StationAct) (via : Via) (number : ℕ) → (f : GivesUp s act via number)
        → IsNumber f.context.conn × IsNumber number × IsCell f.attempt.cell
    gives_up_ranged act via number f =
        let c = here f.context f.serving in
        let a = subst AttemptRanged f.trying (attempt_of f.context c) in
        (c.0, subst IsNumber (sym f.number_is) a.0, a.1)

    act_ranged : (act : StationAct) → IsStationAct act → ActCases r s (StationActHas r s act) StationDone
    act_ranged act i =
        record {
          nothing = λ answer. (h, tt);
          by_x2 = λ number target cell k c e.
              let d = here c e in
              let f = starts_ranged act HoKind.X2 number target cell k i in
              ((h.0, next_up number, attempt_ranged c d f, preps), ((d.0, (h.0, (f.0, (f.1, d.2)))), (tt, three_bits _)));
          by_s1 = λ number target cell k c e.
              let d = here c e in
              let f = starts_ranged act HoKind.S1 number target cell k i in
              ((h.0, next_up number, attempt_ranged c d f, preps), ((d.0, (h.0, (f.0, f.1))), tt));
          within = λ number air cell k c e.
              let (conn, now, caps, _, origin) = here c e in
              let f = starts_ranged act HoKind.Intra number s.id cell k.starts i in (
                (
                  h.0,
                  next_up air,
                  (conn, now, caps, f, origin),
                  all_append PrepRanged s.preps _ preps ((conn, h.0, f.0, f.1, caps, origin_within c.origin origin), tt),
                ),
                tt,
              );
          commanded = λ via order count k c e.
              let d = here c e in
              ((h.0, h.1, attempt_ranged c d (changed_so (λ o. AttemptRanged o) _ (λ a m. m) c.attempt (attempt_of c d)), preps), tt);
          cancelled_x2 = λ conn number target k.
              let f = gives_up_ranged act OverX2 number k.gives_up in (gives_up, ((subst IsNumber (sym k.conn_is) f.0, (h.0, f.1)), tt));
          cancelled_s1 = λ conn number cell k.
              let f = gives_up_ranged act OverS1 number k.gives_up in
              (gives_up, ((subst IsNumber (sym k.conn_is) f.0, (h.0, (f.1, subst IsCell (sym k.cell_is) f.2))), tt));
          cancelled_within = λ number k. ((h.0, h.1, gives_up.2, all_filter PrepRanged (λ p. not (is_of s.id number p)) s.preps preps), tt);
          asked = λ number k c e. let d = here c e in ((h.0, next_up number, d, preps), ((d.0, (h.0, (drawn number s.next k.number_is k.left h.1, (d.1, d.2)))), tt));
          packet = λ drb count text k c e. (with_context (Some c) (here c e), tt);
          text = λ srb count text k c e. (with_context (Some c) (here c e), tt);
          skipped = λ on n k. (mapped (with_skipped on n) (λ c k. k), tt);
        }

  -- one step
  pub station_step_ranged : (s : Station Term ℕ) (i : StationInput Term ℕ) (outcome : Outcome)
      → StationRanged s
      → StationInputRanged i
      → StationDone (station_step r s i outcome)
  station_step_ranged s (StationActs act) outcome h f =
      act_case r s StationDone (StationActHas r s act) (act_ranged s h act f) (act_row (plain_station r s) act)
      (station_act_has r s act)
  station_step_ranged s (AirPdu air bearer pdu) outcome h f =
      air_case r s StationDone (AirHas r s air (which bearer) pdu outcome) (air_ranged s h air (which bearer) pdu outcome)
      (air_row (plain_station r s) (air_front (plain_station r s) air (which bearer) pdu) outcome) (air_has r s air (which bearer) pdu outcome)
  station_step_ranged s (StationRecord on (Ok content)) outcome h f =
      record_case r s StationDone (λ row key. RecordHas r s on content.fields row) (record_ranged s h on content.fields f)
      (record_row (plain_station r s) on (Ok (map_content unseen r.ncc content))) content.key (record_has r s on content)
  station_step_ranged s (StationRecord on (Err fault)) outcome h f = (h, tt)
