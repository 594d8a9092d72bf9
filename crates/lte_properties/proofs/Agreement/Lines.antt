-- Where a station tells that a handover completed, its context is new and has the key that it tells.
use Rattle.std.proofs.Common.{◌≡◌, ◌==◌, refl, subst, take, ℕ, suc, Bool, true, false, cond, List, [], ◌∷◌, Option, Some, None, inl, inr}
use Rattle.std.specs.Prelude.{⊤}
use Rattle.std.proofs.lemmas.Bool.{eqb-false}
use Rattle.rec_base.specs.declared.ways.Way.{Way}
use Rattle.lte_events.specs.{declared.lines.Who.Who, declared.events.Event.Event, Site.Site}
use Rattle.key_model.specs.{Term.Term, HandoverTable.NumberedKey, Reading.term_reading_by}
use Rattle.nh_chain.specs.Station.{way_of, opened}
use Rattle.lte_machine.proofs.{StationCases.station_case, Routing.happens_each, Worlds.TheWorld}
use Rattle.lte_machine.specs.{Wire.KeyUse, Wire.Outgoing, Opening.Opening, Opening.Outcome, Reply.Note, Reply.Reply, StationRows.StationRow, Distinct.Member}
use Rattle.lte_machine.specs.StationState.{Station, Context, StationInput}
use Rattle.lte_machine.specs.StationKeys.{started_by_x2, started_within, station_does}
use Rattle.lte_machine.specs.StationStep.{station_opens, station_pdu_in, station_row_of, station_key, station_step}
use Rattle.lte_machine.specs.World.{Machine, Line, put_if, put_station, station_after, station_of_id, turn_of, happens}
use Rattle.lte_properties.specs.{ChainBelow.AllOf, ChainHolds.machine_by, ChainHolds.run}
use Rattle.lte_properties.specs.Agreement.{HadTaken, OfStation, HasContext, TellsWay, TellsNote, CompletedLines}
use Rattle.lte_properties.proofs.ChainNumbers.Lists.{all_both, all_put}
use Rattle.lte_properties.proofs.Agreement.Ghost.{Ghost, CtxOk, StartedOk, StationOk}
use Rattle.lte_properties.proofs.Agreement.World.{Conns, ghost, WorldOk}

-- the context is active, and has this key
abbrev IsNew : Option (Context Term ℕ) → Term → Type 0
IsNew o key = HasContext o (λ c. (c.key.kenb ≡ key) × (c.starting ≡ false))

abbrev WayIsNew : ℕ → Station Term ℕ → Term → Way → Type 0
WayIsNew id t key Way.Completed = (t.id ≡ id) × IsNew t.context key
WayIsNew id t key other = ⊤

abbrev NoteIsNew : ℕ → Station Term ℕ → Option (Note Term) → Type 0
NoteIsNew id t None = ⊤
NoteIsNew id t (Some note) = WayIsNew id t note.key note.way

-- a row of the station of this number
abbrev RowTells : ℕ → Station Term ℕ × Reply Term ℕ → Type 0
RowTells id d = NoteIsNew id d.0 d.1.note

started_way : (id : ℕ) (t : Station Term ℕ) (key : Term) (pair : Option (NumberedKey Term ℕ)) → WayIsNew id t key (way_of pair)
started_way id t key None = tt
started_way id t key (Some pair) = tt

station_tells : (same : Term → Term → Bool) (row : StationRow) (key : Option (NumberedKey Term ℕ)) (s : Station Term ℕ)
    → RowTells s.id (station_does (term_reading_by same) row key s)
station_tells same row key s =
    station_case (term_reading_by same) s (RowTells s.id)
    (record {
      nothing = λ answer. tt;
      given = λ conn cell caps algs air kenb k. tt;
      released = λ key k. tt;
      taken = λ conn origin pair k. tt;
      by_s1 = λ w pair k. tt;
      by_x2 = λ w star k. tt;
      answered = λ order key k. tt;
      cancelled = λ from key k. tt;
      left = λ key k. tt;
      renewed = λ conn number air count c e kenb k. tt;
    })
    (record {
      nothing = λ answer. tt;
      secured = λ count k. tt;
      opened = λ srb count text k. tt;
      packet = λ drb count text k. tt;
      by_s1 = λ at count k p e. (refl, (refl, refl));
      within = λ at count origin k p e. (refl, (refl, refl));
      by_x2 = λ at count number k p e. (refl, (refl, refl));
    })
    (record {
      nothing = λ answer. tt;
      by_x2 = λ number target cell k c e.
          started_way s.id (started_by_x2 (term_reading_by same) number target cell (Some c) s).0
          (opened (term_reading_by same) c.key cell).star.key c.key.pair;
      by_s1 = λ number target cell k c e. tt;
      within = λ number air cell k c e.
          started_way s.id (started_within (term_reading_by same) number air cell (Some c) s).0
          (opened (term_reading_by same) c.key cell).star.key c.key.pair;
      commanded = λ via order count k c e. tt;
      cancelled_x2 = λ conn number target k. tt;
      cancelled_s1 = λ conn number cell k. tt;
      cancelled_within = λ number k. tt;
      asked = λ number k c e. tt;
      packet = λ drb count text k c e. tt;
      text = λ srb count text k c e. tt;
      skipped = λ on n k. tt;
    }) row key

-- THE WORLD

abbrev WayShown : TheWorld → ℕ → Term → Way → Type 0
WayShown u id key Way.Completed = OfStation u id (λ s. IsNew s.context key)
WayShown u id key other = ⊤

abbrev NoteShown : TheWorld → Who → Option (Note Term) → Type 0
NoteShown u (Who.Station id) (Some note) = WayShown u id note.key note.way
NoteShown u who told = ⊤

module _ (same : Term → Term → Bool) (root : ℕ → List ℕ → Term) (octets : Outgoing Term ℕ → List ℕ)
    (sender : Option (Outgoing Term ℕ) → Option (KeyUse Term))
    (opener : Opening Term → List ℕ → Option (Outgoing Term ℕ) → Outcome) where
  abbrev m : Machine Term ℕ (Outgoing Term ℕ)
  m = machine_by same root octets sender opener

  -- the station that tells it
  way_put : (id : ℕ) (new : Station Term ℕ) (ss : List (Station Term ℕ)) (key : Term) → IsNew new.context key
      → AllOf (λ s. s.id ≡ id → IsNew s.context key) (put_station id new ss)
  way_put id new ss key h =
      all_put (λ s. ⊤) (λ s. s.id ≡ id → IsNew s.context key) id new ss (λ e. h) (λ s other k e. absurd (eqb-false s.id id other e)) (each ss)
    where
      each : (ss : List (Station Term ℕ)) → AllOf (λ s. ⊤) ss
      each [] = tt
      each (s ∷ ss) = (tt, each ss)

  -- it is one of the stations then
  is_put : (id : ℕ) (new : Station Term ℕ) (ss : List (Station Term ℕ)) (s : Station Term ℕ) → station_of_id id ss ≡ Some s → Member new (put_station id new ss)
  is_put id new [] s e = absurd cc
  is_put id new (z ∷ zs) s e = step (z.id == id) e (is_put id new zs s)
    where
      step : (b : Bool)
          → cond b (Some z) (station_of_id id zs) ≡ Some s
          → (station_of_id id zs ≡ Some s → Member new (put_station id new zs))
          → Member new (put_if b new z ∷ put_station id new zs)
      step true f rest = inl refl
      step false f rest = inr (rest f)

  way_after : (w : TheWorld) (id : ℕ) (s : Station Term ℕ)
      → station_of_id id w.stations ≡ Some s
      → (d : Station Term ℕ × Reply Term ℕ) (key : Term) (way : Way)
      → WayIsNew id d.0 key way
      → WayShown (station_after m w id d).0 id key way
  way_after w id s e d key Way.Completed h = (d.0, is_put id d.0 w.stations s e, h.0, way_put id d.0 w.stations key h.1)
  way_after w id s e d key other h = tt

  note_after : (w : TheWorld) (id : ℕ) (s : Station Term ℕ)
      → station_of_id id w.stations ≡ Some s
      → (d : Station Term ℕ × Reply Term ℕ) (o : Option (Note Term))
      → NoteIsNew id d.0 o
      → NoteShown (station_after m w id d).0 (Who.Station id) o
  note_after w id s e d None h = tt
  note_after w id s e d (Some note) h = way_after w id s e d note.key note.way h

  module _ (w : TheWorld) where
    abbrev Shows : TheWorld × Line Term → Type 0
    Shows h = NoteShown h.0 h.1.who h.1.note

    station_shows : (id : ℕ) (input : StationInput Term ℕ) (came : Option (Outgoing Term ℕ)) (s : Station Term ℕ)
        → station_of_id id w.stations ≡ Some s
        → s.id ≡ id
        → Shows (turn_of m w id input came (Some s))
    station_shows id input came s there own =
        let outcome = opener (station_opens (term_reading_by same) s input) (station_pdu_in input) came in
        let d = station_step (term_reading_by same) s input outcome in
        note_after w id s there d d.1.note
        (subst (λ n. NoteIsNew n d.0 d.1.note) own
        (station_tells same (station_row_of (term_reading_by same) s input outcome) (station_key input) s))

    happens_shows : (e : Event) → Shows (happens m w e)
    happens_shows = happens_each m w (λ done a. Shows done) (λ ksi key caps. tt) (λ input came turn. tt) (λ input came. tt) station_shows (λ answer. tt)

-- in a world with the invariant, the phone had taken the key of an active context
had_active : (cells : List Site) (g : Ghost) (s : Station Term ℕ) (id : ℕ) (key : Term)
    → s.id ≡ id
    → (o : Option (Context Term ℕ))
    → CtxOk g s.id o
    → IsNew o key
    → HasContext o (λ c. (c.key.kenb ≡ key) × HadTaken g.took id c.air key)
had_active cells g s id key is None ok h = h
had_active cells g s id key is (Some c) ok h =
    let had : HadTaken g.took s.id c.air c.key.kenb = subst (λ b. StartedOk g s.id c.air c.key.kenb b c.attempt) h.1 ok.started in
    (h.0, subst (λ n. HadTaken g.took n c.air key) is (subst (HadTaken g.took s.id c.air) h.0 had))

way_told : (cells : List Site) (c : Conns) (u : TheWorld)
    → WorldOk cells c u
    → (id : ℕ) (key : Term) (way : Way)
    → WayShown u id key way
    → TellsWay u id key way
way_told cells c u h id key Way.Completed k = (
  k.0,
  k.1,
  k.2,
  all_both (StationOk cells (ghost c u)) (λ s. s.id ≡ id → IsNew s.context key) _
      (λ s ok f is. had_active cells (ghost c u) s id key is s.context ok.context (f is)) u.stations h.stations k.3,
)
way_told cells c u h id key other k = tt

note_told : (cells : List Site) (c : Conns) (u : TheWorld) → WorldOk cells c u → (who : Who) (o : Option (Note Term)) → NoteShown u who o → TellsNote u who o
note_told cells c u h (Who.Station id) (Some note) k = way_told cells c u h id note.key note.way k
note_told cells c u h other rest k = tt

-- at each line
pub line_told : (same : Term → Term → Bool) (root : ℕ → List ℕ → Term) (octets : Outgoing Term ℕ → List ℕ)
    (sender : Option (Outgoing Term ℕ) → Option (KeyUse Term))
    (opener : Opening Term → List ℕ → Option (Outgoing Term ℕ) → Outcome)
    → (w : TheWorld) (e : Event) (cells : List Site) (c : Conns) → let h = happens (machine_by same root octets sender opener) w e in
    WorldOk cells c h.0 → TellsNote h.0 h.1.who h.1.note
line_told same root octets sender opener w e cells c ok =
    let h = happens (machine_by same root octets sender opener) w e in
    note_told cells c h.0 ok h.1.who h.1.note (happens_shows same root octets sender opener w e)

-- and so of a run each of whose worlds has the invariant
pub lines_of : (same : Term → Term → Bool) (root : ℕ → List ℕ → Term) (octets : Outgoing Term ℕ → List ℕ)
    (sender : Option (Outgoing Term ℕ) → Option (KeyUse Term))
    (opener : Opening Term → List ℕ → Option (Outgoing Term ℕ) → Outcome)
    → (cells : List Site) (w : TheWorld) (es : List Event)
    → ((n : ℕ) → (c : Conns) × WorldOk cells c (run (machine_by same root octets sender opener) w (take n es)))
    → CompletedLines (machine_by same root octets sender opener) w es
lines_of same root octets sender opener cells w [] ok = tt
lines_of same root octets sender opener cells w (e ∷ es) ok =
    let first = ok 1 in (
      line_told same root octets sender opener w e cells first.0 first.1,
      lines_of same root octets sender opener cells (happens (machine_by same root octets sender opener) w e).0 es (λ n. ok (suc n)),
    )
