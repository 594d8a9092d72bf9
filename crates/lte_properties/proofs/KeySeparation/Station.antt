-- What each row of a station keeps of the keys that it may have.
use Rattle.std.proofs.Common.{◌≡◌, refl, sym, subst, ℕ, List, [], Option, Some, None, option_map}
use Rattle.std.specs.Prelude.{not, nat_le, Bool, ⊤}
use Rattle.annex_a_keys.specs.Cell.{Place}
use Rattle.lte_events.specs.{Site.Site, Site.station_of, declared.acts.StationAct.StationAct}
use Rattle.key_model.specs.Term.{Term, Kenb, Nh, Star}
use Rattle.key_model.specs.{Derivation.Derivation, Reading.term_reading_by, HandoverTable.NumberedKey}
use Rattle.nh_chain.specs.Station.{StationKey, pair_after, restored_if, base_of, opened}
use Rattle.ho_prep.specs.Prep.{Prep, at_air, drop_below, without, is_of, is_at}
use Rattle.lte_machine.specs.{Wire.Outgoing, StationState.Station, StationState.Context}
use Rattle.lte_machine.specs.Reply.{Origin, Made, Tried, Reply, ByAttempt, Handover, BySource, ByTarget}
use Rattle.lte_machine.specs.StationRows.{Admitted, RecordRow, ContextGiven, PairTaken, PreparedByS1, PreparedByX2, AirRow, ActRow, KeyRenewed}
use Rattle.lte_machine.specs.StationKeys.{spent_in, given_up, with_security, with_rrc_taken, with_packet_taken, with_skipped, started_by_x2, started_within, air_does, act_does}
use Rattle.lte_machine.specs.StationRecords.{with_pair, with_answer, source_release, admitted_made, prepared_by_s1, prepared_by_x2, record_does, key_renewed}
use Rattle.lte_properties.specs.Separation.{AnyOf}
use Rattle.lte_machine.proofs.StationCases.{Any, RecordCases, AirCases, ActCases, record_case, air_case, act_case}
use Rattle.lte_machine.proofs.{StationActFacts.StationActHas, Tests.changed_so}
use Rattle.lte_properties.proofs.ChainNumbers.Lists.{OfSome, all_append, all_filter, all_find}
use Rattle.lte_properties.proofs.KeySeparation.Keys.{any_map, any_this, GivesIn, Gifts, May, MayHold, may_star, may_go, OfPairKey, ContextHas, PrepHas, StationHas, BaseGiven, TriedOk, HasTried, IsKenb, OwnCell, FlyOk, MadeBy, MadeOk, OutsAre, OwnPlace}

-- CONTEXTS

-- the key of which a KeNB* is derived: of the stored pair, or the active KeNB
base_has : (P : Term → Type 0) (o : Option (NumberedKey Term ℕ)) (kenb : Term) (number : ℕ) → P kenb → OfPairKey P o → P (base_of o kenb number).key
base_has P None kenb number h k = h
base_has P (Some pair) kenb number h k = k

-- the pair that came back, or a newer one
pair_after_has : (P : Term → Type 0) (o : Option (NumberedKey Term ℕ)) (back : NumberedKey Term ℕ)
    → OfPairKey P o
    → P back.key
    → OfPairKey P (pair_after o back)
pair_after_has P None back h k = k
pair_after_has P (Some newer) back h k = h

restored_has : (P : Term → Type 0) (key : StationKey Term ℕ) (o : Option (NumberedKey Term ℕ)) → P key.kenb → OfPairKey P key.pair → OfPairKey P o →
    P (restored_if key o).kenb × OfPairKey P (restored_if key o).pair
restored_has P key None n h k = (n, h)
restored_has P key (Some back) n h k = (n, pair_after_has P key.pair back h k)

given_up_has : (P : Term → Type 0) (C : Place → Type 0) (c : Context Term ℕ) → ContextHas P C c → ContextHas P C (given_up c)
given_up_has P C c h = let k = restored_has P c.key (spent_in c.attempt) h.0 h.1 h.2 in (k.0, k.1, tt, h.3)

context_map_has : (P : Term → Type 0) (C : Place → Type 0) (f : Context Term ℕ → Context Term ℕ) →
    ((c : Context Term ℕ) → ContextHas P C c → ContextHas P C (f c)) →
    (o : Option (Context Term ℕ)) → OfSome (ContextHas P C) o → OfSome (ContextHas P C) (option_map f o)
context_map_has P C f each None h = tt
context_map_has P C f each (Some c) h = each c h

-- WHAT A STEP KEEPS

-- its attempt is one of those that the run knows in the end
abbrev pub IsKnown : List (Tried Term ℕ) → Option (Tried Term ℕ) → Type 0
IsKnown tried one = OfSome (λ e. AnyOf (λ f. e ≡ f) tried) one

-- new station, what it sent, what it derived, the attempt that it opened, and what it made
pub record StationKept (G : Gifts) (sites : List Site) (tried : List (Tried Term ℕ)) (id : ℕ) (t : Station Term ℕ)
    (sent : Option (Outgoing Term ℕ)) (derived : List (Derivation Term)) (one : Option (Tried Term ℕ))
    (made : Option (Made Term ℕ)) : Type 0 where
  pub same : t.id ≡ id
  pub cells : t.cells ≡ sites
  pub keys : StationHas (May G sites id) (OwnPlace sites id) t
  pub outs : OutsAre (MayHold G sites id) derived
  pub sends : IsKnown tried one → OfSome (FlyOk G sites tried) sent
  pub gives : (u : Term) (a : ℕ) → GivesIn sent u a → ⊥
  pub tries : OfSome (TriedOk G) one
  pub makes : IsKnown tried one → OfSome (MadeOk G sites tried) made

-- what a row needs of the key of the record that it read
abbrev pub RecordNeeds : Gifts → List Site → List (Tried Term ℕ) → ℕ → RecordRow → NumberedKey Term ℕ → Type 0
RecordNeeds G sites tried id (ContextGiven conn cell caps algs air) key =
    May G sites id key.key × IsKenb key.key × OwnPlace sites id cell
RecordNeeds G sites tried id (PairTaken conn origin) key = May G sites id key.key
RecordNeeds G sites tried id (PreparedByS1 w) key =
    May G sites id key.key × HasTried tried w.from.source w.from.attempt ByTarget × OwnPlace sites id w.cell
RecordNeeds G sites tried id (PreparedByX2 w) key =
    May G sites id key.key × HasTried tried w.from.source w.from.attempt (BySource key) × OwnCell sites id key.key × OwnPlace sites id w.cell
RecordNeeds G sites tried id (KeyRenewed conn number air count) key = May G sites id key.key
RecordNeeds G sites tried id other key = ⊤

abbrev pub KeyNeeds : Gifts → List Site → List (Tried Term ℕ) → ℕ → RecordRow → Option (NumberedKey Term ℕ) → Type 0
KeyNeeds G sites tried id row None = ⊤
KeyNeeds G sites tried id row (Some key) = RecordNeeds G sites tried id row key

-- the key from which KeNB* comes was given to the station that has it
base_given : (G : Gifts) (sites : List Site) (id : ℕ) (t : Term) (pci earfcn : ℕ) → May G sites id t → BaseGiven G id (Star t pci earfcn)
base_given G sites id (Kenb r n) pci earfcn h = h.1
base_given G sites id (Nh r t) pci earfcn h = h.2
base_given other sites id rest pci earfcn h = tt

module _ (G : Gifts) (sites : List Site) (tried : List (Tried Term ℕ)) (same : Term → Term → Bool) (s : Station Term ℕ) (cells : s.cells ≡ sites) where
  abbrev P : Term → Type 0
  P = May G sites s.id

  abbrev C : Place → Type 0
  C = OwnPlace sites s.id

  abbrev After : Station Term ℕ × Reply Term ℕ → Type 0
  After d = StationKept G sites tried s.id d.0 d.1.sent d.1.derived d.1.tried d.1.made

  -- a step that derives nothing, opens no attempt and makes nothing
  calm : (t : Station Term ℕ) (x : Option (Outgoing Term ℕ)) → t.id ≡ s.id → t.cells ≡ s.cells → OfSome (FlyOk G sites tried) x →
      ((u : Term) (a : ℕ) → GivesIn x u a → ⊥) → StationHas P C t → StationKept G sites tried s.id t x [] None None
  calm t x e f k g h = record {
    same = e;
    cells = subst (λ l. l ≡ sites) (sym f) cells;
    keys = h;
    outs = tt;
    sends = λ is. k;
    gives = g;
    tries = tt;
    makes = λ is. tt;
  }

  quiet : (t : Station Term ℕ) → t.id ≡ s.id → t.cells ≡ s.cells → StationHas P C t → StationKept G sites tried s.id t None [] None None
  quiet t e f h = calm t None e f tt (λ u a g. g) h

  -- the context, if there is one, changes so
  mapped : (f : Context Term ℕ → Context Term ℕ) → ((c : Context Term ℕ) → ContextHas P C c → ContextHas P C (f c)) → StationHas P C s →
      StationKept G sites tried s.id (record s { context = option_map f s.context }) None [] None None
  mapped f each h =
      quiet (record s { context = option_map f s.context }) refl refl
      (record { context = context_map_has P C f each s.context h.context; preps = h.preps })

  -- BY A RECORD

  kenb_own : (t : Term) → IsKenb t → OwnCell sites s.id t
  kenb_own (Star t pci earfcn) k = absurd k
  kenb_own other k = tt

  released_gives : (conn : ℕ) (o : Option Origin) (u : Term) (a : ℕ) → GivesIn (source_release conn o) u a → ⊥
  released_gives conn None u a g = g
  released_gives conn (Some o) u a g = g

  released_flies : (conn : ℕ) (o : Option Origin) → OfSome (FlyOk G sites tried) (source_release conn o)
  released_flies conn None = tt
  released_flies conn (Some o) = (tt, tt)

  -- what a preparation was made of
  abbrev AdmittedBy : Admitted → NumberedKey Term ℕ → Handover Term ℕ → Type 0
  AdmittedBy w key o = MadeBy G (admitted_made s.id w key) o

  prepared_s1_kept : (w : Admitted) (key : NumberedKey Term ℕ) →
      RecordNeeds G sites tried s.id (PreparedByS1 w) key → StationHas P C s → After (prepared_by_s1 (term_reading_by same) w (Some key) s)
  prepared_s1_kept w key n h =
      let k = may_star G sites s.id key.key w.cell.pci w.cell.earfcn n.0 in record {
        same = refl;
        cells = cells;
        keys = record {
          context = h.context;
          preps =
              all_append (PrepHas P C) (drop_below w.conn s.preps) _
              (all_filter (PrepHas P C) (λ p. nat_le w.conn p.conn) s.preps h.preps) ((k, tt, n.2), tt);
        };
        outs = (k, (k, (k, (k, tt))));
        sends = λ is. (tt, tt);
        gives = λ u a g. g;
        tries = tt;
        makes = λ is. (
          any_map (λ e. (e.station ≡ w.from.source) × (e.attempt ≡ w.from.attempt) × (e.kind ≡ ByTarget)) _
              (λ e q. (
                q.0,
                q.1,
                subst (AdmittedBy w (record { key = Star key.key w.cell.pci w.cell.earfcn; number = key.number }))
                    (sym q.2) (base_given G sites s.id key.key w.cell.pci w.cell.earfcn n.0),
              ))
              tried n.1,
          n.2,
        );
      }

  prepared_x2_kept : (w : Admitted) (key : NumberedKey Term ℕ) →
      RecordNeeds G sites tried s.id (PreparedByX2 w) key → StationHas P C s → After (prepared_by_x2 (term_reading_by same) w (Some key) s)
  prepared_x2_kept w key n h = record {
    same = refl;
    cells = cells;
    keys = record {
      context = h.context;
      preps =
          all_append (PrepHas P C) (drop_below w.conn s.preps) _
          (all_filter (PrepHas P C) (λ p. nat_le w.conn p.conn) s.preps h.preps) ((n.0, tt, n.3), tt);
    };
    outs = (n.0, (n.0, (n.0, tt)));
    sends = λ is. (tt, tt);
    gives = λ u a g. g;
    tries = tt;
    makes = λ is. (
      any_map (λ e. (e.station ≡ w.from.source) × (e.attempt ≡ w.from.attempt) × (e.kind ≡ BySource key)) _
          (λ e q. (q.0, q.1, subst (AdmittedBy w key) (sym q.2) refl)) tried n.1,
      n.2,
    );
  }

  renewed_kept : (conn number air count : ℕ) (context : Context Term ℕ) (kenb : NumberedKey Term ℕ) → May G sites s.id kenb.key → ContextHas P C context →
      After (key_renewed (term_reading_by same) conn number air count (Some context) (Some kenb) s)
  renewed_kept conn number air count context kenb n c =
      let k = may_star G sites s.id kenb.key context.cell.pci context.cell.earfcn n in record {
        same = refl;
        cells = cells;
        keys = record { context = (c.0, c.1, tt, c.3); preps = ((k, tt, c.3), tt) };
        outs = (k, (k, (k, (k, tt))));
        sends = λ is. tt;
        gives = λ u a g. g;
        tries = tt;
        makes = λ is. (base_given G sites s.id kenb.key context.cell.pci context.cell.earfcn n, c.3);
      }

  -- the context, and a preparation
  here : StationHas P C s → (c : Context Term ℕ) → s.context ≡ Some c → ContextHas P C c
  here h c e = subst (OfSome (ContextHas P C)) e h.context

  found : StationHas P C s → (at : ℕ) (p : Prep Term ℕ) → at_air at s.preps ≡ Some p → PrepHas P C p
  found h at p e = (subst (OfSome (λ q. PrepHas P C q × (is_at at q ≡ Bool.true))) e (all_find (PrepHas P C) (is_at at) s.preps h.preps)).0

  records : StationHas P C s → RecordCases (term_reading_by same) s (KeyNeeds G sites tried s.id) After
  records h =
      record {
        nothing = λ answer. quiet s refl refl h;
        given = λ conn cell caps algs air kenb k. record {
          same = refl;
          cells = cells;
          keys = record { context = (k.0, tt, tt, k.2); preps = tt };
          outs = (k.0, (k.0, (k.0, tt)));
          sends = λ is. tt;
          gives = λ u a g. g;
          tries = tt;
          makes = λ is. (k.1, kenb_own kenb.key k.1);
        };
        released = λ key k. quiet (record s { context = None; preps = [] }) refl refl (record { context = tt; preps = tt });
        taken = λ conn origin pair k.
            calm (record s { context = option_map (with_pair pair) s.context }) (source_release conn origin) refl refl
            (released_flies conn origin) (released_gives conn origin)
            (record {
              context = context_map_has P C (with_pair pair) (λ c m. (m.0, k, m.2, m.3)) s.context h.context;
              preps = h.preps;
            });
        by_s1 = λ w pair k. prepared_s1_kept w pair k h;
        by_x2 = λ w star k. prepared_x2_kept w star k h;
        answered = λ order key k.
            mapped (with_answer order)
            (λ c k. (k.0, k.1, changed_so (λ o. OfPairKey P (spent_in o)) _ (λ a m. m) c.attempt k.2, k.3))
            h;
        cancelled = λ from key k.
            quiet (record s { preps = without from.source from.attempt s.preps }) refl refl (record {
              context = h.context;
              preps = all_filter (PrepHas P C) (λ p. not (is_of from.source from.attempt p)) s.preps h.preps;
            });
        left = λ key k. quiet (record s { context = None }) refl refl (record { context = tt; preps = h.preps });
        renewed = λ conn number air count c e kenb k. renewed_kept conn number air count c kenb k (here h c e);
      }

  pub record_kept : (row : RecordRow) (key : Option (NumberedKey Term ℕ)) → KeyNeeds G sites tried s.id row key → StationHas P C s →
      After (record_does (term_reading_by same) row key s)
  record_kept row key n h = record_case (term_reading_by same) s After (KeyNeeds G sites tried s.id) (records h) row key n

  -- BY A PDU

  pdus : StationHas P C s → AirCases (term_reading_by same) s Any After
  pdus h =
      record {
        nothing = λ answer. quiet s refl refl h;
        secured = λ count k. mapped (with_security count) (λ c k. k) h;
        opened = λ srb count text k. mapped (with_rrc_taken srb count) (λ c k. k) h;
        packet = λ drb count text k. mapped (with_packet_taken drb count) (λ c k. k) h;
        by_s1 = λ at count k p e. let n = found h at p e in calm _ _ refl refl (tt, tt) (λ u a g. g) (record { context = (n.0, n.1, tt, n.2); preps = tt });
        within = λ at count origin k p e. let n = found h at p e in quiet _ refl refl (record { context = (n.0, n.1, tt, n.2); preps = tt });
        by_x2 = λ at count number k p e.
            let n = found h at p e in
            calm _ _ refl refl (tt, tt) (λ u a g. g) (record { context = (n.0, n.1, tt, n.2); preps = tt });
      }

  pub air_kept : (row : AirRow) → StationHas P C s → After (air_does (term_reading_by same) row s)
  air_kept row h = air_case (term_reading_by same) s After Any (pdus h) row tt

  -- BY AN ACT

  started_x2_kept : (number target : ℕ) (cell : Place) (context : Context Term ℕ) →
      station_of cell sites ≡ Some target → ContextHas P C context → StationHas P C s →
      After (started_by_x2 (term_reading_by same) number target cell (Some context) s)
  started_x2_kept number target cell context e c h =
      let base = base_of context.key.pair context.key.kenb context.key.number in
      let b = base_has P context.key.pair context.key.kenb context.key.number c.0 c.1 in record {
        same = refl;
        cells = cells;
        keys = record { context = (c.0, tt, c.1, c.3); preps = h.preps };
        outs = (may_star G sites s.id base.key cell.pci cell.earfcn b, tt);
        sends = λ is. (
          (may_go G sites s.id base.key cell target e b, e),
          any_this (λ t. (t.station ≡ s.id)
              × (t.attempt ≡ number)
              × (t.kind ≡ BySource (opened (term_reading_by same) context.key cell).star))
              _ tried is (refl, refl, refl),
        );
        gives = λ u a g. g;
        tries = base_given G sites s.id base.key cell.pci cell.earfcn b;
        makes = λ is. tt;
      }

  started_within_kept : (number air : ℕ) (cell : Place) (context : Context Term ℕ) → station_of cell sites ≡ Some s.id →
      ContextHas P C context → StationHas P C s →
      After (started_within (term_reading_by same) number air cell (Some context) s)
  started_within_kept number air cell context e c h =
      let base = base_of context.key.pair context.key.kenb context.key.number in
      let b = base_has P context.key.pair context.key.kenb context.key.number c.0 c.1 in
      let k = may_star G sites s.id base.key cell.pci cell.earfcn b in
      let made : Made Term ℕ = record {
        station = s.id;
        air = air;
        conn = context.conn;
        cell = cell;
        key = Star base.key cell.pci cell.earfcn;
        number = base.number;
        algs = context.algs;
        from = ByAttempt (record { source = s.id; attempt = number });
      } in
      record {
        same = refl;
        cells = cells;
        keys = record { context = (c.0, tt, c.1, c.3); preps = all_append (PrepHas P C) s.preps _ h.preps ((k, tt, e), tt) };
        outs = (k, (k, (k, (k, tt))));
        sends = λ is. tt;
        gives = λ u a g. g;
        tries = base_given G sites s.id base.key cell.pci cell.earfcn b;
        makes = λ is. (any_this (λ e. (e.station ≡ s.id) × (e.attempt ≡ number) × MadeBy G made e.kind) _ tried is (refl, refl, refl), e);
      }

  -- KeNB* goes to the station of its cell
  goes : (cell : Place) (target : ℕ) → station_of cell s.cells ≡ Some target → station_of cell sites ≡ Some target
  goes cell target e = subst (λ l. station_of cell l ≡ Some target) cells e

  acts : StationHas P C s → (act : StationAct) → ActCases (term_reading_by same) s (StationActHas (term_reading_by same) s act) After
  acts h act =
      record {
        nothing = λ answer. quiet s refl refl h;
        by_x2 = λ number target cell k c e. started_x2_kept number target cell c (goes cell target k.site) (here h c e) h;
        by_s1 = λ number target cell k c e. let m = here h c e in record {
          same = refl;
          cells = cells;
          keys = record { context = (m.0, m.1, tt, m.3); preps = h.preps };
          outs = tt;
          sends = λ is. (tt, any_this (λ t. (t.station ≡ s.id) × (t.attempt ≡ number) × (t.kind ≡ ByTarget)) _ tried is (refl, refl, refl));
          gives = λ u a g. g;
          tries = tt;
          makes = λ is. tt;
        };
        within = λ number air cell k c e. started_within_kept number air cell c (goes cell s.id k.starts.site) (here h c e) h;
        commanded = λ via order count k c e.
            let m = here h c e in
            calm _ _ refl refl tt (λ u a g. g) (record {
              context = (
                m.0,
                m.1,
                changed_so (λ o. OfPairKey P (spent_in o)) _ (λ a m. tt) c.attempt m.2,
                m.3,
              );
              preps = h.preps;
            });
        cancelled_x2 = λ conn number target k. calm _ _ refl refl (tt, tt) (λ u a g. g)
            (record { context = context_map_has P C given_up (given_up_has P C) s.context h.context; preps = h.preps });
        cancelled_s1 = λ conn number cell k. calm _ _ refl refl (tt, tt) (λ u a g. g)
            (record { context = context_map_has P C given_up (given_up_has P C) s.context h.context; preps = h.preps });
        cancelled_within = λ number k. quiet _ refl refl (record {
          context = context_map_has P C given_up (given_up_has P C) s.context h.context;
          preps = all_filter (PrepHas P C) (λ p. not (is_of s.id number p)) s.preps h.preps;
        });
        asked = λ number k c e. calm _ _ refl refl (tt, tt) (λ u a g. g) (record { context = here h c e; preps = h.preps });
        packet = λ drb count text k c e. calm _ _ refl refl tt (λ u a g. g) (record { context = here h c e; preps = h.preps });
        text = λ srb count text k c e. calm _ _ refl refl tt (λ u a g. g) (record { context = here h c e; preps = h.preps });
        skipped = λ on n k. mapped (with_skipped on n) (λ c k. k) h;
      }

  pub act_kept : (act : StationAct) (row : ActRow) → StationActHas (term_reading_by same) s act row → StationHas P C s →
      After (act_does (term_reading_by same) row s)
  act_kept act row k h = act_case (term_reading_by same) s After (StationActHas (term_reading_by same) s act) (acts h act) row k
