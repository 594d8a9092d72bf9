-- What each row of a station keeps of the chain numbers.
use Rattle.std.proofs.Common.{◌≡◌, refl, sym, subst, ℕ, ◌+◌, ◌≤◌, nat_le, List, [], ◌∷◌, ◌++◌, Option, Some, None, option_map, arith}
use Rattle.std.specs.Prelude.{not, slice_set, Bool, true, ⊤}
use Rattle.key_model.specs.{Term.Term, Reading.term_reading_by, HandoverTable.NumberedKey}
use Rattle.nh_chain.specs.Station.{StationKey, pair_after, restored_if, base_of}
use Rattle.lte_events.specs.declared.acts.StationAct.{StationAct}
use Rattle.s1x2_rec.specs.Fields.{Fields, PathSwitchRequest, PathSwitchAnswer}
use Rattle.ho_prep.specs.Prep.{Prep, at_air, without, drop_below, is_of, is_at}
use Rattle.lte_machine.specs.{Bearers.Which, Opening.Outcome, Wire.Outgoing, Wire.Between, Reply.Origin, Reply.Reply, StationRows.Admitted, StationRows.OfRecord}
use Rattle.lte_machine.specs.StationState.{Interface, Station, Context}
use Rattle.lte_machine.specs.StationKeys.{spent_in, given_up, with_security, with_rrc_taken, with_packet_taken, with_skipped, arrived, started_by_x2, started_by_s1, started_within, commands, asks_again, sends_packet, sends_rrc}
use Rattle.lte_machine.specs.StationRecords.{with_pair, with_answer, with_admitted, source_release, key_renewed}
use Rattle.lte_properties.specs.ChainBelow.{star_in, AllOf, OfPair, EachNumber, AtMost, IsUnder, IsAbove, ContextBelow, PrepBelow, StationBelow, RecordBelow}
use Rattle.lte_properties.specs.ChainAbove.{ContextAbove, HasNoPair, StationAbove, InFlight}
use Rattle.lte_properties.proofs.ChainNumbers.RowFacts.{PairNeeds, RowNeeds}
use Rattle.lte_machine.proofs.Tests.{none_some, by_some, changed_so}
use Rattle.lte_machine.proofs.StationCases.{RecordCases, AirCases, ActCases}
use Rattle.lte_machine.proofs.{RecordFacts.RecordHas, AirFacts.AirHas, StationActFacts.StationActHas}
use Rattle.lte_properties.proofs.ChainNumbers.Lists.{OfSome, all_append, all_filter, all_find}
use Rattle.lte_properties.proofs.ChainNumbers.Moves.{Stands, Moves, Stays, Renewed}

-- a station asks for itself, and answers nobody
abbrev pub OwnRequest : ℕ → Outgoing Term ℕ → Type 0
OwnRequest id (Between to (PathSwitchRequest conn station number cell caps) key) = station ≡ id
OwnRequest id (Between to (PathSwitchAnswer conn number) (Some pair)) = ⊥
OwnRequest id other = ⊤

-- what is sent has no number above the core's, and fits the station
abbrev pub SentOk : (ℕ → ℕ) → Station Term ℕ → Option (Outgoing Term ℕ) → Type 0
SentOk top t None = ⊤
SentOk top t (Some x) = RecordBelow top x × InFlight t x × OwnRequest t.id x

-- what a step keeps: old context and new station, and what is sent
pub record Kept (top : ℕ → ℕ) (id next : ℕ) (old : Option (Context Term ℕ)) (t : Station Term ℕ) (x : Option (Outgoing Term ℕ)) : Type 0 where
  pub below : StationBelow top t
  pub above : StationAbove t
  pub same : t.id ≡ id
  pub rises : next ≤ t.next
  pub moves : Moves next old t.context
  pub sends : SentOk top t x

-- CONTEXTS

-- a KeNB* has the number of the stored pair, or of the active KeNB
base_number : (P : ℕ → Type 0) (o : Option (NumberedKey Term ℕ)) (kenb : Term) (number : ℕ) → P number → OfPair P o → P (base_of o kenb number).number
base_number P None kenb number h k = h
base_number P (Some pair) kenb number h k = k

-- the pair that came back, or a newer one
pair_after_of : (P : ℕ → Type 0) (o : Option (NumberedKey Term ℕ)) (back : NumberedKey Term ℕ) → OfPair P o → P back.number → OfPair P (pair_after o back)
pair_after_of P None back h k = k
pair_after_of P (Some newer) back h k = h

restored_each : (P : ℕ → Type 0) (key : StationKey Term ℕ) (o : Option (NumberedKey Term ℕ)) → P key.number → OfPair P key.pair → OfPair P o →
    P (restored_if key o).number × OfPair P (restored_if key o).pair
restored_each P key None n h k = (n, h)
restored_each P key (Some back) n h k = (n, pair_after_of P key.pair back h k)

restored_above : (key : StationKey Term ℕ) (o : Option (NumberedKey Term ℕ)) → OfPair (IsAbove key.number) key.pair → OfPair (IsAbove key.number) o →
    OfPair (IsAbove (restored_if key o).number) (restored_if key o).pair
restored_above key None h k = h
restored_above key (Some back) h k = pair_after_of (IsAbove key.number) key.pair back h k

no_pair : (P : ℕ → Type 0) (o : Option (NumberedKey Term ℕ)) → o ≡ None → OfPair P o
no_pair P None e = tt
no_pair P (Some pair) e = absurd (none_some (sym e))

stands_same : (o : Option (Context Term ℕ)) → Stands o o
stands_same None = tt
stands_same (Some c) = (refl, refl, λ n h. h)

module _ (top : ℕ → ℕ) (s : Station Term ℕ) where
  -- a context that changes, and keeps connection and outstanding number
  changed : (c d : Context Term ℕ) (next : ℕ) (preps : List (Prep Term ℕ)) (x : Option (Outgoing Term ℕ)) →
      d.conn ≡ c.conn → d.outstanding ≡ c.outstanding →
      ((P : ℕ → Type 0) → EachNumber P c → EachNumber P d) → (ContextAbove (Some c) → ContextAbove (Some d)) →
      s.next ≤ next → AllOf (PrepBelow top) preps → AllOf HasNoPair preps →
      SentOk top (record s { next = next; context = Some d; preps = preps }) x →
      ContextBelow top (Some c) → ContextAbove (Some c) →
      Kept top s.id s.next (Some c) (record s { next = next; context = Some d; preps = preps }) x
  changed c d next preps x conn out each rise le pb pa sends h a = record {
    below = (each (AtMost (top d.conn)) (subst (λ n. EachNumber (AtMost (top n)) c) (sym conn) h), pb);
    above = (rise a, pa);
    same = refl;
    rises = le;
    moves = Stays (out, conn, λ n k. each (IsUnder n) k);
    sends = sends;
  }

  -- no context comes or goes, and none of its parts
  same_context : (next last : ℕ) (seen : List ℕ) (preps : List (Prep Term ℕ)) (x : Option (Outgoing Term ℕ)) →
      s.next ≤ next → AllOf (PrepBelow top) preps → AllOf HasNoPair preps →
      SentOk top (record s { next = next; last = last; seen = seen; preps = preps }) x →
      ContextBelow top s.context → ContextAbove s.context →
      Kept top s.id s.next s.context (record s { next = next; last = last; seen = seen; preps = preps }) x
  same_context next last seen preps x le pb pa sends h a = record {
    below = (h, pb);
    above = (a, pa);
    same = refl;
    rises = le;
    moves = Stays (stands_same s.context);
    sends = sends;
  }

  -- the context, if there is one, changes so
  mapped : (f : Context Term ℕ → Context Term ℕ) (preps : List (Prep Term ℕ)) (x : Option (Outgoing Term ℕ)) →
      ((c : Context Term ℕ) → (f c).conn ≡ c.conn) → ((c : Context Term ℕ) → (f c).outstanding ≡ c.outstanding) →
      ((c : Context Term ℕ) (P : ℕ → Type 0) → EachNumber P c → EachNumber P (f c)) →
      ((c : Context Term ℕ) → ContextAbove (Some c) → ContextAbove (Some (f c))) →
      AllOf (PrepBelow top) preps → AllOf HasNoPair preps →
      (o : Option (Context Term ℕ)) → SentOk top (record s { context = option_map f o; preps = preps }) x →
      ContextBelow top o → ContextAbove o →
      Kept top s.id s.next o (record s { context = option_map f o; preps = preps }) x
  mapped f preps x conn out each rise pb pa None sends h a = record {
    below = (tt, pb);
    above = (tt, pa);
    same = refl;
    rises = omega arith;
    moves = Stays tt;
    sends = sends;
  }
  mapped f preps x conn out each rise pb pa (Some c) sends h a =
      changed c (f c) s.next preps x (conn c) (out c) (each c) (rise c) (omega arith) pb pa sends h a

  -- a preparation becomes the context, and an outstanding number was drawn now
  came : (old : Option (Context Term ℕ)) (count next : ℕ) (outstanding : Option ℕ) (origin : Option Origin) (p : Prep Term ℕ) (x : Option (Outgoing Term ℕ)) →
      s.next ≤ next → ((n : ℕ) → outstanding ≡ Some n → s.next ≤ n) →
      SentOk top (record s { next = next; context = Some (arrived count outstanding origin p); preps = [] }) x →
      PrepBelow top p → HasNoPair p →
      Kept top s.id s.next old (record s { next = next; context = Some (arrived count outstanding origin p); preps = [] }) x
  came old count next outstanding origin p x le new sends b e = record {
    below = ((b, no_pair (AtMost (top p.conn)) p.key.pair e, tt, tt), tt);
    above = ((no_pair (IsAbove p.key.number) p.key.pair e, tt), tt);
    same = refl;
    rises = le;
    moves = Renewed new;
    sends = sends;
  }

-- ROWS

module _ (top : ℕ → ℕ) (same : Term → Term → Bool) (s : Station Term ℕ) (below : StationBelow top s) (above : StationAbove s) where
  abbrev h : ContextBelow top s.context
  h = below.0

  abbrev a : ContextAbove s.context
  a = above.0

  abbrev pb : AllOf (PrepBelow top) s.preps
  pb = below.1

  abbrev pa : AllOf HasNoPair s.preps
  pa = above.1

  abbrev After : Option (Context Term ℕ) → Station Term ℕ × Reply Term ℕ → Type 0
  After old d = Kept top s.id s.next old d.0 d.1.sent

  unchanged : Kept top s.id s.next s.context s None
  unchanged = same_context top s s.next s.last s.seen s.preps None (omega arith) pb pa tt h a

  -- with the context that the station has
  of_context : (c : Context Term ℕ)
      → s.context ≡ Some c
      → (d : Station Term ℕ × Reply Term ℕ)
      → (ContextBelow top (Some c) → ContextAbove (Some c) → After (Some c) d)
      → After s.context d
  of_context c e d f = subst (λ o. After o d) (sym e) (f (subst (ContextBelow top) e h) (subst ContextAbove e a))

  above_next : (n : ℕ) → n ≡ s.next + 1 → s.next ≤ n + 1
  above_next n e = omega arith

  -- a number that was drawn is not below the next one
  drawn : (number n : ℕ) → number ≡ s.next → Some number ≡ Some n → s.next ≤ n
  drawn number n e f = subst (λ m. s.next ≤ m) (by_some f) (omega arith)

  release_sends : (t : Station Term ℕ) (conn : ℕ) (o : Option Origin) → SentOk top t (source_release conn o)
  release_sends t conn None = tt
  release_sends t conn (Some origin) = (tt, tt, tt)

  pair_taken_some : (conn : ℕ) (origin : Option Origin) (pair : NumberedKey Term ℕ) (o : Option (Context Term ℕ)) →
      PairNeeds top pair.number o → ContextBelow top o → ContextAbove o →
      Kept top s.id s.next o (record s { context = option_map (with_pair pair) o }) (source_release conn origin)
  pair_taken_some conn origin pair None n h a = record {
    below = (tt, pb);
    above = (tt, pa);
    same = refl;
    rises = omega arith;
    moves = Stays tt;
    sends = release_sends (record s { context = None }) conn origin;
  }
  pair_taken_some conn origin pair (Some c) n h a = record {
    below = ((h.0, n.1, h.2, h.3), pb);
    above = ((n.0.0, a.1), pa);
    same = refl;
    rises = omega arith;
    moves = Renewed (λ m f. absurd (none_some f));
    sends = release_sends (record s { context = Some (with_pair pair c) }) conn origin;
  }

  prepared_kept : (w : Admitted) (p : Prep Term ℕ) (x : Option (Outgoing Term ℕ)) → w.air ≡ s.next → PrepBelow top p → HasNoPair p →
      SentOk top (with_admitted w p s) x → Kept top s.id s.next s.context (with_admitted w p s) x
  prepared_kept w p x e b n sends =
      same_context top s (w.air + 1) w.conn (slice_set s.seen w.from.source w.from.attempt) (drop_below w.conn s.preps ++ p ∷ []) x (omega arith)
      (all_append (PrepBelow top) (drop_below w.conn s.preps) (p ∷ []) (all_filter (PrepBelow top) (λ q. nat_le w.conn q.conn) s.preps pb) (b, tt))
      (all_append HasNoPair (drop_below w.conn s.preps) (p ∷ []) (all_filter HasNoPair (λ q. nat_le w.conn q.conn) s.preps pa) (n, tt))
      sends h a

  pub record_kept : (on : Interface) (fields : Fields) →
      RecordCases (term_reading_by same) s (λ row key. RecordHas (term_reading_by same) s on fields row × RowNeeds top s (OfRecord row) key) (After s.context)
  record_kept on fields =
      record {
        nothing = λ answer. unchanged;
        given = λ conn cell caps algs air kenb k.
            let e : air ≡ s.next = k.0.air_is in
            record {
              below = ((omega arith, tt, tt, tt), tt);
              above = ((tt, tt), tt);
              same = refl;
              rises = omega arith;
              moves = Renewed (λ n f. absurd (none_some f));
              sends = (tt, tt, tt);
            };
        released = λ key k. record { below = (tt, tt); above = (tt, tt); same = refl; rises = omega arith; moves = Stays tt; sends = tt };
        taken = λ conn origin pair k. pair_taken_some conn origin pair s.context k.1 h a;
        by_s1 = λ w pair k. prepared_kept w _ _ k.0.admits.air_is k.1 refl (tt, tt, tt);
        by_x2 = λ w star k. prepared_kept w _ _ k.0.admits.air_is k.1 refl (tt, tt, tt);
        answered = λ order key k. mapped top s (with_answer order) s.preps None (λ c. refl) (λ c. refl)
            (λ c P k. (
              k.0,
              k.1,
              changed_so (λ o. OfPair P (star_in o)) _ (λ a m. m) c.attempt k.2,
              changed_so (λ o. OfPair P (spent_in o)) _ (λ a m. m) c.attempt k.3,
            ))
            (λ c k. (k.0, changed_so (λ o. OfPair (IsAbove c.key.number) (spent_in o)) _ (λ a m. m) c.attempt k.1)) pb pa s.context tt h a;
        cancelled = λ from key k.
            same_context top s s.next s.last s.seen (without from.source from.attempt s.preps) None (omega arith)
            (all_filter (PrepBelow top) (λ p. not (is_of from.source from.attempt p)) s.preps pb)
            (all_filter HasNoPair (λ p. not (is_of from.source from.attempt p)) s.preps pa) tt h a;
        left = λ key k. record { below = (tt, pb); above = (tt, pa); same = refl; rises = omega arith; moves = Stays tt; sends = tt };
        renewed = λ conn number air count c e kenb k.
            of_context c e (key_renewed (term_reading_by same) conn number air count (Some c) (Some kenb) s)
            (λ h a. record {
              below = ((h.0, h.1, tt, tt), (omega arith, tt));
              above = ((a.0, tt), (refl, tt));
              same = refl;
              rises = above_next air k.0.air_is;
              moves = Stays (refl, refl, λ n k. (k.0, k.1, tt, tt));
              sends = (tt, tt, tt);
            });
      }

  found : (at : ℕ) (p : Prep Term ℕ) → at_air at s.preps ≡ Some p → PrepBelow top p × HasNoPair p
  found at p e = (
    (subst (OfSome (λ q. PrepBelow top q × (is_at at q ≡ true))) e (all_find (PrepBelow top) (is_at at) s.preps pb)).0,
    (subst (OfSome (λ q. HasNoPair q × (is_at at q ≡ true))) e (all_find HasNoPair (is_at at) s.preps pa)).0,
  )

  pub air_kept : (air : ℕ) (on : Which) (pdu : List ℕ) (outcome : Outcome)
      → AirCases (term_reading_by same) s (AirHas (term_reading_by same) s air on pdu outcome) (After s.context)
  air_kept air on pdu outcome =
      record {
        nothing = λ answer. unchanged;
        secured = λ count k. mapped top s (with_security count) s.preps None (λ c. refl) (λ c. refl)
            (λ c P k. k)
            (λ c k. k) pb pa s.context tt h a;
        opened = λ srb count text k. mapped top s (with_rrc_taken srb count) s.preps None (λ c. refl) (λ c. refl)
            (λ c P k. k)
            (λ c k. k) pb pa s.context tt h a;
        packet = λ drb count text k. mapped top s (with_packet_taken drb count) s.preps None (λ c. refl) (λ c. refl)
            (λ c P k. k)
            (λ c k. k) pb pa s.context tt h a;
        by_s1 = λ at count k p e.
            let f = found at p e in
            came top s s.context count s.next None None p _ (omega arith) (λ n e. absurd (none_some e))
            (tt, tt, tt) f.0 f.1;
        within = λ at count origin k p e.
            let f = found at p e in
            came top s s.context count s.next None origin p None (omega arith) (λ n e. absurd (none_some e)) tt f.0 f.1;
        by_x2 = λ at count number k p e.
            let f = found at p e in
            let d : number ≡ s.next = k.0 in
            came top s s.context count (number + 1) (Some number) _ p _ (omega arith) (λ n e. drawn number n d e)
            (tt, (λ e. (omega arith, λ g. refl)), refl) f.0 f.1;
      }

  -- an attempt that is given up
  given_up_kept : (preps : List (Prep Term ℕ)) (x : Option (Outgoing Term ℕ)) → AllOf (PrepBelow top) preps → AllOf HasNoPair preps →
      SentOk top (record s { context = option_map given_up s.context; preps = preps }) x →
      Kept top s.id s.next s.context (record s { context = option_map given_up s.context; preps = preps }) x
  given_up_kept preps x qb qa sends =
      mapped top s given_up preps x (λ c. refl) (λ c. refl)
      (λ c P k. let r = restored_each P c.key (spent_in c.attempt) k.0 k.1 k.3 in (r.0, r.1, tt, tt))
      (λ c k. (restored_above c.key (spent_in c.attempt) k.0 k.1, tt)) qb qa s.context sends h a

  pub act_kept : (act : StationAct) → ActCases (term_reading_by same) s (StationActHas (term_reading_by same) s act) (After s.context)
  act_kept act =
      record {
        nothing = λ answer. unchanged;
        by_x2 = λ number target cell k c e.
            let d : number ≡ s.next = k.number_is in
            of_context c e (started_by_x2 (term_reading_by same) number target cell (Some c) s) (λ h a. changed top s c
            _ (number + 1) (s.preps) _ refl refl
            (λ P k. (k.0, tt, base_number P c.key.pair c.key.kenb c.key.number k.0 k.1, k.1)) (λ k. (tt, k.0))
            (omega arith) (pb) (pa)
            (base_number (AtMost (top c.conn)) c.key.pair c.key.kenb c.key.number h.0 h.1, tt, tt) h a);
        by_s1 = λ number target cell k c e.
            let d : number ≡ s.next = k.number_is in
            of_context c e (started_by_s1 number target cell (Some c) s) (λ h a. changed top s c _ (number + 1)
            (s.preps) _ refl refl (λ P k. (k.0, k.1, tt, tt)) (λ k. (k.0, tt)) (omega arith) (pb) (pa)
            (tt, tt, tt) h a);
        within = λ number air cell k c e.
            of_context c e (started_within (term_reading_by same) number air cell (Some c) s) (λ h a.
            let star = base_number (AtMost (top c.conn)) c.key.pair c.key.kenb c.key.number h.0 h.1 in
            changed top s c _ (air + 1) _ None refl refl
            (λ P k. (k.0, tt, base_number P c.key.pair c.key.kenb c.key.number k.0 k.1, k.1)) (λ k. (tt, k.0))
            (above_next air k.air_is) (all_append (PrepBelow top) s.preps _ pb (star, tt))
            (all_append HasNoPair s.preps _ pa (refl, tt)) tt h a);
        commanded = λ via order count k c e. of_context c e (commands via order count (Some c) s) (λ h a. changed top s c _
            (s.next) (s.preps) _ refl refl
            (λ P k. (
              k.0,
              k.1,
              changed_so (λ o. OfPair P (star_in o)) _ (λ a m. tt) c.attempt k.2,
              changed_so (λ o. OfPair P (spent_in o)) _ (λ a m. tt) c.attempt k.3,
            ))
            (λ k. (k.0, changed_so (λ o. OfPair (IsAbove c.key.number) (spent_in o)) _ (λ a m. tt) c.attempt k.1))
            (omega arith) (pb) (pa) (tt, tt, tt) h a);
        cancelled_x2 = λ conn number target k. given_up_kept (s.preps) _ (pb) (pa) (tt, tt, tt);
        cancelled_s1 = λ conn number cell k. given_up_kept (s.preps) _ (pb) (pa) (tt, tt, tt);
        cancelled_within = λ number k.
            given_up_kept (without s.id number s.preps) None
            (all_filter (PrepBelow top) (λ p. not (is_of s.id number p)) s.preps pb)
            (all_filter HasNoPair (λ p. not (is_of s.id number p)) s.preps pa) tt;
        asked = λ number k c e.
            let d : number ≡ s.next = k.number_is in
            of_context c e (asks_again number (Some c) s) (λ h a. record {
              below = (h, pb);
              above = (a, pa);
              same = refl;
              rises = omega arith;
              moves = Renewed (λ n f. drawn number n d f);
              sends = (tt, (λ f. (omega arith, λ g. refl)), refl);
            });
        packet = λ drb count text k c e.
            of_context c e (sends_packet drb count text (Some c) s) (λ h a. changed top s c _ (s.next) (s.preps) _ refl
            refl (λ P k. k) (λ k. k) (omega arith) (pb) (pa) (tt, tt, tt) h a);
        text = λ srb count text k c e. of_context c e (sends_rrc srb count text (Some c) s) (λ h a. changed top s c _
            (s.next) (s.preps) _ refl refl (λ P k. k) (λ k. k) (omega arith) (pb) (pa) (tt, tt, tt) h a);
        skipped = λ on n k. mapped top s (with_skipped on n) s.preps None (λ c. refl) (λ c. refl)
            (λ c P k. k)
            (λ c k. k) pb pa s.context tt h a;
      }
