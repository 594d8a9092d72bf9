-- What each row of a station keeps of the keys that it has and uses.
use Rattle.std.proofs.Common.{◌≡◌, refl, sym, ap, ◌∙◌, subst, subst₂, ℕ, ◌+◌, ◌<◌, ◌≤◌, Bool, true, false, not, nat_le, List, [], ◌∷◌, ◌++◌, Option, Some, None, option_map, arith}
use Rattle.std.specs.Prelude.{IfSome}
use Rattle.std.proofs.lemmas.Bool.Decides.{nat_tests}
use Rattle.alg_choice.specs.{declared.algs.Algs.Algs, declared.caps.Caps.Caps, Algs.identity_of, Algs.eia2_identity}
use Rattle.annex_a_keys.specs.Cell.{Place}
use Rattle.lte_events.specs.declared.acts.StationAct.{StationAct}
use Rattle.rec_base.specs.{declared.uses.Dir.TheVariants.Down, Bearer.bearer5_of}
use Rattle.key_model.specs.{Term.Term, Term.Alg, Reading.term_reading, Reading.term_reading_by, HandoverTable.NumberedKey, HandoverLines.star_line}
use Rattle.nh_chain.specs.Station.{opened}
use Rattle.pdcp_guard.specs.AsKeys.{AsKeys, as_keys_of}
use Rattle.rrc_rec.specs.{declared.records.RrcRecord.TheVariants.RrcData, Spelling.spelling_of}
use Rattle.ho_prep.specs.declared.origins.By.{By}
use Rattle.ho_prep.specs.Prep.{Prep, is_at, at_air, without, drop_below, is_of}
use Rattle.lte_machine.specs.{Opening.Outcome, Reply.Origin, Reply.Reply, World.uses_in}
use Rattle.lte_machine.specs.Bearers.{Which, Srb, Signalling1, Drb, Bearers, of_srb, of_drb, srb_counts, drb_counts, srb_sent, drb_sent}
use Rattle.lte_machine.specs.Wire.{KeyUse, Outgoing, uses_of, drb_use}
use Rattle.lte_machine.specs.StationState.{Station, Context, Attempt}
use Rattle.lte_machine.specs.StationRows.{Admitted, RecordRow, RecordRefused, ContextGiven, ContextReleased, PairTaken, PreparedByS1, PreparedByX2, AttemptAnswered, PreparationCancelled, SourceReleased, AirRow, ActRow, KeyRenewed}
use Rattle.lte_machine.specs.StationKeys.{with_security, with_rrc_taken, with_packet_taken, arrived, air_does, started_by_x2, started_by_s1, started_within, commands, commanded, given_up, spent_in, asks_again, sends_packet, sends_rrc, with_skipped, act_does}
use Rattle.lte_machine.specs.StationRecords.{signalling_sent, packet_sent, initial_context, context_given, with_pair, pair_taken, admitted_prep, prepared_by_s1, prepared_by_x2, with_admitted, with_answer, record_does, own_prep, order_text, key_renewed}
use Rattle.lte_properties.specs.ChainBelow.{AllOf}
use Rattle.lte_machine.proofs.{AirFacts.AirHas, StationActFacts.StationActHas, Tests.by_some}
use Rattle.lte_machine.proofs.StationCases.{AirCases, ActCases, air_case, act_case}
use Rattle.lte_properties.proofs.Freshness.Uses.{Home, home_at, Homes, IsAs, is_star, home_of, home, NoneWaits, IsSpent, next_on, send_on, AsDown, StationUse, AllApart}
use Rattle.lte_properties.proofs.Freshness.Stands.{AsKeysOf, PrepStands, StationStands, RecordStands}
use Rattle.lte_properties.proofs.ChainNumbers.Lists.{OfSome, all_append, all_filter, all_find, all_map}
use Rattle.lte_properties.proofs.{Freshness.Lists.both_apart, Freshness.PhoneNas.types_apart, Freshness.Order.on_key}
use Rattle.lte_properties.proofs.Freshness.Bearers.{Rise, rise_same, srb_taken_rises, drb_taken_rises, srb_sent_rises, drb_sent_rises, left_out_rises, srb_is_next, srb_is_used, drb_is_next, drb_is_used}
use Rattle.lte_properties.proofs.Freshness.StationKeeps.{Later, later_spent, context_later, ahead_later, Stays, ContextStays, stays_same, stays_map, restored_kenb, NewAt, StationKeeps, RecordNeeds, TakenHere, AirNeeds}

module _ (taken given : Homes) where
  -- CONTEXTS THAT STAY

  -- what a step keeps, with the uses of what it sends
  keeps : (s t : Station Term ℕ) (sent : Option (Outgoing Term ℕ)) → Later s t → ContextStays s.context t.context → AllOf (PrepStands t.next) t.preps →
      StationStands taken given s → AllOf (NewAt taken given s t) (uses_in sent) → AllApart (uses_in sent) → IfSome sent (RecordStands taken given) →
      StationKeeps taken given s t sent
  keeps s t sent l c p h uses apart sends = record {
    same = l.same;
    stands = (context_later taken given s t l s.context t.context c h.0, p);
    old = λ k type count bearer u. record {
      at = u.at;
      is = u.is;
      spent = λ e. later_spent s t l (is_star k) u.at.place (u.spent (e ∙ l.same));
      ahead = ahead_later s.context t.context c k type count bearer u.ahead;
    };
    uses = uses;
    apart = apart;
    sends = sends;
  }

  -- preparations as they were
  later_same : (s : Station Term ℕ) (next : ℕ) (o : Option (Context Term ℕ)) → s.next ≤ next → Later s (record s { next = next; context = o })
  later_same s next o le = record { same = refl; next = le; last = omega arith; free = λ air lt h. h }

  -- preparations stand as numbers are drawn
  preps_rise : (m n : ℕ) (preps : List (Prep Term ℕ)) → m ≤ n → AllOf (PrepStands m) preps → AllOf (PrepStands n) preps
  preps_rise m n preps le h = all_map (PrepStands m) (PrepStands n) (λ p k. (k.0, k.1, let x = k.2 in omega arith)) preps h

  -- the context changes, or nothing does
  changes : (s : Station Term ℕ) (next : ℕ) (o : Option (Context Term ℕ)) (sent : Option (Outgoing Term ℕ)) → s.next ≤ next → ContextStays s.context o →
      StationStands taken given s → AllOf (NewAt taken given s (record s { next = next; context = o })) (uses_in sent) → AllApart (uses_in sent) →
      IfSome sent (RecordStands taken given) → StationKeeps taken given s (record s { next = next; context = o }) sent
  changes s next o sent le c h uses apart sends =
      keeps s (record s { next = next; context = o }) sent (later_same s next o le) c (preps_rise s.next next s.preps le h.1) h uses apart sends

  -- nothing changes
  still : (s : Station Term ℕ) → StationStands taken given s → StationKeeps taken given s s None
  still s h = changes s s.next s.context None (omega arith) (stays_same s.context) h tt tt tt

  -- the context changes in other parts
  mapped : (s : Station Term ℕ) (f : Context Term ℕ → Context Term ℕ) → ((c : Context Term ℕ) → Stays c (f c)) → StationStands taken given s →
      StationKeeps taken given s (record s { context = option_map f s.context }) None
  mapped s f c h = changes s s.next (option_map f s.context) None (omega arith) (stays_map f c s.context) h tt tt tt

  -- SENDING

  module _ (s : Station Term ℕ) (c : Context Term ℕ) (b : Bearers) (attempt : Option (Attempt Term ℕ)) where
    abbrev before : Station Term ℕ
    before = record s { context = Some c }

    abbrev after : Station Term ℕ
    after = record s { context = Some (record c { bearers = b; attempt = attempt }) }

    -- the next COUNT of a bearer is new
    new_use : (type id count bearer : ℕ) → IsAs type → StationStands taken given before →
        count < next_on type bearer b → (count < next_on type bearer c.bearers → ⊥) →
        NewAt taken given before after
        (record { key = Alg c.key.kenb type id; count = count; bearer = bearer; dir = Down })
    new_use type id count bearer ge h used next =
        let sits = h.0 in
        record {
          down = refl;
          own = (ge, (sits.at, sits.is, sits.here));
          now = λ a. record { at = sits.at; is = sits.is; spent = λ e. sits.spent; ahead = λ g. used };
          news = λ old. next ((old ge).ahead refl);
        }

    -- the uses of an RRC text, by its keys
    abbrev OfRrc : Srb → List ℕ → AsKeys Term → Type 0
    OfRrc srb text keys =
        AllOf (NewAt taken given before after)
        (uses_of {C = ℕ} (signalling_sent s.id c.air keys srb (srb_counts srb c.bearers).send text))
        × AllApart (uses_of {C = ℕ} (signalling_sent s.id c.air keys srb (srb_counts srb c.bearers).send text))

    -- an RRC text takes the next COUNT of its bearer
    rrc_keeps : (srb : Srb) (text : List ℕ) → b ≡ srb_sent srb c.bearers → StationStands taken given before →
        StationKeeps taken given before after
        (Some (signalling_sent s.id c.air c.keys srb (srb_counts srb c.bearers).send text))
    rrc_keeps srb text e h =
        let used : (srb_counts srb c.bearers).send < send_on false (bearer5_of (of_srb srb)) b =
        subst (λ x. (srb_counts srb c.bearers).send < send_on false (bearer5_of (of_srb srb)) x) (sym e) (srb_is_used srb c.bearers) in
        let a : OfRrc srb text (as_keys_of term_reading c.key.kenb c.keys.algs) = (
          (
            new_use 3 (identity_of c.keys.algs.eea) _ (bearer5_of (of_srb srb)) (omega arith) h used (srb_is_next srb c.bearers),
            (new_use 4 eia2_identity _ (bearer5_of (of_srb srb)) (omega arith) h used (srb_is_next srb c.bearers), tt),
          ),
          both_apart _ _ (types_apart _ _ 3 4 refl refl (λ g. absurd (omega arith))),
        ) in
        let k = subst (OfRrc srb text) (sym h.0.keys) a in
        changes before s.next _ _ (omega arith)
        (refl, refl, subst (Rise c.bearers) (sym e) (srb_sent_rises srb c.bearers)) h k.0 k.1 tt

    -- a user packet
    packet_keeps : (drb : Drb) (text : List ℕ) → b ≡ drb_sent drb c.bearers → StationStands taken given before →
        StationKeeps taken given before after
        (Some (packet_sent s.id c.air c.keys drb (drb_counts drb c.bearers).send text))
    packet_keeps drb text e h =
        let used : (drb_counts drb c.bearers).send < send_on true (bearer5_of (of_drb drb)) b =
        subst (λ x. (drb_counts drb c.bearers).send < send_on true (bearer5_of (of_drb drb)) x) (sym e) (drb_is_used drb c.bearers) in
        let k = subst (λ (keys : AsKeys Term). NewAt taken given before after
        (drb_use Down keys.up_enc drb (drb_counts drb c.bearers).send))
        (sym h.0.keys) (new_use 5 (identity_of c.keys.algs.eea) _ (bearer5_of (of_drb drb)) (omega arith) h used (drb_is_next drb c.bearers)) in
        changes before s.next _ _ (omega arith)
        (refl, refl, subst (Rise c.bearers) (sym e) (drb_sent_rises drb c.bearers)) h (k, tt) (tt, tt) tt

  -- a step that a station keeps, and that draws further numbers, is of a later connection and has other preparations
  further : (s t : Station Term ℕ) (next last : ℕ) (preps : List (Prep Term ℕ)) (sent : Option (Outgoing Term ℕ)) →
      t.next ≤ next → t.last ≤ last → ((air : ℕ) → air < t.next → NoneWaits air t.preps → NoneWaits air preps) →
      AllOf (PrepStands next) preps → StationKeeps taken given s t sent →
      StationKeeps taken given s (record t { next = next; last = last; preps = preps }) sent
  further s t next last preps sent le up free ps k =
      let l : Later t u = record { same = refl; next = le; last = up; free = free } in
      record {
        same = k.same;
        stands = (context_later taken given t u l t.context t.context (stays_same t.context) k.stands.0, ps);
        old = λ key type count bearer x.
            let y = k.old key type count bearer x in
            record { at = y.at; is = y.is; spent = λ e. later_spent t u l (is_star key) y.at.place (y.spent e); ahead = y.ahead };
        uses = all_map (NewAt taken given s t) (NewAt taken given s u)
            (λ x y. search (later_use l x y.now)) (uses_in sent) k.uses;
        apart = k.apart;
        sends = k.sends;
      }
    where
      u : Station Term ℕ
      u = record t { next = next; last = last; preps = preps }

      later_use : Later t u → (x : KeyUse Term) → StationUse taken given t x → StationUse taken given u x
      later_use l x y =
          on_key (λ k type. IsAs type → AsDown taken given t k type x.count x.bearer) (λ k type. IsAs type → AsDown taken given u k type x.count x.bearer)
          (λ k type f a.
          let z = f a in
          record { at = z.at; is = z.is; spent = λ e. later_spent t u l (is_star k) z.at.place (z.spent (e ∙ l.same)); ahead = z.ahead })
          x.key y

  -- A NEW CONTEXT

  -- of a KeNB whose home is here, at a place that was not spent and is now
  renewed : (s t : Station Term ℕ) (c : Context Term ℕ) (place : ℕ) (sent : Option (Outgoing Term ℕ)) → Later s (record t { context = Some c }) →
      home taken given c.key.kenb ≡ Some (home_at s.id place) → (IsSpent (is_star c.key.kenb) place s.next s.last s.preps → ⊥) →
      IsSpent (is_star c.key.kenb) place t.next t.last t.preps → AsKeysOf c.key.kenb c.keys → AllOf (PrepStands t.next) t.preps →
      AllOf (NewAt taken given s (record t { context = Some c })) (uses_in sent) → AllApart (uses_in sent) → IfSome sent (RecordStands taken given) →
      StationKeeps taken given s (record t { context = Some c }) sent
  renewed s t c place sent l here unspent spent keys preps uses apart sends = record {
    same = l.same;
    stands = (record { at = home_at s.id place; is = here; here = sym l.same; spent = spent; keys = keys }, preps);
    old = λ k type count bearer u. record {
      at = u.at;
      is = u.is;
      spent = λ e. later_spent s (record t { context = Some c }) l (is_star k) u.at.place (u.spent (e ∙ l.same));
      ahead = λ e. absurd (unspent (used_here k type count bearer u e));
    };
    uses = uses;
    apart = apart;
    sends = sends;
  } where
    used_here : (k : Term) (type count bearer : ℕ) → AsDown taken given s k type count bearer → k ≡ c.key.kenb → IsSpent (is_star c.key.kenb) place s.next s.last s.preps
    used_here k type count bearer u e =
        let same : u.at ≡ home_at s.id place = by_some (sym u.is ∙ ap (home taken given) e ∙ here) in
        subst₂ (λ b n. IsSpent b n s.next s.last s.preps) (ap is_star e) (ap (λ (h : Home). h.place) same) (u.spent (ap (λ (h : Home). h.station) same))

  -- rows by a record

  -- an Initial Context
  given_keeps : (same : Term → Term → Bool) (conn : ℕ) (cell : Place) (caps : Caps) (algs : Algs) (air : ℕ) (key : Option (NumberedKey Term ℕ)) (s : Station Term ℕ) →
      RecordNeeds given s (ContextGiven conn cell caps algs air) key → StationStands taken given s →
      let d = context_given (term_reading_by same) conn cell caps algs air key s in StationKeeps taken given s d.0 d.1.sent
  given_keeps same conn cell caps algs air None s n h = still s h
  given_keeps same conn cell caps algs air (Some k) s n h =
      let c = initial_context (term_reading_by same) conn cell caps algs air k.key in
      let (above, at, is, no_star) = n in
      let here : home taken given k.key ≡ Some (home_at s.id conn) = ap (λ b. home_of b (taken k.key) (given k.key)) no_star ∙ is in
      renewed s (record s { next = air + 1; last = conn; preps = [] }) c conn _
      (record { same = refl; next = omega arith; last = omega arith; free = λ a lt f. tt })
      here (λ spent. unspent (subst (λ b. IsSpent b conn s.next s.last s.preps) no_star spent))
      (subst (λ b. IsSpent b conn (air + 1) conn []) (sym no_star) (omega arith)) refl tt (
        record {
          down = refl;
          own = (omega arith, (home_at s.id conn, here, refl));
          now = λ a. record {
            at = home_at s.id conn;
            is = here;
            spent = λ e. subst (λ b. IsSpent b conn (air + 1) conn []) (sym no_star) (omega arith);
            ahead = λ e. omega arith;
          };
          news = λ old. unspent (old_spent here (old (omega arith)));
        },
        tt,
      )
      (tt, tt) tt
    where
      unspent : conn ≤ s.last → ⊥
      unspent le = let x = n.0 in absurd (omega arith)

      old_spent : home taken given k.key ≡ Some (home_at s.id conn) → AsDown taken given s k.key 4 0 0 → conn ≤ s.last
      old_spent here u =
          let same : u.at ≡ home_at s.id conn = by_some (sym u.is ∙ here) in
          let (_, _, _, no_star) = n in
          subst₂ (λ b n. IsSpent b n s.next s.last s.preps) no_star (ap (λ (h : Home). h.place) same) (u.spent (ap (λ (h : Home). h.station) same))

  -- a pair that is taken
  pair_keeps : (conn : ℕ) (origin : Option Origin) (key : Option (NumberedKey Term ℕ)) (s : Station Term ℕ) → StationStands taken given s →
      let d = pair_taken conn origin key s in StationKeeps taken given s d.0 d.1.sent
  pair_keeps conn origin None s h = still s h
  pair_keeps conn None (Some pair) s h =
      changes s s.next (option_map (with_pair pair) s.context) None (omega arith)
      (stays_map (with_pair pair) (λ c. (refl, refl, rise_same c.bearers)) s.context) h tt tt tt
  pair_keeps conn (Some o) (Some pair) s h =
      changes s s.next (option_map (with_pair pair) s.context) _ (omega arith) (stays_map (with_pair pair) (λ c. (refl, refl, rise_same c.bearers)) s.context) h tt tt tt

  -- a preparation that is added waits at an air address that was not drawn before
  waits_apart : (s : Station Term ℕ) (p : Prep Term ℕ) (preps : List (Prep Term ℕ)) → s.next ≤ p.air → (air : ℕ)
      → air < s.next → NoneWaits air preps → NoneWaits air (preps ++ p ∷ [])
  waits_apart s p preps le air lt h = all_append (λ q. q.air ≡ air → ⊥) preps (p ∷ []) h ((λ e. absurd (omega arith)), tt)

  -- a preparation is added
  admitted_keeps : (w : Admitted) (p : Prep Term ℕ) (sent : Option (Outgoing Term ℕ)) (s : Station Term ℕ) →
      s.last ≤ w.conn → w.air ≡ s.next → p.air ≡ w.air → is_star p.key.kenb ≡ true →
      AsKeysOf p.key.kenb p.keys → StationStands taken given s →
      AllOf (NewAt taken given s (with_admitted w p s)) (uses_in sent) → AllApart (uses_in sent) → IfSome sent (RecordStands taken given) →
      StationKeeps taken given s (with_admitted w p s) sent
  admitted_keeps w p sent s last air at star keys h uses apart sends =
      keeps s (with_admitted w p s) sent
      (record {
        same = refl;
        next = omega arith;
        last = last;
        free = λ a lt f.
            waits_apart s p (drop_below w.conn s.preps) (omega arith) a lt
            (all_filter (λ q. q.air ≡ a → ⊥) (λ (q : Prep Term ℕ). nat_le w.conn q.conn) s.preps f);
      })
      (stays_same s.context)
      (all_append (PrepStands (w.air + 1)) (drop_below w.conn s.preps) (p ∷ [])
      (all_filter (PrepStands (w.air + 1)) (λ (q : Prep Term ℕ). nat_le w.conn q.conn) s.preps (preps_rise s.next (w.air + 1) s.preps (omega arith) h.1))
      ((star, keys, omega arith), tt))
      h uses apart sends

  -- by a Handover Request on S1
  by_s1_keeps : (same : Term → Term → Bool) (w : Admitted) (key : Option (NumberedKey Term ℕ)) (s : Station Term ℕ) →
      (s.last ≤ w.conn) × (w.air ≡ s.next) → StationStands taken given s →
      let d = prepared_by_s1 (term_reading_by same) w key s in StationKeeps taken given s d.0 d.1.sent
  by_s1_keeps same w None s n h = still s h
  by_s1_keeps same w (Some pair) s n h =
      admitted_keeps w (admitted_prep (term_reading_by same) w By.S1
      (star_line (term_reading_by same) pair w.cell.pci w.cell.earfcn))
      _ s n.0 n.1 refl refl refl h tt tt tt

  -- by one on X2
  by_x2_keeps : (same : Term → Term → Bool) (w : Admitted) (key : Option (NumberedKey Term ℕ)) (s : Station Term ℕ) →
      RecordNeeds given s (PreparedByX2 w) key → StationStands taken given s →
      let d = prepared_by_x2 (term_reading_by same) w key s in StationKeeps taken given s d.0 d.1.sent
  by_x2_keeps same w None s n h = still s h
  by_x2_keeps same w (Some star) s n h = admitted_keeps w (admitted_prep (term_reading_by same) w By.X2 star) _ s n.0 n.1 refl n.2 refl h tt tt tt

  -- no preparation comes, and perhaps some go
  fewer : (s : Station Term ℕ) (o : Option (Context Term ℕ)) (preps : List (Prep Term ℕ)) → ContextStays s.context o → AllOf (PrepStands s.next) preps →
      ((air : ℕ) → NoneWaits air s.preps → NoneWaits air preps) → StationStands taken given s → StationKeeps taken given s (record s { context = o; preps = preps }) None
  fewer s o preps c p f h =
      keeps s (record s { context = o; preps = preps }) None (record { same = refl; next = omega arith; last = omega arith; free = λ a lt. f a }) c p h tt tt tt

  -- a key change: the order goes under the present keys, and the preparation with a KeNB* stands alone
  renewed_keeps : (same : Term → Term → Bool) (conn number air count : ℕ) (s : Station Term ℕ) (o : Option (Context Term ℕ)) (key : Option (NumberedKey Term ℕ)) →
      let now : Station Term ℕ = record s { context = o } in
      RecordNeeds given now (KeyRenewed conn number air count) key → StationStands taken given now →
      let d = key_renewed (term_reading_by same) conn number air count o key now in StationKeeps taken given now d.0 d.1.sent
  renewed_keeps same conn number air count s None key n h = still (record s { context = None }) h
  renewed_keeps same conn number air count s (Some c) None n h = still (record s { context = Some c }) h
  renewed_keeps same conn number air count s (Some c) (Some kenb) n h =
      let (low, _, drawn, count_is) = n in
      subst (λ x. let d = key_renewed (term_reading_by same) conn number air x (Some c) (Some kenb) (record s { context = Some c }) in
      StationKeeps taken given (record s { context = Some c }) d.0 d.1.sent) (sym count_is)
      (further (record s { context = Some c }) _ (air + 1) conn _ _
      (omega arith) low (λ a lt f. ((λ e. absurd (omega arith)), tt))
      ((refl, refl, omega arith), tt)
      (rrc_keeps s c (srb_sent Signalling1 c.bearers) _ Signalling1 _ refl h))

  -- preparations of an attempt go
  filtered : (s : Station Term ℕ) (o : Option (Context Term ℕ)) (source attempt : ℕ) → ContextStays s.context o → StationStands taken given s →
      StationKeeps taken given s (record s { context = o; preps = without source attempt s.preps }) None
  filtered s o source attempt c h =
      fewer s o (without source attempt s.preps) c (all_filter (PrepStands s.next) (λ p. not (is_of source attempt p)) s.preps h.1)
      (λ a f. all_filter (λ q. q.air ≡ a → ⊥) (λ p. not (is_of source attempt p)) s.preps f) h

  -- a row of a record
  pub record_keeps : (same : Term → Term → Bool) (row : RecordRow) (key : Option (NumberedKey Term ℕ))
      (s : Station Term ℕ) → RecordNeeds given s row key → StationStands taken given s →
      let d = record_does (term_reading_by same) row key s in StationKeeps taken given s d.0 d.1.sent
  record_keeps same (RecordRefused answer) key s n h = still s h
  record_keeps same (ContextGiven conn cell caps algs air) key s n h = given_keeps same conn cell caps algs air key s n h
  record_keeps same ContextReleased key s n h = fewer s None [] tt tt (λ a f. tt) h
  record_keeps same (PairTaken conn origin) key s n h = pair_keeps conn origin key s h
  record_keeps same (PreparedByS1 w) key s n h = by_s1_keeps same w key s n h
  record_keeps same (PreparedByX2 w) key s n h = by_x2_keeps same w key s n h
  record_keeps same (AttemptAnswered order) key s n h = mapped s (with_answer order) (λ c. (refl, refl, rise_same c.bearers)) h
  record_keeps same (PreparationCancelled o) key s n h = filtered s s.context o.source o.attempt (stays_same s.context) h
  record_keeps same (KeyRenewed conn number air count) key s n h = renewed_keeps same conn number air count s s.context key n h
  record_keeps same SourceReleased key s n h = changes s s.next None None (omega arith) tt h tt tt tt

  -- rows by a PDU

  -- the preparation at an air address stands, and waits there
  abbrev WaitsAt : Station Term ℕ → ℕ → Prep Term ℕ → Type 0
  WaitsAt s air p = record { stands : PrepStands s.next p; air_is : p.air ≡ air; waits : NoneWaits air s.preps → ⊥ }

  -- and the one that is found does
  waits_at : (s : Station Term ℕ) (air : ℕ) → StationStands taken given s → OfSome (WaitsAt s air) (at_air air s.preps)
  waits_at s air h = by_found (at_air air s.preps) refl (all_find (PrepStands s.next) (is_at air) s.preps h.1) where
    by_found : (o : Option (Prep Term ℕ)) → at_air air s.preps ≡ o → OfSome (λ p. PrepStands s.next p × (is_at air p ≡ true)) o → OfSome (WaitsAt s air) o
    by_found None e k = tt
    by_found (Some p) e k =
        let at : p.air ≡ air = let x = k.1 in grind (arith, nat_tests) in record {
          stands = k.0;
          air_is = at;
          waits = λ none.
              let g = subst (OfSome (λ (q : Prep Term ℕ). (q.air ≡ air → ⊥) × (is_at air q ≡ true))) e
              (all_find (λ (q : Prep Term ℕ). q.air ≡ air → ⊥) (is_at air) s.preps none) in
              g.0 at;
        }

  -- its context is new: nobody waits there any more
  arrives : (s : Station Term ℕ) (air next count : ℕ) (outstanding : Option ℕ) (origin : Option Origin) (p : Prep Term ℕ) (sent : Option (Outgoing Term ℕ)) →
      s.next ≤ next → WaitsAt s air p → taken p.key.kenb ≡ Some (home_at s.id air) →
      AllOf (NewAt taken given s (record s { next = next; context = Some (arrived count outstanding origin p); preps = [] })) (uses_in sent) →
      AllApart (uses_in sent) → IfSome sent (RecordStands taken given) →
      StationKeeps taken given s (record s { next = next; context = Some (arrived count outstanding origin p); preps = [] }) sent
  arrives s air next count outstanding origin p sent le w here uses apart sends =
      let (star, keys, drawn) = w.stands in
      renewed s (record s { next = next; preps = [] }) (arrived count outstanding origin p) air sent
      (record { same = refl; next = le; last = omega arith; free = λ a lt f. tt })
      (ap (λ b. home_of b (taken p.key.kenb) (given p.key.kenb)) star ∙ here)
      (λ spent. w.waits (subst (λ b. IsSpent b air s.next s.last s.preps) star spent).1)
      (subst (λ b. IsSpent b air next s.last []) (sym star) (let x = w.air_is in omega arith, tt))
      keys tt uses apart sends

  -- an attempt that is given up leaves the KeNB
  gives_up : (c : Context Term ℕ) → Stays c (given_up c)
  gives_up c = (restored_kenb c.key (spent_in c.attempt), refl, rise_same c.bearers)

  module _ (same : Term → Term → Bool) (s : Station Term ℕ) (h : StationStands taken given s) where
    abbrev Keeps : Station Term ℕ × Reply Term ℕ → Type 0
    Keeps d = StationKeeps taken given s d.0 d.1.sent

    -- the preparation at an air address, whose key the phone took here
    waits : (at : ℕ) (p : Prep Term ℕ) → at_air at s.preps ≡ Some p → WaitsAt s at p
    waits at p e = subst (OfSome (WaitsAt s at)) e (waits_at s at h)

    taken_is : (at : ℕ) (p : Prep Term ℕ) → at_air at s.preps ≡ Some p → TakenHere taken s.id at (at_air at s.preps) → taken p.key.kenb ≡ Some (home_at s.id at)
    taken_is at p e k = subst (TakenHere taken s.id at) e k

    air_cases : (air : ℕ) (on : Which) (pdu : List ℕ) (outcome : Outcome)
        → AirCases (term_reading_by same) s
        (λ row. AirHas (term_reading_by same) s air on pdu outcome row × AirNeeds taken s row) Keeps
    air_cases air on pdu outcome =
        record {
          nothing = λ answer. still s h;
          secured = λ count k. mapped s (with_security count) (λ c. (refl, refl, srb_taken_rises Signalling1 count c.bearers)) h;
          opened = λ srb count text k. mapped s (with_rrc_taken srb count) (λ c. (refl, refl, srb_taken_rises srb count c.bearers)) h;
          packet = λ drb count text k. mapped s (with_packet_taken drb count) (λ c. (refl, refl, drb_taken_rises drb count c.bearers)) h;
          by_s1 = λ at count k p e. arrives s at s.next count None None p _ (omega arith) (waits at p e) (taken_is at p e k.1) tt tt tt;
          within = λ at count origin k p e. arrives s at s.next count None origin p None (omega arith) (waits at p e) (taken_is at p e k.1) tt tt tt;
          by_x2 = λ at count number k p e.
              let (is_next, _, _) = k.0 in
              arrives s at (number + 1) count (Some number) _ p _ (omega arith) (waits at p e)
              (taken_is at p e k.1) tt tt tt;
        }

    -- a row of a PDU
    pub air_keeps : (air : ℕ) (on : Which) (pdu : List ℕ) (outcome : Outcome) (row : AirRow) →
        AirHas (term_reading_by same) s air on pdu outcome row → AirNeeds taken s row →
        Keeps (air_does (term_reading_by same) row s)
    air_keeps air on pdu outcome row f n =
        air_case (term_reading_by same) s Keeps
        (λ row. AirHas (term_reading_by same) s air on pdu outcome row × AirNeeds taken s row)
        (air_cases air on pdu outcome) row (f, n)

    -- rows by an act

    -- with the context that the station has
    of_context : (c : Context Term ℕ) → s.context ≡ Some c → (f : Station Term ℕ → Station Term ℕ × Reply Term ℕ) →
        (StationStands taken given (record s { context = Some c }) →
        let t = record s { context = Some c } in StationKeeps taken given t (f t).0 (f t).1.sent) → Keeps (f s)
    of_context c e f k =
        subst (λ o. let t = record s { context = o } in StationKeeps taken given t (f t).0 (f t).1.sent) (sym e)
        (k (subst (λ o. StationStands taken given (record s { context = o })) e h))

    one_context : (b c : Context Term ℕ) → s.context ≡ Some b → s.context ≡ Some c → b ≡ c
    one_context b c e f = by_some (sym e ∙ f)

    -- within the station: one more preparation, at the air address drawn
    within_start_keeps : (number air : ℕ) (cell : Place) (c : Context Term ℕ) → number ≡ s.next → air ≡ s.next + 1 →
        StationStands taken given (record s { context = Some c }) →
        let d = started_within (term_reading_by same) number air cell (Some c) (record s { context = Some c }) in
        StationKeeps taken given (record s { context = Some c }) d.0 d.1.sent
    within_start_keeps number air cell c d e h =
        let p = own_prep (term_reading_by same) c.conn s.id number air cell c (opened (term_reading_by same) c.key cell).star in
        let le : s.next ≤ air = omega arith in
        keeps (record s { context = Some c }) _ None
        (record { same = refl; next = omega arith; last = omega arith; free = λ a lt f. waits_apart s p s.preps le a lt f })
        (refl, refl, rise_same c.bearers)
        (all_append (PrepStands (air + 1)) s.preps (p ∷ []) (preps_rise s.next (air + 1) s.preps (omega arith) h.1) ((refl, refl, omega arith), tt))
        h tt tt tt

    act_cases : (act : StationAct) → ActCases (term_reading_by same) s (StationActHas (term_reading_by same) s act) Keeps
    act_cases act =
        record {
          nothing = λ answer. still s h;
          by_x2 = λ number target cell k c e.
              let d : number ≡ s.next = k.number_is in
              of_context c e (started_by_x2 (term_reading_by same) number target cell (Some c)) (λ h. changes
              (record s { context = Some c }) (number + 1) _ _ (omega arith)
              (refl, refl, rise_same c.bearers) h tt tt refl);
          by_s1 = λ number target cell k c e.
              let d : number ≡ s.next = k.number_is in
              of_context c e (started_by_s1 number target cell (Some c)) (λ h. changes (record s { context = Some c })
              (number + 1) _ _ (omega arith) (refl, refl, rise_same c.bearers) h tt tt tt);
          within = λ number air cell k c e.
              of_context c e (started_within (term_reading_by same) number air cell (Some c))
              (λ h. within_start_keeps number air cell c k.starts.number_is k.air_is h);
          commanded = λ via order count k c e. of_context c e (commands via order count (Some c)) (λ h. subst
              (λ n.
              let d = commands via order n (Some c) (record s { context = Some c }) in
              StationKeeps taken given (record s { context = Some c }) d.0 d.1.sent)
              (sym (k.count_is ∙ ap (λ x. x.bearers.srb1.send) (one_context k.context c k.serving e)))
              (rrc_keeps s c (srb_sent Signalling1 c.bearers) (option_map (commanded order) c.attempt) Signalling1
              (order_text via order) refl h));
          cancelled_x2 = λ conn number target k. changes s s.next (option_map given_up s.context) _ (omega arith) (stays_map given_up gives_up s.context) h tt tt tt;
          cancelled_s1 = λ conn number cell k. changes s s.next (option_map given_up s.context) _ (omega arith) (stays_map given_up gives_up s.context) h tt tt tt;
          cancelled_within = λ number k. filtered s (option_map given_up s.context) s.id number (stays_map given_up gives_up s.context) h;
          asked = λ number k c e.
              let d : number ≡ s.next = k.number_is in
              of_context c e (asks_again number (Some c)) (λ h. changes (record s { context = Some c }) (number + 1) _ _
              (omega arith) (refl, refl, rise_same c.bearers) h tt tt tt);
          packet = λ drb count text k c e. of_context c e (sends_packet drb count text (Some c)) (λ h. subst
              (λ n.
              let d = sends_packet drb n text (Some c) (record s { context = Some c }) in
              StationKeeps taken given (record s { context = Some c }) d.0 d.1.sent)
              (sym (k.count_is ∙ ap (λ x. (drb_counts drb x.bearers).send) (one_context k.context c k.serving e)))
              (packet_keeps s c (drb_sent drb c.bearers) c.attempt drb text refl h));
          text = λ srb count text k c e. of_context c e (sends_rrc srb count text (Some c)) (λ h. subst
              (λ n.
              let d = sends_rrc srb n text (Some c) (record s { context = Some c }) in
              StationKeeps taken given (record s { context = Some c }) d.0 d.1.sent)
              (sym (k.count_is ∙ ap (λ x. (srb_counts srb x.bearers).send) (one_context k.context c k.serving e)))
              (rrc_keeps s c (srb_sent srb c.bearers) c.attempt srb (spelling_of (RrcData text)) refl h));
          skipped = λ on n k. mapped s (with_skipped on n) (λ c. (refl, refl, left_out_rises on n c.bearers)) h;
        }

    -- a row of an act
    pub act_keeps : (act : StationAct) (row : ActRow) → StationActHas (term_reading_by same) s act row → Keeps (act_does (term_reading_by same) row s)
    act_keeps act row f = act_case (term_reading_by same) s Keeps (StationActHas (term_reading_by same) s act) (act_cases act) row f
