-- What the rows of a station's own acts leave of the invariant of agreement.
use Rattle.std.proofs.Common.{◌≡◌, ℕ, ◌+◌, ◌-◌, ◌<◌, ◌≤◌, refl, sym, ◌∙◌, ap, subst, arith, Bool, true, false, List, [], ◌∷◌, ◌++◌, Option, Some, None, option_map}
use Rattle.std.proofs.lemmas.Bool.{eqb-false}
use Rattle.annex_a_keys.specs.Cell.{Place}
use Rattle.lte_events.specs.{declared.acts.StationAct.StationAct, declared.acts.StationAct.TheVariants.SendRrc, declared.answers.Answer.TheVariants.Done, Site.Site, Site.station_of, Ranges.IsStationAct}
use Rattle.key_model.specs.{Term.Term, Number.chain_number, Reading.Reading, Reading.term_reading_by, HandoverTable.NumberedKey, HandoverLines.star_line}
use Rattle.nh_chain.specs.Station.{restored_if, pair_after, opened, base_of}
use Rattle.rrc_rec.specs.{declared.records.RrcRecord.TheVariants.RrcData, Spelling.spelling_of}
use Rattle.x2_handover.specs.declared.orders.Order.{Order}
use Rattle.lte_machine.specs.{Bearers.Srb, Bearers.Signalling1, Wire.Outgoing, StationChoice.act_row, StationRecords.order_text, StationStep.plain_station}
use Rattle.lte_machine.specs.Reply.{Origin, ByAttempt, Made, Tried, Handover, BySource, ByTarget, Reply, only}
use Rattle.lte_machine.specs.StationState.{Station, Context, Via, Renewing, Progress, Open, Ready, Commanded, Attempt}
use Rattle.lte_machine.specs.StationKeys.{started_by_x2, started_by_s1, started_within, commanded, commands, spent_in, given_up, sends_rrc, with_skipped, act_does}
use Rattle.lte_machine.proofs.StationActFacts.{Orders, SendsText, StationActHas, station_act_has}
use Rattle.lte_machine.proofs.{StationCases.ActCases, StationCases.act_case, KnownLists.one_more, KnownLists.all_filter, Tests.by_some}
use Rattle.lte_properties.specs.ChainBelow.{AllOf, OfPair, IsAbove}
use Rattle.lte_properties.specs.{ChainAbove.ContextAbove, Agreement.made_at, Agreement.HadTaken}
use Rattle.lte_properties.proofs.{Agreement.Terms.lands, Agreement.Station.StationGoes}
use Rattle.lte_properties.proofs.Agreement.Ghost.{Ghost, tried_at, TermOk, PairOk, PairsOk, MadeOk, TriedOk, GivenOk, IsOrder, UnderKey, ProgressOk, ChangeOk, ViaOk, AttemptOk, StartedOk, CtxOk, FreshFrom, SeenBy, StationOk, SaysOk, TextOk, OutOk}
use Rattle.lte_properties.proofs.Agreement.Later.{term_later, ctx_later, preps_later}
use Rattle.lte_properties.proofs.Agreement.ToldIsFound.{told, told_more, made_new, made_none, tried_new, tried_none, SiteOk, reads_as, term_number, leads_up, leads_level, star_term}
use Rattle.lte_properties.proofs.Agreement.StationContext.{started_map, started_any, with_attempt_ok, with_both, next_drawn, with_ctx, mapped, ctx_at, had}
use Rattle.lte_properties.proofs.Agreement.Seen.{setup_no_attempt, one_origin, apart_new}
use Rattle.lte_properties.proofs.Agreement.StationSends.{sends_down, order_says, change_says}

started_none : (g : Ghost) (id air : ℕ) (t : Term) (starting : Bool) (o : Option (Attempt Term ℕ)) → StartedOk g id air t starting o
    → StartedOk g id air t starting None
started_none g id air t true o h = refl
started_none g id air t false o h = h

-- a context with an attempt is active, and the phone had taken its key
had_with : (g : Ghost) (id air : ℕ) (t : Term) (starting : Bool) (o : Option (Attempt Term ℕ)) (a : Attempt Term ℕ) → o ≡ Some a
    → StartedOk g id air t starting o → HadTaken g.took id air t
had_with g id air t true o a e h = absurd cc
had_with g id air t false o a e h = h

module _ (same : Term → Term → Bool) (cells : List Site) (cells_ok : AllOf SiteOk cells) (g : Ghost) (made_ok : AllOf (MadeOk g) g.made)
    (tried_ok : AllOf (TriedOk cells g) g.tried) (s : Station Term ℕ) (ok : StationOk cells g s) where
  abbrev r : Reading Term ℕ
  r = term_reading_by same

  abbrev Goes : Station Term ℕ × Reply Term ℕ → Type 0
  Goes d = StationGoes cells g s d

  -- A HANDOVER BEGINS

  -- KeNB* of a start is of the connection, and where the context's key leads
  star_ok : (conn : ℕ) (t : Term) (number : ℕ) (cell : Place) (pair : Option (NumberedKey Term ℕ)) → TermOk g conn t number → PairsOk g conn pair
      → OfPair (IsAbove number) pair
      → let star = star_line r (base_of pair t number) cell.pci cell.earfcn in
      TermOk g conn star.key star.number × (number ≤ star.number) × (star.key ≡ lands t (star.number - number) cell)
  star_ok conn t number cell None h k above = ((h.0, h.1, h.2), omega arith, leads_level t number cell)
  star_ok conn t number cell (Some pair) h k above =
      (star_term g conn pair cell.pci cell.earfcn k, omega arith, leads_up g conn t number pair cell h k above)

  -- what is told of its start
  abbrev attempts : ℕ → ℕ → Place → Context Term ℕ → Handover Term ℕ → Tried Term ℕ
  attempts number target cell c kind = record {
    station = s.id;
    attempt = number;
    target = target;
    conn = c.conn;
    cell = cell;
    key = c.key.kenb;
    number = c.key.number;
    kind = kind;
  }

  -- an attempt for another station
  begins : (number target : ℕ) (cell : Place) (c : Context Term ℕ) (o : Option (Context Term ℕ)) (kind : Handover Term ℕ) (sent : Option (Outgoing Term ℕ))
      → s.context ≡ Some c → number ≡ s.next → station_of cell s.cells ≡ Some target →
      (let e = attempts number target cell c kind in let x = told g None (Some e) in
      tried_at (g.tried ++ e ∷ []) s.id number ≡ Some e → CtxOk x s.id (Some c) → CtxOk x s.id o × GivenOk x e kind × OutOk x sent)
      → Goes (record s { next = number + 1; context = o }, record (only Done) { sent = sent; tried = Some (attempts number target cell c kind) })
  begins number target cell c o kind sent at draws site rest =
      let e = attempts number target cell c kind in
      let x = told g None (Some e) in
      let l = told_more g None (Some e) in
      let here : tried_at (g.tried ++ e ∷ []) s.id number ≡ Some e = tried_new g.tried e (ok.fresh number (omega arith)).1 in
      let ctx : CtxOk x s.id (Some c) = ctx_later g x l s.id (Some c) (ctx_at cells g s ok c at) in
      let so = rest here ctx in
      let there : station_of cell cells ≡ Some target = subst (λ x. station_of cell x ≡ Some target) ok.cells site in
      let fresh : FreshFrom x s.id (number + 1) =
      λ n up. ((ok.fresh n (omega arith)).0, tried_none g.tried e s.id n (ok.fresh n (omega arith)).1 (omega arith)) in (
        record {
          context = so.0;
          preps = preps_later g x l s.id s.preps ok.preps;
          fresh = fresh;
          cells = ok.cells;
          id = ok.id;
          next = omega arith;
          ring = ok.ring;
          seen = ok.seen;
        },
        tt,
        record { term = ctx.term; target = there; given = so.1; station = ok.id },
        so.2,
        refl,
        tt,
        refl,
      )

  by_x2_goes : (number target : ℕ) (cell : Place) (c : Context Term ℕ) → s.context ≡ Some c → ContextAbove (Some c) → HadTaken g.took s.id c.air c.key.kenb
      → c.starting ≡ false → number ≡ s.next → station_of cell s.cells ≡ Some target → (target ≡ s.id → ⊥)
      → Goes (started_by_x2 r number target cell (Some c) s)
  by_x2_goes number target cell c at above taken active draws site other =
      let star = (opened r c.key cell).star in
      let k = ctx_at cells g s ok c at in
      let ok_star = star_ok c.conn c.key.kenb c.key.number cell c.key.pair k.term k.pair above.0 in
      let e = attempts number target cell c (BySource star) in
      let x = told g None (Some e) in
      let term : TermOk x c.conn star.key star.number = term_later g x (told_more g None (Some e)) c.conn star.number star.key ok_star.0 in
      let done = started_by_x2 r number target cell (Some c) s in
      begins number target cell c done.0.context (BySource star) done.1.sent at draws site (λ here k. (
        record {
          term = k.term;
          pair = tt;
          keys = k.keys;
          entry = k.entry;
          attempt = (k.pair, (record { tried = e; found = here; key = refl; cell = refl; target = refl; conn = refl; kind = refl }, tt));
          started = started_any x s.id c.air c.key.kenb c.starting _ active taken;
        },
        (term, (ok_star.1, ok_star.2)),
        (term, record { tried = e; found = here; conn = refl; cell = refl; kind = refl; so = (refl, other) }),
      ))

  by_s1_goes : (number target : ℕ) (cell : Place) (c : Context Term ℕ) → s.context ≡ Some c → HadTaken g.took s.id c.air c.key.kenb
      → c.starting ≡ false → number ≡ s.next → station_of cell s.cells ≡ Some target → (target ≡ s.id → ⊥)
      → Goes (started_by_s1 number target cell (Some c) s)
  by_s1_goes number target cell c at taken active draws site other =
      let e = attempts number target cell c ByTarget in
      let done : Station Term ℕ × Reply Term ℕ = started_by_s1 number target cell (Some c) s in
      begins number target cell c done.0.context ByTarget done.1.sent at draws site (λ here k. (
        with_attempt_ok (told g None (Some e)) s.id c k _
            (tt, (record { tried = e; found = here; key = refl; cell = refl; target = refl; conn = refl; kind = refl }, tt))
            (started_any (told g None (Some e)) s.id c.air c.key.kenb c.starting _ active taken),
        tt,
        record { tried = e; found = here; conn = refl; cell = refl; kind = refl; so = other },
      ))

  -- within the station the preparation is made at once
  within_goes : (number air : ℕ) (cell : Place) (c : Context Term ℕ) → s.context ≡ Some c → ContextAbove (Some c) → HadTaken g.took s.id c.air c.key.kenb
      → c.starting ≡ false → number ≡ s.next → air ≡ s.next + 1 → s.next + 1 < 4294967296 → station_of cell s.cells ≡ Some s.id
      → Goes (started_within r number air cell (Some c) s)
  within_goes number air cell c at above taken active draws draws_air small site =
      let k = ctx_at cells g s ok c at in
      let star = (opened r c.key cell).star in
      let origin : Origin = record { source = s.id; attempt = number } in
      let e = attempts number s.id cell c (BySource star) in
      let m : Made Term ℕ = record {
        station = s.id;
        air = air;
        conn = c.conn;
        cell = cell;
        key = star.key;
        number = star.number;
        algs = c.algs;
        from = ByAttempt origin;
      } in
      let x = told g (Some m) (Some e) in
      let l = told_more g (Some m) (Some e) in
      let tried_here : tried_at (g.tried ++ e ∷ []) s.id number ≡ Some e = tried_new g.tried e (ok.fresh number (omega arith)).1 in
      let made_here : made_at (g.made ++ m ∷ []) s.id air ≡ Some m = made_new g.made m (ok.fresh air (omega arith)).0 in
      let ok_star = star_ok c.conn c.key.kenb c.key.number cell c.key.pair k.term k.pair above.0 in
      let term : TermOk x c.conn star.key star.number = term_later g x l c.conn star.number star.key ok_star.0 in
      let ctx : CtxOk x s.id (Some c) = ctx_later g x l s.id (Some c) k in
      let there : station_of cell cells ≡ Some s.id = subst (λ x. station_of cell x ≡ Some s.id) ok.cells site in
      let fresh : FreshFrom x s.id (air + 1) =
      λ n up. (
        made_none g.made m s.id n (ok.fresh n (omega arith)).0 (omega arith),
        tried_none g.tried e s.id n (ok.fresh n (omega arith)).1 (omega arith),
      ) in
      let number_is : chain_number c.key.kenb ≡ c.key.number = term_number g c.conn c.key.kenb c.key.number k.term in (
        record {
          context = record {
            term = ctx.term;
            pair = tt;
            keys = ctx.keys;
            entry = ctx.entry;
            attempt = (
              ctx.pair,
              (
                record {
                  made = m;
                  origin = origin;
                  tried = e;
                  made_is = made_here;
                  from = refl;
                  tried_is = tried_here;
                  key = refl;
                  cell = refl;
                  ncc = refl;
                  algs = refl;
                  source = refl;
                },
                record { tried = e; found = tried_here; key = refl; conn = refl },
              ),
            );
            started = started_any x s.id c.air c.key.kenb c.starting _ active taken;
          };
          preps = one_more _ _ _ (preps_later g x l s.id s.preps ok.preps)
              (record {
                term = term;
                pair = tt;
                keys = refl;
                made = m;
                found = made_here;
                is = (refl, refl, refl);
                no_setup = λ e. setup_no_attempt m e origin refl;
              });
          fresh = fresh;
          cells = ok.cells;
          id = ok.id;
          next = omega arith;
          ring = ok.ring;
          seen = one_more (SeenBy s.id s.seen) g.made m ok.seen (λ at o e other. absurd (other (sym (ap (λ p. p.source) (one_origin m.from origin o refl e)))));
        },
        (
          record {
            low = omega arith;
            high = omega arith;
            station = ok.id;
            from = record {
              tried = e;
              found = tried_here;
              number = number_is;
              target = refl;
              leads = (ok_star.1, ok_star.2);
              given = refl;
              conn = refl;
              cell = refl;
            };
            found = made_here;
            term = ok_star.0;
          },
          apart_new g m origin refl (ok.fresh number (omega arith)).1 g.made made_ok,
        ),
        record { term = ctx.term; target = there; given = (term, (ok_star.1, ok_star.2)); station = ok.id },
        tt,
        refl,
        refl,
        refl,
      )

  -- THE COMMAND

  -- what an attempt orders is the order of the attempt that was opened
  progress_orders : (conn : ℕ) (t : Term) (a : Attempt Term ℕ) (p : Progress) (order : Order) → Orders p order → ProgressOk g s.id conn t a p
      → IsOrder g s.id t order × UnderKey g s.id conn t a.number
  progress_orders conn t a Open order o h = absurd o
  progress_orders conn t a (Ready known) order o h = (subst (IsOrder g s.id t) (sym o) h.0, h.1)
  progress_orders conn t a (Commanded known) order o h = (subst (IsOrder g s.id t) (sym o) h.0, h.1)

  change_orders : (t : Term) (a : Attempt Term ℕ) (order : Order) → Orders a.progress order → (h : ChangeOk g s.id t a) → order ≡ h.order
  change_orders t a order o h = subst (λ p. Orders p order) h.commanded o

  -- its text reads as it, and so the attempt is left
  order_reads : (conn : ℕ) (t : Term) (a : Attempt Term ℕ) (via : Via) (order : Order) → Orders a.progress order → ViaOk g s.id conn t a via
      → TextOk g s.id t (order_text via order) × ViaOk g s.id conn t (commanded order a) via
  order_reads conn t a Renewing order o h =
      subst (λ x. TextOk g s.id t (order_text Renewing x) × ChangeOk g s.id t (commanded x a)) (sym (change_orders t a order o h)) (
        change_says g made_ok t s.id h.order h.change,
        record { order = h.order; commanded = refl; station = h.station; change = h.change },
      )
  order_reads conn t a other order o h =
      let k = progress_orders conn t a a.progress order o h in (order_says cells cells_ok g made_ok tried_ok s.id t order k.0, k)

  commands_goes : (order : Order) (count : ℕ) (c : Context Term ℕ) (a : Attempt Term ℕ) → s.context ≡ Some c → c.attempt ≡ Some a
      → Orders a.progress order → Goes (commands a.via order count (Some c) s)
  commands_goes order count c a at trying orders =
      let k = ctx_at cells g s ok c at in
      let of_attempt : AttemptOk g s.id c.conn c.key.kenb (Some a) = subst (AttemptOk g s.id c.conn c.key.kenb) trying k.attempt in
      let reads = order_reads c.conn c.key.kenb a a.via order orders of_attempt.1 in
      let sent : AttemptOk g s.id c.conn c.key.kenb (option_map (commanded order) c.attempt) =
      subst (λ o. AttemptOk g s.id c.conn c.key.kenb (option_map (commanded order) o)) (sym trying) (tt, reads.1) in
      let taken = had_with g s.id c.air c.key.kenb c.starting c.attempt a trying k.started in (
        with_ctx cells g s ok (commands a.via order count (Some c) s).0.context
            (with_attempt_ok g s.id c k _ sent (started_map g s.id c.air c.key.kenb c.starting (commanded order) c.attempt k.started)),
        tt,
        tt,
        sends_down g s.id c.air c k refl Signalling1 count (order_text a.via order) reads.0 taken,
        refl,
        tt,
        tt,
      )

  -- GIVING UP

  spent_ok : (id conn : ℕ) (t : Term) (o : Option (Attempt Term ℕ)) → AttemptOk g id conn t o → PairsOk g conn (spent_in o)
  spent_ok id conn t None h = tt
  spent_ok id conn t (Some a) h = h.0

  restored_pair : (conn : ℕ) (o : Option (NumberedKey Term ℕ)) (back : NumberedKey Term ℕ) → PairsOk g conn o → PairOk g conn back
      → PairsOk g conn (pair_after o back)
  restored_pair conn None back h k = k
  restored_pair conn (Some newer) back h k = h

  restored_ctx : (id : ℕ) (c : Context Term ℕ) (spent : Option (NumberedKey Term ℕ)) → CtxOk g id (Some c) → PairsOk g c.conn spent
      → CtxOk g id (Some (record c { key = restored_if c.key spent; attempt = None }))
  restored_ctx id c None h k = with_attempt_ok g id c h None tt (started_none g id c.air c.key.kenb c.starting c.attempt h.started)
  restored_ctx id c (Some back) h k =
      search (restored_pair c.conn c.key.pair back h.pair k, started_none g id c.air c.key.kenb c.starting c.attempt h.started)

  given_up_ok : (id : ℕ) (c : Context Term ℕ) → CtxOk g id (Some c) → CtxOk g id (Some (given_up c))
  given_up_ok id c h = restored_ctx id c (spent_in c.attempt) h (spent_ok id c.conn c.key.kenb c.attempt h.attempt)

  gives_up : StationOk cells g (record s { context = option_map given_up s.context })
  gives_up = mapped cells g s ok given_up (given_up_ok s.id)

  -- THE ROWS

  -- the context that a choice found is the one that there is
  one_context : (b c : Context Term ℕ) → s.context ≡ Some b → s.context ≡ Some c → b ≡ c
  one_context b c e f = by_some (sym e ∙ f)

  is_active : (b c : Context Term ℕ) → s.context ≡ Some b → s.context ≡ Some c → b.starting ≡ false → c.starting ≡ false
  is_active b c e f active = subst (λ x. x.starting ≡ false) (one_context b c e f) active

  module _ (above : ContextAbove s.context) (act : StationAct) (is : IsStationAct act) where
    above_at : (c : Context Term ℕ) → s.context ≡ Some c → ContextAbove (Some c)
    above_at c e = subst ContextAbove e above

    rrc_goes : (srb : Srb) (count : ℕ) (text : List ℕ) → SendsText s act srb count text → (c : Context Term ℕ) → s.context ≡ Some c
        → Goes (sends_rrc srb count text (Some c) s)
    rrc_goes srb count text f c e =
        let k = ctx_at cells g s ok c e in
        let short : IsStationAct (SendRrc f.bearer text) = subst IsStationAct f.act_is is in
        let says = reads_as (SaysOk g s.id c.key.kenb) (RrcData text) short.1 tt in
        let taken = had cells g s ok f.context c f.serving e f.active in
        (with_ctx cells g s ok (Some c) k, tt, tt, sends_down g s.id c.air c k refl srb count (spelling_of (RrcData text)) says taken, refl, tt, tt)

    act_cases : ActCases r s (StationActHas r s act) Goes
    act_cases = record {
      nothing = λ answer. (ok, tt, tt, tt, refl, tt, tt);
      by_x2 = λ number target cell k c e.
          by_x2_goes number target cell c e (above_at c e) (had cells g s ok k.context c k.serving e k.active)
          (is_active k.context c k.serving e k.active) k.number_is k.site (eqb-false target s.id k.placed);
      by_s1 = λ number target cell k c e.
          by_s1_goes number target cell c e (had cells g s ok k.context c k.serving e k.active)
          (is_active k.context c k.serving e k.active) k.number_is k.site (eqb-false target s.id k.placed);
      within = λ number air cell k c e.
          let b = k.starts in
          within_goes number air cell c e (above_at c e) (had cells g s ok b.context c b.serving e b.active)
          (is_active b.context c b.serving e b.active) b.number_is k.air_is k.left b.site;
      commanded = λ via order count k c e.
          subst (λ v. Goes (commands v order count (Some c) s)) (sym k.via_is)
          (commands_goes order count c k.attempt e (subst (λ x. x.attempt ≡ Some k.attempt) (one_context k.context c k.serving e) k.trying) k.orders);
      cancelled_x2 = λ conn number target k. (gives_up, tt, tt, tt, refl, tt, tt);
      cancelled_s1 = λ conn number cell k. (gives_up, tt, tt, tt, refl, tt, tt);
      cancelled_within = λ number k. (with_both cells g s ok _ gives_up.context _ (all_filter _ _ s.preps ok.preps), tt, tt, tt, refl, tt, tt);
      asked = λ number k c e.
          let draws : number ≡ s.next = k.number_is in
          let first = ok.next in
          (next_drawn cells g s ok (number + 1) (omega arith) (Some c) (ctx_at cells g s ok c e) s.preps ok.preps, tt, tt, tt, refl, tt, tt);
      packet = λ drb count text k c e. (with_ctx cells g s ok (Some c) (ctx_at cells g s ok c e), tt, tt, tt, refl, tt, tt);
      text = λ srb count text k c e. rrc_goes srb count text k c e;
      skipped = λ on n k. (mapped cells g s ok (with_skipped on n) (λ c h. h), tt, tt, tt, refl, tt, tt);
    }

    -- the row that is chosen
    pub act_goes : Goes (act_does r (act_row (plain_station r s) act) s)
    act_goes = act_case r s Goes (StationActHas r s act) act_cases (act_row (plain_station r s) act) (station_act_has r s act)
