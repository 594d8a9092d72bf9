-- What the rows of a station on records leave of the invariant of agreement.
use Rattle.std.proofs.Common.{◌≡◌, ℕ, ◌<◌, ◌≤◌, ◌+◌, refl, sym, ◌∙◌, ap, subst, arith, Bool, false, List, [], ◌∷◌, ◌++◌, Option, Some, None, Ok, option_map}
use Rattle.std.specs.Prelude.{⊤, length, slice_index, slice_set}
use Rattle.std.proofs.lemmas.List.{length-set}
use Rattle.alg_choice.specs.{declared.algs.Algs.Algs, declared.caps.Caps.Caps}
use Rattle.annex_a_keys.specs.Cell.{Place, IsCell}
use Rattle.lte_events.specs.{declared.answers.Answer.TheVariants.Done, declared.addresses.Address.Address, Site.Site}
use Rattle.key_model.specs.{Term.Term, Term.Star, Chain.ncc_of, Reading.Reading, Reading.term_reading_by, HandoverTable.NumberedKey, HandoverLines.star_line}
use Rattle.rrc_rec.specs.declared.records.RrcRecord.TheVariants.{SecurityModeCommand}
use Rattle.x2_handover.specs.declared.orders.Order.{Order}
use Rattle.s1x2_rec.specs.Content.{Content, map_content}
use Rattle.s1x2_rec.specs.Fields.{Fields, HandoverRequest, HandoverCommand, X2Request, X2Ack, ContextModification}
use Rattle.ho_prep.specs.declared.origins.By.{By}
use Rattle.lte_machine.specs.{Bearers.Signalling1, Wire.Outgoing, Wire.Between, StationRows.Admitted, StationRows.RecordRow, StationChoice.star_ncc, StationChoice.record_row, StationStep.plain_station}
use Rattle.lte_machine.specs.Reply.{Origin, BySetup, ByAttempt, ByChange, Made, Tried, Reply, Handover, BySource, only, unseen}
use Rattle.lte_machine.specs.StationState.{Station, Context, Via, OverX2, Renewing, Open, Commanded, SourceKeys, Attempt, Interface, OnS1, OnX2, map_source_keys}
use Rattle.lte_machine.specs.StationRecords.{context_given, with_pair, source_release, pair_taken, admitted_prep, admitted_made, with_admitted, prepared_by_s1, prepared_by_x2, answered, with_answer, order_text, change_order, key_renewed, record_does}
use Rattle.lte_machine.proofs.RecordFacts.{Takes, Admits, AnswerSays, Answers, Renews, RecordHas, record_has}
use Rattle.lte_machine.proofs.{Routing.address_on, StationCases.RecordCases, StationCases.record_case, KnownLists.one_more, KnownLists.all_filter, Tests.by_some}
use Rattle.lte_properties.specs.{ChainBelow.AllOf, ChainAbove.AnswerOk, ChainAbove.InFlight, Agreement.made_at, Agreement.HadTaken, Chains.chain_key}
use Rattle.lte_properties.proofs.{Agreement.Terms.base_nh, Agreement.Sources.handover_by, Agreement.Sources.HasStar, ChainNumbers.Lists.all_map, Agreement.PhoneWalk.both_named, Agreement.StationSends.sends_down, Agreement.StationSends.change_says}
use Rattle.lte_properties.proofs.Agreement.Ghost.{Ghost, is_tried_at, tried_at, chain_at, TermOk, PairOk, Leads, GivenFits, FromOk, MadeOk, TriedOk, GivenOk, ProgressOk, ChangeOk, ViaOk, AttemptOk, CtxOk, PrepOk, FreshFrom, SeenBy, StationOk, SaysOk, IsOther, StartIs, OrderIs, IsOrder, UnderKey, ChangeIs, AckIs, HasNcc, AnyMade, BetweenOk, OutOk}
use Rattle.lte_properties.proofs.Agreement.Later.{same_found, made_later, ctx_later, preps_later}
use Rattle.lte_properties.proofs.Agreement.Seen.{NotBoth, setup_no_attempt, change_no_attempt, change_no_setup, apart_always, apart_unseen, seen_more, seen_there}
use Rattle.lte_properties.proofs.Agreement.StationContext.{CellFits, started_map, started_any, had_by, with_attempt_ok, with_both, mapped_at, with_ctx, ctx_at}
use Rattle.lte_properties.proofs.Agreement.ToldIsFound.{all_found, found_holds, told, told_more, made_new, made_none, MadeBy, TriedBy, reads_as, term_number, leads_up, star_term}

not_commanded : {order : Order} → Open ≡ Commanded order → ⊥
not_commanded e = cc

-- what is told anew
abbrev pub NewMade : Ghost → Ghost → Option (Made Term ℕ) → Type 0
NewMade g h None = ⊤
NewMade g h (Some m) = MadeOk h m × AllOf (NotBoth m) g.made

abbrev pub NewTried : List Site → Ghost → ℕ → Option (Tried Term ℕ) → Type 0
NewTried cells h id None = ⊤
NewTried cells h id (Some e) = TriedOk cells h e

-- after a step of a station
abbrev pub StationGoes : List Site → Ghost → Station Term ℕ → Station Term ℕ × Reply Term ℕ → Type 0
StationGoes cells g s d =
    let h = told g d.1.made d.1.tried in
    StationOk cells h d.0 × NewMade g h d.1.made × NewTried cells h s.id d.1.tried × OutOk h d.1.sent
    × (d.0.id ≡ s.id) × MadeBy s.id d.1.made × TriedBy s.id d.1.tried

-- a number that is drawn is in range
drawn : (next air : ℕ) → air ≡ next → next < 4294967296 → air < 4294967296
drawn next air e lt = omega arith

module _ (same : Term → Term → Bool) (cells : List Site) (g : Ghost) (made_ok : AllOf (MadeOk g) g.made) (tried_ok : AllOf (TriedOk cells g) g.tried)
    (s : Station Term ℕ) (ok : StationOk cells g s) where
  abbrev r : Reading Term ℕ
  r = term_reading_by same

  abbrev Goes : Station Term ℕ × Reply Term ℕ → Type 0
  Goes d = StationGoes cells g s d

  -- what was tried, and what was made
  own_try : (source attempt : ℕ) (e : Tried Term ℕ) → tried_at g.tried source attempt ≡ Some e → TriedOk cells g e
  own_try source attempt e found = all_found (TriedOk cells g) (is_tried_at source attempt) g.tried e tried_ok found

  -- nothing was made or tried above what is made now
  fresh_above : (m : Made Term ℕ) → s.next ≤ m.air → FreshFrom (told g (Some m) None) s.id (m.air + 1)
  fresh_above m up n above = (made_none g.made m s.id n (ok.fresh n (omega arith)).0 (omega arith), (ok.fresh n (omega arith)).1)

  -- A CONTEXT

  given_goes : (conn : ℕ) (cell : Place) (caps : Caps) (algs : Algs) (air : ℕ) (kenb : NumberedKey Term ℕ) → air ≡ s.next → air < 4294967296
      → conn < g.next → kenb.key ≡ chain_at g conn 0 → Goes (context_given r conn cell caps algs air (Some kenb) s)
  given_goes conn cell caps algs air kenb draws small of_conn key_is =
      let m : Made Term ℕ = record {
        station = s.id;
        air = air;
        conn = conn;
        cell = cell;
        key = kenb.key;
        number = 0;
        algs = algs;
        from = BySetup;
      } in
      let here : made_at (g.made ++ m ∷ []) s.id air ≡ Some m = made_new g.made m (ok.fresh air (omega arith)).0 in
      let first = ok.next in
      let low : 1 ≤ air = omega arith in
      let term : TermOk (told g (Some m) None) conn kenb.key 0 = (of_conn, omega arith, ap chain_key key_is) in
      let start : SaysOk (told g (Some m) None) s.id kenb.key (SecurityModeCommand algs s.id air) =
      record { made = m; found = here; from = refl; algs = refl } in
      let text = reads_as (SaysOk (told g (Some m) None) s.id kenb.key) (SecurityModeCommand algs s.id air) (ok.id, (low, small)) start in (
        record {
          context = record {
            term = term;
            pair = tt;
            keys = refl;
            entry = record { made = m; found = here; is = (refl, refl, refl); from = refl; had = tt };
            attempt = tt;
            started = refl;
          };
          preps = tt;
          fresh = fresh_above m (omega arith);
          cells = ok.cells;
          id = ok.id;
          next = omega arith;
          ring = ok.ring;
          seen = one_more (SeenBy s.id s.seen) g.made m ok.seen (λ at o e other. absurd (setup_no_attempt m refl o e));
        },
        (
          record { low = low; high = small; station = ok.id; from = (refl, of_conn, key_is); found = here; term = term },
          apart_always m (setup_no_attempt m refl) g.made,
        ),
        tt,
        record { made = m; found = here; integrity = refl; ciphered = (refl, refl, refl); says = text },
        refl,
        refl,
        tt,
      )

  release_out : (conn : ℕ) (origin : Option Origin) → OutOk g (source_release conn origin)
  release_out conn None = tt
  release_out conn (Some o) = tt

  taken_goes : (conn : ℕ) (origin : Option Origin) (pair : NumberedKey Term ℕ) (c : Context Term ℕ) → s.context ≡ Some c → PairOk g c.conn pair
      → Goes (pair_taken conn origin (Some pair) s)
  taken_goes conn origin pair c e pair_ok =
      let h = ctx_at cells g s ok c e in (
        mapped_at cells g s ok (with_pair pair) c e
            (search (pair_ok)),
        tt,
        tt,
        release_out conn origin,
        refl,
        tt,
        tt,
      )

  -- A PREPARATION

  -- a preparation of an attempt that was made, of another station, for this one
  module _ (w : Admitted) (e : Tried Term ℕ) (found : tried_at g.tried w.from.source w.from.attempt ≡ Some e) (target : e.target ≡ s.id)
      (other : IsOther e) where
    -- its attempt is of another source, and was not seen before
    taken_once : (m : Made Term ℕ) → m.from ≡ ByAttempt w.from → slice_index s.seen w.from.source < w.from.attempt
        → (length (slice_set s.seen w.from.source w.from.attempt) ≡ 8)
        × AllOf (SeenBy s.id (slice_set s.seen w.from.source w.from.attempt)) (g.made ++ m ∷ []) × AllOf (NotBoth m) g.made
    taken_once m is news =
        let at = both_named e.station w.from.source e.attempt w.from.attempt (found_holds (is_tried_at w.from.source w.from.attempt) g.tried e found) in
        let own = own_try w.from.source w.from.attempt e found in
        let low : w.from.source ≤ 7 = subst (λ n. n ≤ 7) at.0 own.station in (
          length-set s.seen w.from.source w.from.attempt ∙ ok.ring,
          one_more (SeenBy s.id (slice_set s.seen w.from.source w.from.attempt)) g.made m
              (seen_more s.id w.from.source w.from.attempt s.seen ok.ring low news g.made ok.seen) (seen_there s.id s.seen m w.from is ok.ring low),
          apart_unseen g s.id s.seen m w.from is e found target (λ own_source. other (target ∙ sym own_source ∙ sym at.0)) news g.made made_ok ok.seen,
        )

    -- what is made is of the attempt, and what is sent may point to what was made
    admitted_goes : (by : By) (star : NumberedKey Term ℕ) (sent : Option (Outgoing Term ℕ)) → Admits r s w → e.conn ≡ w.conn → e.cell ≡ w.cell
        → TermOk g w.conn star.key star.number → Leads e star.key star.number → GivenFits e.kind star.number
        → (let m = admitted_made s.id w star in made_at (g.made ++ m ∷ []) s.id w.air ≡ Some m → OutOk (told g (Some m) None) sent)
        → Goes (with_admitted w (admitted_prep r w by star) s, record (only Done) { sent = sent; made = Some (admitted_made s.id w star) })
    admitted_goes by star sent a conn cell term leads given out =
        let m = admitted_made s.id w star in
        let k = told g (Some m) None in
        let l = told_more g (Some m) None in
        let air_is : w.air ≡ s.next = a.air_is in
        let first = ok.next in
        let low : 1 ≤ w.air = omega arith in
        let here : made_at k.made s.id w.air ≡ Some m = made_new g.made m (ok.fresh w.air (omega arith)).0 in
        let own = own_try w.from.source w.from.attempt e found in
        let from : FromOk k m (ByAttempt w.from) = record {
          tried = e;
          found = found;
          number = term_number g e.conn e.key e.number own.term;
          target = target;
          leads = leads;
          given = given;
          conn = conn;
          cell = cell;
        } in
        let prep : PrepOk k s.id (admitted_prep r w by star) = record {
          term = term;
          pair = tt;
          keys = refl;
          made = m;
          found = here;
          is = (refl, refl, refl);
          no_setup = λ e. setup_no_attempt m e w.from refl;
        } in
        let once = taken_once m refl a.new in (
          record {
            context = ctx_later g k l s.id s.context ok.context;
            preps = one_more _ _ _ (all_filter _ _ s.preps (preps_later g k l s.id s.preps ok.preps)) prep;
            fresh = fresh_above m (omega arith);
            cells = ok.cells;
            id = ok.id;
            next = omega arith;
            ring = once.0;
            seen = once.1;
          },
          (
            record { low = low; high = drawn s.next w.air a.air_is a.left; station = ok.id; from = from; found = here; term = term },
            once.2,
          ),
          tt,
          out here,
          refl,
          refl,
          tt,
        )

  by_s1_goes : (w : Admitted) (pair : NumberedKey Term ℕ) → Admits r s w
      → BetweenOk g (Address.StationS1 s.id) (HandoverRequest w.conn w.from.source w.from.attempt w.cell w.caps) (Some pair)
      → Goes (prepared_by_s1 r w (Some pair) s)
  by_s1_goes w pair a came =
      let asked = came.1 in
      let e = asked.tried in
      let own = (own_try w.from.source w.from.attempt e asked.found).term in
      let star = star_line r pair w.cell.pci w.cell.earfcn in
      let pair_ok : PairOk g e.conn pair = subst (λ c. PairOk g c pair) (sym asked.conn) came.0 in
      let below : e.number < pair.number = asked.so.0 in
      let up = leads_up g e.conn e.key e.number pair e.cell own pair_ok below in
      let same_star : Star pair.key w.cell.pci w.cell.earfcn ≡ Star pair.key e.cell.pci e.cell.earfcn =
      ap (λ c. Star pair.key c.pci c.earfcn) (sym asked.cell) in
      let given : GivenFits e.kind star.number = subst (λ o. GivenFits o star.number) (sym asked.kind) tt in
      admitted_goes w e asked.found (sym asked.so.1) asked.so.2 By.S1 star (prepared_by_s1 r w (Some pair) s).1.sent a asked.conn asked.cell
      (star_term g w.conn pair w.cell.pci w.cell.earfcn came.0) (omega arith, same_star ∙ up) given
      (λ here. record { made = admitted_made s.id w star; found = here; from = refl; algs = refl; so = refl })

  by_x2_goes : (w : Admitted) (star : NumberedKey Term ℕ) → Admits r s w
      → BetweenOk g (Address.StationX2 s.id) (X2Request w.conn w.from.source w.from.attempt w.cell w.caps) (Some star)
      → Goes (prepared_by_x2 r w (Some star) s)
  by_x2_goes w star a came =
      let asked = came.1 in
      let e = asked.tried in
      let own = own_try w.from.source w.from.attempt e asked.found in
      let of_given : GivenOk g e (BySource star) = subst (GivenOk g e) asked.kind own.given in
      let given : GivenFits e.kind star.number = subst (λ o. GivenFits o star.number) (sym asked.kind) refl in
      admitted_goes w e asked.found (sym asked.so.0) asked.so.1 By.X2 star (prepared_by_x2 r w (Some star) s).1.sent a asked.conn asked.cell
      came.0 of_given.1 given (λ here. record { made = admitted_made s.id w star; found = here; from = refl; algs = refl; so = tt })

  -- AN ANSWER TO AN ATTEMPT

  -- it is the order for the phone: of the attempt that was opened, whose target made this
  order_of : (t : Term) (conn number station : ℕ) (cell : Place) (kind : Handover Term ℕ) (ncc : ℕ) (algs : Algs) (air : ℕ) (P : Made Term ℕ → Type 0)
      → StartIs g s.id conn t number station cell kind → (a : AckIs g s.id number algs air P)
      → (GivenFits kind a.made.number → P a.made → ncc_of a.made.number ≡ ncc)
      → OrderIs g s.id t cell ncc algs station air × UnderKey g s.id conn t number
  order_of t conn number station cell kind ncc algs air P h a fits =
      let m = a.made in
      let e = h.tried in
      let ok : FromOk g m (ByAttempt (record { source = s.id; attempt = number })) =
      subst (FromOk g m) a.from (all_found (MadeOk g) _ g.made m made_ok a.found).from in
      let one : ok.tried ≡ e = same_found _ ok.tried e ok.found h.found in
      let there : m.station ≡ station = sym ok.target ∙ ap (λ x. x.target) one ∙ h.target in
      let given : GivenFits kind m.number = subst (λ o. GivenFits o m.number) (ap (λ x. x.kind) one ∙ h.kind) ok.given in (
        record {
          made = m;
          origin = record { source = s.id; attempt = number };
          tried = e;
          made_is = ap (λ n. made_at g.made n air) (sym there) ∙ a.found;
          from = a.from;
          tried_is = h.found;
          key = h.key;
          cell = h.cell;
          ncc = fits given a.so;
          algs = a.algs;
          source = refl;
        },
        record { tried = e; found = h.found; key = h.key; conn = h.conn },
      )

  -- by what an answer says, on S1 and on X2
  answer_orders : (t : Term) (conn : ℕ) (on : Interface) (fields : Fields) (key : Option (NumberedKey Term ℕ)) (a : Attempt Term ℕ) (order : Order)
      → AnswerSays r on fields a order → BetweenOk g (address_on on s.id) fields key → ProgressOk g s.id conn t a Open → IsOrder g s.id t order × UnderKey g s.id conn t a.number
  answer_orders t conn OnS1 (HandoverCommand held number cell ncc algs air) key a order says came h =
      subst (λ o. IsOrder g s.id t o × UnderKey g s.id conn t a.number) (sym says.2)
      (order_of t conn a.number a.station a.cell (handover_by a.keys) ncc algs air (HasNcc ncc) h.0
      (subst (λ n. AckIs g s.id n algs air (HasNcc ncc)) (sym says.1) came) (λ fits n. n))
  answer_orders t conn OnX2 (X2Ack held number cell algs air) key a order says came h =
      subst (λ o. IsOrder g s.id t o × UnderKey g s.id conn t a.number) (sym says.2)
      (order_of t conn a.number a.station a.cell (handover_by a.keys) (star_ncc (option_map (map_source_keys unseen ncc_of) a.keys)) algs air AnyMade h.0
      (subst (λ n. AckIs g s.id n algs air AnyMade) (sym says.1) came) (λ fits so. by_keys a.keys (subst (λ v. HasStar v a.keys) says.0 h.1) _ fits))
    where
      by_keys : (o : Option (SourceKeys Term ℕ)) → HasStar OverX2 o → (n : ℕ) → GivenFits (handover_by o) n
          → ncc_of n ≡ star_ncc (option_map (map_source_keys unseen ncc_of) o)
      by_keys None has n fits = absurd has
      by_keys (Some keys) has n fits = ap ncc_of (sym fits)
  answer_orders t conn on fields key a order says came h = absurd says

  -- so the context has it
  answered_goes : (on : Interface) (fields : Fields) (key : Option (NumberedKey Term ℕ)) (order : Order) (f : Answers r s on fields order)
      → BetweenOk g (address_on on s.id) fields key → StationOk cells g (record s { context = option_map (with_answer order) s.context })
  answered_goes on fields key order f came =
      let c = f.context in
      let a = f.attempt in
      let h = ctx_at cells g s ok c f.serving in
      let of_attempt : AttemptOk g s.id c.conn c.key.kenb (Some a) = subst (AttemptOk g s.id c.conn c.key.kenb) f.trying h.attempt in
      let via = answered_via c.key.kenb c.conn on fields key a a.via refl order f.waits f.says came of_attempt.1 in
      let attempt : AttemptOk g s.id c.conn c.key.kenb (option_map (answered order) c.attempt) =
      subst (λ o. AttemptOk g s.id c.conn c.key.kenb (option_map (answered order) o)) (sym f.trying) (of_attempt.0, via) in
      mapped_at cells g s ok (with_answer order) c f.serving
      (with_attempt_ok g s.id c h (option_map (answered order) c.attempt) attempt
      (started_map g s.id c.air c.key.kenb c.starting (answered order) c.attempt h.started))
    where
      no_change : (t : Term) (a : Attempt Term ℕ) → a.progress ≡ Open → ChangeOk g s.id t a → ⊥
      no_change t a waits k = not_commanded (sym waits ∙ k.commanded)

      answered_via : (t : Term) (conn : ℕ) (on : Interface) (fields : Fields) (key : Option (NumberedKey Term ℕ)) (a : Attempt Term ℕ) (via : Via)
          → a.via ≡ via → (order : Order) → a.progress ≡ Open → AnswerSays r on fields a order → BetweenOk g (address_on on s.id) fields key
          → ViaOk g s.id conn t a via → ViaOk g s.id conn t (answered order a) via
      answered_via t conn on fields key a Renewing e order waits says came h = absurd (no_change t a waits h)
      answered_via t conn on fields key a other e order waits says came h =
          answer_orders t conn on fields key a order says came (subst (ProgressOk g s.id conn t a) waits h)

  -- A KEY CHANGE

  -- what is made is KeNB* of the KeNB received, for the context's cell, and the order goes under the context's key
  renewed_goes : (conn number air count : ℕ) (c : Context Term ℕ) (kenb : NumberedKey Term ℕ) → s.context ≡ Some c → IsCell c.cell → c.starting ≡ false
      → air ≡ s.next + 1 → air < 4294967296 → BetweenOk g (Address.StationS1 s.id) (ContextModification c.conn conn) (Some kenb)
      → Goes (key_renewed r conn number air count (Some c) (Some kenb) s)
  renewed_goes conn number air count c kenb e is_cell active draws small came =
      let m : Made Term ℕ = record {
        station = s.id;
        air = air;
        conn = conn;
        cell = c.cell;
        key = Star kenb.key c.cell.pci c.cell.earfcn;
        number = 0;
        algs = c.algs;
        from = ByChange c.key.kenb;
      } in
      let a = change_order 0 s.id air c in
      let k = told g (Some m) None in
      let l = told_more g (Some m) None in
      let low : 1 ≤ air = omega arith in
      let here : made_at (g.made ++ m ∷ []) s.id air ≡ Some m = made_new g.made m (ok.fresh air (omega arith)).0 in
      let ctx : CtxOk k s.id (Some c) = ctx_later g k l s.id (Some c) (ctx_at cells g s ok c e) in
      let taken : HadTaken k.took s.id c.air c.key.kenb = had_by k s.id c.air c.key.kenb c.starting c.attempt active ctx.started in
      let from : FromOk k m (ByChange c.key.kenb) = record {
        number = refl;
        is_cell = is_cell;
        root = came.root;
        key = λ j. Star (came.kenb j) c.cell.pci c.cell.earfcn;
        air = c.air;
        had = taken;
      } in
      let term : TermOk k conn m.key 0 = (came.below, omega arith, ap chain_key came.chain ∙ base_nh (g.root conn) (g.count conn) 0) in
      let made_new_ok : MadeOk k m = record { low = low; high = small; station = ok.id; from = from; found = here; term = term } in
      let change : ChangeIs k c.key.kenb c.cell c.algs s.id air = record { made = m; found = here; from = refl; cell = refl; algs = refl } in
      let all_made : AllOf (MadeOk k) k.made =
      one_more (MadeOk k) g.made m (all_map (MadeOk g) (MadeOk k) (made_later g k l) g.made made_ok) made_new_ok in (
        record {
          context = with_attempt_ok k s.id c ctx _ (tt, record { order = a; commanded = refl; station = refl; change = change }) (started_any k s.id c.air c.key.kenb c.starting _ active taken);
          preps = (
            record {
              term = term;
              pair = tt;
              keys = refl;
              made = m;
              found = here;
              is = (refl, refl, refl);
              no_setup = λ e. change_no_setup m c.key.kenb refl e;
            },
            tt,
          );
          fresh = fresh_above m (omega arith);
          cells = ok.cells;
          id = ok.id;
          next = omega arith;
          ring = ok.ring;
          seen = one_more (SeenBy s.id s.seen) g.made m ok.seen (λ at o e other. absurd (change_no_attempt m c.key.kenb refl o e));
        },
        (made_new_ok, apart_always m (change_no_attempt m c.key.kenb refl) g.made),
        tt,
        sends_down k s.id c.air c ctx refl Signalling1 count (order_text Renewing a) (change_says k all_made c.key.kenb s.id a change) taken,
        refl,
        refl,
        tt,
      )

  -- THE ROWS

  module _ (on : Interface) (fields : Fields) where
    -- what was established of a row, and what came in the record
    abbrev Came : Option (NumberedKey Term ℕ) → Type 0
    Came key =
        BetweenOk g (address_on on s.id) fields key × (on ≡ OnS1 → CellFits s.context × InFlight s (Between (Address.StationS1 s.id) fields key))

    abbrev Known : RecordRow → Option (NumberedKey Term ℕ) → Type 0
    Known row key = RecordHas r s on fields row × Came key

    -- as a record of this kind
    says : (x : Interface) (f : Fields) (key : Option (NumberedKey Term ℕ)) → on ≡ x → fields ≡ f → Came key → BetweenOk g (address_on x s.id) f key
    says x f key e k came = subst (λ y. BetweenOk g (address_on x s.id) y key) k (subst (λ y. BetweenOk g (address_on y s.id) fields key) e came.0)

    -- the pair of an answer is of the connection of the context
    answer_fits : (conn : ℕ) (origin : Option Origin) (pair : NumberedKey Term ℕ) (f : Takes s on fields conn origin) → Came (Some pair)
        → PairOk g f.context.conn pair
    answer_fits conn origin pair f came =
        let flies = subst (λ x. InFlight s (Between (Address.StationS1 s.id) x (Some pair))) f.fields_is (came.1 f.on_is).1 in
        let answer : AnswerOk (Some f.context) f.asked f.number pair.number = subst (λ o. AnswerOk o f.asked f.number pair.number) f.serving (flies refl).1 in
        subst (λ n. PairOk g n pair) (sym (answer f.outstanding).0) (says OnS1 _ (Some pair) f.on_is f.fields_is came)

    -- of a key change
    renewed : (conn number air count : ℕ) (c : Context Term ℕ) → s.context ≡ Some c → (kenb : NumberedKey Term ℕ)
        → (f : Renews s on fields conn number air count) → Came (Some kenb) → Goes (key_renewed r conn number air count (Some c) (Some kenb) s)
    renewed conn number air count c e kenb f came =
        let one : f.context ≡ c = by_some (sym f.serving ∙ e) in
        renewed_goes conn number air count c kenb e (subst CellFits e (came.1 f.on_is).0) (subst (λ x. x.starting ≡ false) one f.active) f.air_is
        (drawn (s.next + 1) air f.air_is f.left)
        (subst (λ x. BetweenOk g (Address.StationS1 s.id) (ContextModification x.conn conn) (Some kenb)) one (says OnS1 _ (Some kenb) f.on_is f.fields_is came))

    record_cases : RecordCases r s Known Goes
    record_cases = record {
      nothing = λ answer. (ok, tt, tt, tt, refl, tt, tt);
      given = λ conn cell caps algs air kenb k.
          let b = says OnS1 _ (Some kenb) k.0.on_is k.0.fields_is k.1 in
          given_goes conn cell caps algs air kenb k.0.air_is (drawn s.next air k.0.air_is k.0.left) b.0 b.1;
      released = λ key k. (with_both cells g s ok None tt [] tt, tt, tt, tt, refl, tt, tt);
      taken = λ conn origin pair k. taken_goes conn origin pair k.0.context k.0.serving (answer_fits conn origin pair k.0 k.1);
      by_s1 = λ w pair k. by_s1_goes w pair k.0.admits (says OnS1 _ (Some pair) k.0.on_is k.0.fields_is k.1);
      by_x2 = λ w star k. by_x2_goes w star k.0.admits (says OnX2 _ (Some star) k.0.on_is k.0.fields_is k.1);
      answered = λ order key (answers, came). (answered_goes on fields key order answers came.0, tt, tt, tt, refl, tt, tt);
      cancelled = λ from key k. (with_both cells g s ok s.context ok.context _ (all_filter _ _ s.preps ok.preps), tt, tt, tt, refl, tt, tt);
      left = λ key k. (with_ctx cells g s ok None tt, tt, tt, tt, refl, tt, tt);
      renewed = λ conn number air count c e kenb k. renewed conn number air count c e kenb k.0 k.1;
    }

    -- the row that is chosen
    pub record_goes : (key : Option (NumberedKey Term ℕ)) → Came key
        → Goes (record_does r (record_row (plain_station r s) on (Ok (map_content unseen r.ncc (record { fields = fields; key = key })))) key s)
    record_goes key came =
        let content : Content Term ℕ = record { fields = fields; key = key } in
        let row = record_row (plain_station r s) on (Ok (map_content unseen r.ncc content)) in
        record_case r s Goes Known record_cases row key (record_has r s on content, came)
