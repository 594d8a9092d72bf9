-- From agreement's invariant: all keys of a connection number are of one chain, at their numbers, and the core's number is
-- not below.
use Rattle.std.proofs.Common.{◌≡◌, ℕ, zero, suc, ◌+◌, ◌-◌, ◌≤◌, arith, le_trans, refl, sym, ◌∙◌, ap, subst, Bool, true, false, cond, List, [], ◌∷◌, Option, Some, None, inl, inr}
use Rattle.lte_events.specs.Site.{Site}
use Rattle.std.specs.Prelude.{find}
use Rattle.key_model.specs.Term.{Term, Kenb, Star}
use Rattle.key_model.specs.{Chain.nh, Chain.ncc_of, Number.chain_number, HandoverTable.NumberedKey, HandoverLines.steps_to}
use Rattle.key_model.proofs.TermFacts.{chain_number_nh}
use Rattle.s1x2_rec.specs.Fields.{InitialContext, PathSwitchAnswer, HandoverRequest, X2Request, ContextModification}
use Rattle.ho_prep.specs.Prep.{Prep}
use Rattle.lte_machine.specs.{CoreState.CoreLink, Wire.Outgoing, Wire.Between, Distinct.Member}
use Rattle.lte_machine.specs.Reply.{From, BySetup, ByAttempt, ByChange, Made, Tried, Came, Secured, Commanded, Changed, Took, Handover, BySource, ByTarget}
use Rattle.lte_machine.specs.StationState.{Context, Via, Renewing, Progress, Open, Ready, Commanded as Sent, Attempt}
use Rattle.lte_properties.specs.Agreement.{made_at, TookMade, ObeysMade, KeyGrows}
use Rattle.lte_properties.specs.{Origins.root_of, Origins.nas_count_of, ChainBelow.AllOf, ChainBelow.LinkTop, ChainHolds.Holds}
use Rattle.lte_properties.specs.Chains.{chain_key, OnChain, Chains, IsKeyOf, IsPairOf, ArePairsOf, GivenOn, TriedOn, ContextOn, OpenedUnder, ChangeOn, ViaOn, AttemptOn, AttemptsOn, PrepOn, LinkOn, RecordOn, StarOf, MadeHow, BelongsTo, TookOn, AreChains}
use Rattle.lte_properties.proofs.{ChainNumbers.Lists.all_map, Agreement.Later.same_found, Agreement.PhoneWalk.both_named}
use Rattle.lte_properties.proofs.Agreement.Terms.{climb, lands, climb-nh, root_base, root_nh, on_chain_lands}
use Rattle.lte_properties.proofs.Agreement.Ghost.{is_tried_at, taken, TermOk, PairOk, PairsOk, FromIs, FromOk, MadeOk, GivenOk, TriedOk, TookOk, UnderKey, ProgressOk, ChangeOk, ViaOk, AttemptOk, CtxOk, PrepOk, StationOk, CoreLinkOk, SentOk}
use Rattle.lte_properties.proofs.Agreement.ToldIsFound.{all_found, found_holds, term_number}
use Rattle.lte_properties.proofs.Agreement.World.{Conns, ghost, WorldOk}
use Rattle.lte_machine.proofs.Worlds.{TheWorld}

-- a key on two chains has one number
one_number : (r s : Term) (m n i j : ℕ) (t : Term) → OnChain r m t i → OnChain s n t j → i ≡ j
one_number r s m n i j t a b = sym (chain_number_nh r m i) ∙ ap chain_number (sym a ∙ b) ∙ chain_number_nh s n j

same_root : (r s : Term) (m n : ℕ) → Kenb r m ≡ Kenb s n → r ≡ s
same_root r s m n e = cc

-- what was found is an item
in_step : {A : Type 0} (b : Bool) (z x : A) (o : Option A) (xs : List A) → cond b (Some z) o ≡ Some x → (o ≡ Some x → Member x xs) → Member x (z ∷ xs)
in_step true z x o xs e f = inl (sym (same_found (Some z) z x refl e))
in_step false z x o xs e f = inr (f e)

found_in : {A : Type 0} (p : A → Bool) (xs : List A) (x : A) → find p xs ≡ Some x → Member x xs
found_in p [] x e = absurd cc
found_in p (z ∷ zs) x e = in_step (p z) z x (find p zs) zs e (found_in p zs x)

module _ (cells : List Site) (c : Conns) (w : TheWorld) (h : WorldOk cells c w) (top : ℕ → ℕ)
    (fits : (conn : ℕ) → c.top conn ≤ top conn) (holds : Holds top w) where
  abbrev chains : Chains
  chains = record { root = c.root; count = c.count; top = top }

  key_of : (conn : ℕ) (t : Term) (number : ℕ) → TermOk (ghost c w) conn t number → IsKeyOf chains conn t number
  key_of conn t number k = (k.2, le_trans k.1 (fits conn))

  pair_of : (conn : ℕ) (pair : NumberedKey Term ℕ) → PairOk (ghost c w) conn pair → IsPairOf chains conn pair
  pair_of conn pair k = (k.2, le_trans k.1 (fits conn))

  pairs_of : (conn : ℕ) (o : Option (NumberedKey Term ℕ)) → PairsOk (ghost c w) conn o → ArePairsOf chains conn o
  pairs_of conn None k = tt
  pairs_of conn (Some pair) k = pair_of conn pair k

  -- the first key of a connection
  first_of : (conn : ℕ) (key : NumberedKey Term ℕ) → key.key ≡ nh (c.root conn) (c.count conn) 0 → key.number ≡ 0 → IsPairOf chains conn key
  first_of conn key is none = (is ∙ ap (nh (c.root conn) (c.count conn)) (sym none), omega arith)

  tried_on : (e : Tried Term ℕ) → TriedOk cells (ghost c w) e → TriedOn chains e
  tried_on e k = (key_of e.conn e.key e.number k.term, given_on e.kind k.given)
    where
      given_on : (o : Handover Term ℕ) → GivenOk (ghost c w) e o → GivenOn chains e.conn o
      given_on ByTarget g = tt
      given_on (BySource star) g = key_of e.conn star.key star.number g.0

  context_on : (id : ℕ) (o : Option (Context Term ℕ)) → CtxOk (ghost c w) id o → ContextOn chains o
  context_on id None k = tt
  context_on id (Some x) k = (key_of x.conn x.key.kenb x.key.number k.term, pairs_of x.conn x.key.pair k.pair)

  -- an attempt, under the key of its context
  opened_under : (id : ℕ) (x : Context Term ℕ) (number : ℕ)
      → TermOk (ghost c w) x.conn x.key.kenb x.key.number
      → UnderKey (ghost c w) id x.conn x.key.kenb number
      → OpenedUnder w.tried id x number
  opened_under id x number own k =
      let e = k.tried in
      let at = both_named e.station id e.attempt number (found_holds (is_tried_at id number) w.tried e k.found) in
      let term = (all_found (TriedOk cells (ghost c w)) _ w.tried e h.tried k.found).term in
      let one : e.number ≡ x.key.number = sym (term_number (ghost c w) e.conn e.key e.number term)
      ∙ ap chain_number k.key
      ∙ term_number (ghost c w) x.conn x.key.kenb x.key.number own in
      (e, found_in (is_tried_at id number) w.tried e k.found, at.0, at.1, k.conn, k.key, one)

  under : (id : ℕ) (x : Context Term ℕ) (a : Attempt Term ℕ) (p : Progress)
      → ProgressOk (ghost c w) id x.conn x.key.kenb a p
      → UnderKey (ghost c w) id x.conn x.key.kenb a.number
  under id x a Open k = search (k.0)
  under id x a (Ready order) k = k.1
  under id x a (Sent order) k = k.1

  change_on : (id : ℕ) (x : Context Term ℕ) (a : Attempt Term ℕ) → ChangeOk (ghost c w) id x.key.kenb a → ChangeOn w.made id x a
  change_on id x a k =
      (k.order, k.commanded, k.change.made, subst (λ n. made_at w.made n k.order.air ≡ Some k.change.made) k.station k.change.found, k.change.from)

  via_on : (id : ℕ) (x : Context Term ℕ)
      → TermOk (ghost c w) x.conn x.key.kenb x.key.number
      → (a : Attempt Term ℕ) (via : Via)
      → ViaOk (ghost c w) id x.conn x.key.kenb a via
      → ViaOn w.made w.tried id x a via
  via_on id x own a Renewing k = change_on id x a k
  via_on id x own a other k = opened_under id x a.number own (under id x a a.progress k)

  attempt_on : (id : ℕ) (x : Context Term ℕ)
      → TermOk (ghost c w) x.conn x.key.kenb x.key.number
      → (o : Option (Attempt Term ℕ))
      → AttemptOk (ghost c w) id x.conn x.key.kenb o
      → AttemptOn w.made w.tried id x o
  attempt_on id x own None k = tt
  attempt_on id x own (Some a) k = via_on id x own a a.via k.1

  attempts_on : (id : ℕ) (o : Option (Context Term ℕ)) → CtxOk (ghost c w) id o → AttemptsOn w.made w.tried id o
  attempts_on id None k = tt
  attempts_on id (Some x) k = attempt_on id x k.term x.attempt k.attempt

  preps_on : (id : ℕ) (ps : List (Prep Term ℕ)) → AllOf (PrepOk (ghost c w) id) ps → AllOf (PrepOn chains) ps
  preps_on id ps k =
      all_map (PrepOk (ghost c w) id) (PrepOn chains) (λ p x. (key_of p.conn p.key.kenb p.key.number x.term, pairs_of p.conn p.key.pair x.pair)) ps k

  link_on : (next : ℕ) (o : Option (CoreLink Term ℕ)) → CoreLinkOk (ghost c w) o → LinkTop top next o → LinkOn chains o
  link_on next None k t = tt
  link_on next (Some link) k t = (k.root, t.0, k.sync)

  record_on : (x : Outgoing Term ℕ) → SentOk (ghost c w) x → RecordOn chains x
  record_on (Between to (InitialContext conn cell caps) (Some key)) k = first_of conn key k.1 k.2
  record_on (Between to (PathSwitchAnswer conn number) (Some pair)) k = pair_of conn pair k
  record_on (Between to (HandoverRequest conn source attempt cell caps) (Some pair)) k = pair_of conn pair k.0
  record_on (Between to (X2Request conn source attempt cell caps) (Some star)) k = key_of conn star.key star.number k.0
  record_on (Between to (ContextModification conn next) (Some key)) k = first_of next key k.chain k.number
  record_on other k = tt

  -- HOW A STATION CAME TO WHAT IT MADE

  -- KeNB* of the context's key where the number stays, of an NH where it rises
  star_of : (e : Tried Term ℕ) (m : Made Term ℕ) → TermOk (ghost c w) e.conn e.key e.number → e.conn ≡ m.conn → e.cell ≡ m.cell
      → (d : ℕ) → e.number + d ≡ m.number → m.key ≡ lands e.key d e.cell → StarOf chains e m
  star_of e m own one cell zero sum key = inl (omega arith, key ∙ (λ j. Star e.key (cell j).pci (cell j).earfcn))
  star_of e m own one cell (suc d) sum key =
      let r = c.root e.conn in
      let n = c.count e.conn in
      let root : root_of e.key ≡ r = sym (root_base e.key) ∙ ap root_of own.2 ∙ root_nh r n e.number in
      let up : climb (root_of e.key) (chain_key e.key) (suc d) ≡ nh (c.root m.conn) (c.count m.conn) m.number =
      (λ j. climb (root j) (own.2 j) (suc d)) ∙ climb-nh r n e.number (suc d) ∙ (λ j. nh (c.root (one j)) (c.count (one j)) (sum j)) in
      inr (omega arith, key ∙ (λ j. Star (up j) (cell j).pci (cell j).earfcn))

  -- the KASME of a key change is the connection's
  change_key : (m : Made Term ℕ) (r : Term) → m.number ≡ 0 → TermOk (ghost c w) m.conn m.key m.number → m.key ≡ Star (Kenb r 0) m.cell.pci m.cell.earfcn
      → m.key ≡ Star (Kenb (c.root m.conn) 0) m.cell.pci m.cell.earfcn
  change_key m r none own key = key ∙ (λ j. Star (Kenb (one j) 0) m.cell.pci m.cell.earfcn)
    where
      one : r ≡ c.root m.conn
      one = same_root r (c.root m.conn) 0 (c.count m.conn) (sym (ap chain_key key) ∙ own.2 ∙ ap (nh (c.root m.conn) (c.count m.conn)) none)

  how : (m : Made Term ℕ) → MadeOk (ghost c w) m → (from : From Term) → m.from ≡ from → MadeHow chains w.tried w.took m from
  how m k BySetup is = let made : FromOk (ghost c w) m BySetup = subst (FromOk (ghost c w) m) is k.from in (made.0, made.2)
  how m k (ByAttempt o) is =
      let made : FromOk (ghost c w) m (ByAttempt o) = subst (FromOk (ghost c w) m) is k.from in
      let e = made.tried in
      let at = both_named e.station o.source e.attempt o.attempt (found_holds (is_tried_at o.source o.attempt) w.tried e made.found) in
      let own = (all_found (TriedOk cells (ghost c w)) _ w.tried e h.tried made.found).term in
      let (low, lands_so) = made.leads in (
        e,
        found_in (is_tried_at o.source o.attempt) w.tried e made.found,
        at.0,
        at.1,
        made.target,
        made.conn,
        made.cell,
        star_of e m own made.conn made.cell (m.number - e.number) (omega arith) lands_so,
      )
  how m k (ByChange old) is =
      let made : FromOk (ghost c w) m (ByChange old) = subst (FromOk (ghost c w) m) is k.from in
      (made.number, change_key m made.root made.number k.term made.key, made.air, made.had)

  -- WHAT THE PHONE TOOK

  -- what was made there is a key of its connection
  made_of : (x : Took Term ℕ) (m : Made Term ℕ) → IsKeyOf chains m.conn m.key m.number → TookMade x m → IsKeyOf chains m.conn x.key x.number
  made_of x m k t = (ap chain_key t.0 ∙ k.0 ∙ ap (nh (c.root m.conn) (c.count m.conn)) (sym t.1), subst (λ n. n ≤ top m.conn) (sym t.1) k.1)

  at_most : {a b d : ℕ} → a ≤ b → b ≤ d → a ≤ d
  at_most low high = omega arith

  -- what an attempt leads to is on the chain of its connection
  tried_key : (x : Took Term ℕ) (m : Made Term ℕ) (e : Tried Term ℕ) → TermOk (ghost c w) e.conn e.key e.number → e.conn ≡ m.conn → x.key ≡ taken e m
      → OnChain (root_of x.key) (nas_count_of x.key) x.key x.number → OnChain (c.root m.conn) (c.count m.conn) x.key x.number
  tried_key x m e own one takes on =
      let r = c.root e.conn in
      let n = c.count e.conn in
      let steps = steps_to (ncc_of (chain_number e.key)) (ncc_of m.number) in
      let root : root_of e.key ≡ r = sym (root_base e.key) ∙ ap root_of own.2 ∙ root_nh r n e.number in
      let there : OnChain r n x.key (e.number + steps) = ap chain_key takes ∙ on_chain_lands r n e.number e.key steps e.cell root own.2 in
      let number : e.number + steps ≡ x.number = one_number r (root_of x.key) n (nas_count_of x.key) _ x.number x.key there on in
      there ∙ (λ j. nh (c.root (one j)) (c.count (one j)) (number j))

  belongs : (x : Took Term ℕ) → TookOk (ghost c w) x → (m : Made Term ℕ) → MadeOk (ghost c w) m → FromIs (ghost c w) m x.key m.from
      → (came : Came Term ℕ) → ObeysMade x came m → KeyGrows x came → (x.number ≤ top m.conn) × BelongsTo chains m x came
  belongs x k m ok from Secured obeys grows =
      let own = made_of x m (key_of m.conn m.key m.number ok.term) obeys.0 in (own.1, own)
  belongs x k m ok from (Commanded before) obeys grows =
      let o = obeys.tried.0 in
      let is = obeys.tried.1 in
      let made : FromOk (ghost c w) m (ByAttempt o) = subst (FromOk (ghost c w) m) is ok.from in
      let here : FromIs (ghost c w) m x.key (ByAttempt o) = subst (FromIs (ghost c w) m x.key) is from in
      let e = made.tried in
      let one : here.0 ≡ e = same_found _ here.0 e here.1 made.found in
      let takes : x.key ≡ taken e m = here.2 ∙ ap (λ y. taken y m) one in
      let own = (all_found (TriedOk cells (ghost c w)) _ w.tried e h.tried made.found).term in
      let bound : x.number ≤ top m.conn = at_most obeys.not_passed (key_of m.conn m.key m.number ok.term).1 in
      (bound, (tried_key x m e own made.conn takes k.on_chain, bound))
  belongs x k m ok from (Changed before root) obeys grows =
      (at_most (below grows.0) (low (top m.conn)), λ few. made_of x m (key_of m.conn m.key m.number ok.term) (obeys.near few))
    where
      below : x.number ≡ 0 → x.number ≤ 0
      below e = omega arith

      low : (n : ℕ) → 0 ≤ n
      low n = omega arith

  took_on : (x : Took Term ℕ) → TookOk (ghost c w) x → TookOn chains w.made x
  took_on x k =
      let (m, found, obeys) = k.obeys in
      let (n, there, here) = k.here in
      let one : n ≡ m = same_found _ n m there found in
      let from : FromIs (ghost c w) m x.key m.from = subst (λ y. FromIs (ghost c w) y x.key y.from) one here in
      let b = belongs x k m (all_found (MadeOk (ghost c w)) _ w.made m h.made found) from x.came obeys k.grows in
      (k.on_chain, m, found, b.0, b.1)

  pub are_chains : AreChains (record { root = c.root; count = c.count; top = top }) w
  are_chains = record {
    made = all_map (MadeOk (ghost c w)) (λ m. IsKeyOf chains m.conn m.key m.number) (λ m k. key_of m.conn m.key m.number k.term) w.made h.made;
    how = all_map (MadeOk (ghost c w)) (λ m. MadeHow chains w.tried w.took m m.from) (λ m k. how m k m.from refl) w.made h.made;
    tried = all_map (TriedOk cells (ghost c w)) (TriedOn chains) tried_on w.tried h.tried;
    contexts = all_map (StationOk cells (ghost c w)) (λ s. ContextOn chains s.context) (λ s k. context_on s.id s.context k.context) w.stations h.stations;
    attempts =
        all_map (StationOk cells (ghost c w)) (λ s. AttemptsOn w.made w.tried s.id s.context)
        (λ s k. attempts_on s.id s.context k.context) w.stations h.stations;
    preps = all_map (StationOk cells (ghost c w)) (λ s. AllOf (PrepOn chains) s.preps) (λ s k. preps_on s.id s.preps k.preps) w.stations h.stations;
    core = link_on w.core.next w.core.link h.core.0 holds.core.0;
    sent = all_map (SentOk (ghost c w)) (RecordOn chains) record_on w.sent h.sent;
    took = all_map (TookOk (ghost c w)) (TookOn chains w.made) took_on w.took h.took;
  }
