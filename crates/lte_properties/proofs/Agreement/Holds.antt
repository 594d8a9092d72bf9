-- Agreement in every world of every run: from the invariant, which the first world has.
use Rattle.std.proofs.Common.{◌≡◌, refl, sym, ap, ◌∙◌, subst, ℕ, ◌==◌, ◌≤◌, arith, Bool, true, false, List, [], ◌∷◌, Option, Some, None, inl, inr}
use Rattle.std.specs.Prelude.{◌||◌, IsTrue, replicate}
use Rattle.std.proofs.{lemmas.Bool.eqb-true, lemmas.List.Elements.recursion_from_All}
use Rattle.lte_events.specs.Ranges.{has_station, IsSetup, IsStation, IsSiteOf}
use Rattle.lte_events.specs.{declared.setups.Setup.Setup, declared.setups.StationSetup.StationSetup, Site.Site}
use Rattle.key_model.specs.{Term.Term, Term.Root, Number.chain_number}
use Rattle.ho_prep.specs.Prep.{Prep}
use Rattle.lte_machine.specs.Reply.{From, BySetup, ByAttempt, ByChange, Made, Came, Secured, Commanded, Changed, Took}
use Rattle.lte_machine.specs.PhoneState.{Radio, Idle, Connecting, Connected, Link}
use Rattle.lte_machine.specs.{StationState.Station, StationState.Context, Run.stations_of, Run.first_world, Distinct.Member}
use Rattle.lte_properties.specs.ChainBelow.{AllOf}
use Rattle.lte_properties.specs.Agreement.{made_at, ahead, ObeysMade, Obeys, KeyGrows, OneTerm, key_before, NoneUnder, ContextAt, EachStation, Agree, JoinedBy, IsFar, NoneThere, ComesMade, PrepMade, Agrees}
use Rattle.lte_properties.proofs.{ChainNumbers.Lists.all_map, Freshness.Order.not_before_itself, Freshness.PhoneUses.TookInOrder, Freshness.Sequence.IsBefore, Agreement.Follows.InTurn, Agreement.ToldIsFound.SiteOk, Agreement.ToldIsFound.term_number}
use Rattle.lte_properties.proofs.Agreement.Ghost.{MadeOk, SeenBy, Ghost, tried_at, keys_of, taken, FromIs, HereIs, CtxOk, PrepOk, StationOk, LinkIs, RadioOk, HadMade, UnderIs, TookOk}
use Rattle.lte_properties.proofs.Agreement.Later.{Later, same_found, here_later}
use Rattle.lte_properties.proofs.Agreement.World.{Conns, ghost, WorldOk}
use Rattle.lte_machine.proofs.Worlds.{TheWorld}

-- THE FIRST WORLD

low_id : (id : ℕ) (ss : List StationSetup) → AllOf IsStation ss → IsTrue (has_station ss id) → id ≤ 7
low_id id [] h has = absurd cc
low_id id (s ∷ ss) ((low, _), rest) has = by (s.id == id) refl has (low_id id ss rest)
  where
    by : (b : Bool) → (s.id == id) ≡ b → IsTrue (b || has_station ss id) → (IsTrue (has_station ss id) → id ≤ 7) → id ≤ 7
    by true same has later = subst (λ n. n ≤ 7) (eqb-true s.id id same) low
    by false same has later = later has

sites_ok : (stations : List StationSetup) → AllOf IsStation stations → (sites : List Site) → AllOf (IsSiteOf stations) sites → AllOf SiteOk sites
sites_ok stations low [] h = tt
sites_ok stations low (site ∷ sites) ((cell, has), rest) = ((low_id site.station stations low has, cell), sites_ok stations low sites rest)

pub cells_of : (setup : Setup) → IsSetup setup → AllOf SiteOk setup.cells
cells_of setup h =
    sites_ok setup.stations (recursion_from_All IsStation setup.stations h.stations) setup.cells
    (recursion_from_All (IsSiteOf setup.stations) setup.cells h.sites)

-- before the first event there is no connection
pub no_conns : Setup → Conns
no_conns setup = record { root = λ conn. Root 0 []; count = λ conn. 0; top = λ conn. 0; next = setup.core_first }

stations_begin : (cells : List Site) (g : Ghost) (made : g.made ≡ []) (tried : g.tried ≡ []) (ss : List StationSetup)
    → AllOf IsStation ss
    → AllOf (StationOk cells g) (stations_of cells ss)
stations_begin cells g made tried [] h = tt
stations_begin cells g made tried (s ∷ ss) ((low, (next, _)), rest) = (
  record {
    context = tt;
    preps = tt;
    fresh = λ n low. (ap (λ xs. made_at xs s.id n) made, ap (λ xs. tried_at xs s.id n) tried);
    cells = refl;
    id = low;
    next = next;
    ring = refl;
    seen = subst (λ xs. AllOf (SeenBy s.id (replicate 8 0)) xs) (sym made) tt;
  },
  stations_begin cells g made tried ss rest,
)

pub first_ok : (setup : Setup) → IsSetup setup → WorldOk setup.cells (no_conns setup) (first_world setup)
unfolding no_conns
first_ok setup h = record {
  core = (tt, refl, refl);
  radio = tt;
  stations =
      stations_begin setup.cells (ghost (no_conns setup) (first_world setup)) refl refl setup.stations
      (recursion_from_All IsStation setup.stations h.stations);
  sent = tt;
  made = tt;
  tried = tt;
  took = tt;
  once = tt;
}

-- each number is 0 then
pub first_fits : (setup : Setup) (conn : ℕ) → (no_conns setup).top conn ≤ 0
unfolding no_conns
first_fits setup conn = omega arith

-- FROM THE INVARIANT

-- what a phone takes at an air address is one key
pub one_here : (g : Ghost) (station air : ℕ) (t u : Term) → HereIs g station air t → HereIs g station air u → t ≡ u
one_here g station air t u h k =
    by_from h.0.from refl (subst (λ m. FromIs g m u m.from) (sym one) k.2)
  where
    one : h.0 ≡ k.0
    one = same_found _ h.0 k.0 h.1 k.1

    by_from : (from : From Term) → h.0.from ≡ from → FromIs g h.0 u h.0.from → t ≡ u
    by_from BySetup e f = subst (FromIs g h.0 t) e h.2 ∙ sym (subst (FromIs g h.0 u) e f)
    by_from (ByChange l) e f =
        let a = subst (FromIs g h.0 t) e h.2 in
        let b = subst (FromIs g h.0 u) e f in
        a.2 ∙ ap (λ x. x.key) (same_found _ a.0 b.0 a.1 b.1) ∙ sym b.2
    by_from (ByAttempt o) e f =
        let a = subst (FromIs g h.0 t) e h.2 in
        let b = subst (FromIs g h.0 u) e f in
        a.2 ∙ ap (λ x. taken x h.0) (same_found _ a.0 b.0 a.1 b.1) ∙ sym b.2

all_in : {A : Type 0} (P : A → Type 0) (xs : List A) → ((x : A) → Member x xs → P x) → AllOf P xs
all_in P [] f = tt
all_in P (x ∷ xs) f = (f x (inl refl), all_in P xs (λ y i. f y (inr i)))

pub of_each : {A : Type 0} (P : A → Type 0) (xs : List A) (x : A) → AllOf P xs → Member x xs → P x
of_each P [] x h i = absurd i
of_each P (y ∷ ys) x h (inl e) = subst P (sym e) h.0
of_each P (y ∷ ys) x h (inr i) = of_each P ys x h.1 i

-- where a key is eight or more steps ahead, the phone took another one
other_key : (came : Came Term ℕ) (y : Took Term ℕ) (n : Made Term ℕ) → ObeysMade y came n → 8 ≤ ahead n came → y.key ≡ n.key → ⊥
other_key Secured y n h wide same = omega arith
other_key (Commanded before) y n h wide same = (h.far wide).0 same
other_key (Changed before root) y n h wide same = h.far wide same

-- what is a far key is not the one made there
far_is_other : (made : List (Made Term ℕ)) (x : Took Term ℕ)
    → Obeys made x
    → IsFar made x
    → (m : Made Term ℕ)
    → made_at made x.station x.air ≡ Some m
    → x.key ≡ m.key
    → ⊥
far_is_other made x obeys far m found same =
    let one : obeys.0 ≡ m = same_found _ obeys.0 m obeys.1 found in
    let also : far.0 ≡ m = same_found _ far.0 m far.1 found in
    other_key x.came x m (subst (ObeysMade x x.came) one obeys.2) (subst (λ y. 8 ≤ ahead y x.came) also far.2) same

-- keys that were taken in order are taken once
same_took : (took : List (Took Term ℕ)) → TookInOrder took → (x y : Took Term ℕ) → Member x took → Member y took → x.key ≡ y.key → x ≡ y
same_took [] o x y i j same = absurd i
same_took (z ∷ zs) o x y (inl e) (inl f) same = e ∙ sym f
same_took (z ∷ zs) o x y (inl e) (inr j) same =
    absurd (not_before_itself z.key (subst (IsBefore z.key) (sym same ∙ ap (λ a. a.key) e) (of_each (λ a. IsBefore z.key a.key) zs y o.0 j)))
same_took (z ∷ zs) o x y (inr i) (inl f) same =
    absurd (not_before_itself z.key (subst (IsBefore z.key) (same ∙ ap (λ a. a.key) f) (of_each (λ a. IsBefore z.key a.key) zs x o.0 i)))
same_took (z ∷ zs) o x y (inr i) (inr j) same = same_took zs o.1 x y i j same

-- the key under which an order was obeyed had been made
under_made : (g : Ghost) (came : Came Term ℕ) (t : Term) → UnderIs g came → key_before came ≡ Some t → (station : ℕ) × HadMade g station t
under_made g Secured t k e = absurd cc
under_made g (Commanded before) t k e = let one : before.key ≡ t = cc in (before.station, subst (HadMade g before.station) one k)
under_made g (Changed before root) t k e = let one : before.key ≡ t = cc in (before.station, subst (HadMade g before.station) one k)

module _ (cells : List Site) (c : Conns) (w : TheWorld) (h : WorldOk cells c w) where
  -- no order is obeyed under a far key: the key of an order was made where it was taken, and it was taken once
  none_under : TookInOrder w.took → NoneUnder w
  none_under order =
      all_in _ w.took (λ x i far. all_in _ w.took (λ y j under.
      let (station, k) = under_made (ghost c w) y.came x.key (of_each (TookOk (ghost c w)) w.took y h.took j).under under in
      let (z, there, at_station, at_air, key) = k.had in
      let one : z ≡ x = same_took w.took order z x there i key in
      let found : made_at w.made x.station x.air ≡ Some k.made =
      (λ e. made_at w.made ((ap (λ a. a.station) (sym one) ∙ at_station) e) ((ap (λ a. a.air) (sym one) ∙ at_air) e)) ∙ k.found in
      far_is_other w.made x (of_each (TookOk (ghost c w)) w.took x h.took i).obeys far k.made found k.key))

  one_term : OneTerm w
  one_term =
      all_in _ w.took (λ x i. all_in _ w.took (λ y j station air.
      let a = of_each (TookOk (ghost c w)) w.took x h.took i in
      let b = of_each (TookOk (ghost c w)) w.took y h.took j in
      one_here (ghost c w) x.station x.air x.key y.key a.here
      (subst (λ n. HereIs (ghost c w) n x.air y.key) (sym station) (subst (λ n. HereIs (ghost c w) y.station n y.key) (sym air) b.here))))

  -- a joined phone and context have what the phone takes there
  joined_one : (l : Link Term ℕ)
      → LinkIs (ghost c w) l
      → (s : Station Term ℕ)
      → s.id ≡ l.station
      → (o : Option (Context Term ℕ))
      → CtxOk (ghost c w) s.id o
      → ContextAt l.air o (Agree l)
  joined_one l k s is None ok = tt
  joined_one l k s is (Some x) ok = λ at_air.
      let here : HereIs (ghost c w) l.station l.air l.kenb = (k.made, k.found, k.from) in
      let e = ok.entry in
      let m = e.made in
      let found : made_at w.made l.station l.air ≡ Some m = (λ j. made_at w.made (sym is j) (sym at_air j)) ∙ e.found in
      let there : HereIs (ghost c w) l.station l.air x.key.kenb = (m, found, e.from) in
      let kenb : l.kenb ≡ x.key.kenb = one_here (ghost c w) l.station l.air l.kenb x.key.kenb here there in
      let algs : l.keys.algs ≡ x.algs = k.algs ∙ ap (λ y. y.algs) (same_found _ k.made m k.found found) ∙ sym e.is.2 in
      let keys : l.keys ≡ x.keys = k.keys ∙ (λ j. keys_of (kenb j) (algs j)) ∙ sym ok.keys in
      let number : l.chain.number ≡ x.key.number =
      k.chain.number ∙ ap chain_number kenb ∙ term_number (ghost c w) x.conn x.key.kenb x.key.number ok.term in
      (kenb, number, keys, algs)

  joined : (radio : Radio Term ℕ) → RadioOk (ghost c w) radio → JoinedBy w radio
  joined Idle k = tt
  joined (Connecting waiting) k = tt
  joined (Connected l) k =
      all_map (StationOk cells (ghost c w)) (λ s. s.id ≡ l.station → ContextAt l.air s.context (Agree l))
      (λ s ok is. joined_one l k s is s.context ok.context) w.stations h.stations

  comes : (id : ℕ) (o : Option (Context Term ℕ)) → CtxOk (ghost c w) id o → ComesMade w id o
  comes id None ok = tt
  comes id (Some x) ok = let e = ok.entry in (e.made, e.found, e.is.0, e.is.1, e.is.2, e.had)

  preps_made : (id : ℕ) (ps : List (Prep Term ℕ)) → AllOf (PrepOk (ghost c w) id) ps → AllOf (PrepMade w id) ps
  preps_made id ps ok =
      all_map (PrepOk (ghost c w) id) (PrepMade w id) (λ p k. (k.made, k.found, k.is.0, k.is.1, k.is.2)) ps ok

  pub agrees : InTurn w → TookInOrder w.took → Agrees w
  agrees turn order = record {
    follow = turn.0;
    last = turn.1;
    tried_once = h.once;
    made_once = all_map (MadeOk (ghost c w)) (λ m. made_at w.made m.station m.air ≡ Some m) (λ m k. k.found) w.made h.made;
    obeyed = all_map (TookOk (ghost c w)) (Obeys w.made) (λ x k. k.obeys) w.took h.took;
    grow = all_map (TookOk (ghost c w)) (λ x. KeyGrows x x.came) (λ x k. k.grows) w.took h.took;
    one_term = one_term;
    none_under = none_under order;
    joined = joined w.phone.radio h.radio;
    completed = all_map (StationOk cells (ghost c w)) (λ s. ComesMade w s.id s.context) (λ s ok. comes s.id s.context ok.context) w.stations h.stations;
    preps = all_map (StationOk cells (ghost c w)) (λ s. AllOf (PrepMade w s.id) s.preps) (λ s ok. preps_made s.id s.preps ok.preps) w.stations h.stations;
  }

-- where the phone took a key that is not the one made, no context has that air address, in any world before or after
module _ (cells : List Site) (c d : Conns) (v u : TheWorld) (l : Later (ghost c v) (ghost d u)) (a : WorldOk cells c v) (b : WorldOk cells d u) where
  -- a context's key is the one made, and what the phone takes there
  far_differs : (x : Took Term ℕ) → TookOk (ghost d u) x → IsFar u.made x
      → (m : Made Term ℕ) → made_at u.made x.station x.air ≡ Some m → HereIs (ghost d u) x.station x.air m.key → ⊥
  far_differs x k far m found here = far_is_other u.made x k.obeys far m found (one_here (ghost d u) x.station x.air x.key m.key k.here here)

  -- a context of the earlier world
  none_before_at : (x : Took Term ℕ) → TookOk (ghost d u) x → IsFar u.made x → (s : Station Term ℕ) → s.id ≡ x.station
      → (o : Option (Context Term ℕ)) → CtxOk (ghost c v) s.id o → ContextAt x.air o (λ y. ⊥)
  none_before_at x k far s is None ok = tt
  none_before_at x k far s is (Some y) ok = λ at_air.
      let e = ok.entry in
      let m = e.made in
      let found : made_at v.made x.station x.air ≡ Some m = (λ j. made_at v.made (sym is j) (sym at_air j)) ∙ e.found in
      let here : HereIs (ghost c v) x.station x.air m.key = subst (HereIs (ghost c v) x.station x.air) e.is.0 (m, found, e.from) in
      far_differs x k far m (l.made x.station x.air m found) (here_later (ghost c v) (ghost d u) l x.station x.air m.key here)

  pub none_before : NoneThere v u
  none_before =
      all_map (TookOk (ghost d u)) (λ x. IsFar u.made x → EachStation v x.station (λ s. ContextAt x.air s.context (λ y. ⊥)))
      (λ x k far. all_map (StationOk cells (ghost c v)) (λ s. s.id ≡ x.station → ContextAt x.air s.context (λ y. ⊥))
      (λ s ok is. none_before_at x k far s is s.context ok.context) v.stations a.stations)
      u.took b.took
