-- What a step of an actor keeps of the world: all homes and uses so far.
use Rattle.std.proofs.Common.{◌≡◌, sym, ap, ◌∙◌, subst, ℕ, ◌==◌, Bool, true, false, ◌++◌, Option, Some, None, arith}
use Rattle.std.specs.Prelude.{IfSome}
use Rattle.std.proofs.lemmas.Bool.Decides.{nat_tests}
use Rattle.rec_base.specs.declared.uses.Dir.{Dir}
use Rattle.rec_base.specs.declared.uses.Dir.TheVariants.{Up, Down}
use Rattle.lte_events.specs.declared.addresses.Address.{Address}
use Rattle.key_model.specs.{Term.Term, HandoverTable.NumberedKey}
use Rattle.s1x2_rec.specs.Fields.{Fields, InitialContext}
use Rattle.lte_machine.specs.Wire.{KeyUse, Outgoing, SealedRrc, Between}
use Rattle.lte_machine.specs.{Reply.Reply, Reply.Took, PhoneState.Phone, StationState.Station, StationState.Context, CoreState.Core}
use Rattle.lte_machine.specs.World.{Machine, World, uses_in, with_one, phone_after, core_after, station_after}
use Rattle.lte_properties.specs.ChainBelow.{AllOf}
use Rattle.lte_properties.proofs.Freshness.Uses.{Home, home_at, Homes, HomesStay, OnKey, IsNas, IsAs, is_star, home, NasUp, AsUp, UpUse, NasDown, CoreUse, ContextAhead, AsDown, StationUse}
use Rattle.lte_properties.proofs.Freshness.Stands.{ContextStands, StationStands, BetweenStands, RecordStands, Fresh}
use Rattle.lte_machine.proofs.Tests.{by_some}
use Rattle.lte_properties.proofs.ChainNumbers.Lists.{all_append, all_one, all_map, all_both, all_put, roots_kept}
use Rattle.lte_properties.proofs.{Freshness.Order.home_grows, Freshness.Order.on_key, Freshness.Lists.apart_append, Freshness.Lists.apart_by, Freshness.PhoneNas.PhoneKeeps, Freshness.PhoneNas.NewUp, Freshness.Core.CoreKeeps, Freshness.Core.NewDown}
use Rattle.lte_properties.proofs.Freshness.StationKeeps.{StationKeeps, NewAt, IsOwn}

-- DIRECTIONS

-- whether it is uplink
abbrev is_up : Dir → Bool
is_up Up = true
is_up Down = false

-- uplink is not downlink
pub up_is_not_down : {d : Dir} → d ≡ Up → d ≡ Down → ⊥
up_is_not_down e f = let g = ap is_up (sym e ∙ f) in cc

-- AS HOMES GROW

module _ (taken taken' given given' : Homes) (f : HomesStay taken taken') (g : HomesStay given given') where
  -- a context stands
  context_grows : (s : Station Term ℕ) (o : Option (Context Term ℕ)) → IfSome o (ContextStands taken given s) → IfSome o (ContextStands taken' given' s)
  context_grows s None h = h
  context_grows s (Some c) h = record {
    at = h.at;
    is = home_grows (is_star c.key.kenb) taken taken' given given' c.key.kenb h.at f g h.is;
    here = h.here;
    spent = h.spent;
    keys = h.keys;
  }

  -- a station stands
  pub station_grows : (s : Station Term ℕ) → StationStands taken given s → StationStands taken' given' s
  station_grows s h = (context_grows s s.context h.0, h.1)

  -- its uses stand
  pub use_grows : (s : Station Term ℕ) (u : KeyUse Term) → StationUse taken given s u → StationUse taken' given' s u
  use_grows s u h =
      on_key (λ t type. IsAs type → AsDown taken given s t type u.count u.bearer) (λ t type. IsAs type → AsDown taken' given' s t type u.count u.bearer)
      (λ t type k a.
      let x = k a in
      record { at = x.at; is = home_grows (is_star t) taken taken' given given' t x.at f g x.is; spent = x.spent; ahead = x.ahead }) u.key h

  -- a record on S1 or X2 stands
  between_grows : (to : Address) (fields : Fields) (key : Option (NumberedKey Term ℕ)) → BetweenStands given to fields key → BetweenStands given' to fields key
  between_grows to (InitialContext conn cell caps) (Some key) h = search (g)
  between_grows to fields key h = h

  -- each record stands
  pub record_grows : (x : Outgoing Term ℕ) → RecordStands taken given x → RecordStands taken' given' x
  record_grows (SealedRrc Up station air srb u e text) h =
      on_key (λ t type. taken t ≡ Some (home_at station air)) (λ t type. taken' t ≡ Some (home_at station air))
      (λ t type k. f t (home_at station air) k) u.key h
  record_grows (Between to fields key) h = between_grows to fields key h
  record_grows other h = tt

module _ (m : Machine Term ℕ (Outgoing Term ℕ)) (w : World Term ℕ (Outgoing Term ℕ)) (keep : (o : Option (Outgoing Term ℕ)) → m.keep o ≡ o) (h : Fresh w) where
  -- THE PHONE

  module _ (d : Phone Term ℕ × Reply Term ℕ) (k : PhoneKeeps h.roots h.taken w.phone d.0 d.1.sent d.1.took) where
    -- older uplink uses stand
    up_stays : (u : KeyUse Term) → UpUse h.roots h.taken w.phone u → UpUse h.roots k.new d.0 u
    up_stays u x =
        on_key (λ t type. (IsNas type → NasUp h.roots w.phone.partial w.phone.context t u.count)
        × (IsAs type → AsUp h.taken w.phone.radio t type u.count u.bearer))
        (λ t type. (IsNas type → NasUp h.roots d.0.partial d.0.context t u.count) × (IsAs type → AsUp k.new d.0.radio t type u.count u.bearer))
        (λ t type y. (λ n. k.nas t u.count (y.0 n), λ a. k.link t type u.count u.bearer (y.1 a))) u.key x

    -- the world after a step of the phone
    pub phone_fresh : Fresh (phone_after m w d).0
    phone_fresh = record {
      roots = h.roots;
      taken = k.new;
      given = h.given;
      counted = roots_kept w.history d.1.derived ∙ h.counted;
      phone = k.stands;
      core = h.core;
      stations =
          all_map (StationStands h.taken h.given) (StationStands k.new h.given)
          (station_grows h.taken k.new h.given h.given k.grows (λ t x e. e)) w.stations h.stations;
      up = all_append (λ u. u.dir ≡ Up → UpUse h.roots k.new d.0 u) w.uses (uses_in d.1.sent)
          (all_map (λ u. u.dir ≡ Up → UpUse h.roots h.taken w.phone u) (λ u. u.dir ≡ Up → UpUse h.roots k.new d.0 u) (λ u x e. up_stays u (x e)) w.uses h.up)
          (all_map (NewUp h.roots h.taken k.new w.phone d.0) (λ u. u.dir ≡ Up → UpUse h.roots k.new d.0 u) (λ u x e. x.1) (uses_in d.1.sent) k.uses);
      nas = all_append (λ u. u.dir ≡ Down → CoreUse h.roots w.core u) w.uses (uses_in d.1.sent) h.nas
          (all_map (NewUp h.roots h.taken k.new w.phone d.0) (λ u. u.dir ≡ Down → CoreUse h.roots w.core u)
          (λ u x e. absurd (up_is_not_down x.0 e)) (uses_in d.1.sent) k.uses);
      down = all_map (λ s. AllOf (λ u. u.dir ≡ Down → StationUse h.taken h.given s u) w.uses)
          (λ s. AllOf (λ u. u.dir ≡ Down → StationUse k.new h.given s u) (w.uses ++ uses_in d.1.sent))
          (λ s x. all_append (λ u. u.dir ≡ Down → StationUse k.new h.given s u) w.uses (uses_in d.1.sent)
          (all_map (λ u. u.dir ≡ Down → StationUse h.taken h.given s u) (λ u. u.dir ≡ Down → StationUse k.new h.given s u)
          (λ u y e. use_grows h.taken k.new h.given h.given k.grows (λ t z i. i) s u (y e)) w.uses x)
          (all_map (NewUp h.roots h.taken k.new w.phone d.0) (λ u. u.dir ≡ Down → StationUse k.new h.given s u)
          (λ u y e. absurd (up_is_not_down y.0 e)) (uses_in d.1.sent) k.uses))
          w.stations h.down;
      sent = subst (λ o. AllOf (RecordStands k.new h.given) (with_one o w.sent)) (sym (keep d.1.sent))
          (all_one (RecordStands k.new h.given) d.1.sent w.sent
          (all_map (RecordStands h.taken h.given) (RecordStands k.new h.given) (record_grows h.taken k.new h.given h.given k.grows (λ t x e. e)) w.sent h.sent)
          (k.sends h.given));
      took = all_one (λ x. k.new x.key ≡ Some (home_at x.station x.air)) d.1.took w.took
          (all_map (λ (x : Took Term ℕ). h.taken x.key ≡ Some (home_at x.station x.air)) (λ x. k.new x.key ≡ Some (home_at x.station x.air))
          (λ x e. k.grows x.key (home_at x.station x.air) e) w.took h.took)
          k.takes;
      apart = apart_append w.uses (uses_in d.1.sent) h.apart k.apart
          (all_map (NewUp h.roots h.taken k.new w.phone d.0) (λ u. AllOf (λ v. v ≡ u → ⊥) w.uses)
          (λ u x. apart_by (λ v. v.dir ≡ Up → UpUse h.roots h.taken w.phone v) w.uses u h.up (λ y. x.2 (y x.0))) (uses_in d.1.sent) k.uses);
    }

  -- THE CORE

  module _ (d : Core Term ℕ × Reply Term ℕ) (k : CoreKeeps h.roots h.given w.core d.0 d.1.sent) where
    -- older uses of the core stand
    nas_stays : (u : KeyUse Term) → CoreUse h.roots w.core u → CoreUse h.roots d.0 u
    nas_stays u x =
        on_key (λ t type. IsNas type → NasDown h.roots w.core.partial w.core.context t u.count)
        (λ t type. IsNas type → NasDown h.roots d.0.partial d.0.context t u.count)
        (λ t type y n. k.nas t u.count (y n)) u.key x

    -- a key of NAS is no station's
    nas_is_elsewhere : (s : Station Term ℕ) (u : KeyUse Term) → OnKey (λ t type. IsNas type) u.key → StationUse h.taken k.new s u
    nas_is_elsewhere s u x =
        on_key (λ t type. IsNas type) (λ t type. IsAs type → AsDown h.taken k.new s t type u.count u.bearer) (λ t type n a. absurd (omega arith)) u.key x

    -- the world after a step of the core
    pub core_fresh : Fresh (core_after m w d).0
    core_fresh = record {
      roots = h.roots;
      taken = h.taken;
      given = k.new;
      counted = roots_kept w.history d.1.derived ∙ h.counted;
      phone = h.phone;
      core = k.stands;
      stations =
          all_map (StationStands h.taken h.given) (StationStands h.taken k.new)
          (station_grows h.taken h.taken h.given k.new (λ t x e. e) k.grows) w.stations h.stations;
      up = all_append (λ u. u.dir ≡ Up → UpUse h.roots h.taken w.phone u) w.uses (uses_in d.1.sent) h.up
          (all_map (NewDown h.roots w.core d.0) (λ u. u.dir ≡ Up → UpUse h.roots h.taken w.phone u)
          (λ u x e. absurd (up_is_not_down e x.down)) (uses_in d.1.sent) k.uses);
      nas = all_append (λ u. u.dir ≡ Down → CoreUse h.roots d.0 u) w.uses (uses_in d.1.sent)
          (all_map (λ u. u.dir ≡ Down → CoreUse h.roots w.core u) (λ u. u.dir ≡ Down → CoreUse h.roots d.0 u) (λ u x e. nas_stays u (x e)) w.uses h.nas)
          (all_map (NewDown h.roots w.core d.0) (λ u. u.dir ≡ Down → CoreUse h.roots d.0 u) (λ u x e. x.now) (uses_in d.1.sent) k.uses);
      down = all_map (λ s. AllOf (λ u. u.dir ≡ Down → StationUse h.taken h.given s u) w.uses)
          (λ s. AllOf (λ u. u.dir ≡ Down → StationUse h.taken k.new s u) (w.uses ++ uses_in d.1.sent))
          (λ s x. all_append (λ u. u.dir ≡ Down → StationUse h.taken k.new s u) w.uses (uses_in d.1.sent)
          (all_map (λ u. u.dir ≡ Down → StationUse h.taken h.given s u) (λ u. u.dir ≡ Down → StationUse h.taken k.new s u)
          (λ u y e. use_grows h.taken h.taken h.given k.new (λ t z i. i) k.grows s u (y e)) w.uses x)
          (all_map (NewDown h.roots w.core d.0) (λ u. u.dir ≡ Down → StationUse h.taken k.new s u)
          (λ u y e. nas_is_elsewhere s u y.of_nas) (uses_in d.1.sent) k.uses))
          w.stations h.down;
      sent = subst (λ o. AllOf (RecordStands h.taken k.new) (with_one o w.sent)) (sym (keep d.1.sent))
          (all_one (RecordStands h.taken k.new) d.1.sent w.sent
          (all_map (RecordStands h.taken h.given) (RecordStands h.taken k.new) (record_grows h.taken h.taken h.given k.new (λ t x e. e) k.grows) w.sent h.sent)
          (k.sends h.taken));
      took = h.took;
      apart = apart_append w.uses (uses_in d.1.sent) h.apart k.apart
          (all_map (NewDown h.roots w.core d.0) (λ u. AllOf (λ v. v ≡ u → ⊥) w.uses)
          (λ u x. apart_by (λ v. v.dir ≡ Down → CoreUse h.roots w.core v) w.uses u h.nas (λ y. x.news (y x.down))) (uses_in d.1.sent) k.uses);
    }

  -- A STATION

  module _ (id : ℕ) (s : Station Term ℕ) (d : Station Term ℕ × Reply Term ℕ) (named : s.id ≡ id)
      (own : AllOf (λ u. u.dir ≡ Down → StationUse h.taken h.given s u) w.uses) (k : StationKeeps h.taken h.given s d.0 d.1.sent) where
    -- older uses of the station stand
    down_stays : (u : KeyUse Term) → StationUse h.taken h.given s u → StationUse h.taken h.given d.0 u
    down_stays u x =
        on_key (λ t type. IsAs type → AsDown h.taken h.given s t type u.count u.bearer)
        (λ t type. IsAs type → AsDown h.taken h.given d.0 t type u.count u.bearer)
        (λ t type y a. k.old t type u.count u.bearer (y a)) u.key x

    -- a use of a station is not of NAS
    own_is_not_nas : (u : KeyUse Term) → IsOwn h.taken h.given s.id u → CoreUse h.roots w.core u
    own_is_not_nas u x =
        on_key (λ t type. IsAs type × ((p : Home) × (home h.taken h.given t ≡ Some p) × (p.station ≡ s.id)))
        (λ t type. IsNas type → NasDown h.roots w.core.partial w.core.context t u.count)
        (λ t type y n. let z = y.0 in absurd (omega arith)) u.key x

    -- another station has another number
    other : (t : Station Term ℕ) → (t.id == id) ≡ false → s.id ≡ t.id → ⊥
    other t e f = let g : t.id ≡ id = sym f ∙ named in grind (arith, nat_tests)

    -- a key whose home is the station is not that of another station's context
    other_ahead : (t : Station Term ℕ) → (t.id == id) ≡ false → (o : Option (Context Term ℕ)) → IfSome o (ContextStands h.taken h.given t) →
        (r : Term) (type count bearer : ℕ) (p : Home) → home h.taken h.given r ≡ Some p → p.station ≡ s.id → ContextAhead o r type count bearer
    other_ahead t e None x r type count bearer p f g = tt
    other_ahead t e (Some c) x r type count bearer p f g = λ i.
        let same : x.at ≡ p = by_some (sym x.is ∙ (ap (home h.taken h.given) (sym i) ∙ f)) in
        absurd (other t e (sym g ∙ (sym (ap (λ (q : Home). q.station) same) ∙ x.here)))

    -- so a new use stands beside another station
    other_use : (t : Station Term ℕ)
        → (t.id == id) ≡ false
        → StationStands h.taken h.given t
        → (u : KeyUse Term)
        → IsOwn h.taken h.given s.id u
        → StationUse h.taken h.given t u
    other_use t e x u y =
        on_key (λ r type. IsAs type × ((p : Home) × (home h.taken h.given r ≡ Some p) × (p.station ≡ s.id)))
        (λ r type. IsAs type → AsDown h.taken h.given t r type u.count u.bearer)
        (λ r type z a.
        let (p, is, here) = z.1 in
        record { at = p; is = is; spent = λ i. absurd (other t e (sym here ∙ i)); ahead = other_ahead t e t.context x.0 r type u.count u.bearer p is here })
        u.key y

    -- what holds of each station
    abbrev Both : Station Term ℕ → Type 0
    Both t = StationStands h.taken h.given t × AllOf (λ u. u.dir ≡ Down → StationUse h.taken h.given t u) w.uses

    -- the world after a step of a station
    pub station_fresh : Fresh (station_after m w id d).0
    station_fresh = record {
      roots = h.roots;
      taken = h.taken;
      given = h.given;
      counted = roots_kept w.history d.1.derived ∙ h.counted;
      phone = h.phone;
      core = h.core;
      stations = all_put (StationStands h.taken h.given) (StationStands h.taken h.given) id d.0 w.stations k.stands (λ t e x. x) h.stations;
      up = all_append (λ u. u.dir ≡ Up → UpUse h.roots h.taken w.phone u) w.uses (uses_in d.1.sent) h.up
          (all_map (NewAt h.taken h.given s d.0) (λ u. u.dir ≡ Up → UpUse h.roots h.taken w.phone u)
          (λ u x e. absurd (up_is_not_down e x.down)) (uses_in d.1.sent) k.uses);
      nas = all_append (λ u. u.dir ≡ Down → CoreUse h.roots w.core u) w.uses (uses_in d.1.sent) h.nas
          (all_map (NewAt h.taken h.given s d.0) (λ u. u.dir ≡ Down → CoreUse h.roots w.core u) (λ u x e. own_is_not_nas u x.own) (uses_in d.1.sent) k.uses);
      down = all_put Both (λ t. AllOf (λ u. u.dir ≡ Down → StationUse h.taken h.given t u) (w.uses ++ uses_in d.1.sent)) id d.0 w.stations
          (all_append (λ u. u.dir ≡ Down → StationUse h.taken h.given d.0 u) w.uses (uses_in d.1.sent)
          (all_map (λ u. u.dir ≡ Down → StationUse h.taken h.given s u)
          (λ u. u.dir ≡ Down → StationUse h.taken h.given d.0 u) (λ u x e. down_stays u (x e)) w.uses own)
          (all_map (NewAt h.taken h.given s d.0) (λ u. u.dir ≡ Down → StationUse h.taken h.given d.0 u) (λ u x e. x.now) (uses_in d.1.sent) k.uses))
          (λ t e x. all_append (λ u. u.dir ≡ Down → StationUse h.taken h.given t u) w.uses (uses_in d.1.sent) x.1
          (all_map (NewAt h.taken h.given s d.0) (λ u. u.dir ≡ Down → StationUse h.taken h.given t u)
          (λ u y i. other_use t e x.0 u y.own) (uses_in d.1.sent) k.uses))
          (all_both (StationStands h.taken h.given)
          (λ t. AllOf (λ u. u.dir ≡ Down → StationUse h.taken h.given t u) w.uses) Both (λ t x y. (x, y)) w.stations
          h.stations h.down);
      sent = subst (λ o. AllOf (RecordStands h.taken h.given) (with_one o w.sent)) (sym (keep d.1.sent))
          (all_one (RecordStands h.taken h.given) d.1.sent w.sent h.sent k.sends);
      took = h.took;
      apart = apart_append w.uses (uses_in d.1.sent) h.apart k.apart
          (all_map (NewAt h.taken h.given s d.0) (λ u. AllOf (λ v. v ≡ u → ⊥) w.uses)
          (λ u x. apart_by (λ v. v.dir ≡ Down → StationUse h.taken h.given s v) w.uses u own (λ y. x.news (y x.down))) (uses_in d.1.sent) k.uses);
    }
