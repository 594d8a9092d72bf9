-- Separation and holding, in every world of every run.
use Rattle.std.proofs.Common.{◌≡◌, refl, ◌∙◌, subst, ℕ, zero, suc, ◌⊎◌, inl, inr, List, Some}
use Rattle.std.specs.Prelude.{⊤}
use Rattle.annex_a_keys.specs.Cell.{Place}
use Rattle.lte_events.specs.Site.{Site, station_of}
use Rattle.key_model.specs.Term.{Term, Root, Star, IsWellFormed}
use Rattle.key_model.specs.{Chain.nh, Derivable.Derivable, Derivable.HasNoRoot}
use Rattle.key_model.proofs.DerivableFacts.{star_held, derivable_is}
use Rattle.lte_machine.specs.Wire.{Outgoing}
use Rattle.lte_machine.specs.Reply.{Made, Tried, From, BySetup, ByAttempt, ByChange, Handover, BySource, ByTarget}
use Rattle.lte_machine.specs.World.{World, Holder, AtPhone, AtCore, AtStation}
use Rattle.lte_properties.specs.ChainBelow.{AllOf}
use Rattle.lte_properties.specs.Separation.{IsStationOf, HeldBy, GivenTo, HasNeither, Those, AllBut, AllWellFormed, Separates, GivenAt, MadeAsGiven}
use Rattle.lte_properties.proofs.{ChainNumbers.Lists.all_map, KeySeparation.All.HeldAll, KeySeparation.Holders.HoldersIn}
use Rattle.lte_properties.proofs.KeySeparation.Keys.{any_with, any_out, Gifts, MayHold, may_hold_well, BaseGiven, TriedOk, MadeBy, MadeFrom, MadeOk, HolderMay, HoldOk}

-- a key of a chain that a station may hold was given to it
chain_given : (G : Gifts) (sites : List Site) (id : ℕ) (r : ℕ) (octets : List ℕ) (n i : ℕ)
    → MayHold G sites id (nh (Root r octets) n i)
    → G (nh (Root r octets) n i) id
chain_given G sites id r octets n zero h = h.1
chain_given G sites id r octets n (suc i) h = h.2

-- and of a KeNB* of one either that key was, or the cell is its own
star_given : (G : Gifts) (sites : List Site) (id : ℕ) (r : ℕ) (octets : List ℕ) (n i : ℕ) (cell : Place) →
    MayHold G sites id (Star (nh (Root r octets) n i) cell.pci cell.earfcn) →
    G (nh (Root r octets) n i) id ⊎ (station_of cell sites ≡ Some id)
star_given G sites id r octets n zero cell h = h.1
star_given G sites id r octets n (suc i) cell h = h.2

base_given_is : (G : Gifts) (id : ℕ) (r : ℕ) (octets : List ℕ) (n i pci earfcn : ℕ)
    → BaseGiven G id (Star (nh (Root r octets) n i) pci earfcn)
    → G (nh (Root r octets) n i) id
base_given_is G id r octets n zero pci earfcn h = h
base_given_is G id r octets n (suc i) pci earfcn h = h

module _ (sites : List Site) (w : World Term ℕ (Outgoing Term ℕ)) (h : HoldersIn (GivenTo w.sent) w.tried sites w) where
  abbrev G : Gifts
  G = GivenTo w.sent

  -- who holds a key may hold it
  held_may : {B : Type 0} (among : ℕ → Type 0) (t : Term) → ((id : ℕ) → among id → MayHold G sites id t → B) → HeldBy among w.held t → B
  held_may {B = B} among t f k =
      any_out (HoldOk G sites) (λ e. IsStationOf among e.holder × (e.key ≡ t)) (λ e o l. at e.holder e.key o l.0 l.1) w.held h.held k
    where
      at : (holder : Holder) (key : Term) → HolderMay G sites holder key → IsStationOf among holder → key ≡ t → B
      at AtPhone key o a e = absurd a
      at AtCore key o a e = absurd a
      at (AtStation id) key o a e = f id a (subst (λ u. MayHold G sites id u) e o)

  no_root : (among : ℕ → Type 0) → HasNoRoot (HeldBy among w.held)
  no_root among r octets k = held_may among (Root r octets) (λ id a o. o) k

  -- a set of stations that has neither the one to which the key was given nor the one of the cell cannot derive KeNB*
  pub neither_derives : (among : ℕ → Type 0) (r : ℕ) (octets : List ℕ) (n i : ℕ) (cell : Place) → HasNeither sites w.sent among (nh (Root r octets) n i) cell →
      Derivable (HeldBy among w.held) (Star (nh (Root r octets) n i) cell.pci cell.earfcn) → ⊥
  neither_derives among r octets n i cell f d =
      by ((star_held (HeldBy among w.held) (no_root among) (Root r octets) n i cell.pci cell.earfcn tt).0 d)
    where
      known : (id : ℕ) → among id → G (nh (Root r octets) n i) id ⊎ (station_of cell sites ≡ Some id) → ⊥
      known id a (inl g) = f.0 id g a
      known id a (inr e) = f.1 id e a

      by : HeldBy among w.held (Star (nh (Root r octets) n i) cell.pci cell.earfcn) ⊎ HeldBy among w.held (nh (Root r octets) n i) → ⊥
      by (inl k) = held_may among (Star (nh (Root r octets) n i) cell.pci cell.earfcn) (λ id a o. known id a (star_given G sites id r octets n i cell o)) k
      by (inr k) = held_may among (nh (Root r octets) n i) (λ id a o. f.0 id (chain_given G sites id r octets n i o) a) k

  all_well_formed : AllWellFormed w
  all_well_formed t k = any_out (HoldOk G sites) (λ e. e.key ≡ t) (λ e o l. subst IsWellFormed l (well e.holder e.key o)) w.held h.held k where
    well : (holder : Holder) (key : Term) → HolderMay G sites holder key → IsWellFormed key
    well AtPhone key o = o
    well AtCore key o = o
    well (AtStation id) key o = may_hold_well G sites id key o

  pub separates : HeldAll w → Separates sites w
  separates a = record {
    no_root = no_root (λ id. ⊤);
    once = h.once;
    separated = λ test r octets n i cell f d. neither_derives (Those test) r octets n i cell f d;
    others = λ r octets n i cell d.
        neither_derives (AllBut sites w.sent (nh (Root r octets) n i) cell) r octets n i cell
        ((λ id g a. a.0 g), (λ id e a. a.1 e)) d;
    well_formed = all_well_formed;
    holding = λ test t k. derivable_is (HeldBy (Those test) w.held) (no_root (Those test)) t (all_well_formed t k);
    all_held = a.all;
    own = a.own;
  }

  -- WHO GAVE

  -- KeNB* that the source made, or one that the target made
  given_at : (m : Made Term ℕ) (e : Tried Term ℕ) (source : ℕ) → e.station ≡ source → (kind : Handover Term ℕ) → e.kind ≡ kind → TriedOk G e → MadeBy G m kind →
      (r : ℕ) (octets : List ℕ) (n i pci earfcn : ℕ) → m.key ≡ Star (nh (Root r octets) n i) pci earfcn →
      GivenAt w.sent (nh (Root r octets) n i) source m.station kind
  given_at m e source s ByTarget g k b r octets n i pci earfcn is =
      base_given_is G m.station r octets n i pci earfcn (subst (BaseGiven G m.station) is b)
  given_at m e source s (BySource star) g k b r octets n i pci earfcn is =
      base_given_is G source r octets n i pci earfcn (subst (λ u. BaseGiven G source u) (b ∙ is)
      (subst (λ a. BaseGiven G a star.key) s (subst (OfGiven e.station) g k)))
    where
      OfGiven : ℕ → Handover Term ℕ → Type 0
      OfGiven a ByTarget = ⊤
      OfGiven a (BySource x) = BaseGiven G a x.key

  pub as_given : (m : Made Term ℕ) (o : From Term) → MadeFrom G w.tried m o → MadeAsGiven w m o
  as_given m BySetup k = tt
  as_given m (ByChange before) k = λ r octets n i pci earfcn is. base_given_is G m.station r octets n i pci earfcn (subst (BaseGiven G m.station) is k)
  as_given m (ByAttempt o) k = λ r octets n i pci earfcn is.
      any_with (TriedOk G) (λ e. (e.station ≡ o.source) × (e.attempt ≡ o.attempt) × MadeBy G m e.kind)
      (λ e. (e.station ≡ o.source) × (e.attempt ≡ o.attempt) × GivenAt w.sent (nh (Root r octets) n i) o.source m.station e.kind)
      (λ e t q. (q.0, q.1, given_at m e o.source q.0 e.kind refl t q.2 r octets n i pci earfcn is)) w.tried h.tried k

  pub made_from : AllOf (λ m. MadeAsGiven w m m.from) w.made
  made_from = all_map (MadeOk G sites w.tried) (λ m. MadeAsGiven w m m.from) (λ m k. as_given m m.from k.0) w.made h.made
